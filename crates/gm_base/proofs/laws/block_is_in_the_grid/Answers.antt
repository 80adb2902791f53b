use Rattle.gm_base.specs.DimensionsRules.{block_below}
use Rattle.gm_base.proofs.laws.block_is_in_the_grid.Goals as goal

pub returns : goal.returns
returns c = block_below
