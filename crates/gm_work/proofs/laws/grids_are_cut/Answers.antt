use Rattle.gm_work.proofs.Grids.{grid_is_cut}
use Rattle.gm_work.proofs.laws.grids_are_cut.Goals as goal

-- src/laws.rt
pub returns : goal.returns
returns c = grid_is_cut
