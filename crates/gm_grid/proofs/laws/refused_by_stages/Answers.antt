use Rattle.gm_grid.specs.GridRefusalsRules.{refused_by_index, refused_by_chunks}
use Rattle.gm_grid.proofs.laws.refused_by_stages.Goals as goal

pub returns-clause-index : goal.returns-clause-index
returns-clause-index c = refused_by_index

pub returns-clause-chunks : goal.returns-clause-chunks
returns-clause-chunks c = refused_by_chunks
