use Rattle.gm_build.proofs.Graphs.{IsGrid-built_file}
use Rattle.gm_build.proofs.laws.built_file_is_a_grid.Goals as goal

pub returns : goal.returns
returns c = IsGrid-built_file
