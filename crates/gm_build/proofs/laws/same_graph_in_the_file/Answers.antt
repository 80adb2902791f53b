use Rattle.gm_build.proofs.Graphs.{IsSameGraph-blocks_from}
use Rattle.gm_build.proofs.laws.same_graph_in_the_file.Goals as goal

pub returns : goal.returns
returns c = IsSameGraph-blocks_from
