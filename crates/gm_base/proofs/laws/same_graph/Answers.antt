use Rattle.gm_base.specs.GraphRules.{same_graph-append}
use Rattle.gm_base.proofs.laws.same_graph.Goals as goal

pub returns-clause-joined : goal.returns-clause-joined
returns-clause-joined c = same_graph-append
