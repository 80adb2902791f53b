use Rattle.gm_changes.specs.ChangesRules.{same_after}
use Rattle.gm_changes.proofs.laws.same_graph_after_changes.Goals as goal

pub returns : goal.returns
returns c = same_after
