use Rattle.gm_changes.specs.JoinedRules.{joined_over_chunks}
use Rattle.gm_changes.proofs.laws.changes_joined_over_chunks.Goals as goal

pub returns : goal.returns
returns c = joined_over_chunks
