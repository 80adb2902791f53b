use Rattle.gm_versions.specs.Snapshots.{changes_of}
use Rattle.gm_versions.specs.ContentsRules.{edges_after-within}
use Rattle.gm_versions.proofs.laws.snapshots_are_graphs.Goals as goal

pub returns : goal.returns
returns c n edges s graph over = edges_after-within n (changes_of s) edges over.ends graph
