use Rattle.gm_versions.specs.SnapshotsRules.{content-same_key}
use Rattle.gm_versions.proofs.laws.same_key_same_content.Goals as goal

pub returns-clause-jobs : goal.returns-clause-jobs
returns-clause-jobs c = content-same_key
