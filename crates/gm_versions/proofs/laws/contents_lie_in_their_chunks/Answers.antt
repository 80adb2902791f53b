use Rattle.gm_versions.specs.SnapshotsRules.{content-listed}
use Rattle.gm_versions.proofs.laws.contents_lie_in_their_chunks.Goals as goal

pub returns-clause-sources : goal.returns-clause-sources
returns-clause-sources c = content-listed
