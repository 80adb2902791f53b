use Rattle.gm_versions.specs.SnapshotsRules.{overlays-are}
use Rattle.gm_versions.proofs.laws.overlays_tell_keys_and_sources.Goals as goal

pub returns-clause-overlays : goal.returns-clause-overlays
returns-clause-overlays c = overlays-are
