use Rattle.gm_core.proofs.SnapshotGraphs.{view_is_cut, job_is_cut}
use Rattle.gm_core.proofs.laws.views_are_cut.Goals as goal

pub returns : goal.returns
returns c = record { view = view_is_cut; job = job_is_cut }
