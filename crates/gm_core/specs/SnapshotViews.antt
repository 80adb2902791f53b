-- Jobs over what they see of a grid, chunk by chunk: the grid with the updates above a job's line, and with its own changes.
use Rattle.std.specs.Prelude.{ℕ, List}
use Rattle.gm_base.specs.declared.edge.Edge.{Edge}
use Rattle.gm_base.specs.declared.job.Spec.{Spec}
use Rattle.gm_label.specs.Catalogues.{Catalogue}
use Rattle.gm_versions.specs.Snapshots.{Snapshot, edges_of, content_of, overlays_of}
use Rattle.gm_jobs.specs.declared.script.Line.{Line}
use Rattle.gm_scripts.specs.ScriptJobs.{job_at, snapshot_at}
use Rattle.gm_work.specs.JobStates.{JobContext}
use Rattle.gm_work.specs.HeldJobs.{context_of}
use Rattle.gm_work.specs.Views.{JobView}

-- a job that context_in this of the chunks, over what it sees of a grid's edges
abbrev pub view_through : JobContext → Catalogue → List Edge → Snapshot → JobView
view_through known cat edges s = record { context = known; edges = edges_of edges s; content_at = content_of cat edges s }

-- a job over what it sees of a grid's edges
abbrev pub snapshot_view : Spec → Catalogue → List Edge → Snapshot → JobView
snapshot_view spec cat edges s = view_through (context_of spec cat (overlays_of cat s)) cat edges s

-- the job of a script with this number
abbrev pub job_view : Catalogue → List Edge → List Line → ℕ → JobView
job_view cat edges entries n = snapshot_view (job_at entries n).spec cat edges (snapshot_at entries n)
