-- What became of a list of jobs over a depot: a line for each, in their order.
use Rattle.std.specs.Prelude.{◌≡◌, ℕ, ◌≤◌, Bool, true, false, ◌⊎◌, List, [], ◌∷◌, length, sum_by, count_by}
use Rattle.gm_base.specs.declared.edge.Edge.{Edge}
use Rattle.gm_base.specs.declared.job.JobLine.{JobLine}
use Rattle.gm_base.specs.declared.job.Outcome.{Outcome}
use Rattle.gm_base.specs.declared.job.Outcome.TheVariants.{Done, Rounds, Read, Changed, Memory}
use Rattle.gm_outside.specs.Causes.{counted_times}
use Rattle.gm_outside.specs.States.{DepotState}
use Rattle.gm_grid.specs.GridBytes.{edges_in}
use Rattle.gm_label.specs.Catalogues.{Catalogue}
use Rattle.gm_jobs.specs.StatedJobs.{StatedJob}
use Rattle.gm_versions.specs.declared.versions.Versions.{Versions}
use Rattle.gm_job_run.specs.declared.script_run.Job.{Job}
use Rattle.gm_kernel.specs.Runs.{lone_run}
use Rattle.gm_work.specs.Views.{JobView}
use Rattle.gm_work.specs.Weights.{run_weight}
use Rattle.gm_job_run.specs.JobRuns.{FailsToRead, pass_reads}
use Rattle.gm_versions.specs.Snapshots.{edges_of}
use Rattle.gm_scripts.specs.ScriptJobs.{snapshot_of}
use Rattle.gm_core.specs.SnapshotViews.{snapshot_view}

-- the job, below all of these updates
abbrev pub job_below : Versions → Job → StatedJob
job_below versions job = record { number = job.number; name = job.name; spec = job.spec; above = versions.batches; own = job.own }

-- the line of a job, whose version is how many updates stand above it
abbrev pub line_of_job : StatedJob → Outcome → JobLine
line_of_job job outcome = record { name = job.name; version = length job.above; outcome = outcome }

-- these are the lines of these jobs, in their order, and each job ended so
abbrev pub AreLinesOfJobs : (StatedJob → Outcome → Type 0) → List StatedJob → List JobLine → Type 0
AreLinesOfJobs Ends [] [] = Unit {0}
AreLinesOfJobs Ends [] (line ∷ lines) = ⊥
AreLinesOfJobs Ends (job ∷ jobs) [] = ⊥
AreLinesOfJobs Ends (job ∷ jobs) (line ∷ lines) =
    (line ≡ line_of_job job line.outcome) × Ends job line.outcome × AreLinesOfJobs Ends jobs lines

abbrev pub is_read_failure : Outcome → Bool
is_read_failure (Read block chunk) = true
is_read_failure other = false

-- how many lines tell of a chunk that couldn't be read
abbrev pub failed_reads : List JobLine → ℕ
failed_reads lines = count_by (λ line. is_read_failure line.outcome) lines

-- an outcome that a line may tell
abbrev pub IsTold : Outcome → Type 0
IsTold (Done rounds values) = Unit {0}
IsTold (Rounds bound) = Unit {0}
IsTold (Read block chunk) = Unit {0}
IsTold (Changed block chunk) = Unit {0}
IsTold Memory = ⊥

-- a job over what it sees of these edges
abbrev pub view_of_job : Catalogue → List Edge → StatedJob → JobView
view_of_job cat edges job = snapshot_view job.spec cat edges (snapshot_of job)

-- a job of a script below these updates, over the edges that these bytes of its grid tell
abbrev pub view_below : Catalogue → List ℕ → Versions → Job → JobView
view_below cat bytes versions job = view_of_job cat (edges_in bytes) (job_below versions job)

-- how many reads the lone runs of these jobs take over these edges, each phase those of the chunks that it needs
abbrev pub runs_weight : Catalogue → List Edge → List StatedJob → ℕ
runs_weight cat edges jobs = sum_by (λ job. run_weight (view_of_job cat edges job) (pass_reads cat)) jobs

-- the job ended as its lone run over all edges that it sees, or at a chunk that it needed and that couldn't be read
abbrev pub EndsOver : Catalogue → List Edge → Bool → StatedJob → Outcome → Type 0
EndsOver cat edges calm job outcome =
    (outcome ≡ lone_run job.spec cat.dimensions.n (edges_of edges (snapshot_of job)))
    ⊎ FailsToRead (view_of_job cat edges job) calm outcome

-- Jobs were run one after the other over a grid's edges. Without a failed read that took exactly the reads of their lone runs.
pub record RunOver (cat : Catalogue) (edges : List Edge) (old new : DepotState)
    (jobs : List StatedJob) (lines : List JobLine) : Type 0 where
  pub ended : AreLinesOfJobs (EndsOver cat edges old.calm) jobs lines
  pub reads : failed_reads lines ≡ 0 → new.reads ≡ counted_times (runs_weight cat edges jobs) old.reads

-- each failed read raised the count of faults, and nothing else did
pub record FaultsOf (lines : List JobLine) (before now : ℕ) : Type 0 where
  pub misses : counted_times (failed_reads lines) before ≤ now
  pub served : failed_reads lines ≡ 0 → now ≡ before
