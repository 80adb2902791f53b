-- What a run writes: the report of its jobs, each by its lone run over all edges of the grid, or by a chunk that it needed and that couldn't
-- be read.
use Rattle.std.specs.Prelude.{◌≡◌, ℕ, ◌+◌, ◌<◌, Bool, true, false, if◌then◌else◌, List, Option, IfSome}
use Rattle.std.specs.List.{list_any}
use Rattle.gm_base.specs.declared.edge.Edge.{Edge}
use Rattle.gm_base.specs.declared.job.JobLine.{JobLine}
use Rattle.gm_base.specs.declared.job.Outcome.{Outcome}
use Rattle.gm_base.specs.declared.job.Outcome.TheVariants.{Done, Rounds}
use Rattle.gm_outside.specs.Files.{Files}
use Rattle.gm_outside.specs.States.{DepotState}
use Rattle.gm_grid.specs.Format.{edges_of_grid}
use Rattle.gm_label.specs.Catalogues.{Catalogue}
use Rattle.gm_source.specs.Openings.{ReadsJust, opening_reads}
use Rattle.gm_job_run.specs.JobLines.{AreLinesOfJobs, EndsOver, FaultsOf, IsTold, failed_reads, runs_weight}
use Rattle.gm_report.specs.Report.{report_text}
use Rattle.gm_jobs.specs.StatedJobs.{StatedJob}
use Rattle.gm_words.specs.Commands.{RunCommand}
use Rattle.gm_commands.specs.Endings.{Outside}
use Rattle.gm_top.specs.RunReadings.{HoldsRun, StatesJobs}

abbrev pub is_failure : Outcome → Bool
is_failure (Done rounds values) = false
is_failure other = true

-- a line that tells of a failure
abbrev pub is_failed : JobLine → Bool
is_failed line = is_failure line.outcome

-- 1 where some job failed
abbrev pub status_after : List JobLine → ℕ
status_after lines = if list_any is_failed lines then 1 else 0

-- a run over n vertices ends at its bound only where that is below n
abbrev pub FailsEarly : ℕ → Outcome → Type 0
FailsEarly n outcome = (bound : ℕ) → outcome ≡ Rounds bound → bound < n

-- the job ended as its lone run over what it sees of these edges, or at a chunk that it needed and that couldn't be read; at its bound only where that is low
abbrev pub EndsInTime : Catalogue → List Edge → Bool → StatedJob → Outcome → Type 0
EndsInTime cat edges calm job outcome = EndsOver cat edges calm job outcome × FailsEarly cat.dimensions.n outcome

-- how many reads a run takes whose fetches are all served: those of the opening, that of the job text, and for each job one for each chunk
-- with edges that a phase of its lone run needs
abbrev pub reads_of_run : Catalogue → List Edge → List StatedJob → ℕ
reads_of_run cat edges jobs = opening_reads cat.places + 1 + runs_weight cat edges jobs

-- These are the lines of the command's jobs, in file order: the files are there, one is a grid and the other states the jobs. Without a
-- failed read the run took exactly its reads.
pub record AreLinesOf (command : RunCommand) (old new : DepotState) (files : Files) (lines : List JobLine) : Type 0 where
  pub cat : Catalogue
  pub jobs : List StatedJob
  pub holds : HoldsRun command files cat jobs
  pub ended : AreLinesOfJobs (EndsInTime cat (edges_of_grid holds.grid.blocks) old.calm) jobs lines
  pub reads : failed_reads lines ≡ 0 → ReadsJust (reads_of_run cat (edges_of_grid holds.grid.blocks) jobs) old new

-- Whatever the depot tells: these are lines of some job text's jobs, none of which wants memory.
pub record AreSomeLines (lines : List JobLine) : Type 0 where
  pub n : ℕ
  pub jobs : List StatedJob
  pub states : StatesJobs n jobs
  pub told : AreLinesOfJobs (λ job outcome. IsTold outcome) jobs lines

-- These lines are those of the command's jobs, where the files are told. The depot's faults rose by no less than the failed reads, and
-- where there are none they are as they were.
pub record AreReported (command : RunCommand) (old new : DepotState) (lines : List JobLine) : Type 0 where
  pub some : AreSomeLines lines
  pub told : IfSome old.files (λ held. AreLinesOf command old new held lines)
  pub faults : FaultsOf lines old.faults new.faults

-- the report of the command's jobs was written, or a first part of it, as the growth says
pub record Reports (Grew : Option (List ℕ) → Option (List ℕ) → List ℕ → Type 0)
    (command : RunCommand) (old new : Outside) : Type 0 where
  pub lines : List JobLine
  pub reported : AreReported command old.depot new.depot lines
  pub written : Grew old.out.written new.out.written (report_text lines)
