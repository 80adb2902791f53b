-- How a call of the program ends.
use Rattle.std.specs.Prelude.{◌≡◌, ◌≢◌, ◌≤◌, ℕ, ◌+◌, ◌⊎◌, List, Some, IfSome}
use Rattle.std.specs.FinMap.{get}
use Rattle.gm_base.specs.declared.limits.TheConstants.{MAX_CHUNKS}
use Rattle.gm_outside.specs.Files.{Files}
use Rattle.gm_outside.specs.Frames.{OnlyReads}
use Rattle.gm_outside.specs.Growth.{GrewBy, GrewByPrefix}
use Rattle.gm_outside.specs.States.{DepotState}
use Rattle.gm_grid.specs.Format.{edges_of_grid}
use Rattle.gm_label.specs.Catalogues.{Catalogue}
use Rattle.gm_source.specs.Openings.{ReadsJust, ReadsUpTo}
use Rattle.gm_source.specs.OpeningReads.{reads_to_open}
use Rattle.gm_jobs.specs.StatedJobs.{StatedJob}
use Rattle.gm_commands.specs.declared.failure.Refusal.{Refusal}
use Rattle.gm_commands.specs.declared.failure.Failure.{Failure}
use Rattle.gm_commands.specs.declared.failure.Failure.TheVariants.{Refused, ReadFailed, WriteFailed, OutputFailed, OutOfMemory}
use Rattle.gm_words.specs.Commands.{Command, run, build, info, RunCommand}
use Rattle.gm_commands.specs.Readings.{IsReadingFailure}
use Rattle.gm_commands.specs.Endings.{CommandContract, KeepsAllFiles, LeavesPart, Outside, ServedUntilRead}
use Rattle.gm_tools.specs.Builds.{build_contract}
use Rattle.gm_tools.specs.Grids.{grid_reading}
use Rattle.gm_tools.specs.Infos.{info_contract}
use Rattle.gm_top.specs.RunReadings.{run_reading, HoldsRun}
use Rattle.gm_top.specs.RunReports.{Reports, status_after, reads_of_run}

-- what a run does that succeeds: the report was written, and this is the status after its lines
pub record RunPerforms (command : RunCommand) (old new : Outside) (status : ℕ) : Type 0 where
  pub report : Reports GrewBy command old new
  pub status_is : status ≡ status_after report.lines

-- why a run ends before its report: a failure of its files, or want of memory
abbrev pub IsRunFailure : RunCommand → DepotState → DepotState → Failure → Type 0
IsRunFailure command old new (Refused refusal) = IsReadingFailure (run_reading command) old new (Refused refusal)
IsRunFailure command old new (ReadFailed operand) = IsReadingFailure (run_reading command) old new (ReadFailed operand)
IsRunFailure command old new (WriteFailed operand) = ⊥
IsRunFailure command old new OutputFailed = ⊥
IsRunFailure command old new OutOfMemory = ServedUntilRead (run_reading command) old new

-- how many reads opening the grid takes, up to the one that shows its refusal
abbrev pub grid_reads : RunCommand → Files → ℕ
grid_reads command files = reads_to_open command.chunk (get files command.grid)

-- only the grid was opened, and then the job text was read, at most
abbrev pub OpenedFew : RunCommand → DepotState → DepotState → Files → Type 0
OpenedFew command old new files = ReadsUpTo (grid_reads command files + 1) old new

-- The run ended with this status at its grid: it made no more reads than those up to its refusal, and just these but where a call failed or memory
-- was wanted.
pub record StopsAtGrid (command : RunCommand) (old new : DepotState) (status : ℕ) (files : Files) : Type 0 where
  pub few : ReadsUpTo (grid_reads command files) old new
  pub exact : status ≢ 6 → status ≢ 8 → ReadsJust (grid_reads command files) old new

-- so it ends where the grid is refused
abbrev pub StopsWhereRefused : RunCommand → DepotState → DepotState → ℕ → Type 0
StopsWhereRefused command old new status = IfSome old.files (λ held. (refusal : Refusal)
    → (grid_reading command.grid command.chunk).refusal held ≡ Some refusal → StopsAtGrid command old new status held)

-- no more was read than the whole run takes
pub record RanFew (command : RunCommand) (old new : DepotState) (files : Files) : Type 0 where
  pub cat : Catalogue
  pub jobs : List StatedJob
  pub holds : HoldsRun command files cat jobs
  pub few : ReadsUpTo (reads_of_run cat (edges_of_grid holds.grid.blocks) jobs) old new

-- the status of a call whose files are refused or can't be read
pub record IsRefusal (status : ℕ) : Type 0 where
  pub low : 2 ≤ status
  pub high : status ≤ 6

-- How often a run reads its files: it asks for the size of each once at most. No status stands behind more reads than the whole run takes.
-- Where the files are refused or can't be read, only the grid was opened and the job text was read; where the grid is refused, only the grid.
pub record ReadsRun (command : RunCommand) (old new : DepotState) (status : ℕ) : Type 0 where
  pub asked : ℕ
  pub most : ℕ
  pub few : asked ≤ 2
  pub frame : OnlyReads asked most old new
  pub whole : IfSome old.files (λ held. OpenedFew command old new held ⊎ RanFew command old new held)
  pub refused : IsRefusal status → ReadsUpTo (3 + MAX_CHUNKS) old new
  pub refused_told : IsRefusal status → IfSome old.files (OpenedFew command old new)
  pub refused_grid : StopsWhereRefused command old new status

-- what a run promises: it reads the grid and the jobs, and writes the report
abbrev pub run_contract : RunCommand → CommandContract
run_contract command = record {
  reading = run_reading command;
  Performs = RunPerforms command;
  most_success = 1;
  Leaves = LeavesPart (Reports GrewByPrefix command);
  Reads = ReadsRun command;
  KeepsFiles = KeepsAllFiles;
}

-- what a command promises
abbrev pub contract_of : Command → CommandContract
contract_of (run command) = run_contract command
contract_of (build command) = build_contract command
contract_of (info command) = info_contract command
