-- How a run reads its files: first the grid, and then the jobs.
use Rattle.std.specs.Prelude.{◌≡◌, ℕ, true, List, Option, Some, None, Result, Ok, Err}
use Rattle.std.specs.FinMap.{get}
use Rattle.gm_outside.specs.Files.{Files}
use Rattle.gm_grid.specs.GridBytes.{shape_in}
use Rattle.gm_label.specs.Catalogues.{Catalogue}
use Rattle.gm_source.specs.Openings.{IsCatalogueOf}
use Rattle.gm_jobs.specs.StatedJobs.{StatedJob, stated_jobs}
use Rattle.gm_jobs.specs.declared.jobs_error.JobsRefusal.{JobsRefusal}
use Rattle.gm_jobs.specs.declared.script.Line.{Line}
use Rattle.gm_jobs.specs.Scripts.{script_of}
use Rattle.gm_commands.specs.declared.failure.Operand.TheVariants as operand
use Rattle.gm_commands.specs.declared.failure.Failure.{Failure}
use Rattle.gm_commands.specs.declared.failure.Failure.TheVariants.{Refused, ReadFailed, WriteFailed, OutputFailed, OutOfMemory}
use Rattle.gm_commands.specs.declared.failure.Refusal.{Refusal}
use Rattle.gm_commands.specs.declared.failure.Refusal.TheVariants.{JobText}
use Rattle.gm_words.specs.Commands.{RunCommand}
use Rattle.gm_commands.specs.Readings.{Reading, reading_of_file, reading_then}
use Rattle.gm_tools.specs.Grids.{grid_reading}

-- every script is taken
abbrev pub script_refusal : Result (List Line) JobsRefusal → Option Refusal
script_refusal (Ok entries) = None
script_refusal (Err refusal) = Some (JobText refusal)

-- why this text is refused for a graph of n vertices
abbrev pub jobs_text_refusal : ℕ → List ℕ → Option Refusal
jobs_text_refusal n text = script_refusal (script_of n text)

-- the failure is the refusal that is expected, or want of memory
abbrev pub IsRefusalOrMemory : Option Refusal → Failure → Type 0
IsRefusalOrMemory expected (Refused refusal) = expected ≡ Some refusal
IsRefusalOrMemory expected (ReadFailed operand) = ⊥
IsRefusalOrMemory expected (WriteFailed operand) = ⊥
IsRefusalOrMemory expected OutputFailed = ⊥
IsRefusalOrMemory expected OutOfMemory = Unit {0}

-- of the jobs, for a graph of n vertices
abbrev pub jobs_reading : RunCommand → ℕ → Reading
jobs_reading command n = reading_of_file operand.Jobs command.jobs (jobs_text_refusal n)

-- how many vertices these bytes tell, if there is a file
abbrev pub vertices_of_file : Option (List ℕ) → ℕ
vertices_of_file None = 0
vertices_of_file (Some bytes) = (shape_in bytes).n

-- the same for as many vertices as the grid's file tells
abbrev pub jobs_reading_by_grid : RunCommand → Reading
jobs_reading_by_grid command = record (jobs_reading command 0) {
  refusal = λ files. (jobs_reading command (vertices_of_file (get files command.grid))).refusal files;
}

-- the files of a run: first the grid, then the jobs
abbrev pub files_reading : RunCommand → Reading
files_reading command = reading_then (grid_reading command.grid command.chunk) (jobs_reading_by_grid command)

-- behind them a run fetches the chunks of the grid again
abbrev pub run_reading : RunCommand → Reading
run_reading command = record (files_reading command) { fetches = true }

-- the file states these jobs for a graph of n vertices
pub record TellsJobs (files : Files) (name : List ℕ) (n : ℕ) (jobs : List StatedJob) : Type 0 where
  pub text : List ℕ
  pub file : get files name ≡ Some text
  pub tells : stated_jobs n text ≡ Some jobs

-- The files of a run: a grid, cut into chunks, and jobs over it.
pub record HoldsRun (command : RunCommand) (files : Files) (cat : Catalogue) (jobs : List StatedJob) : Type 0 where
  pub bytes : List ℕ
  pub grid_file : get files command.grid ≡ Some bytes
  pub grid : IsCatalogueOf bytes command.chunk cat
  pub told_jobs : TellsJobs files command.jobs cat.dimensions.n jobs

-- some text states these jobs for a graph of n vertices
pub record StatesJobs (n : ℕ) (jobs : List StatedJob) : Type 0 where
  pub text : List ℕ
  pub states : stated_jobs n text ≡ Some jobs
