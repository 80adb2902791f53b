-- The jobs of a script, each with the updates above its line.
use Rattle.std.specs.Prelude.{ℕ, ◌+◌, List, [], ◌∷◌, ◌++◌, Option, Some, None, Result, Ok, Err}
use Rattle.gm_base.specs.declared.job.Spec.{Spec}
use Rattle.gm_changes.specs.declared.change.Change.{Change}
use Rattle.gm_jobs.specs.declared.jobs_error.JobsRefusal.{JobsRefusal}
use Rattle.gm_jobs.specs.declared.script.Line.{Line}
use Rattle.gm_jobs.specs.declared.script.Line.TheVariants.{Job, Update, Wait}
use Rattle.gm_jobs.specs.Scripts.{script_of}

-- a job, by its number in file order, with the batches of the updates above its line and the changes that it makes to its own view
pub record StatedJob : Type 0 where
  pub number : ℕ
  pub name : List ℕ
  pub spec : Spec
  pub above : List (List Change)
  pub own : List Change

-- the jobs of these entries, below so many jobs and below these updates. `wait` has no effect yet
abbrev pub jobs_below : ℕ → List (List Change) → List Line → List StatedJob
jobs_below number above [] = []
jobs_below number above (Job name spec own ∷ more) =
    record { number = number; name = name; spec = spec; above = above; own = own } ∷ jobs_below (number + 1) above more
jobs_below number above (Update batch ∷ more) = jobs_below number (above ++ batch ∷ []) more
jobs_below number above (Wait visits ∷ more) = jobs_below number above more

abbrev pub jobs_of : List Line → List StatedJob
jobs_of entries = jobs_below 0 [] entries

-- the batches of the updates, in file order
abbrev pub updates_of : List Line → List (List Change)
updates_of [] = []
updates_of (Job name spec own ∷ more) = updates_of more
updates_of (Update batch ∷ more) = batch ∷ updates_of more
updates_of (Wait visits ∷ more) = updates_of more

-- the jobs of what was read, where it is a script
abbrev pub jobs_read : Result (List Line) JobsRefusal → Option (List StatedJob)
jobs_read (Ok entries) = Some (jobs_of entries)
jobs_read (Err refusal) = None

-- the jobs that a text over n vertices states, where it is a script
abbrev pub stated_jobs : ℕ → List ℕ → Option (List StatedJob)
stated_jobs n text = jobs_read (script_of n text)
