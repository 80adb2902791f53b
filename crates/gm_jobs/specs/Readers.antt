-- A reader of job texts, line by line: what it keeps beside the entries so far.
use Rattle.std.specs.Prelude.{◌≡◌, Bool, ◌||◌, length}
use Rattle.gm_jobs.specs.declared.script.Line.{Line}
use Rattle.gm_jobs.specs.declared.script_reader.ScriptReader.{ScriptReader}
use Rattle.gm_jobs.specs.NameSets.{HasNames}
use Rattle.gm_jobs.specs.Scripts.{names_of, change_lines_of, is_job, is_update}

-- the names and the counts are those of the entries
pub record IsTallied (reader : ScriptReader) : Type 0 where
  pub names : HasNames (names_of reader.lines.items) reader.names
  pub jobs : reader.jobs ≡ length (names_of reader.lines.items)
  pub changes : reader.changes ≡ change_lines_of reader.lines.items

-- a job and an update take changes
abbrev pub takes_changes : Line → Bool
takes_changes entry = is_job entry || is_update entry
