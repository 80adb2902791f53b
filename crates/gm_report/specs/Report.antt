-- The text of a report: the lines of each job.
use Rattle.std.specs.Prelude.{ℕ, List, [], ◌++◌, codes, decimal}
use Rattle.std.specs.List.{flat_map, enumerate_from}
use Rattle.gm_base.specs.declared.job.Outcome.{Outcome}
use Rattle.gm_base.specs.declared.job.Outcome.TheVariants.{Done, Rounds, Read, Changed, Memory}
use Rattle.gm_base.specs.declared.job.JobLine.{JobLine}
use Rattle.gm_output.specs.Lines.{end_of_line, value_text}

-- a vertex and its value
abbrev pub value_line : ℕ × ℕ → List ℕ
value_line entry = decimal entry.0 ++ codes " " ++ value_text entry.1 ++ end_of_line

-- a line for each vertex, from this one on
abbrev pub value_lines : ℕ → List ℕ → List ℕ
value_lines vertex values = flat_map value_line (enumerate_from vertex values)

-- how a job ended, to the end of its line
abbrev pub outcome_text : Outcome → List ℕ
outcome_text (Done rounds values) = codes " done rounds " ++ decimal rounds ++ end_of_line
outcome_text (Rounds bound) = codes " failed rounds " ++ decimal bound ++ end_of_line
outcome_text (Read block chunk) = codes " failed read " ++ decimal block ++ codes " " ++ decimal chunk ++ end_of_line
outcome_text (Changed block chunk) = codes " failed changed " ++ decimal block ++ codes " " ++ decimal chunk ++ end_of_line
outcome_text Memory = codes " failed memory" ++ end_of_line

-- the values of a job that is done
abbrev pub values_of : Outcome → List ℕ
values_of (Done rounds values) = values
values_of (Rounds bound) = []
values_of (Read block chunk) = []
values_of (Changed block chunk) = []
values_of Memory = []

-- the line of a job
unfoldable pub job_line : JobLine → List ℕ
job_line line = codes "job " ++ line.name ++ codes " version " ++ decimal line.version ++ outcome_text line.outcome

-- what is written of a job
unfoldable pub result_lines : JobLine → List ℕ
result_lines line = job_line line ++ value_lines 0 (values_of line.outcome)

-- the jobs in file order
unfoldable pub report_text : List JobLine → List ℕ
report_text lines = flat_map result_lines lines
