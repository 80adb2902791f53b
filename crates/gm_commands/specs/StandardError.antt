-- The one line on standard error.
use Rattle.std.specs.Prelude.{◌≡◌, ℕ, ◌≤◌, List, [], ◌++◌, ◌⊎◌, codes, Option, Some, None}
use Rattle.gm_outside.specs.Causes.{Rose}
use Rattle.gm_outside.specs.Growth.{GrewBy, GrewByPrefix}
use Rattle.gm_outside.specs.States.{SinkState}
use Rattle.gm_output.specs.Lines.{end_of_line}
use Rattle.gm_words.specs.Commands.{Command, run, build, info}
use Rattle.gm_commands.specs.declared.failure.Operand.{Operand}
use Rattle.gm_commands.specs.declared.failure.Operand.TheVariants.{Edges, Grid, Jobs}
use Rattle.gm_commands.specs.declared.failure.Failure.{Failure}
use Rattle.gm_commands.specs.Failures.{operand_of, text_of}

-- a line begins with the program's name
abbrev pub line_of : List ℕ → List ℕ
line_of text = codes "graphm: " ++ text ++ end_of_line

-- where the words are no command
unfoldable pub usage_line : List ℕ
usage_line = line_of (codes "usage: run GRID JOBS WORKERS CHUNK, build EDGES GRID N PARTS, info GRID CHUNK, drill NUMBER SCALE WORKERS")

-- where there was no memory before the words were known
unfoldable pub out_of_memory_line : List ℕ
out_of_memory_line = line_of (codes "out of memory")

-- a command's word for a file, empty where it has none
abbrev pub word_of : Command → Operand → List ℕ
word_of (run c) Edges = []
word_of (run c) Grid = c.grid
word_of (run c) Jobs = c.jobs
word_of (build c) Edges = c.edges
word_of (build c) Grid = c.grid
word_of (build c) Jobs = []
word_of (info c) Edges = []
word_of (info c) Grid = c.grid
word_of (info c) Jobs = []

-- a command's word for the file, if there is one
abbrev pub named_by : Command → Option Operand → List ℕ
named_by command (Some operand) = word_of command operand ++ codes ": "
named_by command None = []

-- the line of a failure: the file that it names, and what is wrong
abbrev pub error_line : Command → Failure → List ℕ
error_line command failure = line_of (named_by command (operand_of failure) ++ text_of failure)

-- a write failed, or found no memory
abbrev pub GaveUp : SinkState → SinkState → Type 0
GaveUp old new = Rose old.faults new.faults ⊎ Rose old.lacks new.lacks

-- a line was said: all of it, or a first part where standard error failed or found no memory. Its counts never fall
pub record IsSaid (line : List ℕ) (old new : SinkState) : Type 0 where
  pub said : GrewBy old.written new.written line ⊎ (GaveUp old new × GrewByPrefix old.written new.written line)
  pub faults_later : old.faults ≤ new.faults
  pub lacks_later : old.lacks ≤ new.lacks

-- nothing was said
abbrev pub SaysNothing : SinkState → SinkState → Type 0
SaysNothing old new = new ≡ old
