-- The words of the command line, and the command that they say.
use Rattle.std.specs.Prelude.{ℕ, ◌≤◌, Bool, false, not, ◌==◌, nat_le, if◌then◌else◌, List, [], ◌∷◌, codes, bytes_eq, Option, Some, None}
use Rattle.std.specs.List.{list_all}
use Rattle.gm_base.specs.Dimensions.{Dimensions}
use Rattle.gm_base.specs.Numbers.{number_of}
use Rattle.gm_base.specs.declared.limits.TheConstants.{MAX_VERTICES, MAX_PARTS, MAX_CHUNK_SIZE}
use Rattle.gm_words.specs.declared.command.RunCommand.{RunCommand as RunWords}
use Rattle.gm_words.specs.declared.command.BuildCommand.{BuildCommand as BuildWords}
use Rattle.gm_words.specs.declared.command.InfoCommand.{InfoCommand as InfoWords}
use Rattle.gm_words.specs.declared.command.Command.{Command as CommandWords}
use Rattle.gm_words.specs.declared.command.Command.TheVariants as is

-- not empty, and no option
abbrev pub is_plain : List ℕ → Bool
is_plain [] = false
is_plain (byte ∷ bytes) = not (byte == 45)

abbrev pub at_least : ℕ → Option ℕ → Option ℕ
at_least low None = None
at_least low (Some number) = if nat_le low number then Some number else None

-- the number of a word, in this range
abbrev pub number_between : ℕ → ℕ → List ℕ → Option ℕ
number_between low high word = at_least low (number_of word high)

-- `run GRID JOBS WORKERS CHUNK`: the names of its files, and its chunk size
pub record RunCommand : Type 0 where
  pub grid : List ℕ
  pub jobs : List ℕ
  pub chunk : ℕ

-- `build EDGES GRID N PARTS`: the names of its files, and the shape of the grid
pub record BuildCommand : Type 0 where
  pub edges : List ℕ
  pub grid : List ℕ
  pub shape : Dimensions

-- `info GRID CHUNK`: the name of its file, and its chunk size
pub record InfoCommand : Type 0 where
  pub grid : List ℕ
  pub chunk : ℕ

pub data Command : Type 0 where
  run : RunCommand → Command
  build : BuildCommand → Command
  info : InfoCommand → Command

abbrev pub run_with : List ℕ → List ℕ → Option ℕ → Option ℕ → Option Command
run_with grid jobs (Some workers) (Some chunk) = Some (run (record { grid = grid; jobs = jobs; chunk = chunk }))
run_with grid jobs (Some workers) None = None
run_with grid jobs None chunk = None

-- a chunk size of 1 to 65,536, and one worker
abbrev pub run_from : List (List ℕ) → Option Command
run_from (grid ∷ jobs ∷ workers ∷ chunk ∷ []) = run_with grid jobs (number_between 1 1 workers) (number_between 1 MAX_CHUNK_SIZE chunk)
run_from words = None

abbrev pub build_with : List ℕ → List ℕ → Option ℕ → Option ℕ → Option Command
build_with edges grid (Some n) (Some parts) =
    if nat_le parts n then Some (build (record { edges = edges; grid = grid; shape = record { n = n; parts = parts } })) else None
build_with edges grid (Some n) None = None
build_with edges grid None parts = None

-- 1 to 2^20 vertices in 1 to 64 ranges, no more ranges than vertices, and two files
abbrev pub build_from : List (List ℕ) → Option Command
build_from (edges ∷ grid ∷ n ∷ parts ∷ []) =
    if bytes_eq edges grid then None
    else build_with edges grid (number_between 1 MAX_VERTICES n) (number_between 1 MAX_PARTS parts)
build_from words = None

abbrev pub info_with : List ℕ → Option ℕ → Option Command
info_with grid (Some chunk) = Some (info (record { grid = grid; chunk = chunk }))
info_with grid None = None

-- a chunk size of 1 to 65,536
abbrev pub info_from : List (List ℕ) → Option Command
info_from (grid ∷ chunk ∷ []) = info_with grid (number_between 1 MAX_CHUNK_SIZE chunk)
info_from words = None

-- its chunk size, where it has one, is 1 to 65,536
abbrev pub HasChunkSize : Command → Type 0
HasChunkSize (run command) = (1 ≤ command.chunk) × (command.chunk ≤ MAX_CHUNK_SIZE)
HasChunkSize (build command) = Unit {0}
HasChunkSize (info command) = (1 ≤ command.chunk) × (command.chunk ≤ MAX_CHUNK_SIZE)

-- the command of this name, by the words after it
abbrev pub command_from : List ℕ → List (List ℕ) → Option Command
command_from name words =
    if bytes_eq name (codes "run") then run_from words
    else if bytes_eq name (codes "build") then build_from words
    else if bytes_eq name (codes "info") then info_from words
    else None

-- the command that the words say, if they say one: no word is empty, and none is an option
unfoldable pub command_of : List (List ℕ) → Option Command
command_of [] = None
command_of (name ∷ words) = if list_all is_plain (name ∷ words) then command_from name words else None

-- the run, the build and the info that these words are
abbrev pub run_said : RunWords → RunCommand
run_said c = record { grid = c.grid.now; jobs = c.jobs.now; chunk = c.chunk }

abbrev pub build_said : BuildWords → BuildCommand
build_said c = record { edges = c.edges.now; grid = c.grid.now; shape = c.shape }

abbrev pub info_said : InfoWords → InfoCommand
info_said c = record { grid = c.grid.now; chunk = c.chunk }

-- the command that these words are
abbrev pub said : CommandWords → Command
said (is.Run c) = run (run_said c)
said (is.Build c) = build (build_said c)
said (is.Info c) = info (info_said c)
