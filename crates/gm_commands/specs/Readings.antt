-- How a command reads its files, and how the reading ends.
use Rattle.std.specs.Prelude.{◌≡◌, ℕ, ◌+◌, ◌≤◌, Bool, true, false, ◌||◌, if◌then◌else◌, ◌<◌, length, IsTrue, Option, Some, None, IfSome, IsSomeAnd, vec_len, Result, OnOk, IfErr, List}
use Rattle.std.specs.Option.{option_or}
use Rattle.std.specs.FinMap.{get}
use Rattle.gm_outside.specs.Causes.{Rose, counted, counted_times}
use Rattle.gm_outside.specs.Files.{Files}
use Rattle.gm_outside.specs.Frames.{OnlyReads}
use Rattle.gm_outside.specs.States.{DepotState}
use Rattle.gm_commands.specs.declared.files.FileText.{FileText}
use Rattle.gm_commands.specs.declared.files.FileText.TheVariants.{Whole, Longer}
use Rattle.gm_commands.specs.declared.failure.Operand.{Operand}
use Rattle.gm_commands.specs.declared.failure.Operand.TheVariants.{Edges, Grid, Jobs}
use Rattle.gm_commands.specs.declared.failure.Refusal.{Refusal}
use Rattle.gm_commands.specs.declared.failure.Refusal.TheVariants.{Missing}
use Rattle.gm_commands.specs.declared.failure.Failure.{Failure}
use Rattle.gm_commands.specs.declared.failure.Failure.TheVariants.{Refused, ReadFailed, WriteFailed, OutputFailed, OutOfMemory}
use Rattle.gm_commands.specs.Failures.{refused_operand}

pub record Reading : Type 0 where
  -- whether it reads this file
  pub reads : Operand → Bool
  -- how many files it reads: it asks for the size of each, once
  pub files : ℕ
  -- how many sizes it has asked for with that of this file
  pub asked : Operand → ℕ
  -- why the files are refused: the first reason, if there is one
  pub refusal : Files → Option Refusal
  -- the same for what is known of the files when this one is asked for, in the reading's read of this number
  pub refusal_before : Operand → ℕ → Files → Option Refusal
  -- whether chunks of a file are fetched again behind the reading, where a fault is told in the output and ends nothing else
  pub fetches : Bool

-- a command that reads nothing
abbrev pub no_reading : Reading
no_reading = record {
  reads = λ operand. false;
  files = 0;
  asked = λ operand. 0;
  refusal = λ files. None;
  refusal_before = λ operand number files. None;
  fetches = false;
}

-- first one reading, and then the other where nothing was refused
abbrev pub reading_then : Reading → Reading → Reading
reading_then first second = record {
  reads = λ operand. first.reads operand || second.reads operand;
  files = first.files + second.files;
  asked = λ operand. if first.reads operand then first.asked operand else first.files + second.asked operand;
  refusal = λ files. option_or (first.refusal files) (second.refusal files);
  refusal_before = λ operand number files.
      if first.reads operand then first.refusal_before operand number files else first.refusal files;
  fetches = first.fetches || second.fetches;
}

abbrev pub is_operand : Operand → Operand → Bool
is_operand Edges Edges = true
is_operand Grid Grid = true
is_operand Jobs Jobs = true
is_operand _ _ = false

-- why a file is refused, if there is one: it isn't there, or by what it holds for this reason
abbrev pub refusal_of_file : Operand → (List ℕ → Option Refusal) → Option (List ℕ) → Option Refusal
refusal_of_file operand refusal None = Some (Missing operand)
refusal_of_file operand refusal (Some bytes) = refusal bytes

-- one file, which is refused where it isn't there, and by what it holds for this reason
abbrev pub reading_of_file : Operand → List ℕ → (List ℕ → Option Refusal) → Reading
reading_of_file operand name refusal = record {
  reads = is_operand operand;
  files = 1;
  asked = λ asked. 1;
  refusal = λ files. refusal_of_file operand refusal (get files name);
  refusal_before = λ asked number files. None;
  fetches = false;
}

-- the rest of a reading that has asked for its sizes
abbrev pub rest_of_reading : Reading → Reading
rest_of_reading reading = record reading { files = 0; asked = λ operand. 0 }

-- so many sizes were asked for
abbrev pub AsksJust : ℕ → DepotState → DepotState → Type 0
AsksJust count old new = new.sizes ≡ counted_times count old.sizes

-- the files aren't refused, where they are told
abbrev pub AreTaken : Reading → Option Files → Type 0
AreTaken reading files = IfSome files (λ held. reading.refusal held ≡ None)

-- the depot failed, and it isn't calm
abbrev pub DepotFailed : DepotState → DepotState → Type 0
DepotFailed old new = Rose old.faults new.faults × (IsTrue old.calm → ⊥)

-- no call on the depot failed
abbrev pub DepotServed : DepotState → DepotState → Type 0
DepotServed old new = new.faults ≡ old.faults

-- the same of a command that fetches nothing behind its reading
abbrev pub ServedUnless : Bool → DepotState → DepotState → Type 0
ServedUnless true old new = Unit {0}
ServedUnless false old new = DepotServed old new

-- where the files are told, what was known of them before each read so far, and when this file was asked for, isn't refused
abbrev pub IsUnrefusedBefore : Reading → DepotState → DepotState → Operand → Type 0
IsUnrefusedBefore reading old new operand = (number : ℕ) → old.reads + number ≤ new.reads
    → IfSome old.files (λ held. reading.refusal_before operand number held ≡ None)

-- the files' refusal is this one, where they are told
abbrev pub AreRefused : Reading → Option Files → Refusal → Type 0
AreRefused reading files refusal = IfSome files (λ held. reading.refusal held ≡ Some refusal)

-- a failure that ends a reading: the files' refusal, a fault of the depot before any refusal, each with the sizes that were asked for by then,
-- or want of memory
abbrev pub IsReadingFailure : Reading → DepotState → DepotState → Failure → Type 0
IsReadingFailure reading old new (Refused refusal) =
    IsTrue (reading.reads (refused_operand refusal)) × DepotServed old new × AreRefused reading old.files refusal
    × AsksJust (reading.asked (refused_operand refusal)) old new
IsReadingFailure reading old new (ReadFailed operand) =
    IsTrue (reading.reads operand) × DepotFailed old new × IsUnrefusedBefore reading old new operand
    × AsksJust (reading.asked operand) old new
IsReadingFailure reading old new (WriteFailed operand) = ⊥
IsReadingFailure reading old new OutputFailed = ⊥
IsReadingFailure reading old new OutOfMemory = DepotServed old new

-- calls that only read: they ask for a size at most so often, and make at most so many reads
pub record ReadsWithin (asked most : ℕ) (old new : DepotState) : Type 0 where
  pub questions : ℕ
  pub few : questions ≤ asked
  pub frame : OnlyReads questions most old new

-- what a call answers that reads so many files by at most so many reads, and what it leaves: it asks for the size of each, once, up to
-- the file at which it fails
pub record ReadsFiles {T : Type 0} (files most : ℕ) (reading : Reading) (old new : DepotState) (result : Result T Failure) : Type 0 where
  pub frame : ReadsWithin files most old new
  pub ok : OnOk result (AreTaken reading old.files × DepotServed old new)
  pub asked : OnOk result (AsksJust files old new)
  pub err : IfErr result (IsReadingFailure reading old new)

-- what was read of a whole file, of which so many bytes were wanted at most: a longer one wasn't read
abbrev pub IsTextOf : Option (List ℕ) → ℕ → FileText → Type 0
IsTextOf found most (Whole bytes) = (found ≡ Some bytes.items) × (length bytes.items ≤ most)
IsTextOf found most (Longer size) = IsSomeAnd found (λ bytes. length bytes ≡ size) × (most < size)

-- whatever the depot tells: what was read has at most so many bytes, and what wasn't has more
abbrev pub IsWithin : ℕ → FileText → Type 0
IsWithin most (Whole bytes) = vec_len bytes ≤ most
IsWithin most (Longer size) = most < size

-- how many reads that took
abbrev pub reads_of_text : FileText → ℕ → ℕ
reads_of_text (Whole bytes) reads = counted reads
reads_of_text (Longer size) reads = reads
