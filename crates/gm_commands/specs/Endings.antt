-- How a call of the program ends, by its status.
use Rattle.std.specs.Prelude.{◌≡◌, ◌≤◌, ℕ, List, IsTrue, ◌⊎◌, Option, Some, None, IfSome, Result, OnOk, IfOk, IfErr}
use Rattle.gm_outside.specs.Causes.{Rose}
use Rattle.gm_outside.specs.States.{DepotState, SinkState}
use Rattle.gm_words.specs.Commands.{Command}
use Rattle.gm_commands.specs.declared.failure.Refusal.{Refusal}
use Rattle.gm_commands.specs.declared.failure.Failure.{Failure}
use Rattle.gm_commands.specs.declared.failure.Failure.TheVariants.{Refused, ReadFailed, WriteFailed, OutputFailed, OutOfMemory}
use Rattle.gm_commands.specs.Failures.{status_of, refusal_status}
use Rattle.gm_commands.specs.Readings.{Reading, AreTaken, AsksJust, DepotFailed, DepotServed, ServedUnless, IsReadingFailure}
use Rattle.gm_commands.specs.StandardError.{error_line, usage_line, out_of_memory_line, IsSaid, SaysNothing}

-- what is outside of a command: the depot, and standard output
pub record Outside : Type 0 where
  pub depot : DepotState
  pub out : SinkState

abbrev pub outside : DepotState → SinkState → Outside
outside depot out = record { depot = depot; out = out }

-- What a command promises. For each command one value of it stands beside its handler.
pub record CommandContract : Type 1 where
  -- how it reads its files
  pub reading : Reading
  -- what it does where it succeeds, with this status
  pub Performs : Outside → Outside → ℕ → Type 0
  -- the greatest such status
  pub most_success : ℕ
  -- what it leaves of the files and of standard output after this failure
  pub Leaves : Outside → Outside → Failure → Type 0
  -- how often it reads its files and asks for their sizes, where it ends with this status
  pub Reads : DepotState → DepotState → ℕ → Type 0
  -- which files it changes at most
  pub KeepsFiles : DepotState → DepotState → Type 0

-- A call: its words, what is outside before it and after it, standard error before and after, and its status.
pub record CommandCall : Type 0 where
  pub words : List (List ℕ)
  pub old : Outside
  pub new : Outside
  pub err_old : SinkState
  pub err_new : SinkState
  pub status : ℕ

abbrev pub call_of : List (List ℕ) → Outside → Outside → SinkState → SinkState → ℕ → CommandCall
call_of words old new err_old err_new status =
    record { words = words; old = old; new = new; err_old = err_old; err_new = err_new; status = status }

-- no write to standard output failed
abbrev pub OutputServed : Outside → Outside → Type 0
OutputServed old new = new.out.faults ≡ old.out.faults

-- nothing was written: neither to a file nor to standard output, and no call that writes a file failed
pub record WritesNothing (old new : Outside) : Type 0 where
  pub files : new.depot.files ≡ old.depot.files
  pub write_faults : new.depot.write_faults ≡ old.depot.write_faults
  pub output : new.out.written ≡ old.out.written

-- no file changes, and no call that writes one fails
abbrev pub KeepsAllFiles : DepotState → DepotState → Type 0
KeepsAllFiles old new = (new.files ≡ old.files) × (new.write_faults ≡ old.write_faults)

-- what a command that only reads leaves after this failure: nothing was written, or, where standard output failed or wants memory, this part
abbrev pub LeavesPart : (Outside → Outside → Type 0) → Outside → Outside → Failure → Type 0
LeavesPart Part old new (Refused refusal) = WritesNothing old new
LeavesPart Part old new (ReadFailed operand) = WritesNothing old new
LeavesPart Part old new (WriteFailed operand) = ⊥
LeavesPart Part old new OutputFailed = Part old new
LeavesPart Part old new OutOfMemory = WritesNothing old new ⊎ Part old new

-- nothing was asked of the depot or written to standard output
abbrev pub AsksNothing : Outside → Outside → Type 0
AsksNothing old new = new ≡ old

-- a fault of the depot while a file was written, though the files that are read are taken
pub record IsWriteFault (reading : Reading) (old new : DepotState) : Type 0 where
  pub failed : DepotFailed old new
  pub write_failed : Rose old.write_faults new.write_faults
  pub taken : AreTaken reading old.files
  pub asked : AsksJust reading.files old new

-- A reading that was over: its files aren't refused, and the size of each was asked for.
pub record IsReadThrough (reading : Reading) (old new : DepotState) : Type 0 where
  pub taken : AreTaken reading old.files
  pub asked : AsksJust reading.files old new

-- no call on the depot failed, but for fetches behind a reading that was over
abbrev pub ServedUntilRead : Reading → DepotState → DepotState → Type 0
ServedUntilRead reading old new =
    DepotServed old new ⊎ (IsTrue reading.fetches × IsReadThrough reading old new)

-- why a command ends with this failure: a cause in its reading, or a fault while it writes what the files give
abbrev pub EndsBy : Reading → Outside → Outside → Failure → Type 0
EndsBy reading old new (Refused refusal) =
    IsReadingFailure reading old.depot new.depot (Refused refusal) × OutputServed old new
EndsBy reading old new (ReadFailed operand) =
    IsReadingFailure reading old.depot new.depot (ReadFailed operand) × OutputServed old new
EndsBy reading old new (WriteFailed operand) = IsWriteFault reading old.depot new.depot × OutputServed old new
EndsBy reading old new OutputFailed =
    Rose old.out.faults new.out.faults × AreTaken reading old.depot.files × ServedUnless reading.fetches old.depot new.depot
    × AsksJust reading.files old.depot new.depot
EndsBy reading old new OutOfMemory = ServedUntilRead reading old.depot new.depot × OutputServed old new

-- What a command answers, the status after it or a failure, and what it leaves. It has succeeded where its files aren't refused, it did
-- what it is for, asked for the size of each of its files once, and no call failed.
pub record Handles (contract : CommandContract) (old new : Outside) (result : Result ℕ Failure) : Type 0 where
  pub taken : OnOk result (AreTaken contract.reading old.depot.files)
  pub performs : IfOk result (contract.Performs old new)
  pub asked : OnOk result (AsksJust contract.reading.files old.depot new.depot)
  pub served : OnOk result (ServedUnless contract.reading.fetches old.depot new.depot × OutputServed old new)
  pub cause : IfErr result (EndsBy contract.reading old new)
  pub leaves : IfErr result (contract.Leaves old new)

-- The command's files aren't refused, it did what it is for and asked for the size of each file once, no call failed, and nothing was said.
pub record HasSucceeded (contract : CommandContract) (call : CommandCall) : Type 0 where
  pub taken : AreTaken contract.reading call.old.depot.files
  pub performs : contract.Performs call.old call.new call.status
  pub asked : AsksJust contract.reading.files call.old.depot call.new.depot
  pub depot_served : ServedUnless contract.reading.fetches call.old.depot call.new.depot
  pub output_served : OutputServed call.old call.new
  pub silence : SaysNothing call.err_old call.err_new

-- This failure, which has its cause, ended the command: its line was said, and this is what it leaves.
pub record HasFailed (command : Command) (contract : CommandContract) (call : CommandCall) : Type 0 where
  pub failure : Failure
  pub status_is : call.status ≡ status_of failure
  pub cause : EndsBy contract.reading call.old call.new failure
  pub leaves : contract.Leaves call.old call.new failure
  pub line : IsSaid (error_line command failure) call.err_old call.err_new

-- the words are no command: nothing was asked or written but the line that says how the program is called
pub record IsUsageCall (call : CommandCall) : Type 0 where
  pub status_is : call.status ≡ 2
  pub nothing : AsksNothing call.old call.new
  pub line : IsSaid usage_line call.err_old call.err_new

-- there was no memory to read the words: nothing was asked or written but the line that says so
pub record LacksWords (call : CommandCall) : Type 0 where
  pub status_is : call.status ≡ 8
  pub nothing : AsksNothing call.old call.new
  pub line : IsSaid out_of_memory_line call.err_old call.err_new

-- what a call does whose words are no command. Whether they are one is known only with memory to read them
abbrev pub RefusesWords : CommandCall → Type 0
RefusesWords call = IsUsageCall call ⊎ LacksWords call

-- neither standard output's faults rose, nor the depot's, unless it is calm
pub record IsUndisturbed (old new : Outside) : Type 0 where
  pub reads : IsTrue old.depot.calm ⊎ (Rose old.depot.faults new.depot.faults → ⊥)
  pub writes : Rose old.out.faults new.out.faults → ⊥

-- the status that the files give: that of their refusal, or one up to this where there is none; or want of memory
abbrev pub FollowsFrom : Option Refusal → ℕ → ℕ → Type 0
FollowsFrom None most status = (status ≤ most) ⊎ (status ≡ 8)
FollowsFrom (Some refusal) most status = (status ≡ refusal_status refusal) ⊎ (status ≡ 8)

-- an undisturbed call answers what its command and the files give
abbrev pub IsComplete : CommandContract → Outside → Outside → ℕ → Type 0
IsComplete contract old new status = IsUndisturbed old new
    → IfSome old.depot.files (λ held. FollowsFrom (contract.reading.refusal held) contract.most_success status)
