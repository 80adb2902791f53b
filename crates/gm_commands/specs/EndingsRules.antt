-- What a call comes to whose words are a command, where there was no memory to read them.
use Rattle.std.specs.Prelude.{◌≡◌, ℕ, List, Option, Some, None, IfSome, refl}
use Rattle.std.proofs.Common.{ap, inl, inr, subst, sym}
use Rattle.gm_outside.specs.Files.{Files}
use Rattle.gm_outside.specs.States.{DepotState}
use Rattle.gm_words.specs.Commands.{Command}
use Rattle.gm_commands.specs.declared.failure.Refusal.{Refusal}
use Rattle.gm_commands.specs.declared.failure.Failure.TheVariants.{OutOfMemory}
use Rattle.gm_commands.specs.Failures.{text_of}
use Rattle.gm_commands.specs.Readings.{Reading}
use Rattle.gm_commands.specs.StandardError.{error_line, out_of_memory_line, IsSaid}
use Rattle.gm_commands.specs.Endings.{CommandCall, CommandContract, FollowsFrom, HasFailed, IsComplete, LacksWords, Outside}

-- A command may end by want of memory before it did anything. Each command's contract allows it.
pub record AllowsNothing (contract : CommandContract) : Type 0 where
  pub leaves : (before : Outside) → contract.Leaves before before OutOfMemory
  pub reads : (before : DepotState) → contract.Reads before before 8
  pub keeps : (before : DepotState) → contract.KeepsFiles before before

-- the line of a command that failed so is the same, since it names no file
same_line : (command : Command) → out_of_memory_line ≡ error_line command OutOfMemory
unfolding out_of_memory_line text_of
same_line command = refl

-- it is a failure of the command by want of memory
pub lacks_words-failed : (command : Command) (contract : CommandContract) (call : CommandCall)
    → AllowsNothing contract → LacksWords call → HasFailed command contract call
lacks_words-failed command contract call allows lacks = record {
  failure = OutOfMemory;
  status_is = lacks.status_is;
  cause = (
    inl (ap (λ (o : Outside). o.depot.faults) lacks.nothing),
    ap (λ (o : Outside). o.out.faults) lacks.nothing,
  );
  leaves = subst (λ (new : Outside). contract.Leaves call.old new OutOfMemory) (sym lacks.nothing) (allows.leaves call.old);
  line = subst (λ (line : List ℕ). IsSaid line call.err_old call.err_new) (same_line command) lacks.line;
}

pub lacks_words-reads : (contract : CommandContract) (call : CommandCall)
    → AllowsNothing contract → LacksWords call → contract.Reads call.old.depot call.new.depot call.status
lacks_words-reads contract call allows lacks =
    subst (λ (new : Outside). contract.Reads call.old.depot new.depot call.status) (sym lacks.nothing)
    (subst (λ (status : ℕ). contract.Reads call.old.depot call.old.depot status) (sym lacks.status_is) (allows.reads call.old.depot))

pub lacks_words-keeps : (contract : CommandContract) (call : CommandCall)
    → AllowsNothing contract → LacksWords call → contract.KeepsFiles call.old.depot call.new.depot
lacks_words-keeps contract call allows lacks =
    subst (λ (new : Outside). contract.KeepsFiles call.old.depot new.depot) (sym lacks.nothing) (allows.keeps call.old.depot)

follows : (reading : Reading) (most status : ℕ) (files : Option Files) → status ≡ 8
    → IfSome files (λ held. FollowsFrom (reading.refusal held) most status)
follows reading most status None is = tt
follows reading most status (Some held) is = by_refusal (reading.refusal held)
  where
    by_refusal : (refusal : Option Refusal) → FollowsFrom refusal most status
    by_refusal None = inr is
    by_refusal (Some refusal) = inr is

-- want of memory may come of any files
pub lacks_words-complete : (contract : CommandContract) (call : CommandCall) → LacksWords call
    → IsComplete contract call.old call.new call.status
lacks_words-complete contract call lacks undisturbed =
    follows contract.reading contract.most_success call.status call.old.depot.files lacks.status_is
