-- A call that ends before its words are read keeps the promises: it lacks memory, and leaves all as it was.
use Rattle.std.specs.Prelude.{◌≡◌, ◌≤◌, ◌⊎◌, Option, Some, None, IfSome, refl}
use Rattle.std.proofs.Common.{ap, inl, inr, arith}
use Rattle.gm_outside.specs.Files.{Files}
use Rattle.gm_outside.specs.FramesRules.{only_reads-none}
use Rattle.gm_outside.specs.States.{DepotState}
use Rattle.gm_commands.specs.declared.failure.Refusal.{Refusal}
use Rattle.gm_tools.specs.Grids.{grid_reading}
use Rattle.gm_words.specs.Commands.{Command, RunCommand, run, build, info, command_of}
use Rattle.gm_commands.specs.Endings.{CommandCall, HasFailed, IsComplete, LacksWords, Outside}
use Rattle.gm_commands.specs.EndingsRules.{AllowsNothing, lacks_words-failed, lacks_words-reads, lacks_words-keeps, lacks_words-complete}
use Rattle.gm_tools.specs.ToolsRules.{writes_nothing-none, build-allows_nothing, info-allows_nothing}
use Rattle.gm_top.specs.RunEndings.{IsRefusal, OpenedFew, RanFew, StopsAtGrid, contract_of, run_contract}
use Rattle.gm_top.specs.Promises.{KeepsPromises}

-- no read was made, so the grid's opening took no more than it may
opened : (before : DepotState) (command : RunCommand) (told : Option Files)
    → IfSome told (λ held. OpenedFew command before before held ⊎ RanFew command before before held)
opened before command None = tt
opened before command (Some held) = inl (omega arith)

stopped : (before : DepotState) (command : RunCommand) (told : Option Files)
    → IfSome told (λ held. (refusal : Refusal) → (grid_reading command.grid command.chunk).refusal held ≡ Some refusal
    → StopsAtGrid command before before 8 held)
stopped before command None = tt
stopped before command (Some held) = λ refusal is. record { few = omega arith; exact = λ served other. absurd (other refl) }

no_refusal : IsRefusal 8 → ⊥
no_refusal is = let high : 8 ≤ 6 = is.high in omega (arith, high)

run-allows_nothing : (command : RunCommand) → AllowsNothing (run_contract command)
run-allows_nothing command = record {
  leaves = λ before. inl (writes_nothing-none before);
  reads = λ before. record {
    asked = 0;
    most = 0;
    few = omega arith;
    frame = only_reads-none before;
    whole = opened before command before.files;
    refused = λ is. absurd (no_refusal is);
    refused_told = λ is. absurd (no_refusal is);
    refused_grid = stopped before command before.files;
  };
  keeps = λ before. (refl, refl);
}

allows_nothing : (command : Command) → AllowsNothing (contract_of command)
allows_nothing (run command) = run-allows_nothing command
allows_nothing (build command) = build-allows_nothing command
allows_nothing (info command) = info-allows_nothing command

each : (found : Option Command) (Holds : Command → Type 0) → ((command : Command) → Holds command) → IfSome found Holds
each None Holds holds = tt
each (Some command) Holds holds = holds command

pub lacking : (call : CommandCall) → LacksWords call → KeepsPromises call
lacking call lacks =
    let eight : call.status ≡ 8 = lacks.status_is in
    let faults : call.new.depot.faults ≡ call.old.depot.faults = ap (λ (o : Outside). o.depot.faults) lacks.nothing in
    let out_faults : call.new.out.faults ≡ call.old.out.faults = ap (λ (o : Outside). o.out.faults) lacks.nothing in
    let found = command_of call.words in
    record {
      usage = λ is. absurd (omega (arith, eight, is));
      no_command = λ _. inr lacks;
      report = λ is. absurd (omega (arith, eight, is));
      error_line = λ _. each found (λ command. HasFailed command (contract_of command) call)
          (λ command. lacks_words-failed command (contract_of command) call (allows_nothing command) lacks);
      completeness = each found (λ command. IsComplete (contract_of command) call.old call.new call.status)
          (λ command. lacks_words-complete (contract_of command) call lacks);
      files = each found (λ command. (contract_of command).KeepsFiles call.old.depot call.new.depot)
          (λ command. lacks_words-keeps (contract_of command) call (allows_nothing command) lacks);
      reads = each found (λ command. (contract_of command).Reads call.old.depot call.new.depot call.status)
          (λ command. lacks_words-reads (contract_of command) call (allows_nothing command) lacks);
      read_or_write_fault = λ is. absurd (omega (arith, eight, is));
      output_fault = λ is. absurd (omega (arith, eight, is));
      calm = ap (λ (o : Outside). o.depot.calm) lacks.nothing;
      faults = omega arith;
      out_faults = omega arith;
    }
