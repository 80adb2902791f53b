use Rattle.std.proofs.Common.{◌≡◌, ap, inr, refl, rules, arith}
use Rattle.gm_words.specs.Commands.{command_of}
use Rattle.gm_commands.specs.Endings.{CommandCall, HasFailed, IsComplete, LacksWords, Outside, call_of, outside}
use Rattle.gm_commands.specs.EndingsRules.{lacks_words-failed, lacks_words-reads, lacks_words-keeps, lacks_words-complete}
use Rattle.gm_tools.specs.Tools.{KeepsToolPromises}
use Rattle.gm_tools.specs.ToolsRules.{if_tool-each}
use Rattle.gm_tools.proofs.tool_call.tool.Goals as goal

lacking : (call : CommandCall) → LacksWords call → KeepsToolPromises call
lacking call lacks =
    let eight : call.status ≡ 8 = lacks.status_is in
    let faults : call.new.depot.faults ≡ call.old.depot.faults = ap (λ (o : Outside). o.depot.faults) lacks.nothing in
    let out_faults : call.new.out.faults ≡ call.old.out.faults = ap (λ (o : Outside). o.out.faults) lacks.nothing in
    let found = command_of call.words in
    record {
      no_command = λ _. inr lacks;
      output = λ zero. absurd (omega (arith, eight, zero));
      error_line = λ _. if_tool-each found (λ command contract. HasFailed command contract call)
          (λ command contract allows. lacks_words-failed command contract call allows lacks);
      completeness = if_tool-each found (λ command contract. IsComplete contract call.old call.new call.status)
          (λ command contract allows. lacks_words-complete contract call lacks);
      statuses = search rules;
      files = if_tool-each found (λ command contract. contract.KeepsFiles call.old.depot call.new.depot)
          (λ command contract allows. lacks_words-keeps contract call allows lacks);
      reads = if_tool-each found (λ command contract. contract.Reads call.old.depot call.new.depot call.status)
          (λ command contract allows. lacks_words-reads contract call allows lacks);
      faults = omega arith;
      out_faults = omega arith;
      calm = ap (λ (o : Outside). o.depot.calm) lacks.nothing;
    }

pub returns-in-Err-clause-keeps : goal.returns-in-Err-clause-keeps
returns-in-Err-clause-keeps g c =
    let before = outside (g.D.Depot.state c.args.depot.now) (g.K.Sink.state c.args.out.now) in
    lacking (call_of c.args.words.now before before (g.E.Sink.state c.args.err.now) (g.E.Sink.state c.say_out_of_memory.new.err) 8)
    (record { status_is = refl; nothing = refl; line = c.say_out_of_memory.ensures })
