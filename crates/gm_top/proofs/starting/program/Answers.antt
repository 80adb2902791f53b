use Rattle.std.proofs.Common.{◌≡◌, rules, refl}
use Rattle.std.specs.Process.{exit_status}
use Rattle.gm_commands.specs.Endings.{call_of, outside}
use Rattle.gm_top.specs.Promises.{argument_words}
use Rattle.gm_top.proofs.Unread.{lacking}
use Rattle.gm_top.proofs.starting.program.Goals as goal

pub returns-in_default : goal.returns-in_default
returns-in_default g c =
    let before = outside (g.D.Depot.state c.args.depot) (g.K.Sink.state c.args.out.now) in
    let status_is : exit_status c.from.result ≡ 8 = search rules in
    lacking (call_of (argument_words c.args.arguments) before before
    (g.E.Sink.state c.args.err.now) (g.E.Sink.state c.say_out_of_memory.new.err) (exit_status c.from.result))
    (record { status_is = status_is; nothing = refl; line = c.say_out_of_memory.ensures })
