use Rattle.std.proofs.Common.{refl}
use Rattle.gm_commands.specs.Endings.{call_of, outside}
use Rattle.gm_top.proofs.Unread.{lacking}
use Rattle.gm_top.proofs.top_call.graphm.Goals as goal

pub returns-in-Err : goal.returns-in-Err
returns-in-Err g c =
    let before = outside (g.D.Depot.state c.args.depot) (g.K.Sink.state c.args.out.now) in
    lacking (call_of c.args.words.now before before (g.E.Sink.state c.args.err.now) (g.E.Sink.state c.say_out_of_memory.new.err) 8)
    (record { status_is = refl; nothing = refl; line = c.say_out_of_memory.ensures })
