use Rattle.gm_outside.specs.FramesRules.{writes-then}
use Rattle.gm_fakes.proofs.callers.write_two.Goals as goal

pub returns : goal.returns
returns g c = writes-then _ _ _ c.args.first.now c.args.second.now _ _ c.in_ok-write.ensures.writes c.write-2.ensures.writes
