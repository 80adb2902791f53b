use Rattle.std.proofs.Common.{arith}
use Rattle.std.proofs.lemmas.List.{length-drop}
use Rattle.gm_label.proofs.Runs.{next_run_left}
use Rattle.gm_label.proofs.label.push_runs.Goals as goal

pub overflow_cast-run : goal.overflow_cast-run
overflow_cast-run c = omega (arith, length-drop c.loop-at.at c.args.sources.now, c.run_length-run.ensures.within)

pub overflow_add-at : goal.overflow_add-at
overflow_add-at c = omega (arith, length-drop c.loop-at.at c.args.sources.now, c.run_length-run.ensures.within)

pub loop-at-smaller : goal.loop-at-smaller
loop-at-smaller c =
    let step = next_run_left c.args.sources.now c.loop-at.at c.run_length-run.result c.loop-at.pairs.items c.push.new.self.items _ c.requires.ascending c.loop-at-test.true
    c.run_length-run.ensures.within c.run_length-run.ensures.same c.run_length-run.ensures.other c.in_ok-push.ensures.items c.loop-at.invariant.joined in
    omega (arith, step.0, step.1)

pub loop-at-preserved : goal.loop-at-preserved
loop-at-preserved c =
    let step = next_run_left c.args.sources.now c.loop-at.at c.run_length-run.result c.loop-at.pairs.items c.push.new.self.items _ c.requires.ascending c.loop-at-test.true
    c.run_length-run.ensures.within c.run_length-run.ensures.same c.run_length-run.ensures.other c.in_ok-push.ensures.items c.loop-at.invariant.joined in
    record { within = step.1; joined = step.2 }
