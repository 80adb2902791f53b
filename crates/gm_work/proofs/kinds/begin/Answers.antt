use Rattle.std.proofs.Common.{arith}
use Rattle.std.proofs.lemmas.List.FromFn.{fill_by_all}
use Rattle.gm_work.proofs.kinds.begin.Goals as goal

pub returns : goal.returns
returns g c =
    fill_by_all (g.K.Kernel.functions c.args.kernel.now).initial_value _ _ 0 c.loop-vertex.auto.values (λ v within. c.loop-vertex.invariant v (omega arith))
