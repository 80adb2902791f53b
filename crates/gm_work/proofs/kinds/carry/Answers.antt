use Rattle.std.proofs.Common.{get_or, ◌∙◌, arith}
use Rattle.std.proofs.lemmas.List.FromFn.{fill_by_all}
use Rattle.gm_work.proofs.kinds.carry.Goals as goal

pub returns : goal.returns
returns g c =
    fill_by_all (λ v. (g.K.Kernel.functions c.args.kernel.now).carried_value (get_or c.args.values.now v 0)) _ _ 0
    (c.loop-vertex.auto.sums ∙ c.requires) (λ v within. c.loop-vertex.invariant v (omega arith))
