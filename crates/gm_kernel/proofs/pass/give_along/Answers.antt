use Rattle.std.proofs.Common.{slice_index, slice_set, sym, ap, ◌∙◌, arith}
use Rattle.std.proofs.lemmas.List.{set-get_or}
use Rattle.gm_kernel.proofs.pass.give_along.Goals as goal

pub returns-else-may_change_a_sum : goal.returns-else-may_change_a_sum
returns-else-may_change_a_sum g c =
    let sum = slice_index c.args.sums.now c.args.receiver in
    let same = c.may_change_a_sum.ensures c.if-may_change_a_sum.false sum (omega (arith, c.type_inv.sums c.args.receiver)) in
    sym (ap (slice_set c.args.sums.now c.args.receiver)
    (ap ((g.K.Kernel.functions c.args.kernel.now).join_values sum) (sym c.give-gift.ensures) ∙ same)
    ∙ set-get_or c.args.sums.now c.args.receiver 0)
