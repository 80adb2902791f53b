use Rattle.std.proofs.Common.{ℕ, List, not, eqb, rules, ap, ◌∙◌}
use Rattle.std.proofs.lemmas.Fn.{filter_same}
use Rattle.gm_buffer.specs.Holdings.{Held, without}
use Rattle.gm_buffer.proofs.slot.Slot.leave.Goals as goal

pub returns-clause-left : goal.returns-clause-left
returns-clause-left c =
    let left = filter_same _ (λ (rider : ℕ). not (eqb rider c.args.job)) _ (λ e kept f' k. search rules) _ _ c.retain.ensures.filtered in
    let with_riders : List ℕ → Held = λ xs. record { copy = c.self.inside.copy.value; riders = xs } in
    ap with_riders left ∙ ap (λ (h : Held). record { copy = h.copy; riders = without c.args.job h.riders }) c.self.view_is
