use Rattle.std.proofs.Common.{sym, ap, ◌∙◌, List, ℕ, length}
use Rattle.std.specs.List.{sum_by}
use Rattle.gm_label.specs.Stored.{LabelTable}
use Rattle.gm_label.proofs.Stretches.{total_lists}
use Rattle.gm_label.proofs.labels.Labels.pairs.Goals as goal

pub returns : goal.returns
returns c =
    let inside = c.self.inside in
    c.len.ensures ∙ inside.pairs.ok.0 ∙ c.self.invariant.total ∙ sym (total_lists inside.pairs.items inside.spans.items c.self.invariant.inside)
    ∙ ap (λ (table : LabelTable). sum_by (λ (label : List (ℕ × ℕ)). length label) table.lists) c.self.view_is
