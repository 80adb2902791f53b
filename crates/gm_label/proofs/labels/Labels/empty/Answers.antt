use Rattle.std.proofs.Common.{ap, List, ℕ}
use Rattle.gm_label.specs.Stored.{LabelTable}
use Rattle.gm_label.proofs.Stretches.{made_lists}
use Rattle.gm_label.proofs.labels.Labels.empty.Goals as goal

pub returns : goal.returns
returns c =
    ap (λ (lists : List (List (ℕ × ℕ))). let table : LabelTable = record { lists = lists; left = c.args.left } in table)
    (made_lists c.args.chunks _ c.new.result.items c.resize.new.self.items c.new-spans.result.items c.new.ensures.items c.new-spans.ensures.items c.new-spans.ensures.len c.in_ok-resize.ensures.items)
