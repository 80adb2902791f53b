use Rattle.std.proofs.Common.{◌-◌, ap, ◌∙◌, List, ℕ, [], get_or, set, length, arith}
use Rattle.gm_label.specs.Stored.{LabelTable}
use Rattle.gm_label.proofs.Stretches.{added_behind, new_lists, new_stretches}
use Rattle.gm_label.proofs.labels.Labels.set.Goals as goal

pub invariant_of-self-2 : goal.invariant_of-self-2
invariant_of-self-2 g c =
    let inside = c.self.inside in
    let label = g.L.ChunkLabel.pairs c.args.label.now in
    let seen = ap (λ (table : LabelTable). table.lists) c.self.view_is in
    let left = ap (λ (table : LabelTable). table.left) c.self.view_is in
    new_stretches inside.pairs.items label c.append_to.new.list.items inside.spans.items c.args.chunk c.len-start.result (c.len.result - c.len-start.result)
    inside.left c.args.edges c.self.invariant
    (omega (arith, ap length seen, c.requires.within))
    (ap (λ (ls : List (List (ℕ × ℕ))). get_or ls c.args.chunk []) seen ∙ c.requires.fresh)
    c.requires.few (omega (arith, left, c.requires.left))
    (added_behind inside.pairs.items c.make_room.new.pairs.items label c.append_to.new.list.items c.len-start.result c.len.result
    (c.len-start.ensures ∙ inside.pairs.ok.0) c.in_ok-make_room.ensures.items c.in_ok-append_to.ensures.ok (c.len.ensures ∙ c.append_to.new.list.ok.0))

pub returns-clause-ok : goal.returns-clause-ok
returns-clause-ok g c =
    let inside = c.self.inside in
    let label = g.L.ChunkLabel.pairs c.args.label.now in
    let made = λ (lists : List (List (ℕ × ℕ))) (rest : ℕ). let table : LabelTable = record { lists = lists; left = rest } in table in
    ap (λ (lists : List (List (ℕ × ℕ))). made lists (inside.left - c.args.edges))
    (new_lists inside.pairs.items label c.append_to.new.list.items inside.spans.items c.args.chunk c.len-start.result (c.len.result - c.len-start.result)
    c.self.invariant.inside
    (added_behind inside.pairs.items c.make_room.new.pairs.items label c.append_to.new.list.items c.len-start.result c.len.result
    (c.len-start.ensures ∙ inside.pairs.ok.0) c.in_ok-make_room.ensures.items c.in_ok-append_to.ensures.ok (c.len.ensures ∙ c.append_to.new.list.ok.0)))
    ∙ ap (λ (table : LabelTable). made (set table.lists c.args.chunk label) (table.left - c.args.edges)) c.self.view_is
