use Rattle.std.proofs.Common.{length, ap, ◌∙◌}
use Rattle.std.specs.Arc.{arc_value}
use Rattle.std.proofs.lemmas.List.{with_items_is}
use Rattle.gm_work.specs.Stored.{held_job}
use Rattle.gm_work.proofs.Passing.{state_after_pass-counting, state_after_pass-round}
use Rattle.gm_work.proofs.work.Work.pass.Goals as goal

pub returns-in-Counting : goal.returns-in-Counting
returns-in-Counting c =
    let w = c.self.inside in
    let h = held_job w.job w.spec (arc_value w.catalogue) w.overlays w.phase w.values.items w.sums.items w.degrees.items w.owed in
    let written = with_items_is w.degrees c.count_edges.new.degrees (c.count_edges.auto.degrees ∙ c.deref_mut.ensures.len) in
    rw (← c.self.view_is)
    (ap (λ degrees. held_job w.job w.spec (arc_value w.catalogue) w.overlays w.phase w.values.items w.sums.items degrees c.remove.new.self) written
    ∙ state_after_pass-counting h c.args.copy.now.key.chunk c.args.copy.now.edges _ c.in-Counting.round _ _ c.remove.new.self
    c.in-Counting.is (ap length c.deref_mut.ensures.value ∙ c.self.invariant.degrees) c.deref_mut.ensures.value c.as_slice-edges.ensures
    c.count_edges.ensures c.remove.ensures)

pub returns-in-Round : goal.returns-in-Round
returns-in-Round c =
    let w = c.self.inside in
    let h = held_job w.job w.spec (arc_value w.catalogue) w.overlays w.phase w.values.items w.sums.items w.degrees.items w.owed in
    let written = with_items_is w.sums c.join_gifts.new.sums (c.join_gifts.auto.sums ∙ c.deref_mut-in-Round.ensures.len) in
    rw (← c.self.view_is)
    (ap (λ sums. held_job w.job w.spec (arc_value w.catalogue) w.overlays w.phase w.values.items sums w.degrees.items c.remove.new.self) written
    ∙ state_after_pass-round h c.args.copy.now.key.chunk c.args.copy.now.edges _ c.in-Round.round _ _ _ _ c.remove.new.self
    c.in-Round.is (ap length c.deref.ensures.value ∙ c.self.invariant.values)
    c.deref-in-Round.ensures.value c.deref.ensures.value c.deref_mut-in-Round.ensures.value c.as_slice-edges.ensures
    c.join_gifts.ensures c.remove.ensures)
