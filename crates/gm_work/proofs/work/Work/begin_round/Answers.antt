use Rattle.std.proofs.Common.{◌<◌, length, ap, ◌∙◌}
use Rattle.std.specs.Arc.{arc_value}
use Rattle.std.proofs.lemmas.List.{with_items_is}
use Rattle.gm_kernel.specs.Runs.{most_rounds}
use Rattle.gm_kernel.specs.declared.phase.Phase.TheVariants.{Round}
use Rattle.gm_work.specs.Stored.{held_job}
use Rattle.gm_work.proofs.Beginning.{are_shares-same, owed-from, stored-owing}
use Rattle.gm_work.proofs.work.Work.begin_round.Goals as goal

pub invariant_of-self : goal.invariant_of-self
invariant_of-self c =
    let w = c.self.inside in
    let h = held_job w.job w.spec (arc_value w.catalogue) w.overlays w.phase w.values.items w.sums.items w.degrees.items w.owed in
    let was = c.self.invariant in
    let written = with_items_is w.shares c.mark_round.new.shares (c.mark_round.auto.shares ∙ c.deref_mut.ensures.len) in
    let within : c.args.round < most_rounds w.spec = rw (← c.self.view_is) at c.requires in
    stored-owing h (Round c.args.round) c.owe_needed.new.into w.shares.items _ w.active c.mark_round.new.active was
    c.mark_round.ensures.length (c.owe_needed.ensures.length ∙ was.owed)
    (λ counts. ap length written ∙ c.mark_round.ensures.share_count ∙ ap length c.deref_mut.ensures.value ∙ was.share_count counts) within
    (λ counts. are_shares-same _ w.degrees.items _ w.values.items _ _ c.deref-3.ensures.value c.deref-2.ensures.value written (c.mark_round.ensures.shares counts))

pub returns : goal.returns
returns c =
    let w = c.self.inside in
    let h = held_job w.job w.spec (arc_value w.catalogue) w.overlays w.phase w.values.items w.sums.items w.degrees.items w.owed in
    let owed = owed-from h _ _ _ w.values.items _ w.values.items _ c.mark_round.new.active c.owe_needed.new.into
    c.self.invariant.values c.deref.ensures.value c.deref-2.ensures.value c.deref-3.ensures.value c.deref-4.ensures
    c.mark_round.ensures.marked c.owe_needed.ensures.needed in
    rw (← c.self.view_is)
    (ap (λ now. held_job w.job w.spec (arc_value w.catalogue) w.overlays (Round c.args.round) w.values.items w.sums.items w.degrees.items now) owed)
