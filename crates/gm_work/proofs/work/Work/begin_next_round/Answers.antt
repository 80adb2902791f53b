use Rattle.std.proofs.Common.{◌≡◌, ◌<◌, length, ap, ◌∙◌}
use Rattle.std.specs.Arc.{arc_value}
use Rattle.std.specs.Vec.{with_items}
use Rattle.std.proofs.lemmas.List.{with_items_is}
use Rattle.gm_kernel.specs.Runs.{most_rounds}
use Rattle.gm_kernel.specs.declared.phase.Phase.TheVariants.{Round}
use Rattle.gm_work.specs.Stored.{held_job}
use Rattle.gm_work.specs.JobStates.{carried_values}
use Rattle.gm_work.specs.HeldJobs.{context_in}
use Rattle.gm_work.proofs.Beginning.{are_shares-same, owed-from, carried_values-from, length-carried_values}
use Rattle.gm_work.proofs.work.Work.begin_next_round.Goals as goal

pub invariant_of-self : goal.invariant_of-self
invariant_of-self c =
    let w = c.self.inside in
    let was = c.self.invariant in
    let values : c.swap.new.x.items ≡ w.sums.items = λ i. (c.swap.ensures.x_after i).items in
    let written = with_items_is w.shares c.mark_round.new.shares (c.mark_round.auto.shares ∙ c.deref_mut.ensures.len) in
    let sums = with_items_is c.swap.new.y c.carry_values.new.sums (c.carry_values.auto.sums ∙ c.deref_mut-2.ensures.len) in
    let within : c.args.round < most_rounds w.spec = rw (← c.self.view_is) at c.requires in
    record {
      dimensions = was.dimensions;
      in_rows = was.in_rows;
      overlays = was.overlays;
      values = ap length values ∙ was.sums;
      sums = ap length sums ∙ length-carried_values w.spec _ _ c.carry_values.ensures ∙ ap length (c.deref-4.ensures.value ∙ values) ∙ was.sums;
      degrees = was.degrees;
      marks = c.mark_round.ensures.length ∙ was.marks;
      owed = c.owe_needed.ensures.length ∙ was.owed;
      share_count = λ counts. ap length written ∙ c.mark_round.ensures.share_count ∙ ap length c.deref_mut.ensures.value ∙ was.share_count counts;
      round = within;
      shares_taken = λ k owes counts.
          are_shares-same _ w.degrees.items _ c.swap.new.x.items _ _ c.deref-3.ensures.value c.deref-2.ensures.value written
          (c.mark_round.ensures.shares counts);
    }

pub returns : goal.returns
returns c =
    let w = c.self.inside in
    let h = held_job w.job w.spec (arc_value w.catalogue) w.overlays w.phase w.values.items w.sums.items w.degrees.items w.owed in
    let held = held_job w.job w.spec (arc_value w.catalogue) w.overlays (Round c.args.round) in
    let values : c.swap.new.x.items ≡ w.sums.items = λ i. (c.swap.ensures.x_after i).items in
    let older : c.swap.new.y.items ≡ w.values.items = λ i. (c.swap.ensures.y_after i).items in
    let owed = owed-from h _ _ _ w.values.items _ w.sums.items _ c.mark_round.new.active c.owe_needed.new.into
    c.self.invariant.sums (c.deref.ensures.value ∙ older) (c.deref-2.ensures.value ∙ values) c.deref-3.ensures.value c.deref-5.ensures
    c.mark_round.ensures.marked c.owe_needed.ensures.needed in
    let written = with_items_is c.swap.new.y c.carry_values.new.sums (c.carry_values.auto.sums ∙ c.deref_mut-2.ensures.len) in
    let sums = carried_values-from h _ w.sums.items c.carry_values.new.sums c.self.invariant.sums (c.deref-4.ensures.value ∙ values) c.carry_values.ensures in
    rw (← c.self.view_is)
    (ap (λ xs. held xs (with_items c.swap.new.y c.carry_values.new.sums).items w.degrees.items c.owe_needed.new.into) values
    ∙ ap (λ xs. held w.sums.items xs w.degrees.items c.owe_needed.new.into) (written ∙ sums)
    ∙ ap (λ now. held w.sums.items (carried_values (context_in h) w.sums.items) w.degrees.items now) owed)
