use Rattle.std.proofs.Common.{◌≡◌, length, refl, ap, ◌∙◌, sym, subst}
use Rattle.std.specs.Arc.{arc_value}
use Rattle.std.proofs.lemmas.List.FromFn.{length-map-range_with_len}
use Rattle.gm_label.specs.Catalogues.{Catalogue}
use Rattle.gm_label.specs.Overlays.{sources_under}
use Rattle.gm_active.specs.Needs.{has_source, counted_chunks}
use Rattle.gm_kernel.specs.declared.phase.Phase.{Phase}
use Rattle.gm_kernel.specs.declared.phase.Phase.TheVariants.{Counting}
use Rattle.gm_work.specs.Stored.{held_job, AreSharesIn}
use Rattle.gm_work.proofs.Beginning.{stored-owing}
use Rattle.gm_work.proofs.work.Work.owe_counted.Goals as goal

pub invariant_of-self : goal.invariant_of-self
invariant_of-self c =
    let w = c.self.inside in
    let h = held_job w.job w.spec (arc_value w.catalogue) w.overlays w.phase w.values.items w.sums.items w.degrees.items w.owed in
    let was = c.self.invariant in
    let counting : w.phase ≡ Counting 0 = rw (← c.self.view_is) at c.requires in
    let chunks = ap length c.owed_in_counting.ensures
    ∙ length-map-range_with_len (λ k. has_source (sources_under c.deref.result.now w.overlays k)) 0 (length c.deref.result.now.places)
    ∙ ap (λ (cat : Catalogue). length cat.places) c.deref.ensures in
    stored-owing h w.phase c.owed_in_counting.new.into w.shares.items w.shares.items w.active w.active was refl chunks was.share_count was.round
    (λ counts. subst (λ (p : Phase). AreSharesIn p w.values.items w.degrees.items w.shares.items) (sym counting) tt)

pub returns : goal.returns
returns c =
    let w = c.self.inside in
    let over = λ (cat : Catalogue). counted_chunks (length cat.places) (sources_under cat w.overlays) in
    rw (← c.self.view_is)
    (ap (held_job w.job w.spec (arc_value w.catalogue) w.overlays w.phase w.values.items w.sums.items w.degrees.items) (c.owed_in_counting.ensures ∙ ap over c.deref.ensures))
