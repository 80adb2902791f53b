use Rattle.std.proofs.Common.{◌≡◌, ℕ, false, length, ap, ◌∙◌, subst}
use Rattle.std.specs.Arc.{arc_value}
use Rattle.std.specs.Vec.{with_items}
use Rattle.std.proofs.lemmas.List.{with_items_is, length-replicate}
use Rattle.gm_base.specs.Dimensions.{Dimensions, AreDimensions}
use Rattle.gm_label.specs.Catalogues.{Catalogue, AreInRows}
use Rattle.gm_kernel.specs.declared.phase.Phase.TheVariants.{Counting}
use Rattle.gm_work.specs.Stored.{held_job}
use Rattle.gm_work.proofs.Admitting.{unbegun-is}
use Rattle.gm_work.proofs.work.Work.unbegun.Goals as goal

pub invariant_of-result : goal.invariant_of-result
invariant_of-result c =
    let n = c.n-vertices.result in
    let cat = arc_value c.args.catalogue in
    let every : n ≡ cat.dimensions.n =
    c.n-vertices.ensures.value ∙ ap (λ (d : Dimensions). d.n) c.shape.ensures ∙ ap (λ (x : Catalogue). x.dimensions.n) c.deref.ensures in
    let zeros = λ (m : ℕ). length-replicate {A = ℕ} m 0 in
    let marks = λ (m : ℕ). length-replicate m false in
    record {
      dimensions = subst (λ (d : Dimensions). AreDimensions d.n d.parts) (c.shape.ensures ∙ ap (λ (x : Catalogue). x.dimensions) c.deref.ensures) c.n-vertices.ensures.dimensions;
      in_rows = subst AreInRows c.deref-4.ensures c.first_source.ensures.in_rows;
      overlays = c.requires.overlays;
      values = ap length (with_items_is c.in_ok-values.values c.begin_values.new.values (c.begin_values.auto.values ∙ c.deref_mut.ensures.len))
          ∙ c.begin_values.auto.values ∙ c.deref_mut.ensures.len ∙ c.in_ok-values.ensures.len ∙ every;
      sums = ap length (with_items_is c.in_ok-sums.sums c.carry_values.new.sums (c.carry_values.auto.sums ∙ c.deref_mut-2.ensures.len))
          ∙ c.carry_values.auto.sums ∙ c.deref_mut-2.ensures.len ∙ c.in_ok-sums.ensures.len ∙ every;
      degrees = ap length (c.in_ok-degrees.ensures.items_if_clones_equal (λ y same. same)) ∙ zeros n ∙ every;
      marks = ap length c.in_ok-active.ensures ∙ marks n ∙ every;
      owed = ap length c.in_ok-owed.ensures ∙ marks c.chunks.result ∙ c.chunks.ensures.value ∙ ap (λ (x : Catalogue). length x.places) c.deref-3.ensures;
      share_count = λ counts.
          ap length (c.in_ok-shares.ensures.items_if_clones_equal (λ y same. same)) ∙ zeros c.share_count.result ∙ c.share_count.ensures counts ∙ every;
      round = c.requires.some_round;
      shares_taken = λ k owes counts. tt;
    }

pub returns : goal.returns
returns c =
    let a = c.args in
    let cat = arc_value a.catalogue in
    let held = held_job a.job a.spec cat a.overlays (Counting 0) in
    let every : c.n-vertices.result ≡ cat.dimensions.n =
    c.n-vertices.ensures.value ∙ ap (λ (d : Dimensions). d.n) c.shape.ensures ∙ ap (λ (x : Catalogue). x.dimensions.n) c.deref.ensures in
    let whole : c.chunks.result ≡ length cat.places = c.chunks.ensures.value ∙ ap (λ (x : Catalogue). length x.places) c.deref-3.ensures in
    let long = c.begin_values.auto.values ∙ c.deref_mut.ensures.len ∙ c.in_ok-values.ensures.len in
    let values = with_items_is c.in_ok-values.values c.begin_values.new.values (c.begin_values.auto.values ∙ c.deref_mut.ensures.len) in
    let sums = with_items_is c.in_ok-sums.sums c.carry_values.new.sums (c.carry_values.auto.sums ∙ c.deref_mut-2.ensures.len) in
    ap (λ xs. held xs (with_items c.in_ok-sums.sums c.carry_values.new.sums).items c.in_ok-degrees.degrees.items c.in_ok-owed.owed) values
    ∙ ap (λ xs. held c.begin_values.new.values xs c.in_ok-degrees.degrees.items c.in_ok-owed.owed) sums
    ∙ unbegun-is a.job a.spec cat a.overlays c.n-vertices.result (length c.deref_mut.result.now) c.chunks.result
    c.begin_values.new.values c.deref-2.result.now c.carry_values.new.sums c.in_ok-degrees.degrees.items c.in_ok-owed.owed
    (c.deref_mut.ensures.len ∙ c.in_ok-values.ensures.len ∙ every) every whole
    c.begin_values.ensures (c.deref-2.ensures.value ∙ values) long c.carry_values.ensures
    (c.in_ok-degrees.ensures.items_if_clones_equal (λ y same. same)) c.in_ok-owed.ensures
