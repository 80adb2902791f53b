use Rattle.std.proofs.Common.{◌≡◌, ℕ, ◌+◌, ◌<◌, Bool, true, ◌&&◌, ◌||◌, List, [], ◌∷◌, length, drop, sym, ap, subst, refl, ◌∙◌, arith}
use Rattle.std.specs.List.{list_any}
use Rattle.std.proofs.lemmas.List.{drop_more, drop_all, length-set}
use Rattle.gm_label.specs.declared.chunk.Chunk.{Chunk}
use Rattle.gm_label.specs.declared.chunk.Overlay.{Overlay}
use Rattle.gm_label.specs.Catalogues.{Catalogue, place_at}
use Rattle.gm_label.specs.Overlays.{added_at, AscendByChunk}
use Rattle.gm_active.specs.Bits.{is_in}
use Rattle.gm_active.specs.Needs.{has_source, is_column_active}
use Rattle.gm_active.specs.Adding.{with_all, is_needed_for}
use Rattle.gm_active.proofs.Added.{with_none, ascend_from_zero, overlay_yes, overlay_no}
use Rattle.gm_active.proofs.scheduling.add_by_overlays.Goals as goal
use Rattle.gm_active.proofs.scheduling.add_by_overlays.Goals.{then-needs_added, else-needs_added}

-- what is told of the added sources and of the column of the chunk's block is whether the chunk is needed
told : (cat : Catalogue) (two_way : Bool) (active : List Bool) (chunk block : ℕ) (added sources : List ℕ) (column result : Bool) → block ≡ (place_at cat chunk).block
    → column ≡ is_column_active cat.dimensions two_way (is_in active) block → sources ≡ added → result ≡ (has_source sources && (list_any (is_in active) sources || column))
    → is_needed_for cat two_way active chunk added ≡ result
told cat two_way active chunk block added sources column result here is same value =
    sym (value ∙ ap (λ (xs : List ℕ). has_source xs && (list_any (is_in active) xs || column)) same
    ∙ ap (λ (b : Bool). has_source added && (list_any (is_in active) added || b)) (is ∙ ap (is_column_active cat.dimensions two_way (is_in active)) here))

pub loop-overlay-preserved : goal.loop-overlay-preserved
loop-overlay-preserved c =
    let cat = c.args.cat.now in
    let overlays = c.args.overlays.now in
    let at = c.loop-overlay.overlay-index in
    let overlay : Overlay = c.overlay-item.result in
    let rest : List Overlay = drop (at + 1) overlays in
    let test : ℕ → List ℕ → Bool = λ k sources. is_needed_for cat c.args.two_way c.args.active.now k sources in
    let front : drop at overlays ≡ overlay ∷ rest = drop_more overlays at overlay c.loop-overlay-test.true ∙ ap (λ (o : Overlay). o ∷ rest) (sym c.overlay-item.is) in
    let ascend : AscendByChunk 0 (overlay ∷ rest) = subst (λ (os : List Overlay). AscendByChunk 0 os) front c.loop-overlay.invariant.ascend in
    let was : with_all c.loop-overlay.into (λ k. test k (added_at (overlay ∷ rest) k)) ≡ with_all c.args.into.now (λ k. test k (added_at overlays k)) =
    ap (λ (os : List Overlay). with_all c.loop-overlay.into (λ k. test k (added_at os k))) (sym front) ∙ c.loop-overlay.invariant.added in
    let here : test overlay.key.chunk overlay.added ≡ c.needs_added.result =
    told cat c.args.two_way c.args.active.now overlay.key.chunk c.chunk-block.result.block overlay.added c.as_slice.result.now c.column_beside-column.result c.needs_added.result
    (ap (λ (chunk : Chunk). chunk.block) c.chunk-block.ensures.value) c.column_beside-column.ensures c.as_slice.ensures c.needs_added.ensures in
    let within : overlay.key.chunk < length c.loop-overlay.into =
    let listed : overlay.key.chunk < length cat.places =
    subst (λ (o : Overlay). o.key.chunk < length c.args.cat.now.places) (sym c.overlay-item.is) (c.requires.overlays.chunks at overlay c.loop-overlay-test.true) in
    let long = c.loop-overlay.invariant.long in
    omega (arith, c.requires.marks.chunks) in
    elim c.if-needs_added.branch [
      | then-needs_added w ↦ record {
        long = ap (λ (marks : List Bool). length marks) (w.into-is ∙ w.add.ensures) ∙ length-set c.loop-overlay.into overlay.key.chunk true ∙ c.loop-overlay.invariant.long;
        ascend = ascend_from_zero (overlay.key.chunk + 1) rest ascend.1;
        known = c.column_beside-column.ensures;
        added = ap (λ (marks : List Bool). with_all marks (λ k. test k (added_at rest k))) (w.into-is ∙ w.add.ensures)
            ∙ overlay_yes test c.loop-overlay.into 0 overlay rest ascend within (here ∙ w.if-needs_added.true) ∙ was;
      }
      | else-needs_added w ↦ record {
        long = ap (λ (marks : List Bool). length marks) w.into-is ∙ c.loop-overlay.invariant.long;
        ascend = ascend_from_zero (overlay.key.chunk + 1) rest ascend.1;
        known = c.column_beside-column.ensures;
        added = ap (λ (marks : List Bool). with_all marks (λ k. test k (added_at rest k))) w.into-is
            ∙ overlay_no test c.loop-overlay.into 0 overlay rest ascend (λ k. refl) (here ∙ w.if-needs_added.false) ∙ was;
      }
    ]

pub returns : goal.returns
returns c =
    let test : ℕ → List ℕ → Bool = λ k sources. is_needed_for c.args.cat.now c.args.two_way c.args.active.now k sources in
    let none : drop c.loop-overlay.overlay-index c.args.overlays.now ≡ [] = drop_all c.loop-overlay.overlay-index c.args.overlays.now c.loop-overlay-test.false in
    with_none c.loop-overlay.into (λ k. test k (added_at (drop c.loop-overlay.overlay-index c.args.overlays.now) k)) (λ k below. ap (λ (os : List Overlay). test k (added_at os k)) none)
    ∙ c.loop-overlay.invariant.added
