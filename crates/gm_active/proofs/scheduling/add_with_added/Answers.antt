use Rattle.std.proofs.Common.{◌≡◌, ◌+◌, ◌<◌, Bool, true, not, List, [], ◌∷◌, length, drop, sym, ap, subst, refl, ◌∙◌, arith}
use Rattle.std.proofs.lemmas.List.{drop_more, drop_all, length-set}
use Rattle.gm_label.specs.declared.chunk.Overlay.{Overlay}
use Rattle.gm_label.specs.Overlays.{added_at, AscendByChunk}
use Rattle.gm_active.specs.Needs.{has_source}
use Rattle.gm_active.specs.Adding.{with_all}
use Rattle.gm_active.proofs.Added.{with_none, has_source_by, ascend_from_zero, overlay_yes, overlay_no}
use Rattle.gm_active.proofs.scheduling.add_with_added.Goals as goal
use Rattle.gm_active.proofs.scheduling.add_with_added.Goals.{then-not-is_empty, else-not-is_empty}

pub loop-overlay-preserved : goal.loop-overlay-preserved
loop-overlay-preserved c =
    let overlays = c.args.overlays.now in
    let at = c.loop-overlay.overlay-index in
    let overlay : Overlay = c.overlay-item.result in
    let rest : List Overlay = drop (at + 1) overlays in
    let front : drop at overlays ≡ overlay ∷ rest = drop_more overlays at overlay c.loop-overlay-test.true ∙ ap (λ (o : Overlay). o ∷ rest) (sym c.overlay-item.is) in
    let ascend : AscendByChunk 0 (overlay ∷ rest) = subst (λ (os : List Overlay). AscendByChunk 0 os) front c.loop-overlay.invariant.ascend in
    let was : with_all c.loop-overlay.into (λ k. has_source (added_at (overlay ∷ rest) k)) ≡ with_all c.args.into.now (λ k. has_source (added_at overlays k)) =
    ap (λ (os : List Overlay). with_all c.loop-overlay.into (λ k. has_source (added_at os k))) (sym front) ∙ c.loop-overlay.invariant.added in
    let here : has_source overlay.added ≡ not c.is_empty.result = has_source_by overlay.added c.is_empty.result c.is_empty.ensures in
    let within : overlay.key.chunk < length c.loop-overlay.into =
    let listed : overlay.key.chunk < length c.args.cat.now.places =
    subst (λ (o : Overlay). o.key.chunk < length c.args.cat.now.places) (sym c.overlay-item.is) (c.requires.overlays.chunks at overlay c.loop-overlay-test.true) in
    let long = c.loop-overlay.invariant.long in
    omega (arith, c.requires.chunks) in
    elim c.if-not-is_empty.branch [
      | then-not-is_empty w ↦ record {
        long = ap (λ (marks : List Bool). length marks) (w.into-is ∙ w.add.ensures) ∙ length-set c.loop-overlay.into overlay.key.chunk true ∙ c.loop-overlay.invariant.long;
        ascend = ascend_from_zero (overlay.key.chunk + 1) rest ascend.1;
        added = ap (λ (marks : List Bool). with_all marks (λ k. has_source (added_at rest k))) (w.into-is ∙ w.add.ensures)
            ∙ overlay_yes (λ k added. has_source added) c.loop-overlay.into 0 overlay rest ascend within (here ∙ ap not w.if-not-is_empty.true) ∙ was;
      }
      | else-not-is_empty w ↦ record {
        long = ap (λ (marks : List Bool). length marks) w.into-is ∙ c.loop-overlay.invariant.long;
        ascend = ascend_from_zero (overlay.key.chunk + 1) rest ascend.1;
        added = ap (λ (marks : List Bool). with_all marks (λ k. has_source (added_at rest k))) w.into-is
            ∙ overlay_no (λ k added. has_source added) c.loop-overlay.into 0 overlay rest ascend (λ k. refl) (here ∙ ap not w.if-not-is_empty.false) ∙ was;
      }
    ]

pub returns : goal.returns
returns c =
    let none : drop c.loop-overlay.overlay-index c.args.overlays.now ≡ [] = drop_all c.loop-overlay.overlay-index c.args.overlays.now c.loop-overlay-test.false in
    with_none c.loop-overlay.into (λ k. has_source (added_at (drop c.loop-overlay.overlay-index c.args.overlays.now) k)) (λ k below. ap (λ (os : List Overlay). has_source (added_at os k)) none)
    ∙ c.loop-overlay.invariant.added
