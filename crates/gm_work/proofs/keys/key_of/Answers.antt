use Rattle.std.proofs.Common.{rules, sym, ap, ◌∙◌}
use Rattle.std.proofs.lemmas.List.{get_or_read}
use Rattle.std.proofs.lemmas.List.Sorted.{answers_always}
use Rattle.std.proofs.Common.{Ok, Err}
use Rattle.gm_label.specs.declared.chunk.Overlay.{Overlay}
use Rattle.gm_work.proofs.OverlayPlaces.{none, search_tells}
use Rattle.gm_work.proofs.keys.key_of.Goals as goal

pub returns-in-Ok : goal.returns-in-Ok
returns-in-Ok c =
    let overlays = c.args.overlays.now in
    let facts = c.in-Ok.ensures in
    let by_chunk = facts.position (λ overlay. overlay.key.chunk) (answers_always _ _ _ (λ f a r g called. search rules)) in
    let here = sym c.index-overlays-at.is ∙ get_or_read overlays c.in-Ok.at c.index-overlays-at.result facts.bound c.index-overlays-at.is none in
    ap (λ (o : Overlay). o.key) here ∙ sym (search_tells overlays c.args.chunk (Ok c.in-Ok.at) c.requires facts.bound by_chunk)

pub returns-in-Err : goal.returns-in-Err
returns-in-Err c =
    let facts = c.in-Err.ensures in
    let by_chunk = facts.position (λ overlay. overlay.key.chunk) (answers_always _ _ _ (λ f a r g called. search rules)) in
    sym (search_tells c.args.overlays.now c.args.chunk (Err c.in-Err.field-0) c.requires facts.bound by_chunk)
