use Rattle.std.proofs.Common.{ℕ, Bool, false, List, length, sym, ap, ◌∙◌}
use Rattle.std.proofs.lemmas.List.{length-replicate}
use Rattle.gm_label.specs.declared.chunk.Overlay.{Overlay}
use Rattle.gm_label.specs.Catalogues.{place_at, sources_at}
use Rattle.gm_label.specs.Overlays.{added_at, sources_under}
use Rattle.gm_active.specs.Bits.{is_in}
use Rattle.gm_active.specs.NeedsRules.{is_needed-append}
use Rattle.gm_active.specs.Adding.{with_all, is_needed_for}
use Rattle.gm_active.proofs.Added.{length-with_all, with_both}
use Rattle.gm_active.proofs.scheduling.owed.Goals as goal

pub add_by_overlays-requires-clause-marks : goal.add_by_overlays-requires-clause-marks
add_by_overlays-requires-clause-marks c = record {
  vertices = c.requires.vertices;
  chunks = ap (λ (marks : List Bool). length marks) c.add_by_labels.ensures
      ∙ length-with_all c.clear.new.self (λ k. is_needed_for c.args.cat.now c.args.two_way c.args.active.now k (sources_at c.args.cat.now k))
      ∙ ap (λ (marks : List Bool). length marks) c.clear.ensures ∙ length-replicate (length c.args.into.now) false ∙ c.requires.chunks;
}

pub returns : goal.returns
returns c =
    let cat = c.args.cat.now in
    let overlays : List Overlay = c.as_slice.result.now in
    let needed : ℕ → List ℕ → Bool = λ k sources. is_needed_for cat c.args.two_way c.args.active.now k sources in
    c.add_by_overlays.ensures
    ∙ ap (λ (marks : List Bool). with_all marks (λ k. needed k (added_at overlays k)))
    (c.add_by_labels.ensures ∙ ap (λ (marks : List Bool). with_all marks (λ k. needed k (sources_at cat k))) c.clear.ensures)
    ∙ with_both (length c.args.into.now) (length cat.places) (λ k. needed k (sources_at cat k)) (λ k. needed k (added_at overlays k)) (λ k. needed k (sources_under cat c.args.overlays.now k)) c.requires.chunks (λ k.
    sym (is_needed-append cat.dimensions c.args.two_way (is_in c.args.active.now) (place_at cat k).block (sources_at cat k) (added_at overlays k))
    ∙ ap (λ (os : List Overlay). needed k (sources_under cat os k)) c.as_slice.ensures)
