use Rattle.std.proofs.Common.{◌≡◌, ℕ, Bool, false, List, length, replicate, sym, ap, ◌∙◌}
use Rattle.std.proofs.lemmas.List.{length-replicate}
use Rattle.gm_label.specs.declared.chunk.Overlay.{Overlay}
use Rattle.gm_label.specs.Catalogues.{sources_at}
use Rattle.gm_label.specs.Overlays.{added_at, sources_under}
use Rattle.gm_active.specs.Needs.{has_source}
use Rattle.gm_active.specs.NeedsRules.{has_source-append}
use Rattle.gm_active.specs.Adding.{with_all, between}
use Rattle.gm_active.proofs.Added.{length-with_all, with_both, between_whole}
use Rattle.gm_active.proofs.scheduling.owed_in_counting.Goals as goal

pub add_with_added-requires-clause-chunks : goal.add_with_added-requires-clause-chunks
add_with_added-requires-clause-chunks c =
    ap (λ (marks : List Bool). length marks) c.add_with_source.ensures
    ∙ length-with_all c.clear.new.self (between 0 c.chunks.result (λ k. has_source (sources_at c.args.cat.now k)))
    ∙ ap (λ (marks : List Bool). length marks) c.clear.ensures ∙ length-replicate (length c.args.into.now) false ∙ c.requires.chunks

pub returns : goal.returns
returns c =
    let cat = c.args.cat.now in
    let overlays : List Overlay = c.as_slice.result.now in
    let none : List Bool = replicate (length c.args.into.now) false in
    let listed : ℕ → Bool = λ k. has_source (sources_at cat k) in
    let whole : c.chunks.result ≡ length none = c.chunks.ensures.value ∙ sym c.requires.chunks ∙ sym (length-replicate (length c.args.into.now) false) in
    c.add_with_added.ensures
    ∙ ap (λ (marks : List Bool). with_all marks (λ k. has_source (added_at overlays k)))
    (c.add_with_source.ensures ∙ ap (λ (marks : List Bool). with_all marks (between 0 c.chunks.result listed)) c.clear.ensures
    ∙ ap (λ (end : ℕ). with_all none (between 0 end listed)) whole ∙ between_whole none listed)
    ∙ with_both (length c.args.into.now) (length cat.places) listed (λ k. has_source (added_at overlays k)) (λ k. has_source (sources_under cat c.args.overlays.now k)) c.requires.chunks (λ k.
    sym (has_source-append (sources_at cat k) (added_at overlays k)) ∙ ap (λ (os : List Overlay). has_source (sources_under cat os k)) c.as_slice.ensures)
