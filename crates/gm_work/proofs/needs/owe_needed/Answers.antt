use Rattle.std.proofs.Common.{Bool, length, ap, sym, ◌∙◌}
use Rattle.std.proofs.lemmas.List.FromFn.{length-map-range_with_len}
use Rattle.gm_active.specs.Bits.{is_in}
use Rattle.gm_active.specs.Needs.{is_needed, needed_chunks}
use Rattle.gm_label.specs.Catalogues.{place_at}
use Rattle.gm_label.specs.Overlays.{sources_under}
use Rattle.gm_work.proofs.NeededChunks.{needed_chunks-agree, sources-below}
use Rattle.gm_work.proofs.needs.owe_needed.Goals as goal

pub returns-clause-needed : goal.returns-clause-needed
returns-clause-needed c = λ is_active agree.
    let cat = c.args.catalogue.now in
    let overlays = c.args.overlays.now in
    c.owed.ensures
    ∙ needed_chunks-agree cat.dimensions c.is_two_way.result (is_in c.args.active.now) is_active _ (λ k. (place_at cat k).block) (sources_under cat overlays) agree
    (λ k. sources-below cat overlays k c.requires.in_rows c.requires.overlays)
    ∙ ap (λ (b : Bool). needed_chunks cat.dimensions b is_active (length cat.places) (λ k. (place_at cat k).block) (sources_under cat overlays)) c.is_two_way.ensures

pub returns-clause-length : goal.returns-clause-length
returns-clause-length c =
    let cat = c.args.catalogue.now in
    let needed = is_needed cat.dimensions c.is_two_way.result (is_in c.args.active.now) in
    ap length c.owed.ensures
    ∙ length-map-range_with_len (λ k. needed (place_at cat k).block (sources_under cat c.args.overlays.now k)) 0 (length cat.places)
    ∙ sym c.requires.chunks
