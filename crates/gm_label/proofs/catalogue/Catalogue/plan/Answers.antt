use Rattle.std.proofs.Common.{◌≡◌, List, ℕ, [], map, sum, ap, sym, ◌∙◌, arith, rules}
use Rattle.gm_label.specs.declared.chunk.Place.{Place}
use Rattle.gm_label.specs.Chunks.{chunks_of}
use Rattle.gm_label.specs.ChunksRules.{length-chunks_of}
use Rattle.gm_label.specs.Catalogues.{Catalogue}
use Rattle.gm_label.specs.Stored.{LabelTable}
use Rattle.gm_label.proofs.Labelled.{labelled-none, no_labels}
use Rattle.gm_label.proofs.Ranges.{planned}
use Rattle.gm_label.proofs.catalogue.Catalogue.plan.Goals as goal

pub cut_blocks-requires-clause-chunks : goal.cut_blocks-requires-clause-chunks
cut_blocks-requires-clause-chunks c = c.chunk_count-chunks.ensures ∙ sym (length-chunks_of c.args.chunk_size c.args.counts.now c.requires.some)

pub invariant_of-result : goal.invariant_of-result
invariant_of-result c =
    let size = c.args.chunk_size in
    let counts = c.args.counts.now in
    let places = c.in_ok-places.places in
    let long = length-chunks_of size counts c.requires.some in
    let whole : c.sum-edges.result ≡ sum counts = search rules in (
      planned c.args.shape size counts c.in_ok-places.firsts.items places.items c.requires.blocks c.requires.few c.requires.some c.requires.short (omega arith)
          c.in_ok-places.ensures.places c.in_ok-places.ensures.firsts,
      labelled-none c.args.shape size counts places.items c.in_ok-labels.labels c.len.result c.sum-edges.result c.in_ok-places.ensures.places (c.len.ensures ∙ places.ok.0)
          whole c.in_ok-labels.ensures,
    )

pub returns-clause-ok : goal.returns-clause-ok
returns-clause-ok c =
    let size = c.args.chunk_size in
    let counts = c.args.counts.now in
    let places = c.in_ok-places.places in
    let places_are = c.in_ok-places.ensures.places in
    let known = λ (ps : List Place) (labels : List (List (ℕ × ℕ))). let cat : Catalogue = record { dimensions = c.args.shape; places = ps; labels = labels } in cat in
    ap (λ (table : LabelTable). known places.items table.lists) c.in_ok-labels.ensures
    ∙ ap (λ (labels : List (List (ℕ × ℕ))). known places.items labels) (no_labels size c.len.result counts places.items places_are (c.len.ensures ∙ places.ok.0))
    ∙ ap (λ (ps : List Place). known ps (map (λ place. []) (chunks_of size counts))) places_are
