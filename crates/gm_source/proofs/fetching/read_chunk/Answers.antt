use Rattle.std.proofs.Common.{◌≡◌, ℕ, ◌+◌, ◌*◌, ◌≤◌, List, length, take, ap, ◌∙◌, arith}
use Rattle.std.proofs.lemmas.List.{length-take-le}
use Rattle.gm_grid.specs.Format.{AreRangesOf, is_in_block}
use Rattle.gm_grid.specs.GridBytes.{index_end}
use Rattle.gm_label.specs.Catalogues.{place_at}
use Rattle.gm_source.specs.Fetches.{chunk_start}
use Rattle.gm_source.proofs.Fetched.{told_chunk, none_fails_in_range, in_chunk_range, reads_chunk, unchanged_ok}
use Rattle.gm_source.proofs.fetching.read_chunk.Goals as goal

-- the buffer is as long as so many edges
room_for : (held : List ℕ) (long count : ℕ) → 12 * long ≤ length held → long ≡ count → length (take (12 * long) held) ≡ 12 * count
room_for held long count wide same = length-take-le (12 * long) held wide ∙ ap (λ (n : ℕ). 12 * n) same

pub returns-clause-reads : goal.returns-clause-reads
returns-clause-reads g c =
    let cat = c.args.cat.now in
    let place = c.chunk-place.ensures.value in
    let pos : c.edge_start-start.result ≡ chunk_start cat c.args.chunk =
    c.edge_start-start.ensures ∙ (λ i. index_end (c.shape-2.ensures i) + 12 * (place i).first) in
    let room = room_for c.deref_mut.result.now c.chunk-place.result.length _ (omega (arith, c.deref_mut.ensures.len, c.in_ok-widen.ensures)) (λ i. (place i).length) in
    let are : AreRangesOf cat.dimensions (place_at cat c.args.chunk).block c.of-ranges.result =
    λ e. c.of-ranges.ensures e ∙ (λ i. is_in_block (c.shape.ensures i) (place i).block e) in
    reads_chunk (g.D.Depot.state c.args.depot.now).files c.args.name.now cat c.args.chunk c.of-ranges.result c.edge_start-start.result
    (length (take (12 * c.chunk-place.result.length) c.deref_mut.result.now)) c.read_edges.new.buffer c.read_edges.new.edges.items c.read_edges.result are pos room
    c.read_edges.ensures.length c.read_edges.ensures.are_bytes c.read_edges.ensures.decoded c.read_edges.ensures.bytes

pub returns-clause-told : goal.returns-clause-told
returns-clause-told g c = λ bytes tells.
    let cat = c.args.cat.now in
    let files = (g.D.Depot.state c.args.depot.now).files in
    let laws = c.grid_reads_back.ensures in
    unchanged_ok files c.args.name.now bytes cat c.args.chunk c.read_edges.new.edges.items c.read_edges.result tells
    (told_chunk files c.args.name.now bytes cat c.args.chunk laws.shape laws.edges laws.size tells c.requires) (returns-clause-reads g c)

pub returns-clause-calm_range : goal.returns-clause-calm_range
returns-clause-calm_range g c = λ calm.
    let cat = c.args.cat.now in
    let files = (g.D.Depot.state c.args.depot.now).files in
    let place = c.chunk-place.ensures.value in
    let pos : c.edge_start-start.result ≡ chunk_start cat c.args.chunk =
    c.edge_start-start.ensures ∙ (λ i. index_end (c.shape-2.ensures i) + 12 * (place i).first) in
    let room = room_for c.deref_mut.result.now c.chunk-place.result.length _ (omega (arith, c.deref_mut.ensures.len, c.in_ok-widen.ensures)) (λ i. (place i).length) in
    in_chunk_range files c.args.name.now _ (chunk_start cat c.args.chunk) _ _ _ pos room (c.read_edges.ensures.calm calm)

pub returns-clause-calm : goal.returns-clause-calm
returns-clause-calm g c = λ bytes calm tells failed.
    let cat = c.args.cat.now in
    let files = (g.D.Depot.state c.args.depot.now).files in
    let laws = c.grid_reads_back.ensures in
    none_fails_in_range files c.args.name.now bytes cat c.args.chunk _ tells
    (told_chunk files c.args.name.now bytes cat c.args.chunk laws.shape laws.edges laws.size tells c.requires) (returns-clause-calm_range g c calm) failed
