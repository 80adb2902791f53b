use Rattle.std.proofs.Common.{◌≡◌, ℕ, ◌+◌, ◌*◌, ◌++◌, length, sum, get_or, ◌∙◌, ap, arith}
use Rattle.std.specs.List.{flat_map}
use Rattle.std.proofs.lemmas.List.{take_at}
use Rattle.gm_grid.specs.Format.{count_bytes, head_bytes}
use Rattle.gm_build.specs.Pieces.{start_of}
use Rattle.gm_build.proofs.Graphs.{IsGrid-built_file, IsSameGraph-blocks_from}
use Rattle.gm_build.proofs.Making.{length-counts_of, sum-counts_of, made_file}
use Rattle.gm_build.proofs.grid_file.file_of.Goals as goal

pub add_up-requires : goal.add_up-requires
add_up-requires c =
    let total : sum c.deref_mut.result.now ≡ length c.args.edges.now =
    ap sum (c.deref_mut.ensures.value ∙ c.in_ok-counts.ensures.counts)
    ∙ sum-counts_of c.args.shape.now c.args.edges.now c.parts-parts.ensures.dimensions c.requires.ends in
    omega (arith, total, c.requires.few)

pub fill_body-requires-clause-blocks : goal.fill_body-requires-clause-blocks
fill_body-requires-clause-blocks c =
    let kept = c.add_up.auto.counts ∙ c.deref_mut.ensures.len in
    ap length (c.deref_mut-2.ensures.value ∙ take_at c.add_up.new.counts _ c.in_ok-counts.counts.len kept)
    ∙ c.add_up.auto.counts
    ∙ ap length (c.deref_mut.ensures.value ∙ c.in_ok-counts.ensures.counts)
    ∙ length-counts_of c.args.shape.now c.args.edges.now

pub fill_body-requires-clause-starts : goal.fill_body-requires-clause-starts
fill_body-requires-clause-starts c block within =
    let kept = c.add_up.auto.counts ∙ c.deref_mut.ensures.len in
    let counts = c.deref_mut.ensures.value ∙ c.in_ok-counts.ensures.counts in
    let size = ap length counts ∙ length-counts_of c.args.shape.now c.args.edges.now in
    ap (λ xs. get_or xs block 0) (c.deref_mut-2.ensures.value ∙ take_at c.add_up.new.counts _ c.in_ok-counts.counts.len kept)
    ∙ c.add_up.ensures block (omega (arith, size, within))
    ∙ ap (λ xs. start_of xs block) counts

pub returns-clause-bytes : goal.returns-clause-bytes
returns-clause-bytes c =
    let kept = c.fill_body.auto.file ∙ c.deref_mut-3.ensures.len in
    let parts = c.parts-parts.result in
    let index_end : ℕ = 16 + 8 * (parts * parts) in
    take_at c.fill_body.new.file _ c.resize.new.self.len kept
    ∙ made_file c.args.shape.now c.args.edges.now c.in_ok-counts.counts.items c.in_ok-file.file.items _ c.deref_mut-3.result.now c.fill_body.new.file
    index_end (index_end + 12 * length c.args.edges.now)
    c.in_ok-counts.ensures.counts (c.in_ok-file.ensures ∙ ap (λ xs. head_bytes c.args.shape.now.n c.args.shape.now.parts ++ flat_map count_bytes xs) c.deref.ensures.value)
    (ap (λ p. 16 + 8 * (p * p)) c.parts-parts.ensures.value) (omega arith)
    (c.deref_mut-3.ensures.value ∙ c.in_ok-resize.ensures.items) c.fill_body.ensures

pub returns-clause-grid : goal.returns-clause-grid
returns-clause-grid c =
    IsGrid-built_file c.args.shape.now c.args.edges.now c.parts-parts.ensures.dimensions c.requires.ends c.in_ok-counts.ensures.small c.requires.few

pub returns-clause-graph : goal.returns-clause-graph
returns-clause-graph c = IsSameGraph-blocks_from c.args.shape.now c.args.edges.now c.parts-parts.ensures.dimensions c.requires.ends
