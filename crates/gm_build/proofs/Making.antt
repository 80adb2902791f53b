-- The head, the index and the edges of a file, one behind the other.
use Rattle.std.proofs.Common.{◌≡◌, ℕ, ◌+◌, ◌*◌, ◌≤◌, List, [], ◌∷◌, ◌++◌, length, take, sum, sym, ap, ◌∙◌, arith}
use Rattle.std.specs.List.{flat_map, range_with_len}
use Rattle.std.proofs.lemmas.List.{append_assoc, take_at, take_all, length-append}
use Rattle.std.proofs.lemmas.List.FromFn.{length-map-range_with_len}
use Rattle.gm_base.specs.declared.edge.Edge.{Edge}
use Rattle.gm_base.specs.Dimensions.{Dimensions, AreDimensions, block_of}
use Rattle.gm_base.specs.Graph.{IsGraph}
use Rattle.gm_grid.specs.Format.{count_bytes, head_bytes, index_bytes, edge_bytes, edges_of_grid}
use Rattle.gm_build.specs.Blocks.{block_edges, blocks_from, counts_of, built_file}
use Rattle.gm_build.proofs.Below.{blocks_below}
use Rattle.gm_build.proofs.Groups.{flat_map-map, sum-group_counts}

pub length-counts_of : (d : Dimensions) (edges : List Edge) → length (counts_of d edges) ≡ d.parts * d.parts
length-counts_of d edges = length-map-range_with_len (λ block. length (block_edges d edges block)) 0 (d.parts * d.parts)

-- the blocks have all edges
pub sum-counts_of : (d : Dimensions) (edges : List Edge) → AreDimensions d.n d.parts → IsGraph d.n edges → sum (counts_of d edges) ≡ length edges
sum-counts_of d edges dims graph = sum-group_counts (block_of d) (d.parts * d.parts) edges (blocks_below d edges dims graph)

length-counts : (counts : List ℕ) → length (flat_map count_bytes counts) ≡ 8 * length counts
length-counts [] = omega arith
length-counts (count ∷ counts) = let others = length-counts counts in omega (arith, length-append (count_bytes count) (flat_map count_bytes counts))

index_bytes-blocks_from : (d : Dimensions) (edges : List Edge) → index_bytes (blocks_from d edges) ≡ flat_map count_bytes (counts_of d edges)
index_bytes-blocks_from d edges =
    flat_map-map (λ block. count_bytes (length block)) (block_edges d edges) (range_with_len 0 (d.parts * d.parts))
    ∙ sym (flat_map-map count_bytes (λ block. length (block_edges d edges block)) (range_with_len 0 (d.parts * d.parts)))

-- what was written behind a front of this size
pub made_file : (d : Dimensions) (edges : List Edge) (counts front zeros held file : List ℕ) (index_end size : ℕ)
    → counts ≡ counts_of d edges → front ≡ head_bytes d.n d.parts ++ flat_map count_bytes counts
    → index_end ≡ 16 + 8 * (d.parts * d.parts) → index_end ≤ size → held ≡ take size front ++ zeros
    → file ≡ take index_end held ++ flat_map edge_bytes (edges_of_grid (blocks_from d edges)) → file ≡ built_file d edges
unfolding built_file
made_file d edges counts front zeros held file index_end size are_counts is_front is_end fits is_held is_file =
    let head = head_bytes d.n d.parts in
    let index = flat_map count_bytes (counts_of d edges) in
    let body = flat_map edge_bytes (edges_of_grid (blocks_from d edges)) in
    let whole : front ≡ head ++ index = is_front ∙ ap (λ c. head ++ flat_map count_bytes c) are_counts in
    let long : length front ≡ index_end =
    ap length whole ∙ length-append head index ∙ ap (λ m. 16 + m) (length-counts (counts_of d edges) ∙ ap (λ m. 8 * m) (length-counts_of d edges)) ∙ sym is_end in
    let kept : take index_end held ≡ front =
    ap (take index_end) (is_held ∙ ap (λ xs. xs ++ zeros) (take_all size front (omega arith))) ∙ take_at front zeros index_end long in
    is_file
    ∙ ap (λ xs. xs ++ body) (kept ∙ whole)
    ∙ append_assoc head index body
    ∙ ap (λ xs. head ++ (xs ++ body)) (sym (index_bytes-blocks_from d edges))
