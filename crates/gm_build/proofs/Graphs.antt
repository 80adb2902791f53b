-- The file that is built is a grid of the same graph.
use Rattle.std.proofs.Common.{◌≡◌, ℕ, ◌*◌, ◌<◌, ◌≤◌, ◌^◌, Bool, eqb, List, [], length, refl, ap, ◌∙◌, arith, inl, inr}
use Rattle.std.specs.List.{All, range_with_len, count_by}
use Rattle.std.proofs.lemmas.Bool.{cases_lt, and_from, lt-ltb}
use Rattle.std.proofs.lemmas.List.{get_or_past}
use Rattle.std.proofs.lemmas.List.Elements.{All-nil, All-filter, All-same, filter_passes}
use Rattle.std.proofs.lemmas.List.FromFn.{get_or-map-range_with_len, length-map-range_with_len}
use Rattle.gm_base.specs.declared.limits.TheConstants.{MAX_EDGES}
use Rattle.gm_base.specs.declared.edge.Edge.{Edge}
use Rattle.gm_base.specs.Dimensions.{Dimensions, AreDimensions, block_of}
use Rattle.gm_base.specs.Graph.{HasEndsBelow, IsGraph, IsSameGraph, is_same_edge}
use Rattle.gm_grid.specs.Format.{edges_of_grid, FitsBlock, IsGrid}
use Rattle.gm_build.specs.Blocks.{block_edges, blocks_from, built_file}
use Rattle.gm_build.proofs.Below.{blocks_below}
use Rattle.gm_build.proofs.Groups.{flat_map-map, counted_all, length-joined_groups, joined_groups}

edges_of_grid-blocks_from : (d : Dimensions) (edges : List Edge) → edges_of_grid (blocks_from d edges) ≡ joined_groups (block_of d) 0 (d.parts * d.parts) edges
edges_of_grid-blocks_from d edges = flat_map-map (λ b. b) (block_edges d edges) (range_with_len 0 (d.parts * d.parts))

pub IsSameGraph-blocks_from : (d : Dimensions) (edges : List Edge) → AreDimensions d.n d.parts → IsGraph d.n edges → IsSameGraph (edges_of_grid (blocks_from d edges)) edges
IsSameGraph-blocks_from d edges dims graph e =
    ap (count_by (is_same_edge e)) (edges_of_grid-blocks_from d edges)
    ∙ counted_all (block_of d) (is_same_edge e) (d.parts * d.parts) edges (blocks_below d edges dims graph)

-- each edge of a block is in it
fits : (d : Dimensions) (edges : List Edge) (block : ℕ) → IsGraph d.n edges → All (λ e. e.weight < 2 ^ 32) edges → All (FitsBlock d block) (block_edges d edges block)
fits d edges block graph small k e within =
    let p : Edge → Bool = λ x. eqb (block_of d x) block in
    let ends = All-filter p (HasEndsBelow d.n) edges graph k e within in
    let weight = All-filter p (λ x. x.weight < 2 ^ 32) edges small k e within in
    let here = filter_passes p edges k e within in
    record {
      place = and_from _ _ (and_from _ _ (lt-ltb _ _ ends.0) (lt-ltb _ _ ends.1)) here;
      weight = weight;
    }

pub IsGrid-built_file : (d : Dimensions) (edges : List Edge) → AreDimensions d.n d.parts → IsGraph d.n edges → All (λ e. e.weight < 2 ^ 32) edges
    → length edges ≤ MAX_EDGES → IsGrid (built_file d edges) d.n d.parts (blocks_from d edges)
unfolding built_file
IsGrid-built_file d edges dims graph small few =
    let blocks = d.parts * d.parts in
    let size : length (blocks_from d edges) ≡ blocks = length-map-range_with_len (block_edges d edges) 0 blocks in
    let total : length (edges_of_grid (blocks_from d edges)) ≡ length edges =
    ap length (edges_of_grid-blocks_from d edges) ∙ length-joined_groups (block_of d) blocks edges (blocks_below d edges dims graph) in
    record {
      layout = refl;
      shape = dims;
      count = size;
      most = omega (arith, few);
      places = λ block. elim (cases_lt block blocks) [
        | inl within ↦ All-same (FitsBlock d block) _ _ (get_or-map-range_with_len (block_edges d edges) 0 blocks block block [] within (omega arith)) (fits d edges block graph small)
        | inr past ↦ All-same (FitsBlock d block) _ [] (get_or_past (blocks_from d edges) block [] (omega arith)) (All-nil (FitsBlock d block))
      ];
    }
