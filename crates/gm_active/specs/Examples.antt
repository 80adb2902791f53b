-- Small grids in chunks of one edge, and what jobs need of them round by round, as it was worked out by hand.
use Rattle.std.specs.Prelude.{ℕ, Bool, List, [], ◌∷◌}
use Rattle.gm_base.specs.declared.edge.Edge.{Edge}
use Rattle.gm_base.specs.declared.copies.Tag.TheVariants.{Update}
use Rattle.gm_base.specs.declared.job.Spec.{Spec}
use Rattle.gm_base.specs.Graph.{edge, out_degree}
use Rattle.gm_base.specs.Examples.{path_with_shortcut}
use Rattle.gm_label.specs.declared.chunk.Overlay.{Overlay}
use Rattle.gm_label.specs.Catalogues.{Catalogue, catalogue_of}
use Rattle.gm_label.specs.Examples.{two_ranges, path_counts}
use Rattle.gm_kernel.specs.Kernels.{kernel_of}
use Rattle.gm_kernel.specs.Activity.{active_in_round}
use Rattle.gm_active.specs.Needs.{needed_chunks_under, counted_chunks_under}

-- a path with a shortcut: 0 to 1; 1 to 2 and 0 to 2 in one block; a chunk without edges; 2 to 3
abbrev pub path_chunks : Catalogue
path_chunks = catalogue_of two_ranges 1 path_counts path_with_shortcut

-- vertex 1 is joined to the others only against the direction of edges: a chunk without edges; 1 to 2; 3 to 0; 3 to 2
abbrev pub backward_blocks : List Edge
backward_blocks = edge 1 2 1 ∷ edge 3 0 1 ∷ edge 3 2 1 ∷ []

abbrev pub backward_chunks : Catalogue
backward_chunks = catalogue_of two_ranges 1 (0 ∷ 1 ∷ 1 ∷ 1 ∷ []) backward_blocks

-- sources that an update adds to a chunk
abbrev pub overlay_adding : ℕ → List ℕ → Overlay
overlay_adding chunk sources = record { key = record { chunk = chunk; tag = Update 1 }; added = sources }

-- what a job over these edges needs in a round, counted from 0
abbrev pub needed_in_round : Catalogue → List Overlay → Spec → List Edge → ℕ → List Bool
needed_in_round cat overlays spec edges round =
    needed_chunks_under cat overlays (kernel_of spec).is_two_way (active_in_round spec cat.dimensions.n edges (out_degree edges) round)

-- what a job needs where it counts out-degrees
abbrev pub needed_to_count : Catalogue → List Overlay → List Bool
needed_to_count = counted_chunks_under
