-- Which chunks a job needs in a round: GridGraph's selective scheduling, chunk by chunk.
use Rattle.std.specs.Prelude.{ℕ, ◌+◌, ◌*◌, ◌%◌, min, Bool, true, false, ◌&&◌, ◌||◌, List, [], ◌∷◌, map, length}
use Rattle.std.specs.List.{list_any, range_with_len}
use Rattle.gm_base.specs.Dimensions.{Dimensions, width_of}
use Rattle.gm_label.specs.declared.chunk.Overlay.{Overlay}
use Rattle.gm_label.specs.Catalogues.{Catalogue, place_at}
use Rattle.gm_label.specs.Overlays.{sources_under}
use Rattle.gm_active.specs.Bits.{any_between}

-- the destinations of a block's edges are those from here on ..
abbrev pub first_destination_of : Dimensions → ℕ → ℕ
first_destination_of d block = block % d.parts * width_of d

-- .. that are below this one: the block's column
abbrev pub end_destination_of : Dimensions → ℕ → ℕ
end_destination_of d block = min (first_destination_of d block + width_of d) d.n

-- a chunk without a source is never needed
abbrev pub has_source : List ℕ → Bool
has_source [] = false
has_source (source ∷ sources) = true

-- a chunk of this block with these sources is needed in a round where one of the sources is active, or, for a kernel that goes both
-- ways, where the block's column has an active vertex
abbrev pub is_needed : Dimensions → Bool → (ℕ → Bool) → ℕ → List ℕ → Bool
is_needed d is_two_way is_active block sources =
    has_source sources
    && (list_any is_active sources || (is_two_way && any_between is_active (first_destination_of d block) (end_destination_of d block)))

-- for each of so many chunks, by their blocks and their sources, whether it is needed in a round
abbrev pub needed_chunks : Dimensions → Bool → (ℕ → Bool) → ℕ → (ℕ → ℕ) → (ℕ → List ℕ) → List Bool
needed_chunks d is_two_way is_active chunks block_at sources_at =
    map (λ c. is_needed d is_two_way is_active (block_at c) (sources_at c)) (range_with_len 0 chunks)

-- .. and whether it is needed where out-degrees are counted: every chunk with a source
abbrev pub counted_chunks : ℕ → (ℕ → List ℕ) → List Bool
counted_chunks chunks sources_at = map (λ c. has_source (sources_at c)) (range_with_len 0 chunks)

-- whether a vertex of a block's column is active and counts, which it does for a kernel that goes both ways
abbrev pub is_column_active : Dimensions → Bool → (ℕ → Bool) → ℕ → Bool
is_column_active d is_two_way is_active block = is_two_way && any_between is_active (first_destination_of d block) (end_destination_of d block)

-- the needed chunks of a catalogue under overlays, where these vertices are active ..
abbrev pub needed_chunks_under : Catalogue → List Overlay → Bool → (ℕ → Bool) → List Bool
needed_chunks_under cat overlays is_two_way is_active =
    needed_chunks cat.dimensions is_two_way is_active (length cat.places) (λ c. (place_at cat c).block) (sources_under cat overlays)

-- .. and those over which out-degrees are counted
abbrev pub counted_chunks_under : Catalogue → List Overlay → List Bool
counted_chunks_under cat overlays = counted_chunks (length cat.places) (sources_under cat overlays)
