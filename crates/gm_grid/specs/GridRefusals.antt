-- Which bytes are refused as a grid, and for what: the first that applies, in the order of `grid_refusal`.
use Rattle.std.specs.Prelude.{◌≡◌, ℕ, ◌==◌, not, nat_lt, if◌then◌else◌, Bool, List, length, take, sum, bytes_eq, Option, Some, None, option_map}
use Rattle.std.specs.List.{position}
use Rattle.std.specs.Option.{option_or}
use Rattle.gm_base.specs.declared.edge.Edge.{Edge}
use Rattle.gm_base.specs.declared.limits.TheConstants.{MAX_EDGES, MAX_CHUNKS}
use Rattle.gm_base.specs.ChunkCounts.{chunk_count}
use Rattle.gm_base.specs.Dimensions.{Dimensions, are_dimensions}
use Rattle.gm_grid.specs.declared.grid_error.GridError.{GridError}
use Rattle.gm_grid.specs.declared.grid_error.GridError.TheVariants.{BadMagic, BadShape, TooManyEdges, BadSize, TooManyChunks, BadEdge}
use Rattle.gm_grid.specs.declared.sizes.TheConstants.{HEAD_SIZE}
use Rattle.gm_grid.specs.Format.{magic, is_in_block}
use Rattle.gm_grid.specs.GridBytes.{shape_of_head, blocks_of, placed_edges, index_end, grid_file_size, shape_in, counts_in, edges_in}

-- why a file of so many bytes, which should have so many at least, is no grid
abbrev pub short_refusal : ℕ → ℕ → Option GridError
short_refusal size least = if nat_lt size least then Some (BadSize size least) else None

-- why these bytes are no head
unfoldable pub head_refusal : List ℕ → Option GridError
head_refusal head =
    let d = shape_of_head head in
    if not (bytes_eq (take 8 head) magic) then Some BadMagic
    else if not (are_dimensions d.n d.parts) then Some (BadShape d.n d.parts)
    else None

-- why blocks of so many edges each are no grid
abbrev pub index_refusal : List ℕ → Option GridError
index_refusal counts = if nat_lt MAX_EDGES (sum counts) then Some (TooManyEdges (sum counts)) else None

-- why a file of so many bytes, which should have so many, is no grid
abbrev pub size_refusal : ℕ → ℕ → Option GridError
size_refusal size expected = if size == expected then None else Some (BadSize size expected)

-- an edge that may not stand in this block
abbrev pub is_misplaced : Dimensions → ℕ × Edge → Bool
is_misplaced d placed = not (is_in_block d placed.0 placed.1)

-- what a file's length and its head refuse
abbrev pub refusal_by_head : ℕ → List ℕ → Option GridError
refusal_by_head size head =
    option_or (short_refusal size HEAD_SIZE) (option_or (head_refusal head) (short_refusal size (index_end (shape_of_head head))))

-- what the numbers of its blocks' edges refuse with its length
abbrev pub refusal_by_index : ℕ → List ℕ → Option GridError
refusal_by_index size counts = option_or (index_refusal counts) (size_refusal size (grid_file_size (length counts) (sum counts)))

-- the head refuses nothing, and the index neither
abbrev pub HasGoodHead : List ℕ → Type 0
HasGoodHead bytes = refusal_by_head (length bytes) (take HEAD_SIZE bytes) ≡ None

abbrev pub HasGoodIndex : List ℕ → Type 0
HasGoodIndex bytes = refusal_by_index (length bytes) (counts_in bytes) ≡ None

-- what they refuse where chunks have this size
abbrev pub refusal_by_chunks : ℕ → List ℕ → Option GridError
refusal_by_chunks chunk_size counts =
    if nat_lt MAX_CHUNKS (chunk_count chunk_size counts) then Some (TooManyChunks (chunk_count chunk_size counts)) else None

-- what its edges refuse: the first that isn't in its block
unfoldable pub refusal_by_edges : Dimensions → List ℕ → List Edge → Option GridError
refusal_by_edges d counts edges = option_map BadEdge (position (is_misplaced d) (placed_edges 0 (blocks_of counts edges)))

-- why these bytes are no grid that can be cut into chunks of this size
unfoldable pub grid_refusal : ℕ → List ℕ → Option GridError
grid_refusal chunk_size bytes =
    option_or (refusal_by_head (length bytes) (take HEAD_SIZE bytes))
    (option_or (refusal_by_index (length bytes) (counts_in bytes))
    (option_or (refusal_by_chunks chunk_size (counts_in bytes))
    (refusal_by_edges (shape_in bytes) (counts_in bytes) (edges_in bytes))))
