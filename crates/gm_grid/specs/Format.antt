-- The grid's file format: GridGraph's grid, the edges block by block behind a head and an index. All numbers are little-endian.
use Rattle.std.specs.Prelude.{◌≡◌, ℕ, ◌*◌, ◌^◌, ◌<◌, ◌≤◌, Bool, ◌&&◌, ◌==◌, nat_lt, nat_le, IsTrue, List, [], ◌++◌, length, slice_index_or, All, flat_map, codes}
use Rattle.byteorder.specs.Endian.{little_bytes}
use Rattle.gm_base.specs.declared.edge.Edge.{Edge}
use Rattle.gm_base.specs.Dimensions.{Dimensions, AreDimensions, block_of}
use Rattle.gm_grid.specs.declared.placement.BlockRanges.{BlockRanges}
use Rattle.gm_grid.specs.declared.sizes.TheConstants.{ENTRY_SIZE}
use Rattle.gm_base.specs.declared.limits.TheConstants.{MAX_EDGES}

-- what a grid's file begins with
abbrev pub magic : List ℕ
magic = codes "GGRID001"

abbrev pub head_bytes : ℕ → ℕ → List ℕ
head_bytes n parts = magic ++ (little_bytes 4 n ++ little_bytes 4 parts)

-- how many edges a block has
abbrev pub count_bytes : ℕ → List ℕ
count_bytes count = little_bytes ENTRY_SIZE count

-- the number of edges of each block, row by row
abbrev pub index_bytes : List (List Edge) → List ℕ
index_bytes blocks = flat_map (λ edges. count_bytes (length edges)) blocks

abbrev pub edge_bytes : Edge → List ℕ
edge_bytes e = little_bytes 4 e.from ++ (little_bytes 4 e.to ++ little_bytes 4 e.weight)

-- all edges, block by block
abbrev pub edges_of_grid : List (List Edge) → List Edge
edges_of_grid blocks = flat_map (λ edges. edges) blocks

-- the file of a grid
abbrev pub grid_bytes : ℕ → ℕ → List (List Edge) → List ℕ
grid_bytes n parts blocks = head_bytes n parts ++ (index_bytes blocks ++ flat_map edge_bytes (edges_of_grid blocks))

abbrev pub dimensions_of : ℕ → ℕ → Dimensions
dimensions_of n parts = record { n = n; parts = parts }

-- both ends are vertices, and the edge lies in this block
abbrev pub is_in_block : Dimensions → ℕ → Edge → Bool
is_in_block d block e = nat_lt e.from d.n && nat_lt e.to d.n && (block_of d e == block)

-- the edge's ends are in a block's ranges
abbrev pub is_within : BlockRanges → Edge → Bool
is_within ranges e =
    nat_le ranges.first_source e.from && nat_lt e.from ranges.end_source
    && nat_le ranges.first_destination e.to && nat_lt e.to ranges.end_destination

-- what is within these ranges is what lies in the block
abbrev pub AreRangesOf : Dimensions → ℕ → BlockRanges → Type 0
AreRangesOf d block ranges = (e : Edge) → is_within ranges e ≡ is_in_block d block e

-- an edge that may stand in this block of a file
pub record FitsBlock (d : Dimensions) (block : ℕ) (e : Edge) : Type 0 where
  pub place : IsTrue (is_in_block d block e)
  pub weight : e.weight < 2 ^ 32

-- the bytes are the file of the grid with so many vertices and ranges and these blocks
pub record IsGrid (bytes : List ℕ) (n parts : ℕ) (blocks : List (List Edge)) : Type 0 where
  pub layout : bytes ≡ grid_bytes n parts blocks
  pub shape : AreDimensions n parts
  pub count : length blocks ≡ parts * parts
  pub most : length (edges_of_grid blocks) ≤ MAX_EDGES
  pub places : (block : ℕ) → All (FitsBlock (dimensions_of n parts) block) (slice_index_or blocks block [])
