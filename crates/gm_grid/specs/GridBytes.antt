-- What the bytes of a grid's file tell, piece by piece: its shape, the number of edges of each block, and its edges.
use Rattle.std.specs.Prelude.{ℕ, ◌+◌, ◌*◌, ◌/◌, List, [], ◌∷◌, ◌++◌, length, take, drop, map}
use Rattle.std.specs.Simd.{first_chunks}
use Rattle.byteorder.specs.Endian.{little_number}
use Rattle.gm_base.specs.declared.edge.Edge.{Edge}
use Rattle.gm_base.specs.Dimensions.{Dimensions}
use Rattle.gm_base.specs.Graph.{edge}
use Rattle.gm_grid.specs.declared.sizes.TheConstants.{HEAD_SIZE, ENTRY_SIZE, EDGE_SIZE}
use Rattle.gm_grid.specs.Format.{dimensions_of}

-- the shape that a head tells
abbrev pub shape_of_head : List ℕ → Dimensions
shape_of_head head = dimensions_of (little_number 4 (drop 8 head)) (little_number 4 (drop 12 head))

-- the entries of the index, as many as there are
abbrev pub counts_of_index : List ℕ → List ℕ
counts_of_index bytes = map (little_number ENTRY_SIZE) (first_chunks ENTRY_SIZE (length bytes / ENTRY_SIZE) bytes)

abbrev pub edge_of_bytes : List ℕ → Edge
edge_of_bytes bytes = edge (little_number 4 bytes) (little_number 4 (drop 4 bytes)) (little_number 4 (drop 8 bytes))

-- the edges of these bytes, as many as there are
abbrev pub edges_of_bytes : List ℕ → List Edge
edges_of_bytes bytes = map edge_of_bytes (first_chunks EDGE_SIZE (length bytes / EDGE_SIZE) bytes)

-- these edges cut into blocks of so many each
abbrev pub blocks_of : List ℕ → List Edge → List (List Edge)
blocks_of [] edges = []
blocks_of (count ∷ counts) edges = take count edges ∷ blocks_of counts (drop count edges)

-- the edges of these blocks, each with the number of its block, counted from this one
abbrev pub placed_edges : ℕ → List (List Edge) → List (ℕ × Edge)
placed_edges block [] = []
placed_edges block (edges ∷ blocks) = map (λ e. (block, e)) edges ++ placed_edges (block + 1) blocks

-- how many bytes the index has, and how many stand before the first edge
abbrev pub index_size : Dimensions → ℕ
index_size d = ENTRY_SIZE * (d.parts * d.parts)

abbrev pub index_end : Dimensions → ℕ
index_end d = HEAD_SIZE + index_size d

-- how many bytes the file of so many blocks and edges has
abbrev pub grid_file_size : ℕ → ℕ → ℕ
grid_file_size blocks edges = HEAD_SIZE + ENTRY_SIZE * blocks + EDGE_SIZE * edges

-- what a whole file tells
abbrev pub shape_in : List ℕ → Dimensions
shape_in bytes = shape_of_head (take HEAD_SIZE bytes)

abbrev pub counts_in : List ℕ → List ℕ
counts_in bytes = counts_of_index (take (index_size (shape_in bytes)) (drop HEAD_SIZE bytes))

abbrev pub edges_in : List ℕ → List Edge
edges_in bytes = edges_of_bytes (drop (index_end (shape_in bytes)) bytes)

abbrev pub blocks_in : List ℕ → List (List Edge)
blocks_in bytes = blocks_of (counts_in bytes) (edges_in bytes)
