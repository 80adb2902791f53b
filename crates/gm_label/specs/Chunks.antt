-- Chunks: each block's edges, in the order of the file, cut into pieces of one size, the last one smaller. A block without edges has one
-- chunk without edges. Chunks are numbered through from 0, block by block.
use Rattle.std.specs.Prelude.{ℕ, zero, suc, ◌+◌, ◌-◌, ◌*◌, ◌/◌, ◌≡◌, true, false, nat_lt, if◌then◌else◌, List, [], ◌∷◌, ◌++◌, take, drop, Option, Some, None, All}
use Rattle.gm_base.specs.declared.edge.Edge.{Edge}
use Rattle.gm_base.specs.declared.limits.TheConstants.{MAX_CHUNKS}
use Rattle.gm_base.specs.ChunkCounts.{chunk_count}
use Rattle.gm_base.specs.Dimensions.{Dimensions, block_of}
use Rattle.gm_label.specs.declared.chunk.Place.{Place}

-- so many full chunks, and then the last one with the rest
abbrev pub cut_rest : ℕ → ℕ → ℕ → ℕ → ℕ → List Place
cut_rest size block first rest zero = record { block = block; first = first; count = rest; is_last = true } ∷ []
cut_rest size block first rest (suc more) =
    record { block = block; first = first; count = size; is_last = false } ∷ cut_rest size block (first + size) rest more

-- how many of a block's chunks stand before its last
abbrev pub before_last : ℕ → ℕ → ℕ
before_last size count = (count - 1) / size

-- the chunks of a block of so many edges, the first of which has this number in the file
abbrev pub chunks_of_block : ℕ → ℕ → ℕ → ℕ → List Place
chunks_of_block size block first count = cut_rest size block first (count - size * before_last size count) (before_last size count)

abbrev pub chunks_from : ℕ → ℕ → ℕ → List ℕ → List Place
chunks_from size block first [] = []
chunks_from size block first (count ∷ counts) =
    chunks_of_block size block first count ++ chunks_from size (block + 1) (first + count) counts

-- the chunks of a grid whose blocks have so many edges
abbrev pub chunks_of : ℕ → List ℕ → List Place
chunks_of size counts = chunks_from size 0 0 counts

-- how many chunks are refused as too many
abbrev pub too_many_chunks : ℕ → List ℕ → Option ℕ
too_many_chunks size counts = if nat_lt MAX_CHUNKS (chunk_count size counts) then Some (chunk_count size counts) else None

-- a chunk's edges
abbrev pub base_of : List Edge → Place → List Edge
base_of edges place = take place.count (drop place.first edges)

-- cut by these counts, each edge lies in its block, counted from this one
abbrev pub AreInBlocks : Dimensions → ℕ → List ℕ → List Edge → Type 0
AreInBlocks d block [] edges = Unit {0}
AreInBlocks d block (count ∷ counts) edges =
    All (λ e. block_of d e ≡ block) (take count edges) × AreInBlocks d (block + 1) counts (drop count edges)
