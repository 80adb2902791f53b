-- How many chunks of one size a grid is cut into.
use Rattle.std.specs.Prelude.{ℕ, max, List, sum_by}
use Rattle.std.specs.Int.{div_ceil}

-- a block of so many edges: at least one
abbrev pub block_chunk_count : ℕ → ℕ → ℕ
block_chunk_count chunk_size count = max 1 (div_ceil count chunk_size)

-- blocks of so many edges each
abbrev pub chunk_count : ℕ → List ℕ → ℕ
chunk_count chunk_size counts = sum_by (block_chunk_count chunk_size) counts
