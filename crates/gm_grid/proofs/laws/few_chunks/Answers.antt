use Rattle.std.proofs.Common.{ℕ, ◌+◌, ◌*◌, ◌/◌, ◌≤◌, List, [], ◌∷◌, length, sum, refl, arith}
use Rattle.std.proofs.Math.Nat.{div-mul-le_self, mul-le-mul_left}
use Rattle.std.proofs.lemmas.Bool.{le-ltb}
use Rattle.std.proofs.lemmas.List.Sums.{sum_by-cons}
use Rattle.gm_base.specs.declared.limits.TheConstants.{MAX_CHUNKS}
use Rattle.gm_base.specs.ChunkCounts.{block_chunk_count, chunk_count}
use Rattle.gm_grid.proofs.laws.few_chunks.Goals as goal

-- a block has at most one chunk more than it has 32 edges
few_of_block : (chunk_size count : ℕ) → 32 ≤ chunk_size → 32 * block_chunk_count chunk_size count ≤ count + 32
few_of_block chunk_size count large =
    let full : count / chunk_size * chunk_size ≤ count = div-mul-le_self count chunk_size in
    let less = mul-le-mul_left (count / chunk_size) large in
    omega arith

few : (chunk_size : ℕ) (counts : List ℕ) → 32 ≤ chunk_size → 32 * chunk_count chunk_size counts ≤ sum counts + 32 * length counts
few chunk_size [] large = omega arith
few chunk_size (count ∷ counts) large =
    omega (arith, few_of_block chunk_size count large, few chunk_size counts large, sum_by-cons (block_chunk_count chunk_size) count counts, sum_by-cons (λ x. x) count counts)

pub returns : goal.returns
returns c chunk_size counts large edges blocks =
    rw (le-ltb MAX_CHUNKS (chunk_count chunk_size counts) (omega (arith, few chunk_size counts large))) refl
