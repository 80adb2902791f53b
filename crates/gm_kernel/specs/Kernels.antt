-- The four kernels of jobs: what a vertex begins with, what it carries into a round, what an edge gives, how gifts are joined.
use Rattle.std.specs.Prelude.{ℕ, ◌+◌, ◌*◌, ◌/◌, min, Bool, true, false, ◌==◌, if◌then◌else◌}
use Rattle.gm_base.specs.declared.limits.TheConstants.{TOP}
use Rattle.gm_kernel.specs.declared.kernel.TheConstants.{MAX_RANK}
use Rattle.gm_base.specs.declared.job.Spec.{Spec}
use Rattle.gm_base.specs.declared.job.Spec.TheVariants.{Bfs, Sssp, Wcc, Rank}

-- a sum that would be TOP or more is TOP
abbrev pub sum_to_top : ℕ → ℕ → ℕ
sum_to_top a b = min (a + b) TOP

-- what each edge from a vertex with this rank and this out-degree gives: 0.85 of the rank over the degree, rounded down, and nothing without edges
abbrev pub share_of : ℕ → ℕ → ℕ
share_of rank degree = if degree == 0 then 0 else (85 * rank) / (100 * degree)

-- a kernel by its functions
pub record Kernel : Type 0 where
  -- of a vertex
  pub initial_value : ℕ → ℕ
  -- of a vertex's value, into the next round
  pub carried_value : ℕ → ℕ
  -- of the giver's value, the giver's out-degree and the edge's weight
  pub gift_along : ℕ → ℕ → ℕ → ℕ
  pub join_values : ℕ → ℕ → ℕ
  -- whether an edge also gives against its direction
  pub is_two_way : Bool

-- a kernel that keeps the least value, by what its vertices begin with and what they give by their value and the edge's weight:
-- a vertex carries its value, and takes a gift that is less
abbrev pub least_kernel : (ℕ → ℕ) → (ℕ → ℕ → ℕ) → Bool → Kernel
least_kernel initial gift two_way =
    record {
      initial_value = initial;
      carried_value = λ x. x;
      gift_along = λ x degree weight. gift x weight;
      join_values = min;
      is_two_way = two_way;
    }

-- 0 at the source, and no other vertex is reached
abbrev pub from_source : ℕ → ℕ → ℕ
from_source source v = if v == source then 0 else TOP

-- the kernel of a job
abbrev pub kernel_of : Spec → Kernel
kernel_of (Bfs source bound) = least_kernel (from_source source) (λ x weight. sum_to_top x 1) false
kernel_of (Sssp source bound) = least_kernel (from_source source) (λ x weight. sum_to_top x weight) false
kernel_of (Wcc bound) = least_kernel (λ v. v) (λ x weight. x) true
kernel_of (Rank rounds) =
    record {
      initial_value = λ v. 1000000000;
      carried_value = λ x. 150000000;
      gift_along = λ x degree weight. share_of x degree;
      join_values = λ a b. min (a + b) MAX_RANK;
      is_two_way = false;
    }
