-- Which vertices may change something by their gifts in a round, and the edges over which none of them gives.
use Rattle.std.specs.Prelude.{◌≡◌, ℕ, ◌-◌, ◌≤◌, Bool, true, false, not, ◌==◌, if◌then◌else◌, List, ◌++◌, slice_index, All}
use Rattle.gm_base.specs.declared.limits.TheConstants.{TOP}
use Rattle.gm_base.specs.declared.edge.Edge.{Edge}
use Rattle.gm_base.specs.Graph.{IsSameGraph, out_degree}
use Rattle.gm_base.specs.declared.job.Spec.{Spec}
use Rattle.gm_base.specs.declared.job.Spec.TheVariants.{Bfs, Sssp, Wcc, Rank}
use Rattle.gm_kernel.specs.Kernels.{Kernel, kernel_of, share_of}
use Rattle.gm_kernel.specs.KernelLaws.{GivesTheSame}
use Rattle.gm_kernel.specs.Runs.{round_of, values_after}

-- before the first round a vertex that is reached, later one whose value the last round changed from the older one
abbrev pub is_active_by_value : Bool → ℕ → ℕ → Bool
is_active_by_value first older old = if first then not (old == TOP) else not (old == older)

-- a vertex whose edges give more than 0; without edges it gives nothing
abbrev pub has_share : ℕ → ℕ → Bool
has_share rank degree = not (share_of rank degree == 0)

-- a job's test of a vertex: whether the round is the first, the value one round earlier (before the first round, any), the value as the round begins, the out-degree
abbrev pub activity_of : Spec → Bool → ℕ → ℕ → ℕ → Bool
activity_of (Bfs source bound) first older old degree = is_active_by_value first older old
activity_of (Sssp source bound) first older old degree = is_active_by_value first older old
activity_of (Wcc bound) first older old degree = is_active_by_value first older old
activity_of (Rank rounds) first older old degree = has_share old degree

-- what a test of activity says of a vertex in a round
abbrev pub active_at : (Bool → ℕ → ℕ → ℕ → Bool) → Bool → List ℕ → List ℕ → (ℕ → ℕ) → ℕ → Bool
active_at is_active first older values degree_of u = is_active first (slice_index older u) (slice_index values u) (degree_of u)

-- the same in a job's round, counted from 0, over a graph of n vertices
abbrev pub active_in_round : Spec → ℕ → List Edge → (ℕ → ℕ) → ℕ → ℕ → Bool
active_in_round spec n edges degree_of round =
    active_at (activity_of spec) (round == 0) (values_after (kernel_of spec) n edges (round - 1)) (values_after (kernel_of spec) n edges round) degree_of

-- no vertex that gives over this edge is active: neither its source nor, where the kernel goes both ways, its destination
pub record IsQuiet (kernel : Kernel) (active : ℕ → Bool) (e : Edge) : Type 0 where
  pub source : active e.from ≡ false
  pub destination : kernel.is_two_way ≡ true → active e.to ≡ false

-- what is known of a round that skips some of the edges: out-degrees come from a function with which vertices give the same, no value is
-- above TOP, after the first round the values are the round of the older ones over the same graph, the edges that are kept and those
-- that are skipped are all of the graph, and over none that is skipped does an active vertex give
pub record SkipsQuietEdges (kernel : Kernel) (is_active : Bool → ℕ → ℕ → ℕ → Bool) (degree_of : ℕ → ℕ) (first : Bool)
    (older values : List ℕ) (edges past kept skipped : List Edge) : Type 0 where
  pub degrees : GivesTheSame kernel degree_of (out_degree edges)
  pub within_top : All (λ x. x ≤ TOP) values
  pub same_past : IsSameGraph past edges
  pub follows : first ≡ false → values ≡ round_of kernel past older
  pub all_edges : IsSameGraph edges (kept ++ skipped)
  pub quiet : All (IsQuiet kernel (active_at is_active first older values degree_of)) skipped
