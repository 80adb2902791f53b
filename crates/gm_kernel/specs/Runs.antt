-- Synchronous rounds over all edges of a graph, and a job's lone run.
use Rattle.std.specs.Prelude.{◌≡◌, ℕ, zero, suc, ◌-◌, ◌<◌, ◌≤◌, Bool, false, ◌&&◌, ◌==◌, if◌then◌else◌, List, [], ◌∷◌, ◌++◌, length, map, slice_index, fold, find, flat_map, Option, Some, None}
use Rattle.std.specs.List.{range_with_len}
use Rattle.std.specs.Str.{bytes_eq}
use Rattle.gm_base.specs.declared.edge.Edge.{Edge}
use Rattle.gm_base.specs.declared.job.Spec.{Spec}
use Rattle.gm_base.specs.declared.job.Spec.TheVariants.{Bfs, Sssp, Wcc, Rank}
use Rattle.gm_base.specs.declared.job.Outcome.{Outcome}
use Rattle.gm_base.specs.declared.job.Outcome.TheVariants.{Done, Rounds}
use Rattle.gm_base.specs.Graph.{out_degree}
use Rattle.gm_kernel.specs.Kernels.{Kernel, kernel_of}

-- what a vertex gives over an edge of this weight; degree_of tells the out-degrees
abbrev pub gift_from : Kernel → (ℕ → ℕ) → List ℕ → ℕ → ℕ → ℕ
gift_from kernel degree_of values giver weight =
    kernel.gift_along (slice_index values giver) (degree_of giver) weight

-- what an edge gives to v: over it, and where the kernel goes both ways, back over it
abbrev pub gifts_of_edge : Kernel → (ℕ → ℕ) → List ℕ → ℕ → Edge → List ℕ
gifts_of_edge kernel degree_of values v e =
    (if e.to == v then gift_from kernel degree_of values e.from e.weight ∷ [] else [])
    ++ (if kernel.is_two_way && (e.from == v) then gift_from kernel degree_of values e.to e.weight ∷ [] else [])

-- every gift of these edges to v
abbrev pub gifts_to : Kernel → (ℕ → ℕ) → List ℕ → List Edge → ℕ → List ℕ
gifts_to kernel degree_of values edges v = flat_map (gifts_of_edge kernel degree_of values v) edges

-- a sum at v, after every gift of these edges to v was joined into it
abbrev pub joined_at : Kernel → (ℕ → ℕ) → List ℕ → List Edge → ℕ → ℕ → ℕ
joined_at kernel degree_of values edges v sum = fold kernel.join_values sum (gifts_to kernel degree_of values edges v)

-- v's value after a round: what it carries, joined with every gift to it
abbrev pub value_after_round : Kernel → List Edge → List ℕ → ℕ → ℕ
value_after_round kernel edges values v =
    joined_at kernel (out_degree edges) values edges v (kernel.carried_value (slice_index values v))

-- a synchronous round: each vertex reads the values from before it
unfoldable pub round_of : Kernel → List Edge → List ℕ → List ℕ
round_of kernel edges values = map (value_after_round kernel edges values) (range_with_len 0 (length values))

-- the values of n vertices after so many rounds
unfoldable pub values_after : Kernel → ℕ → List Edge → ℕ → List ℕ
values_after kernel n edges zero = map kernel.initial_value (range_with_len 0 n)
values_after kernel n edges (suc rounds) = round_of kernel edges (values_after kernel n edges rounds)

-- the round, counted from 1, left the values as they were
unfoldable pub is_settled_by : Kernel → ℕ → List Edge → ℕ → Bool
is_settled_by kernel n edges round = bytes_eq (values_after kernel n edges round) (values_after kernel n edges (round - 1))

abbrev pub outcome_at : Kernel → ℕ → List Edge → ℕ → Option ℕ → Outcome
outcome_at kernel n edges bound (Some round) = Done round (values_after kernel n edges round)
outcome_at kernel n edges bound None = Rounds bound

-- the first round from 1 to the bound that leaves the values as they were, or no such round
unfoldable pub settled_run : Kernel → ℕ → List Edge → ℕ → Outcome
settled_run kernel n edges bound =
    outcome_at kernel n edges bound (find (is_settled_by kernel n edges) (range_with_len 1 bound))

-- a job's lone run over a graph of n vertices: a rank job makes its rounds, any other goes on until a round changes nothing
abbrev pub lone_run : Spec → ℕ → List Edge → Outcome
lone_run (Bfs source bound) n edges = settled_run (kernel_of (Bfs source bound)) n edges bound
lone_run (Sssp source bound) n edges = settled_run (kernel_of (Sssp source bound)) n edges bound
lone_run (Wcc bound) n edges = settled_run (kernel_of (Wcc bound)) n edges bound
lone_run (Rank rounds) n edges = Done rounds (values_after (kernel_of (Rank rounds)) n edges rounds)

-- the greatest number of rounds of a job: its bound, or the rounds that a rank job makes
abbrev pub most_rounds : Spec → ℕ
most_rounds (Bfs source bound) = bound
most_rounds (Sssp source bound) = bound
most_rounds (Wcc bound) = bound
most_rounds (Rank rounds) = rounds

-- a job that goes on until a round changes nothing
abbrev pub Settles : Spec → Type 0
Settles (Bfs source bound) = Unit {0}
Settles (Sssp source bound) = Unit {0}
Settles (Wcc bound) = Unit {0}
Settles (Rank rounds) = ⊥

-- whether a job is done after this round, counted from 1
abbrev pub is_done_after : Spec → ℕ → List Edge → ℕ → Bool
is_done_after (Bfs source bound) n edges round = is_settled_by (kernel_of (Bfs source bound)) n edges round
is_done_after (Sssp source bound) n edges round = is_settled_by (kernel_of (Sssp source bound)) n edges round
is_done_after (Wcc bound) n edges round = is_settled_by (kernel_of (Wcc bound)) n edges round
is_done_after (Rank rounds) n edges round = round == rounds

-- no round before this one, counted from 1, passes the test
abbrev pub NoneBefore : (ℕ → Bool) → ℕ → Type 0
NoneBefore test round = (earlier : ℕ) → 1 ≤ earlier → earlier < round → test earlier ≡ false
