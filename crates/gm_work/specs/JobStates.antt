-- A job between its passes: what it knows of its chunks, and what a pass and the end of a phase make of it.
use Rattle.std.specs.Prelude.{ℕ, zero, suc, ◌+◌, ◌-◌, min, Bool, true, false, ◌==◌, if◌then◌else◌, List, map, slice_index, slice_set}
use Rattle.std.specs.List.{list_any, range_with_len}
use Rattle.std.specs.Str.{bytes_eq}
use Rattle.gm_base.specs.declared.edge.Edge.{Edge}
use Rattle.gm_base.specs.declared.job.Spec.{Spec}
use Rattle.gm_base.specs.declared.job.Spec.TheVariants.{Bfs, Sssp, Wcc, Rank}
use Rattle.gm_base.specs.declared.job.Outcome.TheVariants.{Done, Rounds}
use Rattle.gm_base.specs.Dimensions.{Dimensions}
use Rattle.gm_base.specs.Graph.{out_degree}
use Rattle.gm_rank.specs.declared.passes.TheConstants.{MAX_DEGREE}
use Rattle.gm_kernel.specs.Kernels.{Kernel, kernel_of}
use Rattle.gm_kernel.specs.Runs.{joined_at, most_rounds}
use Rattle.gm_kernel.specs.Activity.{activity_of, active_at}
use Rattle.gm_kernel.specs.Standings.{Turning, then_turning}
use Rattle.gm_kernel.specs.Standings.Turning.{Goes, Ends}
use Rattle.gm_active.specs.Needs.{needed_chunks, counted_chunks}
use Rattle.gm_kernel.specs.declared.phase.Phase.{Phase}
use Rattle.gm_kernel.specs.declared.phase.Phase.TheVariants.{Counting, Round}

-- what a job knows: what it computes, over how many vertices, and of each chunk the block and the sources as the job sees them
pub record JobContext : Type 0 where
  pub spec : Spec
  pub dimensions : Dimensions
  pub chunks : ℕ
  pub block_at : ℕ → ℕ
  pub sources_at : ℕ → List ℕ

-- a job that runs: its phase, the values as the round began, the sums of what was passed in it, the out-degrees as far as they were
-- counted, and for each chunk whether it is owed
pub record JobState : Type 0 where
  pub phase : Phase
  pub values : List ℕ
  pub sums : List ℕ
  pub degrees : List ℕ
  pub owed : List Bool

abbrev pub kernel_in : JobContext → Kernel
kernel_in k = kernel_of k.spec

-- a number for each vertex
abbrev pub each_vertex : JobContext → (ℕ → ℕ) → List ℕ
each_vertex k f = map f (range_with_len 0 k.dimensions.n)

-- a rank job alone looks at out-degrees
abbrev pub counts_degrees : Spec → Bool
counts_degrees (Bfs source bound) = false
counts_degrees (Sssp source bound) = false
counts_degrees (Wcc bound) = false
counts_degrees (Rank rounds) = true

abbrev pub initial_values : JobContext → List ℕ
initial_values k = each_vertex k (kernel_in k).initial_value

-- the sums before the first pass of a round from these values
abbrev pub carried_values : JobContext → List ℕ → List ℕ
carried_values k values = each_vertex k (λ v. (kernel_in k).carried_value (slice_index values v))

-- the chunks that a round needs: whether it is the first one, the values one round earlier, the values, the out-degrees
abbrev pub needed_chunks_of : JobContext → Bool → List ℕ → List ℕ → List ℕ → List Bool
needed_chunks_of k first older values degrees =
    needed_chunks k.dimensions (kernel_in k).is_two_way (active_at (activity_of k.spec) first older values (slice_index degrees)) k.chunks k.block_at k.sources_at

-- .. and those over which out-degrees are counted
abbrev pub counted_chunks_of : JobContext → List Bool
counted_chunks_of k = counted_chunks k.chunks k.sources_at

-- before the first pass: a rank job begins by counting out-degrees, any other with its first round
abbrev pub first_state : JobContext → JobState
first_state k =
    let values = initial_values k in
    let none = each_vertex k (λ u. 0) in
    record {
      phase = if counts_degrees k.spec then Counting 0 else Round 0;
      values = values;
      sums = carried_values k values;
      degrees = none;
      owed = if counts_degrees k.spec then counted_chunks_of k else needed_chunks_of k true values values none;
    }

-- out-degrees with these edges counted too; a count stops at the greatest number of 32 bits
abbrev pub degrees_with : JobContext → List Edge → List ℕ → List ℕ
degrees_with k edges degrees = each_vertex k (λ u. min (slice_index degrees u + out_degree edges u) MAX_DEGREE)

-- sums with these edges' gifts joined in too
abbrev pub sums_with : JobContext → List ℕ → List ℕ → List Edge → List ℕ → List ℕ
sums_with k degrees values edges sums =
    each_vertex k (λ v. joined_at (kernel_in k) (slice_index degrees) values edges v (slice_index sums v))

-- a pass over an owed chunk whose edges are these
abbrev pub state_after_pass_in : Phase → JobContext → JobState → ℕ → List Edge → JobState
state_after_pass_in (Counting r) k e chunk edges = record e { degrees = degrees_with k edges e.degrees; owed = slice_set e.owed chunk false }
state_after_pass_in (Round r) k e chunk edges = record e { sums = sums_with k e.degrees e.values edges e.sums; owed = slice_set e.owed chunk false }

abbrev pub state_after_pass : JobContext → JobState → ℕ → List Edge → JobState
state_after_pass k e chunk edges = state_after_pass_in e.phase k e chunk edges

-- whether a job is done after a round, counted from 1, by the values before and after it
abbrev pub is_done_by : Spec → ℕ → List ℕ → List ℕ → Bool
is_done_by (Bfs source bound) round before after = bytes_eq after before
is_done_by (Sssp source bound) round before after = bytes_eq after before
is_done_by (Wcc bound) round before after = bytes_eq after before
is_done_by (Rank rounds) round before after = round == rounds

-- after the counting the first round begins. After a round the sums are the values, and the job is done, or has made all its rounds,
-- or begins the next one
abbrev pub phase_end_in : Phase → JobContext → JobState → Turning JobState
phase_end_in (Counting r) k e = Goes (record e { phase = Round r; owed = needed_chunks_of k (r == 0) e.values e.values e.degrees })
phase_end_in (Round r) k e =
    if is_done_by k.spec (r + 1) e.values e.sums then Ends (Done (r + 1) e.sums)
    else if r + 1 == most_rounds k.spec then Ends (Rounds (r + 1))
    else Goes (record {
      phase = Round (r + 1);
      values = e.sums;
      sums = carried_values k e.sums;
      degrees = e.degrees;
      owed = needed_chunks_of k false e.values e.sums e.degrees;
    })

abbrev pub phase_end_of : JobContext → JobState → Turning JobState
phase_end_of k e = phase_end_in e.phase k e

-- whether some chunk is owed
abbrev pub owes_any : List Bool → Bool
owes_any owed = list_any (λ o. o) owed

-- how many phases there are at most from this one on
abbrev pub phases_left : Spec → Phase → ℕ
phases_left spec (Counting r) = most_rounds spec - r + 1
phases_left spec (Round r) = most_rounds spec - r

-- where so many phases may end: as long as nothing is owed, the phase ends, and what it led to is turned again
abbrev pub until_owed : {S T : Type 0} → (S → T) → (S → List Bool) → (S → T) → ((S → T) → T → T) → ℕ → S → T
until_owed goes owed ended again zero s = goes s
until_owed goes owed ended again (suc more) s =
    if owes_any (owed s) then goes s
    else again (until_owed goes owed ended again more) (ended s)

abbrev pub turning_within : ℕ → JobContext → JobState → Turning JobState
turning_within phases k e = until_owed Goes (λ f. f.owed) (phase_end_of k) then_turning phases e

abbrev pub turning_of : JobContext → JobState → Turning JobState
turning_of k e = turning_within (phases_left k.spec e.phase) k e
