-- Jobs over the path 0 1 2 3 with a shortcut from 0 to 2, cut into chunks of one edge, by what each of their phases needs.
use Rattle.std.specs.Prelude.{ℕ, zero, suc, ◌+◌, Bool, true, false, not, ◌&&◌, if◌then◌else◌, List, [], ◌∷◌, drop, length, Option, Some, option_map, slice_index}
use Rattle.std.specs.List.{list_any}
use Rattle.gm_base.specs.declared.copies.Key.{Key}
use Rattle.gm_base.specs.declared.copies.Tag.TheVariants.{Update as UpdateTag}
use Rattle.gm_base.specs.declared.limits.TheConstants.{TOP}
use Rattle.gm_base.specs.declared.job.Outcome.{Outcome}
use Rattle.gm_base.specs.declared.job.Outcome.TheVariants.{Done}
use Rattle.gm_base.specs.declared.job.Spec.TheVariants.{Bfs, Rank}
use Rattle.gm_jobs.specs.declared.script.Line.{Line}
use Rattle.gm_jobs.specs.declared.script.Line.TheVariants.{Job, Update, Wait}
use Rattle.gm_kernel.specs.declared.phase.Phase.{Phase}
use Rattle.gm_kernel.specs.declared.phase.Phase.TheVariants.{Counting, Round}
use Rattle.gm_kernel.specs.Standings.{Standing, Turning}
use Rattle.gm_kernel.specs.Standings.Turning.{Goes, Ends}
use Rattle.gm_changes.specs.declared.change.Change.TheVariants.{Add, Cut}
use Rattle.gm_events.specs.Examples.{grid_key}
use Rattle.gm_events.specs.declared.tally.Tally.{Tally}
use Rattle.gm_machine.specs.JobWorks.{JobWorks}
use Rattle.gm_machine.specs.Setups.{Setup, setup_of}
use Rattle.gm_machine.specs.Machine.{Ending, Rider, rider, no_miss, Ridden}
use Rattle.gm_machine.specs.Plans.{is_in}
use Rattle.gm_machine.specs.Rides.{Ride}
use Rattle.gm_machine.specs.Schedules.{Missing, MissAt, miss_by, Schedule, tally_by}

-- a job by the chunks that each of its phases needs, the key of each chunk, and what it comes to alone
pub record Needs : Type 0 where
  pub counts : Bool
  pub phases : List (List ℕ)
  pub key_of : ℕ → Key
  pub outcome : Outcome

-- ---- where such a job stands

-- the phases so far, where the first one counts or none does
abbrev pub phase_number : Bool → Phase → ℕ
phase_number counts (Counting round) = round
phase_number counts (Round round) = if counts then round + 1 else round

abbrev pub phase_at : Bool → ℕ → Phase
phase_at true zero = Counting 0
phase_at true (suc number) = Round number
phase_at false number = Round number

abbrev pub needed : List (List ℕ) → ℕ → List ℕ
needed [] number = []
needed (chunks ∷ phases) zero = chunks
needed (chunks ∷ phases) (suc number) = needed phases number

abbrev pub still_owes : Needs → Standing → ℕ → Bool
still_owes job st c = is_in (needed job.phases (phase_number job.counts st.phase)) c && not (is_in st.passed c)

-- the first of these phases that needs a chunk
abbrev pub next_phase : Needs → ℕ → List (List ℕ) → Turning Standing
next_phase job number [] = Ends job.outcome
next_phase job number ([] ∷ phases) = next_phase job (number + 1) phases
next_phase job number ((c ∷ chunks) ∷ phases) = Goes (record { phase = phase_at job.counts number; passed = [] })

abbrev pub owes_some : Needs → Standing → Bool
owes_some job st = list_any (still_owes job st) (needed job.phases (phase_number job.counts st.phase))

abbrev pub turn_of : Needs → Standing → Turning Standing
turn_of job st =
    let next = phase_number job.counts st.phase + 1 in
    if owes_some job st then Goes st else next_phase job next (drop next job.phases)

abbrev pub job_in : List Needs → ℕ → Needs
job_in [] n = record { counts = false; phases = []; key_of = grid_key; outcome = Done 0 [] }
job_in (job ∷ jobs) zero = job
job_in (job ∷ jobs) (suc n) = job_in jobs n

-- the edges 0>1, then 1>2 and 0>2, then none, then 2>3 in the blocks 0 to 3
abbrev pub path_blocks : List ℕ
path_blocks = 0 ∷ 1 ∷ 1 ∷ 2 ∷ 3 ∷ []

abbrev pub works_on_path : List Needs → JobWorks Standing
works_on_path jobs = record {
  jobs = length jobs;
  chunks = 5;
  blocks = 4;
  block_of = λ c. slice_index path_blocks c;
  admitted_job = λ n. record { phase = phase_at (job_in jobs n).counts 0; passed = [] };
  owes = λ n st c. still_owes (job_in jobs n) st c;
  pass = λ n c edges st. record { phase = st.phase; passed = c ∷ st.passed };
  turn = λ n st. turn_of (job_in jobs n) st;
  first_at = λ n. record { phase = phase_at (job_in jobs n).counts 0; passed = [] };
  owes_at = λ n st c. still_owes (job_in jobs n) st c;
  turn_at = λ n st. turn_of (job_in jobs n) st;
  lone = λ n. (job_in jobs n).outcome;
  key_at = λ n st c. (job_in jobs n).key_of c;
  content_of = λ key. [];
  phases = λ n. length (job_in jobs n).phases;
  phases_left = λ n phase. 0;
  left = λ n st. 0;
}

-- ---- the jobs

-- levels from 0: its edges, then those of 1 and 2, and none of 3
abbrev pub levels_from_0 : Needs
levels_from_0 = record { counts = false; phases = (0 ∷ 2 ∷ []) ∷ (1 ∷ 4 ∷ []) ∷ [] ∷ []; key_of = grid_key; outcome = Done 3 (0 ∷ 1 ∷ 1 ∷ 2 ∷ []) }

-- levels from 1: its edge, then that of 2, and none of 3. Vertex 0 isn't reached
abbrev pub levels_from_1 : Needs
levels_from_1 = record { counts = false; phases = (1 ∷ []) ∷ (4 ∷ []) ∷ [] ∷ []; key_of = grid_key; outcome = Done 3 (TOP ∷ 0 ∷ 1 ∷ 2 ∷ []) }

-- one round of rank: all edges are counted, and then each has a share
abbrev pub one_round_of_rank : Needs
one_round_of_rank = record {
  counts = true;
  phases = (0 ∷ 1 ∷ 2 ∷ 4 ∷ []) ∷ (0 ∷ 1 ∷ 2 ∷ 4 ∷ []) ∷ [];
  key_of = grid_key;
  outcome = Done 1 (150000000 ∷ 575000000 ∷ 1425000000 ∷ 1000000000 ∷ []);
}

-- the keys after one update that concerns this chunk
abbrev pub updated_at : ℕ → ℕ → Key
updated_at chunk c = record { chunk = c; tag = UpdateTag (if is_in (chunk ∷ []) c then 1 else 0) }

-- levels from 0 after 0>3 was added to chunk 2: the second round changes nothing
abbrev pub levels_with_another_edge : Needs
levels_with_another_edge = record { counts = false; phases = (0 ∷ 2 ∷ []) ∷ (1 ∷ 4 ∷ []) ∷ []; key_of = updated_at 2; outcome = Done 2 (0 ∷ 1 ∷ 1 ∷ 1 ∷ []) }

-- levels from 0 after 2>3 was cut from chunk 4, which keeps its sources. Vertex 3 isn't reached
abbrev pub levels_without_an_edge : Needs
levels_without_an_edge = record { counts = false; phases = (0 ∷ 2 ∷ []) ∷ (1 ∷ 4 ∷ []) ∷ []; key_of = updated_at 4; outcome = Done 2 (0 ∷ 1 ∷ 1 ∷ TOP ∷ []) }

-- ---- scripts

abbrev pub levels : ℕ → ℕ → Line
levels name source = Job (name ∷ []) (Bfs source 5) []

abbrev pub one_bfs : Setup Standing
one_bfs = setup_of (works_on_path (levels_from_0 ∷ [])) (levels 97 0 ∷ [])

abbrev pub two_bfs : Setup Standing
two_bfs = setup_of (works_on_path (levels_from_0 ∷ levels_from_1 ∷ [])) (levels 97 0 ∷ levels 98 1 ∷ [])

abbrev pub rank_then_bfs : Setup Standing
rank_then_bfs = setup_of (works_on_path (one_round_of_rank ∷ levels_from_0 ∷ [])) (Job (114 ∷ []) (Rank 1) [] ∷ Wait 5 ∷ levels 97 0 ∷ [])

abbrev pub one_rank : Setup Standing
one_rank = setup_of (works_on_path (one_round_of_rank ∷ [])) (Job (97 ∷ []) (Rank 1) [] ∷ [])

abbrev pub bfs_and_after_an_added_edge : Setup Standing
bfs_and_after_an_added_edge =
    setup_of (works_on_path (levels_from_0 ∷ levels_with_another_edge ∷ [])) (levels 97 0 ∷ Update (Add (record { from = 0; to = 3; weight = 1 }) ∷ []) ∷ levels 98 0 ∷ [])

abbrev pub bfs_and_after_a_cut_edge : Setup Standing
bfs_and_after_a_cut_edge =
    setup_of (works_on_path (levels_from_0 ∷ levels_without_an_edge ∷ [])) (levels 97 0 ∷ Wait 2 ∷ Update (Cut 2 3 ∷ []) ∷ levels 98 0 ∷ [])

-- ---- schedules

-- a visit in which the jobs ride with the grid's key
abbrev pub shared_by : List ℕ → ℕ → List Rider
shared_by [] chunk = []
shared_by (job ∷ jobs) chunk = rider job (grid_key chunk) ∷ shared_by jobs chunk

abbrev pub visit_of : ℕ → List ℕ → Ridden
visit_of chunk jobs = record { chunk = chunk; riders = shared_by jobs chunk; miss = no_miss }

-- the first job rides with the grid's key, the second one with that of the update which concerns the chunk
abbrev pub both_versions : ℕ → List Rider
both_versions chunk = rider 0 (grid_key chunk) ∷ rider 1 (updated_at chunk chunk) ∷ []

abbrev pub two_versions : ℕ → Ridden
two_versions chunk = record { chunk = chunk; riders = both_versions chunk; miss = no_miss }

abbrev pub missing_visit : ℕ → List Rider → Missing → Ridden
missing_visit chunk riders missing = record { chunk = chunk; riders = riders; miss = miss_by missing }

abbrev pub miss_at : ℕ → Missing → MissAt
miss_at visit missing = record { visit = visit; missing = missing }

abbrev pub schedule : List Ridden → List Ending → Option Schedule
schedule visits outcomes = Some (record { visits = visits; outcomes = outcomes })

abbrev pub tally_in : Option Schedule → Option Tally
tally_in found = option_map (λ t. tally_by t.visits) found

abbrev pub ride : ℕ → ℕ → ℕ → Ride
ride job round chunk = record { job = job; phase = Round round; chunk = chunk }
