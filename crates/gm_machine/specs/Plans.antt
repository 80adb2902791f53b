-- Planned journals, and the plan.
use Rattle.std.specs.Prelude.{◌≡◌, ℕ, ◌+◌, Bool, true, false, ◌==◌, nat_lt, nat_le, ◌&&◌, ◌||◌, not, if◌then◌else◌, List, [], ◌∷◌, ◌++◌, map, length, drop, find, Option, Some, None, slice_get}
use Rattle.std.specs.List.{list_any, list_all, filter, filter_map, range_with_len}
use Rattle.gm_base.specs.declared.copies.Key.{Key}
use Rattle.gm_jobs.specs.declared.script.Line.{Line}
use Rattle.gm_jobs.specs.declared.script.Line.TheVariants.{Update, Wait, Job as JobLine}
use Rattle.gm_events.specs.declared.event.LoadCause.{LoadCause}
use Rattle.gm_events.specs.declared.event.Event.{Event}
use Rattle.gm_events.specs.declared.event.Event.TheVariants.{Submit, Visit, Loaded, NoCopy, LoadFailed, Given, Passed}
use Rattle.gm_kernel.specs.Standings.{Standing}
use Rattle.gm_kernel.specs.Standings.{Turning}
use Rattle.gm_kernel.specs.Standings.Turning.{Goes, Ends}
use Rattle.gm_priority.specs.Priority.{pick_of}
use Rattle.gm_machine.specs.Setups.{past, Setup}
use Rattle.gm_machine.specs.Machine.{Ending, Own, NoMemory, ending_by, Job, Rider, Miss, Ridden, Scene, beginning, is_running, is_waiting, is_owing, is_open, has_key, rides_with, rider, rider_if, chunk_now, is_settled, may, done}

-- ---- the choice of a chunk: by the lists of chunks that each job owes

abbrev pub numbers_to : ℕ → List ℕ
numbers_to n = range_with_len 0 n

abbrev pub is_in : List ℕ → ℕ → Bool
is_in xs c = list_any (λ x. x == c) xs

abbrev pub owes_in : {State : Type 0} → Setup State → ℕ → List ℕ → Bool
owes_in s block owed = list_any (λ c. s.block_of c == block) owed

-- the blocks of these chunks, as a row of all blocks
abbrev pub row_of : {State : Type 0} → Setup State → List ℕ → List Bool
row_of s owed = map (λ block. owes_in s block owed) (numbers_to s.blocks)

abbrev pub owed_by_any : List (List ℕ) → ℕ → Bool
owed_by_any owed c = list_any (λ xs. is_in xs c) owed

abbrev pub or_else : Option ℕ → Option ℕ → Option ℕ
or_else None other = other
or_else (Some c) other = Some c

abbrev pub above_cursor : {State : Type 0} → Setup State → Option ℕ → List (List ℕ) → Option ℕ
above_cursor s None owed = None
above_cursor s (Some cursor) owed = find (λ c. nat_lt cursor c && (s.block_of c == s.block_of cursor) && owed_by_any owed c) (numbers_to s.chunks)

-- the lowest chunk of a block that any owes
abbrev pub first_in : {State : Type 0} → Setup State → Option ℕ → List (List ℕ) → Option ℕ
first_in s None owed = None
first_in s (Some block) owed = find (λ c. (s.block_of c == block) && owed_by_any owed c) (numbers_to s.chunks)

-- the next chunk, if any is owed: the next one in the block of the last visit, else the lowest one of the block of highest priority
unfoldable pub choice : {State : Type 0} → Setup State → Option ℕ → List (List ℕ) → Option ℕ
choice s cursor owed = or_else (above_cursor s cursor owed) (first_in s (pick_of s.blocks (map (row_of s) owed)) owed)

abbrev pub cursor_of : List Ridden → Option ℕ
cursor_of [] = None
cursor_of (v ∷ vs) = Some v.chunk

abbrev pub owed_list : {State : Type 0} → Setup State → Job State → List ℕ
owed_list s job = filter (λ c. is_owing s c job) (numbers_to s.chunks)

-- ---- planned journals

-- the entry may go in after so many visits
abbrev pub allows : ℕ → Bool → Line → Bool
allows visits none_runs (Update batch) = true
allows visits none_runs (Wait k) = nat_le k visits || none_runs
allows visits none_runs (JobLine name spec own) = true

abbrev pub allows_next : ℕ → Bool → Option Line → Bool
allows_next visits none_runs None = false
allows_next visits none_runs (Some line) = allows visits none_runs line

abbrev pub none_runs : {State : Type 0} → List (Job State) → Bool
none_runs jobs = list_all (λ job. not (is_running job.stage)) jobs

abbrev pub goes_in : {State : Type 0} → Setup State → Scene State → Bool
goes_in s scene = allows_next (length scene.visits) (none_runs scene.jobs) (slice_get s.script scene.entries_in)

abbrev pub is_some_of : (ℕ → Bool) → Option ℕ → Bool
is_some_of test None = false
is_some_of test (Some c) = test c

abbrev pub is_job_of : {State : Type 0} → (Job State → Bool) → Option (Job State) → Bool
is_job_of test None = false
is_job_of test (Some job) = test job

abbrev pub next_unsettled_has : {State : Type 0} → Setup State → Scene State → Key → Bool
next_unsettled_has s scene k =
    is_job_of (rides_with s (chunk_now scene.visits) k) (find (λ job. not (is_settled s (chunk_now scene.visits) scene.loaded job)) scene.jobs)

-- what the plan asks besides
abbrev pub fits_plan : {State : Type 0} → Setup State → Scene State → Event → Bool
fits_plan s scene (Submit line) = not (is_open scene) && goes_in s scene
fits_plan s scene (Visit c) = not (goes_in s scene) && is_some_of (λ d. d == c) (choice s (cursor_of scene.visits) (map (owed_list s) scene.jobs))
fits_plan s scene (Loaded k) = next_unsettled_has s scene k
fits_plan s scene (NoCopy k) = next_unsettled_has s scene k
fits_plan s scene (LoadFailed c cause) = true
fits_plan s scene (Given j c) = is_job_of (λ job. job.number == j) (find (λ job. is_waiting job.stage) scene.jobs)
fits_plan s scene (Passed j c) = true

unfoldable pub is_planned_from : {State : Type 0} → Setup State → Scene State → List Event → Bool
is_planned_from s scene [] = true
is_planned_from s scene (event ∷ events) = may s scene event && fits_plan s scene event && is_planned_from s (done s scene event) events

abbrev pub IsPlanned : {State : Type 0} → Setup State → List Event → Type 0
IsPlanned s journal = is_planned_from s beginning journal ≡ true

-- ---- the plan

pub data Place : Type 0 where
  Stands : Standing → Place
  Gone : Ending → Place

pub record Planned : Type 0 where
  pub number : ℕ
  pub place : Place

pub record Plan : Type 0 where
  pub entries_in : ℕ
  pub visits : List Ridden
  pub jobs : List Planned

abbrev pub plan_beginning : Plan
plan_beginning = record { entries_in = 0; visits = []; jobs = [] }

abbrev pub place_after : Turning Standing → Place
place_after (Goes st) = Stands st
place_after (Ends o) = Gone (Own o)

abbrev pub is_owing_place : {State : Type 0} → Setup State → ℕ → ℕ → Place → Bool
is_owing_place s c n (Stands st) = s.owes_at n st c
is_owing_place s c n (Gone o) = false

abbrev pub is_planned_owing : {State : Type 0} → Setup State → ℕ → Planned → Bool
is_planned_owing s c job = is_owing_place s c job.number job.place

abbrev pub is_there : Place → Bool
is_there (Stands st) = true
is_there (Gone o) = false

abbrev pub planned_job : {State : Type 0} → Setup State → ℕ → Planned
planned_job s n = record { number = n; place = place_after (s.turn_at n (s.first_at n)) }

abbrev pub planned_with : {State : Type 0} → Setup State → Line → List Planned → List Planned
planned_with s (Update batch) jobs = jobs
planned_with s (Wait k) jobs = jobs
planned_with s (JobLine name spec own) jobs = jobs ++ planned_job s (length jobs) ∷ []

abbrev pub none_there : List Planned → Bool
none_there jobs = list_all (λ job. not (is_there job.place)) jobs

abbrev pub entered : {State : Type 0} → Setup State → Line → Plan → Plan
entered s line plan = record { entries_in = plan.entries_in + 1; visits = plan.visits; jobs = planned_with s line plan.jobs }

-- all allowed entries go in
unfoldable pub all_in_of : {State : Type 0} → Setup State → List Line → Plan → Plan
all_in_of s [] plan = plan
all_in_of s (line ∷ lines) plan = if allows (length plan.visits) (none_there plan.jobs) line then all_in_of s lines (entered s line plan) else plan

abbrev pub all_in : {State : Type 0} → Setup State → Plan → Plan
all_in s plan = all_in_of s (drop plan.entries_in s.script) plan

abbrev pub planned_owed_list : {State : Type 0} → Setup State → Planned → List ℕ
planned_owed_list s job = filter (λ c. is_planned_owing s c job) (numbers_to s.chunks)

abbrev pub planned_rider_at : {State : Type 0} → Setup State → ℕ → ℕ → Place → Option Rider
planned_rider_at s c n (Stands st) = rider_if (s.owes_at n st c) (rider n (s.key_at n st c))
planned_rider_at s c n (Gone o) = None

abbrev pub planned_riders : {State : Type 0} → Setup State → ℕ → List Planned → List Rider
planned_riders s c jobs = filter_map (λ job. planned_rider_at s c job.number job.place) jobs

-- what ends the riders with a key, if anything does
abbrev pub loss_by : Option LoadCause → List Key → ℕ → Key → Option Ending
loss_by None lost c k = if has_key lost k then Some NoMemory else None
loss_by (Some cause) lost c k = Some (ending_by cause c)

abbrev pub loss_of : Miss → ℕ → Key → Option Ending
loss_of miss c k = loss_by miss.failed miss.lost c k

abbrev pub place_by : {State : Type 0} → Setup State → Option Ending → ℕ → ℕ → Standing → Place
place_by s None c n st = place_after (s.turn_at n (past c st))
place_by s (Some o) c n st = Gone o

-- a rider is ended by the loss of its key, or has passed the chunk
abbrev pub ridden_place : {State : Type 0} → Setup State → (Key → Option Ending) → ℕ → ℕ → Place → Place
ridden_place s loss c n (Stands st) = if s.owes_at n st c then place_by s (loss (s.key_at n st c)) c n st else Stands st
ridden_place s loss c n (Gone o) = Gone o

abbrev pub ridden : {State : Type 0} → Setup State → (Key → Option Ending) → ℕ → Planned → Planned
ridden s loss c job = record { number = job.number; place = ridden_place s loss c job.number job.place }

abbrev pub visited : {State : Type 0} → Setup State → Miss → ℕ → Plan → Plan
visited s miss c plan = record {
  entries_in = plan.entries_in;
  visits = record { chunk = c; riders = planned_riders s c plan.jobs; miss = miss } ∷ plan.visits;
  jobs = map (ridden s (loss_of miss c) c) plan.jobs;
}

abbrev pub plan_choice : {State : Type 0} → Setup State → Plan → Option ℕ
plan_choice s plan = choice s (cursor_of plan.visits) (map (planned_owed_list s) plan.jobs)

abbrev pub visited_at : {State : Type 0} → Setup State → Miss → Option ℕ → Plan → Plan
visited_at s miss None plan = plan
visited_at s miss (Some c) plan = visited s miss c plan

-- the entries that are allowed go in, and the next visit is made, with this miss
unfoldable pub next_plan : {State : Type 0} → Setup State → Miss → Plan → Plan
next_plan s miss plan = visited_at s miss (plan_choice s (all_in s plan)) (all_in s plan)

-- the plan after visits with these misses, the last one first
unfoldable pub plan_after : {State : Type 0} → Setup State → List Miss → Plan
plan_after s [] = plan_beginning
plan_after s (miss ∷ misses) = next_plan s miss (plan_after s misses)

-- the plan of these misses, the last visit's first, with all entries in that may go in
abbrev pub plan_of : {State : Type 0} → Setup State → List Miss → Plan
plan_of s misses = all_in s (plan_after s misses)

-- the miss of each visit, the last one's first
abbrev pub misses_by_visit : List Ridden → List Miss
misses_by_visit visits = map (λ v. v.miss) visits
