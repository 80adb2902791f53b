-- The schedule of a script by what its visits miss, which misses there may be, and those of a journal.
use Rattle.std.specs.Prelude.{◌≡◌, ◌≤◌, ℕ, zero, suc, Bool, true, false, ◌==◌, ◌&&◌, not, if◌then◌else◌, List, [], ◌∷◌, map, reverse, length, Option, Some, None, is_none, slice_get}
use Rattle.std.specs.List.{AllByRecursion, list_any, filter, filter_map, sum_by}
use Rattle.gm_base.specs.declared.copies.Key.{Key}
use Rattle.gm_events.specs.declared.event.Event.{Event}
use Rattle.gm_events.specs.declared.event.LoadCause.{LoadCause}
use Rattle.gm_events.specs.declared.tally.Tally.{Tally}
use Rattle.gm_machine.specs.Setups.{Setup}
use Rattle.gm_machine.specs.Machine.{Ending, Rider, Miss, no_miss, Ridden, is_empty, has_key, scene_of}
use Rattle.gm_machine.specs.Plans.{Place, Stands, Gone, Planned, Plan, plan_of, plan_choice, none_there, loss_of}

-- what a visit misses: its load fails, or there is no memory for the copies of these keys
pub data Missing : Type 0 where
  Load : LoadCause → Missing
  Copies : List Key → Missing

-- the visits are numbered from 0
pub record MissAt : Type 0 where
  pub visit : ℕ
  pub missing : Missing

-- ---- the plan by a list of misses

abbrev pub miss_by : Missing → Miss
miss_by (Load cause) = record { lost = []; failed = Some cause }
miss_by (Copies keys) = record { lost = keys; failed = None }

-- what a visit misses by the list
abbrev pub miss_in : List MissAt → ℕ → Miss
miss_in [] visit = no_miss
miss_in (m ∷ misses) visit = if m.visit == visit then miss_by m.missing else miss_in misses visit

-- the same of so many visits, the last one's first
unfoldable pub misses_to : List MissAt → ℕ → List Miss
misses_to misses zero = []
misses_to misses (suc visits) = miss_in misses visits ∷ misses_to misses visits

-- the plan with as many visits as the script can have
abbrev pub whole_plan : {State : Type 0} → Setup State → List MissAt → Plan
whole_plan s misses = plan_of s (misses_to misses s.most)

-- ---- which misses there may be

-- of visits with the last one first
abbrev pub visit_at : List Ridden → ℕ → Option Ridden
visit_at [] visit = None
visit_at (v ∷ vs) visit = if length vs == visit then Some v else visit_at vs visit

abbrev pub keys_ridden : Ridden → List Key
keys_ridden v = map (λ r. r.key) v.riders

-- each is one of these keys, and none stands twice
abbrev pub are_some_of : List Key → List Key → Bool
are_some_of keys [] = true
are_some_of keys (k ∷ lost) = has_key keys k && not (has_key lost k) && are_some_of keys lost

abbrev pub may_miss : List Key → Missing → Bool
may_miss keys (Load cause) = true
may_miss keys (Copies lost) = not (is_empty lost) && are_some_of keys lost

abbrev pub visit_may_miss : Option Ridden → Missing → Bool
visit_may_miss None missing = false
visit_may_miss (Some v) missing = may_miss (keys_ridden v) missing

abbrev pub names : List MissAt → ℕ → Bool
names misses visit = list_any (λ m. m.visit == visit) misses

-- each names one of the visits, and keys of its riders where it names keys. No visit is named twice
abbrev pub can_miss : List Ridden → List MissAt → Bool
can_miss visits [] = true
can_miss visits (m ∷ misses) = visit_may_miss (visit_at visits m.visit) m.missing && not (names misses m.visit) && can_miss visits misses

-- ---- the schedule

-- the visits in order, with riders, keys and misses, and how each job ends, by its number
pub record Schedule : Type 0 where
  pub visits : List Ridden
  pub outcomes : List Ending

abbrev pub ending_at : Place → Option Ending
ending_at (Stands st) = None
ending_at (Gone o) = Some o

abbrev pub endings : List Planned → List Ending
endings jobs = filter_map (λ job. ending_at job.place) jobs

abbrev pub schedule_in : Plan → Schedule
schedule_in plan = record { visits = reverse plan.visits; outcomes = endings plan.jobs }

abbrev pub schedule_if : List MissAt → Plan → Option Schedule
schedule_if misses plan = if can_miss plan.visits misses then Some (schedule_in plan) else None

-- the schedule of the script with these misses, and nothing where its visits can't miss so
unfoldable pub schedule_of : {State : Type 0} → Setup State → List MissAt → Option Schedule
schedule_of s misses = schedule_if misses (whole_plan s misses)

-- nothing more can come of the plan: all entries are in, no job runs, and no chunk is owed
pub record IsOver {State : Type 0} (s : Setup State) (plan : Plan) : Type 0 where
  pub entries : slice_get s.script plan.entries_in ≡ None
  pub jobs : none_there plan.jobs ≡ true
  pub owed : plan_choice s plan ≡ None

-- ---- the misses of a journal

abbrev pub missing_by : Option LoadCause → List Key → Option Missing
missing_by (Some cause) lost = Some (Load cause)
missing_by None [] = None
missing_by None (k ∷ lost) = Some (Copies (k ∷ lost))

abbrev pub missed_at : ℕ → Option Missing → List MissAt → List MissAt
missed_at visit None misses = misses
missed_at visit (Some missing) misses = record { visit = visit; missing = missing } ∷ misses

-- the misses of these visits. In both lists the last visit comes first
abbrev pub misses_in : List Ridden → List MissAt
misses_in [] = []
misses_in (v ∷ vs) = missed_at (length vs) (missing_by v.miss.failed v.miss.lost) (misses_in vs)

abbrev pub misses_of : {State : Type 0} → Setup State → List Event → List MissAt
misses_of s journal = misses_in (scene_of s journal).visits

-- ---- the tally of visits

-- the riders of a visit that it doesn't end by a miss
abbrev pub carried : Ridden → List Rider
carried v = filter (λ r. is_none (loss_of v.miss v.chunk r.key)) v.riders

-- each key once
abbrev pub distinct : List Key → List Key
distinct [] = []
distinct (k ∷ ks) = if has_key ks k then distinct ks else k ∷ distinct ks

abbrev pub passes_in : Ridden → ℕ
passes_in v = length (carried v)

abbrev pub copies_in : Ridden → ℕ
copies_in v = length (distinct (map (λ r. r.key) (carried v)))

-- riders without a miss pass, and each of their keys is copied once
abbrev pub tally_by : List Ridden → Tally
tally_by visits = record { visits = length visits; passes = sum_by passes_in visits; copies = sum_by copies_in visits }

-- each is of this visit or of a later one
abbrev pub AreFrom : ℕ → List MissAt → Type 0
AreFrom visit misses = AllByRecursion (λ m. visit ≤ m.visit) misses
