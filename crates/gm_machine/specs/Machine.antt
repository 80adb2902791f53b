-- The core machine: a scene, and what each event asks of it and makes of it.
use Rattle.std.specs.Prelude.{◌≡◌, ℕ, ◌+◌, Bool, true, false, ◌==◌, nat_lt, ◌&&◌, ◌||◌, not, if◌then◌else◌, List, [], ◌∷◌, ◌++◌, map, length, Option, Some, None, slice_get}
use Rattle.std.specs.List.{list_any, list_all, filter, filter_map}
use Rattle.gm_base.specs.declared.copies.Key.{Key}
use Rattle.gm_jobs.specs.declared.script.Line.{Line}
use Rattle.gm_base.specs.declared.job.Outcome.{Outcome}
use Rattle.gm_jobs.specs.declared.script.Line.TheVariants.{Update, Wait, Job as JobLine}
use Rattle.gm_events.specs.declared.event.LoadCause.{LoadCause}
use Rattle.gm_events.specs.declared.event.LoadCause.TheVariants.{Read, Changed, Memory}
use Rattle.gm_events.specs.declared.event.Event.{Event}
use Rattle.gm_events.specs.declared.event.Event.TheVariants.{Submit, Visit, Loaded, NoCopy, LoadFailed, Given, Passed}
use Rattle.gm_kernel.specs.Standings.{Turning}
use Rattle.gm_kernel.specs.Standings.Turning.{Goes, Ends}
use Rattle.gm_buffer.specs.Keys.{is_same_key}
use Rattle.gm_machine.specs.Setups.{Entry, standing, Setup}

-- how a job ended: by itself, or by a miss
pub data Ending : Type 0 where
  Own : Outcome → Ending
  ReadFailed : ℕ → Ending
  ChangedFound : ℕ → Ending
  NoMemory : Ending

abbrev pub ending_by : LoadCause → ℕ → Ending
ending_by Read c = ReadFailed c
ending_by Changed c = ChangedFound c
ending_by Memory c = NoMemory

-- a job runs outside the open visit, waits in it for its pass, has been given its pass, or has ended
pub data Stage (State : Type 0) : Type 0 where
  Runs : (Entry State) → Stage State
  Waits : (Entry State) → Stage State
  Works : (Entry State) → Stage State
  Over : Ending → Stage State

pub record Job (State : Type 0) : Type 0 where
  pub number : ℕ
  pub stage : (Stage State)

pub record Rider : Type 0 where
  pub job : ℕ
  pub key : Key

-- the keys without a copy, or the cause of the load's failure
pub record Miss : Type 0 where
  pub lost : List Key
  pub failed : Option LoadCause

abbrev pub no_miss : Miss
no_miss = record { lost = []; failed = None }

-- a visit, with its riders as it was opened
pub record Ridden : Type 0 where
  pub chunk : ℕ
  pub riders : List Rider
  pub miss : Miss

pub record Held : Type 0 where
  pub key : Key
  pub riders : List ℕ

-- `visits` has the last visit first, and `loaded` its Loaded keys
pub record Scene (State : Type 0) : Type 0 where
  pub entries_in : ℕ
  pub visits : List Ridden
  pub loaded : List Key
  pub held : List Held
  pub jobs : List (Job State)

abbrev pub beginning : {State : Type 0} → (Scene State)
beginning = record { entries_in = 0; visits = []; loaded = []; held = []; jobs = [] }

-- ---- tests

abbrev pub is_empty : {A : Type 0} → List A → Bool
is_empty [] = true
is_empty (x ∷ xs) = false

abbrev pub is_running : {State : Type 0} → Stage State → Bool
is_running (Runs e) = true
is_running (Waits e) = true
is_running (Works e) = true
is_running (Over o) = false

abbrev pub is_riding : {State : Type 0} → Stage State → Bool
is_riding (Runs e) = false
is_riding (Waits e) = true
is_riding (Works e) = true
is_riding (Over o) = false

abbrev pub is_waiting : {State : Type 0} → Stage State → Bool
is_waiting (Runs e) = false
is_waiting (Waits e) = true
is_waiting (Works e) = false
is_waiting (Over o) = false

abbrev pub is_working : {State : Type 0} → Stage State → Bool
is_working (Runs e) = false
is_working (Waits e) = false
is_working (Works e) = true
is_working (Over o) = false

abbrev pub is_owing_at : {State : Type 0} → Setup State → ℕ → ℕ → Stage State → Bool
is_owing_at s c n (Runs e) = s.owes n e c
is_owing_at s c n (Waits e) = s.owes n e c
is_owing_at s c n (Works e) = s.owes n e c
is_owing_at s c n (Over o) = false

abbrev pub is_owing : {State : Type 0} → Setup State → ℕ → Job State → Bool
is_owing s c job = is_owing_at s c job.number job.stage

abbrev pub has_key : List Key → Key → Bool
has_key [] k = false
has_key (l ∷ ls) k = is_same_key l k || has_key ls k

-- its key of the chunk
abbrev pub key_in : {State : Type 0} → Setup State → ℕ → ℕ → Entry State → Key
key_in s c n e = s.key_at n (standing e) c

-- the job rides in the visit of c with this key
abbrev pub rides_at : {State : Type 0} → Setup State → ℕ → Key → ℕ → Stage State → Bool
rides_at s c k n (Runs e) = false
rides_at s c k n (Waits e) = is_same_key (key_in s c n e) k
rides_at s c k n (Works e) = is_same_key (key_in s c n e) k
rides_at s c k n (Over o) = false

abbrev pub rides_with : {State : Type 0} → Setup State → ℕ → Key → Job State → Bool
rides_with s c k job = rides_at s c k job.number job.stage

abbrev pub is_open : {State : Type 0} → Scene State → Bool
is_open scene = list_any (λ job. is_riding job.stage) scene.jobs

-- the chunk of the last visit
abbrev pub chunk_now : List Ridden → ℕ
chunk_now [] = 0
chunk_now (v ∷ vs) = v.chunk

abbrev pub is_whole : List Ridden → Bool
is_whole [] = true
is_whole (v ∷ vs) = is_empty v.miss.lost

abbrev pub is_free : {State : Type 0} → Setup State → Scene State → Key → Bool
is_free s scene k = list_any (rides_with s (chunk_now scene.visits) k) scene.jobs && not (has_key scene.loaded k)

-- if it rides, its key is Loaded
abbrev pub is_settled_at : {State : Type 0} → Setup State → ℕ → List Key → ℕ → Stage State → Bool
is_settled_at s c loaded n (Runs e) = true
is_settled_at s c loaded n (Waits e) = has_key loaded (key_in s c n e)
is_settled_at s c loaded n (Works e) = has_key loaded (key_in s c n e)
is_settled_at s c loaded n (Over o) = true

abbrev pub is_settled : {State : Type 0} → Setup State → ℕ → List Key → Job State → Bool
is_settled s c loaded job = is_settled_at s c loaded job.number job.stage

-- the event may happen in this scene
abbrev pub may : {State : Type 0} → Setup State → Scene State → Event → Bool
may s scene (Submit line) = (line == scene.entries_in) && nat_lt line (length s.script)
may s scene (Visit c) = not (is_open scene) && list_any (is_owing s c) scene.jobs
may s scene (Loaded k) = is_free s scene k
may s scene (NoCopy k) = is_free s scene k
may s scene (LoadFailed c cause) = is_open scene && (c == chunk_now scene.visits) && (is_empty scene.loaded && is_whole scene.visits)
may s scene (Given j c) =
    (c == chunk_now scene.visits) && list_all (is_settled s (chunk_now scene.visits) scene.loaded) scene.jobs
    && list_any (λ job. (job.number == j) && is_waiting job.stage) scene.jobs
may s scene (Passed j c) = (c == chunk_now scene.visits) && list_any (λ job. (job.number == j) && is_working job.stage) scene.jobs

-- ---- effects

abbrev pub stage_after : {State : Type 0} → Turning (Entry State) → Stage State
stage_after (Goes e) = Runs e
stage_after (Ends o) = Over (Own o)

abbrev pub new_job : {State : Type 0} → Setup State → ℕ → Job State
new_job s n = record { number = n; stage = stage_after (s.turn n (s.admitted n)) }

abbrev pub jobs_with : {State : Type 0} → Setup State → Option Line → List (Job State) → List (Job State)
jobs_with s None jobs = jobs
jobs_with s (Some (Update batch)) jobs = jobs
jobs_with s (Some (Wait k)) jobs = jobs
jobs_with s (Some (JobLine name spec own)) jobs = jobs ++ new_job s (length jobs) ∷ []

abbrev pub at_stage : {State : Type 0} → (ℕ → Stage State → Stage State) → Job State → Job State
at_stage f job = record { number = job.number; stage = f job.number job.stage }

abbrev pub boarded : {State : Type 0} → Setup State → ℕ → ℕ → Stage State → Stage State
boarded s c n (Runs e) = if s.owes n e c then Waits e else Runs e
boarded s c n (Waits e) = Waits e
boarded s c n (Works e) = Works e
boarded s c n (Over o) = Over o

-- a rider whose key passes the test ends
abbrev pub ended_where : {State : Type 0} → (ℕ → Entry State → Bool) → Ending → ℕ → Stage State → Stage State
ended_where test o n (Runs e) = Runs e
ended_where test o n (Waits e) = if test n e then Over o else Waits e
ended_where test o n (Works e) = if test n e then Over o else Works e
ended_where test o n (Over p) = Over p

abbrev pub given : {State : Type 0} → ℕ → ℕ → Stage State → Stage State
given j n (Runs e) = Runs e
given j n (Waits e) = if n == j then Works e else Waits e
given j n (Works e) = Works e
given j n (Over o) = Over o

abbrev pub has_passed : {State : Type 0} → Setup State → ℕ → ℕ → ℕ → Stage State → Stage State
has_passed s j c n (Runs e) = Runs e
has_passed s j c n (Waits e) = Waits e
has_passed s j c n (Works e) = if n == j then stage_after (s.turn n (s.pass n c e)) else Works e
has_passed s j c n (Over o) = Over o

abbrev pub rider : ℕ → Key → Rider
rider n k = record { job = n; key = k }

abbrev pub rider_if : Bool → Rider → Option Rider
rider_if true r = Some r
rider_if false r = None

abbrev pub rider_at : {State : Type 0} → Setup State → ℕ → ℕ → Stage State → Option Rider
rider_at s c n (Runs e) = rider_if (s.owes n e c) (rider n (key_in s c n e))
rider_at s c n (Waits e) = None
rider_at s c n (Works e) = None
rider_at s c n (Over o) = None

-- all running jobs that owe the chunk, with their keys
abbrev pub riders_of : {State : Type 0} → Setup State → ℕ → List (Job State) → List Rider
riders_of s c jobs = filter_map (λ job. rider_at s c job.number job.stage) jobs

abbrev pub riders_with : {State : Type 0} → Setup State → ℕ → Key → List (Job State) → List ℕ
riders_with s c k jobs = map (λ job. job.number) (filter (rides_with s c k) jobs)

abbrev pub lose : Key → List Ridden → List Ridden
lose k [] = []
lose k (v ∷ vs) = record { chunk = v.chunk; riders = v.riders; miss = record { lost = k ∷ v.miss.lost; failed = v.miss.failed } } ∷ vs

abbrev pub fail : LoadCause → List Ridden → List Ridden
fail cause [] = []
fail cause (v ∷ vs) = record { chunk = v.chunk; riders = v.riders; miss = record { lost = v.miss.lost; failed = Some cause } } ∷ vs

-- a copy is held as long as it has riders
abbrev pub keep : Held → List Held → List Held
keep h hs = if is_empty h.riders then hs else h ∷ hs

abbrev pub without : ℕ → List ℕ → List ℕ
without j riders = filter (λ r. not (r == j)) riders

-- its copy loses this rider
abbrev pub release : ℕ → List Held → List Held
release j [] = []
release j (h ∷ hs) = keep (record { key = h.key; riders = without j h.riders }) (release j hs)

-- what the event makes of the scene
abbrev pub done : {State : Type 0} → Setup State → Scene State → Event → Scene State
done s scene (Submit line) = record scene { entries_in = scene.entries_in + 1; jobs = jobs_with s (slice_get s.script line) scene.jobs }
done s scene (Visit c) = record scene {
  visits = record { chunk = c; riders = riders_of s c scene.jobs; miss = no_miss } ∷ scene.visits;
  loaded = [];
  jobs = map (at_stage (boarded s c)) scene.jobs;
}
done s scene (Loaded k) = record scene {
  loaded = k ∷ scene.loaded;
  held = record { key = k; riders = riders_with s (chunk_now scene.visits) k scene.jobs } ∷ scene.held;
}
done s scene (NoCopy k) = record scene {
  visits = lose k scene.visits;
  jobs = map (at_stage (ended_where (λ n e. is_same_key (key_in s (chunk_now scene.visits) n e) k) NoMemory)) scene.jobs;
}
done s scene (LoadFailed c cause) = record scene {
  visits = fail cause scene.visits;
  jobs = map (at_stage (ended_where (λ n e. true) (ending_by cause c))) scene.jobs;
}
done s scene (Given j c) = record scene { jobs = map (at_stage (given j)) scene.jobs }
done s scene (Passed j c) = record scene {
  held = release j scene.held;
  jobs = map (at_stage (has_passed s j c)) scene.jobs;
}

-- the scene after a journal, whether it is legal or not
unfoldable pub scene_from : {State : Type 0} → Setup State → Scene State → List Event → Scene State
scene_from s scene [] = scene
scene_from s scene (event ∷ events) = scene_from s (done s scene event) events

-- each event of the journal may happen where it stands
unfoldable pub is_legal_from : {State : Type 0} → Setup State → Scene State → List Event → Bool
is_legal_from s scene [] = true
is_legal_from s scene (event ∷ events) = may s scene event && is_legal_from s (done s scene event) events

abbrev pub scene_of : {State : Type 0} → Setup State → List Event → Scene State
scene_of s journal = scene_from s beginning journal

abbrev pub IsLegal : {State : Type 0} → Setup State → List Event → Type 0
IsLegal s journal = is_legal_from s beginning journal ≡ true

-- the scene of a legal journal, and nothing for any other
abbrev pub machine_after : {State : Type 0} → Setup State → List Event → Option (Scene State)
machine_after s journal = if is_legal_from s beginning journal then Some (scene_of s journal) else None
