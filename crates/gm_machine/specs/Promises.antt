-- The words of the theorems.
use Rattle.std.specs.Prelude.{◌≡◌, ◌⊎◌, ℕ, true, false, ◌==◌, List, [], ◌∷◌, ◌++◌, map, reverse, Some, None, slice_get}
use Rattle.gm_base.specs.declared.copies.Key.{Key}
use Rattle.gm_base.specs.declared.job.Outcome.{Outcome}
use Rattle.std.specs.List.{AllByRecursion, list_any}
use Rattle.gm_machine.specs.Setups.{Entry, standing, Setup}
use Rattle.gm_machine.specs.Machine.{Ending, Own, ReadFailed, ChangedFound, NoMemory, Stage, Runs, Waits, Works, Over, Job, Miss, Ridden, Held, Scene, is_empty, is_running, is_owing, is_open, has_key, rides_with, chunk_now}
use Rattle.gm_machine.specs.Schedules.{Schedule}
use Rattle.gm_machine.specs.Plans.{Place, Stands, Gone, Planned, Plan, loss_of, plan_after, plan_of, misses_by_visit, none_runs}

-- P of the number and the stage of each job
abbrev pub AllStages : {State : Type 0} → (ℕ → Stage State → Type 0) → List (Job State) → Type 0
AllStages P jobs = AllByRecursion (λ job. P job.number job.stage) jobs

-- a job that runs is Midway, and one that ended by itself has its lone outcome
abbrev pub IsMidwayOrLone : {State : Type 0} → (ℕ → Entry State → Type 0) → (ℕ → Outcome) → ℕ → Stage State → Type 0
IsMidwayOrLone Midway lone n (Runs e) = Midway n e
IsMidwayOrLone Midway lone n (Waits e) = Midway n e
IsMidwayOrLone Midway lone n (Works e) = Midway n e
IsMidwayOrLone Midway lone n (Over (Own o)) = o ≡ lone n
IsMidwayOrLone Midway lone n (Over (ReadFailed c)) = Unit {0}
IsMidwayOrLone Midway lone n (Over (ChangedFound c)) = Unit {0}
IsMidwayOrLone Midway lone n (Over NoMemory) = Unit {0}

-- what the plan sees of a job, and of a scene
abbrev pub place_of : {State : Type 0} → Stage State → Place
place_of (Runs e) = Stands (standing e)
place_of (Waits e) = Stands (standing e)
place_of (Works e) = Stands (standing e)
place_of (Over o) = Gone o

abbrev pub seen : {State : Type 0} → Job State → Planned
seen job = record { number = job.number; place = place_of job.stage }

abbrev pub seen_plan : {State : Type 0} → Scene State → Plan
seen_plan scene = record { entries_in = scene.entries_in; visits = scene.visits; jobs = map seen scene.jobs }

-- the later list has the earlier one at its end
abbrev pub EndsWith : List Ridden → List Ridden → Type 0
EndsWith ys xs = (zs : List Ridden) × (ys ≡ zs ++ xs)

-- ---- copies that are held

-- no key stands twice
abbrev pub Apart : List Key → Type 0
Apart [] = Unit {0}
Apart (k ∷ ks) = (has_key ks k ≡ false) × Apart ks

abbrev pub keys_of : List Held → List Key
keys_of hs = map (λ h. h.key) hs

-- P holds of one of them
abbrev pub Among : {X : Type 0} → (X → Type 0) → List X → Type 0
Among P [] = ⊥
Among P (x ∷ xs) = P x ⊎ Among P xs

-- the rider is a job of which P holds
abbrev pub IsRiderBy : {State : Type 0} → (Job State → Type 0) → List (Job State) → ℕ → Type 0
IsRiderBy P jobs r = Among (λ job. (job.number ≡ r) × P job) jobs

-- a copy has riders, and P holds of each
abbrev pub IsHeldFor : {State : Type 0} → (Key → Job State → Type 0) → List (Job State) → Held → Type 0
IsHeldFor P jobs h = (is_empty h.riders ≡ false) × AllByRecursion (IsRiderBy (P h.key) jobs) h.riders

-- a rider of a copy runs, owes the chunk of the visit, and has the copy's key there
abbrev pub IsRiding : {State : Type 0} → Setup State → ℕ → Key → Job State → Type 0
IsRiding s c k job = (is_running job.stage ≡ true) × (is_owing s c job ≡ true) × (rides_with s c k job ≡ true)

-- where this job has been given its pass, it hasn't passed the chunk in this phase
abbrev pub IsNew : {State : Type 0} → ℕ → ℕ → ℕ → Stage State → Type 0
IsNew j c n (Runs e) = Unit {0}
IsNew j c n (Waits e) = Unit {0}
IsNew j c n (Works e) = (n == j) ≡ true → list_any (λ d. d == c) e.at.passed ≡ false
IsNew j c n (Over o) = Unit {0}

-- ---- outcomes

abbrev pub gone : ℕ → Ending → Planned
gone n o = record { number = n; place = Gone o }

abbrev pub Has : Planned → List Planned → Type 0
Has p jobs = Among (λ q. q ≡ p) jobs

-- the outcome of a job that has ended stands in the plan
abbrev pub IsToldBy : {State : Type 0} → List Planned → ℕ → Stage State → Type 0
IsToldBy jobs n (Runs e) = Unit {0}
IsToldBy jobs n (Waits e) = Unit {0}
IsToldBy jobs n (Works e) = Unit {0}
IsToldBy jobs n (Over o) = Has (gone n o) jobs

-- ---- the words of the laws

-- each held copy is for jobs that ride with its key in the last visit
abbrev pub AreHeldForRiders : {State : Type 0} → Setup State → Scene State → Type 0
AreHeldForRiders s scene = AllByRecursion (IsHeldFor (IsRiding s (chunk_now scene.visits)) scene.jobs) scene.held

-- the visits are those that the plan of their misses begins with, with further misses
abbrev pub BeginsPlan : {State : Type 0} → Setup State → List Miss → Scene State → Type 0
BeginsPlan s more scene = EndsWith (plan_after s (more ++ misses_by_visit scene.visits)).visits scene.visits

-- each job that has ended has its outcome in the plan
abbrev pub HasPlannedOutcomes : {State : Type 0} → Setup State → List Miss → Scene State → Type 0
HasPlannedOutcomes s more scene = AllStages (IsToldBy (plan_of s (more ++ misses_by_visit scene.visits)).jobs) scene.jobs

-- every entry is in, no visit is open, and no job runs
pub record IsAtEnd {State : Type 0} (s : Setup State) (scene : Scene State) : Type 0 where
  pub entries : slice_get s.script scene.entries_in ≡ None
  pub visits : is_open scene ≡ false
  pub jobs : none_runs scene.jobs ≡ true

-- the plan has these visits and jobs, and no more
abbrev pub IsWholePlan : {State : Type 0} → Setup State → List Miss → Scene State → Type 0
IsWholePlan s more scene = plan_of s (more ++ misses_by_visit scene.visits) ≡ seen_plan scene

-- ---- jobs that end by a miss

-- a rider with this number is ended so by a miss of the visit
abbrev pub EndsRider : ℕ → Ending → Ridden → Type 0
EndsRider n o v = Among (λ r. (r.job ≡ n) × (loss_of v.miss v.chunk r.key ≡ Some o)) v.riders

-- a job that has ended did so as its lone run, or it rode in one of the visits, whose miss ended it
abbrev pub IsAloneOrMissed : {State : Type 0} → (ℕ → Outcome) → List Ridden → ℕ → Stage State → Type 0
IsAloneOrMissed lone visits n (Runs e) = Unit {0}
IsAloneOrMissed lone visits n (Waits e) = Unit {0}
IsAloneOrMissed lone visits n (Works e) = Unit {0}
IsAloneOrMissed lone visits n (Over o) = (o ≡ Own (lone n)) ⊎ Among (EndsRider n o) visits

-- ---- the schedule

-- the list has the other one in front
abbrev pub BeginsWith : List Ridden → List Ridden → Type 0
BeginsWith ys xs = (zs : List Ridden) × (ys ≡ xs ++ zs)

-- the schedule begins with the visits so far, with their riders, keys and misses
abbrev pub HasVisitsOf : {State : Type 0} → Schedule → Scene State → Type 0
HasVisitsOf schedule scene = BeginsWith schedule.visits (reverse scene.visits)

abbrev pub HasOutcomeIn : {State : Type 0} → List Ending → ℕ → Stage State → Type 0
HasOutcomeIn outcomes n (Runs e) = Unit {0}
HasOutcomeIn outcomes n (Waits e) = Unit {0}
HasOutcomeIn outcomes n (Works e) = Unit {0}
HasOutcomeIn outcomes n (Over o) = slice_get outcomes n ≡ Some o

-- each job that has ended has its outcome in the schedule
abbrev pub HasOutcomesOf : {State : Type 0} → Schedule → Scene State → Type 0
HasOutcomesOf schedule scene = AllStages (HasOutcomeIn schedule.outcomes) scene.jobs

-- the schedule has these visits and no more
abbrev pub HasOnlyVisitsOf : {State : Type 0} → Schedule → Scene State → Type 0
HasOnlyVisitsOf schedule scene = schedule.visits ≡ reverse scene.visits
