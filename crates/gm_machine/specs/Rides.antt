-- The rides of a journal: which job rode to which chunk, in which phase.
use Rattle.std.specs.Prelude.{◌≡◌, ℕ, Bool, true, false, List, [], ◌∷◌, ◌++◌, Option, Some, None}
use Rattle.std.specs.List.{filter_map}
use Rattle.gm_kernel.specs.declared.phase.Phase.{Phase}
use Rattle.gm_events.specs.declared.event.Event.{Event}
use Rattle.gm_events.specs.declared.event.Event.TheVariants.{Submit, Visit, Loaded, NoCopy, LoadFailed, Given, Passed}
use Rattle.gm_machine.specs.Setups.{Setup}
use Rattle.gm_machine.specs.Machine.{Stage, Runs, Waits, Works, Over, Job, Scene, beginning, done}
use Rattle.gm_machine.specs.Promises.{Among}

pub record Ride : Type 0 where
  pub job : ℕ
  pub phase : Phase
  pub chunk : ℕ

abbrev pub ride_if : Bool → Ride → Option Ride
ride_if true ride = Some ride
ride_if false ride = None

abbrev pub ride_at : {State : Type 0} → Setup State → ℕ → ℕ → Stage State → Option Ride
ride_at s c n (Runs e) = ride_if (s.owes n e c) (record { job = n; phase = e.at.phase; chunk = c })
ride_at s c n (Waits e) = None
ride_at s c n (Works e) = None
ride_at s c n (Over o) = None

-- the rides that a visit of the chunk opens, by the jobs' numbers
abbrev pub rides_to : {State : Type 0} → Setup State → ℕ → List (Job State) → List Ride
rides_to s c jobs = filter_map (λ job. ride_at s c job.number job.stage) jobs

abbrev pub rides_by : {State : Type 0} → Setup State → Scene State → Event → List Ride
rides_by s scene (Visit c) = rides_to s c scene.jobs
rides_by s scene (Submit line) = []
rides_by s scene (Loaded k) = []
rides_by s scene (NoCopy k) = []
rides_by s scene (LoadFailed c cause) = []
rides_by s scene (Given j c) = []
rides_by s scene (Passed j c) = []

unfoldable pub rides_from : {State : Type 0} → Setup State → Scene State → List Event → List Ride
rides_from s scene [] = []
rides_from s scene (event ∷ events) = rides_by s scene event ++ rides_from s (done s scene event) events

-- all rides of the journal
abbrev pub rides_of : {State : Type 0} → Setup State → List Event → List Ride
rides_of s journal = rides_from s beginning journal

abbrev pub first_of : List Ride → List Ride
first_of [] = []
first_of (ride ∷ rides) = ride ∷ []

unfoldable pub first_rides_from : {State : Type 0} → Setup State → Scene State → List Event → List Ride
first_rides_from s scene [] = []
first_rides_from s scene (event ∷ events) = first_of (rides_by s scene event) ++ first_rides_from s (done s scene event) events

-- the first rider of each visit
abbrev pub first_rides_of : {State : Type 0} → Setup State → List Event → List Ride
first_rides_of s journal = first_rides_from s beginning journal

abbrev pub IsAmong : Ride → List Ride → Type 0
IsAmong ride rides = Among (λ r. r ≡ ride) rides

-- no ride stands twice
abbrev pub NoneTwice : List Ride → Type 0
NoneTwice [] = Unit {0}
NoneTwice (ride ∷ rides) = (IsAmong ride rides → ⊥) × NoneTwice rides
