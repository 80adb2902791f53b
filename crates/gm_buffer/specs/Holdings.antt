-- The copies that are held, and their riders.
use Rattle.std.specs.Prelude.{◌≡◌, ◌<◌, ℕ, Bool, not, ◌==◌, if◌then◌else◌, List, [], ◌∷◌, length, filter, find, Option, Some, None}
use Rattle.gm_base.specs.declared.copies.Key.{Key}
use Rattle.gm_base.specs.declared.copies.ChunkCopy.{ChunkCopy}
use Rattle.gm_buffer.specs.Keys.{is_same_key}

-- a copy, and the jobs that still have to pass it
pub record Held : Type 0 where
  pub copy : ChunkCopy
  pub riders : List ℕ

abbrev pub is_under : Key → Held → Bool
is_under key held = is_same_key held.copy.key key

abbrev pub held_under : Key → List Held → Option Held
held_under key all = find (is_under key) all

abbrev pub riders_of : Option Held → List ℕ
riders_of None = []
riders_of (Some held) = held.riders

-- the riders of the copy with this key; a key whose copy isn't held has none
abbrev pub riders_under : Key → List Held → List ℕ
riders_under key all = riders_of (held_under key all)

abbrev pub copy_of : Option Held → Option ChunkCopy
copy_of None = None
copy_of (Some held) = Some held.copy

abbrev pub copy_under : Key → List Held → Option ChunkCopy
copy_under key all = copy_of (held_under key all)

-- each copy has a rider, and no two have one key
abbrev pub IsKept : List Held → Type 0
IsKept [] = Unit {0}
IsKept (held ∷ rest) = (0 < length held.riders) × (held_under held.copy.key rest ≡ None) × IsKept rest

-- the riders that are left when a job has passed
abbrev pub without : ℕ → List ℕ → List ℕ
without job riders = filter (λ rider. not (rider == job)) riders

-- this copy is held too, for these jobs
pub record Puts (copy : ChunkCopy) (jobs : List ℕ) (old new : List Held) : Type 0 where
  pub riders : (key : Key) → riders_under key new ≡ (if is_same_key copy.key key then jobs else riders_under key old)
  pub copies : (key : Key) → copy_under key new ≡ (if is_same_key copy.key key then Some copy else copy_under key old)

-- a job has passed the copy under a key; each copy stays as long as it has a rider
pub record Passes (passed : Key) (job : ℕ) (old new : List Held) : Type 0 where
  pub riders : (key : Key) → riders_under key new
      ≡ (if is_same_key passed key then without job (riders_under key old) else riders_under key old)
  pub stays : (key : Key) → 0 < length (riders_under key new) → copy_under key new ≡ copy_under key old
  pub leaves : (key : Key) → riders_under key new ≡ [] → copy_under key new ≡ None
