-- What calls do to a depot and to a sink, by what these tell before and after.
use Rattle.std.specs.Prelude.{◌≡◌, ℕ, ◌+◌, ◌≤◌, List, Result, OnOk, OnErr}
use Rattle.gm_outside.specs.declared.traits.Trouble.{Trouble}
use Rattle.gm_outside.specs.declared.traits.Trouble.TheVariants.{Failed, Memory}
use Rattle.gm_outside.specs.Causes.{HasCause, HasExactCause, counted_times}
use Rattle.gm_outside.specs.Growth.{GrewBy, GrewByPrefix}
use Rattle.gm_outside.specs.States.{DepotState, SinkState}

-- calls that only read: they ask for a size just so often, and make at most so many reads
pub record OnlyReads (asked most : ℕ) (old new : DepotState) : Type 0 where
  pub files : new.files ≡ old.files
  pub calm : new.calm ≡ old.calm
  pub write_faults : new.write_faults ≡ old.write_faults
  pub sizes : new.sizes ≡ counted_times asked old.sizes
  pub faults : old.faults ≤ new.faults
  pub reads : new.reads ≤ old.reads + most

-- calls that only write: nothing is read, and no size asked for
pub record OnlyWrites (old new : DepotState) : Type 0 where
  pub calm : new.calm ≡ old.calm
  pub sizes : new.sizes ≡ old.sizes
  pub reads : new.reads ≡ old.reads

-- the call on a depot fails only where its count of faults rose, and leaves that as it was where it doesn't fail
abbrev pub CountsFaults : {T : Type 0} → DepotState → DepotState → Result T Trouble → Type 0
CountsFaults old new result = HasExactCause Failed old.faults new.faults result

-- the call that writes fails only where the count of such faults rose too
abbrev pub CountsWriteFaults : {T : Type 0} → DepotState → DepotState → Result T Trouble → Type 0
CountsWriteFaults old new result = HasCause Failed old.write_faults new.write_faults result

-- a call that gives up only where the sink does: where it failed its count of faults rose, and where it found no memory that of lacks
pub record GivesUpWith {T : Type 0} (old new : SinkState) (result : Result T Trouble) : Type 0 where
  pub fault : HasExactCause Failed old.faults new.faults result
  pub lack : HasCause Memory old.lacks new.lacks result

-- a call that writes this text, or gives up behind a first part of it
pub record Writes {T : Type 0} (text : List ℕ) (old new : SinkState) (result : Result T Trouble) : Type 0 where
  pub ok : OnOk result (GrewBy old.written new.written text)
  pub err : OnErr result (GrewByPrefix old.written new.written text)
  pub causes : GivesUpWith old new result
