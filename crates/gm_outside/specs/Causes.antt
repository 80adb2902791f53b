-- Counts that stop at their end, and answers that come only where such a count rose.
use Rattle.std.specs.Prelude.{◌≡◌, ℕ, zero, suc, ◌+◌, ◌≤◌, min, Result, IsErrOf}
use Rattle.gm_outside.specs.declared.traits.TheConstants.{MAX_COUNT}

-- one more, or the end
abbrev pub counted : ℕ → ℕ
counted count = min (count + 1) MAX_COUNT

-- the same so many times
abbrev pub counted_times : ℕ → ℕ → ℕ
counted_times zero count = count
counted_times (suc times) count = counted (counted_times times count)

-- the count rose, or stands at its end
abbrev pub Rose : ℕ → ℕ → Type 0
Rose before now = counted before ≤ now

-- the count never falls, and the call answers this error only where the count rose
pub record HasCause {T E : Type 0} (error : E) (before now : ℕ) (result : Result T E) : Type 0 where
  pub later : before ≤ now
  pub failed : IsErrOf result error → Rose before now

-- besides, a call that doesn't answer this error leaves the count as it was
pub record HasExactCause {T E : Type 0} (error : E) (before now : ℕ) (result : Result T E) : Type 0 where
  pub later : before ≤ now
  pub failed : IsErrOf result error → Rose before now
  pub kept : (IsErrOf result error → ⊥) → now ≡ before
