-- Sets of numbers below a limit, as marks by number.
use Rattle.std.specs.Prelude.{◌≡◌, ℕ, ◌-◌, ◌<◌, ◌≤◌, Bool, true, false, List, slice_index_or}
use Rattle.std.specs.List.{list_any, range_with_len, count_by}

-- whether a number is in the set
abbrev pub is_in : List Bool → ℕ → Bool
is_in marks k = slice_index_or marks k false

-- whether one of the numbers from here on and below the end has it
abbrev pub any_between : (ℕ → Bool) → ℕ → ℕ → Bool
any_between has from end = list_any has (range_with_len from (end - from))

-- none of the numbers from here on and below the end has it
abbrev pub NoneBetween : (ℕ → Bool) → ℕ → ℕ → Type 0
NoneBetween has from end = (k : ℕ) → from ≤ k → k < end → has k ≡ false

-- of them this one is the least that has it
pub record IsLeastBetween (has : ℕ → Bool) (from end number : ℕ) : Type 0 where
  pub low : from ≤ number
  pub high : number < end
  pub here : has number ≡ true
  pub before : NoneBetween has from number

-- how many numbers are in the set
abbrev pub members_of : List Bool → ℕ
members_of marks = count_by (λ is_marked. is_marked) marks
