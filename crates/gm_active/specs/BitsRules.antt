-- What proofs need of sets of numbers: a mark after a write, and what a search for the least number says of the test for any.
use Rattle.std.specs.Prelude.{◌≡◌, ℕ, zero, suc, ◌+◌, ◌-◌, ◌<◌, ◌≤◌, Bool, true, false, ◌||◌, List, length, replicate, slice_set}
use Rattle.std.specs.List.{list_any, range_with_len}
use Rattle.std.proofs.Common.{◌≢◌, get_or, ap, ◌∙◌, refl, inl, inr, arith}
use Rattle.std.proofs.lemmas.Bool.{cases_lt}
use Rattle.std.proofs.lemmas.List.{get_or_past, get_or-replicate, length-replicate, get_or-set_same, get_or-set_other}
use Rattle.std.proofs.lemmas.List.Folds.{list_any_at}
use Rattle.std.proofs.lemmas.List.FromFn.{length-range_with_len, get_or-range_with_len}
use Rattle.gm_active.specs.Bits.{is_in, any_between, NoneBetween, IsLeastBetween}

pub no_marks : (n k : ℕ) → is_in (replicate n false) k ≡ false
no_marks n k =
    elim (cases_lt k n) as (λ _. get_or (replicate n false) k false ≡ false) [
      | inl less ↦ get_or-replicate n k false false less
      | inr past ↦ get_or_past (replicate n false) k false (omega (arith, length-replicate n false))
    ]

-- a number behind the last mark isn't in the set
pub is_in_past : (marks : List Bool) (k : ℕ) → length marks ≤ k → is_in marks k ≡ false
is_in_past marks k past = get_or_past marks k false past

pub marked_now : (marks : List Bool) (k : ℕ) (b : Bool) → k < length marks → is_in (slice_set marks k b) k ≡ b
marked_now marks k b within = get_or-set_same marks k b false within

pub marked_before : (marks : List Bool) (k other : ℕ) (b : Bool) → other ≢ k → is_in (slice_set marks k b) other ≡ is_in marks other
marked_before marks k other b differ = get_or-set_other marks k other b false differ

none_in_range : (has : ℕ → Bool) (from count : ℕ) → ((k : ℕ) → from ≤ k → k < from + count → has k ≡ false) → list_any has (range_with_len from count) ≡ false
none_in_range has from zero none = refl
none_in_range has from (suc count) none =
    ap (λ (b : Bool). b || list_any has (range_with_len (from + 1) count)) (none from (omega arith) (omega arith))
    ∙ none_in_range has (from + 1) count (λ k low high. none k (omega arith) (omega arith))

pub any_from_none : (has : ℕ → Bool) (from end : ℕ) → NoneBetween has from end → any_between has from end ≡ false
any_from_none has from end none = none_in_range has from (end - from) (λ k low high. none k low (omega arith))

pub any_from_one : (has : ℕ → Bool) (from end k : ℕ) → from ≤ k → k < end → has k ≡ true → any_between has from end ≡ true
any_from_one has from end k low high here =
    let within : k - from < end - from = omega arith in
    let place : get_or (range_with_len from (end - from)) (k - from) 0 ≡ k =
    get_or-range_with_len from (end - from) (k - from) 0 within ∙ (let e : from + (k - from) ≡ k = omega arith in e) in
    list_any_at has (range_with_len from (end - from)) (k - from) 0 (omega (arith, length-range_with_len from (end - from))) (ap has place ∙ here)

pub any_from_least : (has : ℕ → Bool) (from end k : ℕ) → IsLeastBetween has from end k → any_between has from end ≡ true
any_from_least has from end k least = any_from_one has from end k least.low least.high least.here

pub none_from_any : (has : ℕ → Bool) (from end : ℕ) → any_between has from end ≡ false → NoneBetween has from end
none_from_any has from end none k low high =
    let at : (b : Bool) → has k ≡ b → has k ≡ false = elim [
      | true ↦ λ here. let some = any_from_one has from end k low high here in cc
      | false ↦ λ here. here
    ] in
    at (has k) refl

pub ruleset marking = (no_marks, is_in_past, marked_now, marked_before, any_from_none, any_from_one, any_from_least, none_from_any)
