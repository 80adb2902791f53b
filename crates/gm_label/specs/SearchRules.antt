-- What proofs need of a search by halving, over a list by numbers of its elements that rise.
use Rattle.std.specs.Prelude.{◌≡◌, ℕ, ◌<◌, List, length}
use Rattle.std.specs.List.Sorted.{IsBinarySearchResult, IsNonDecreasingBy, IsSearchInRange}
use Rattle.std.specs.Ordering.{nat_cmp, ordering_index}
use Rattle.std.proofs.Common.{get_or, sym, Result, Ok, Err, MatchResult, inl, inr, arith}
use Rattle.std.proofs.lemmas.Cmp.{ranked}
use Rattle.std.proofs.lemmas.Bool.{cases_lt}
use Rattle.std.proofs.lemmas.Bool.Decides.{nat_tests}

module _ {X : Type 0} (n : X → ℕ) (xs : List X) (x : ℕ) (rises : IsNonDecreasingBy n xs) where
  comparisons_rise : IsNonDecreasingBy (λ y. ordering_index (nat_cmp (n y) x)) xs
  comparisons_rise i j d low within = let less = rises i j d low within in grind (arith, nat_tests)

  -- it answers a place of the number, or no place has it
  pub searched : (r : Result ℕ ℕ) → IsSearchInRange r (length xs) → IsBinarySearchResult (λ y. nat_cmp (n y) x) xs r
      → MatchResult r (λ at. (at < length xs) × ((d : X) → n (get_or xs at d) ≡ x)) (λ _. (k : ℕ) (d : X) → k < length xs → n (get_or xs k d) ≡ x → ⊥)
  searched (Ok at) within equal = (within, λ d. ranked _ x _ (sym (equal d)))
  searched (Err at) within parted = λ k d below same.
      elim (cases_lt k at) as (λ _. ⊥) [
        | inl front ↦ let less = ranked _ x _ (sym ((parted comparisons_rise).0 k d (omega arith) front)) in omega arith
        | inr back ↦ let more = ranked _ x _ (sym ((parted comparisons_rise).1 k d back below)) in omega arith
      ]
