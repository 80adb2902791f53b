-- Searching the least number of a set word by word.
use Rattle.std.proofs.Common.{◌≡◌, ℕ, ◌+◌, ◌-◌, ◌*◌, ◌<◌, ◌≤◌, Bool, true, false, eqb, List, get_or, sym, ap, ◌∙◌, inl, inr, arith}
use Rattle.std.specs.Int.{bit_at}
use Rattle.std.proofs.lemmas.Bool.{cases_lt}
use Rattle.gm_active.specs.Bits.{is_in, NoneBetween, IsLeastBetween}
use Rattle.gm_active.specs.Words.{has_mark, marks_of, AreWords}
use Rattle.gm_active.proofs.Marks.{marks_at, mark_in_word}

-- none before this word, and none in it below this bit
pub none_up_to : (words : List ℕ) (from at word bit : ℕ) → word ≡ get_or words at 0 → NoneBetween (has_mark words) from (64 * at) → bit ≤ 64
    → ((i : ℕ) → from - 64 * at ≤ i → i < bit → bit_at word i ≡ 0) → NoneBetween (has_mark words) from (64 * at + bit)
none_up_to words from at word bit is before within none k low high =
    elim (cases_lt k (64 * at)) as (λ _. has_mark words k ≡ false) [
      | inl less ↦ before k low less
      | inr more ↦ mark_in_word words at word k is more (omega arith) ∙ ap (λ (b : ℕ). eqb b 1) (none (k - 64 * at) (omega arith) (omega arith))
    ]

pub marked_bit : (words : List ℕ) (at word bit : ℕ) → word ≡ get_or words at 0 → bit < 64 → bit_at word bit ≡ 1 → has_mark words (64 * at + bit) ≡ true
marked_bit words at word bit is within here =
    let place : 64 * at + bit - 64 * at ≡ bit = omega arith in
    mark_in_word words at word (64 * at + bit) is (omega arith) (omega arith) ∙ ap (λ (i : ℕ). eqb (bit_at word i) 1) place ∙ ap (λ (b : ℕ). eqb b 1) here

-- what is said of the words is said of their marks
pub none_in_marks : (n : ℕ) (words : List ℕ) (marks : List Bool) (from end : ℕ) → AreWords n words → marks_of n words ≡ marks → NoneBetween (has_mark words) from end → NoneBetween (is_in marks) from end
none_in_marks n words marks from end are view none k low high = ap (λ (ms : List Bool). is_in ms k) (sym view) ∙ marks_at n words k are ∙ none k low high

pub least_in_marks : (n : ℕ) (words : List ℕ) (marks : List Bool) (from end number : ℕ) → AreWords n words → marks_of n words ≡ marks → IsLeastBetween (has_mark words) from end number → IsLeastBetween (is_in marks) from end number
least_in_marks n words marks from end number are view least = record {
  low = least.low;
  high = least.high;
  here = ap (λ (ms : List Bool). is_in ms number) (sym view) ∙ marks_at n words number are ∙ least.here;
  before = none_in_marks n words marks from number are view least.before;
}
