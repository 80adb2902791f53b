-- Sets in words of 64 bits: their marks, and what one bit that is set or cleared does to them.
use Rattle.std.proofs.Common.{◌≡◌, ◌≢◌, ℕ, ◌+◌, ◌-◌, ◌*◌, ◌/◌, ◌%◌, ◌^◌, ◌<◌, ◌≤◌, Bool, false, eqb, List, length, get_or, map, replicate, sym, ap, ◌∙◌, subst, inl, inr, arith}
use Rattle.std.proofs.Math.ListN.{set}
use Rattle.std.specs.Int.{bit_at}
use Rattle.std.specs.List.{range_with_len}
use Rattle.std.proofs.lemmas.Bool.{cases_lt, cases_eq}
use Rattle.std.proofs.lemmas.List.{get_or_past, get_or-replicate, length-replicate, get_or-set_same, get_or-set_other, length-set}
use Rattle.std.proofs.lemmas.List.FromFn.{length-map-range_with_len, get_or-map-range_with_len, fill_by_all}
use Rattle.std.proofs.lemmas.Nat.Bits.{bit_at-zero}
use Rattle.gm_active.specs.Bits.{is_in}
use Rattle.gm_active.specs.Words.{has_mark, marks_of, AreWords}

pub length-marks_of : (n : ℕ) (words : List ℕ) → length (marks_of n words) ≡ n
unfolding marks_of
length-marks_of n words = length-map-range_with_len (has_mark words) 0 n

pub marks_at : (n : ℕ) (words : List ℕ) (k : ℕ) → AreWords n words → is_in (marks_of n words) k ≡ has_mark words k
unfolding marks_of
marks_at n words k are =
    elim (cases_lt k n) as (λ _. get_or (map (has_mark words) (range_with_len 0 n)) k false ≡ has_mark words k) [
      | inl less ↦ get_or-map-range_with_len (has_mark words) 0 n k k false less (omega arith)
      | inr past ↦ get_or_past (map (has_mark words) (range_with_len 0 n)) k false (omega (arith, length-map-range_with_len (has_mark words) 0 n)) ∙ sym (are.none_behind k past)
    ]

-- marks are those of the words if each is
pub marks_by : (n : ℕ) (words : List ℕ) (marks : List Bool) → length marks ≡ n → ((k : ℕ) → k < n → is_in marks k ≡ has_mark words k) → marks_of n words ≡ marks
unfolding marks_of
marks_by n words marks long each = sym (fill_by_all (has_mark words) marks n false long each)

-- empty words

word_of_none : (m at : ℕ) → ◌≡◌ {A = ℕ} (get_or (replicate m 0) at 0) 0
word_of_none m at =
    let zero_word : ℕ = 0 in
    elim (cases_lt at m) as (λ _. get_or (replicate m zero_word) at zero_word ≡ zero_word) [
      | inl less ↦ get_or-replicate m at zero_word zero_word less
      | inr past ↦ get_or_past (replicate m zero_word) at zero_word (omega (arith, length-replicate m zero_word))
    ]

none_marked : (m k : ℕ) → has_mark (replicate m 0) k ≡ false
unfolding has_mark
none_marked m k = ap (λ (w : ℕ). eqb (bit_at w (k % 64)) 1) (word_of_none m (k / 64)) ∙ ap (λ (b : ℕ). eqb b 1) (bit_at-zero (k % 64))

pub none_are_words : (n m : ℕ) → n < 2 ^ 32 → n ≤ 64 * m → AreWords n (replicate m 0)
none_are_words n m few room = record { few = few; room = let long = length-replicate {A = ℕ} m 0 in omega arith; none_behind = λ k behind. none_marked m k }

pub marks_of_none : (n m : ℕ) → marks_of n (replicate m 0) ≡ replicate n false
marks_of_none n m = marks_by n (replicate m 0) (replicate n false) (length-replicate n false) (λ k less. get_or-replicate n k false false less ∙ sym (none_marked m k))

-- one bit

pub mark_below : (n v : ℕ) (words : List ℕ) (marks : List Bool) → marks_of n words ≡ marks → v < length marks → v < n
mark_below n v words marks view less = let long = length-marks_of n words in let same = ap (λ (xs : List Bool). length xs) view in omega arith

pub slot_within : (n v : ℕ) (words : List ℕ) → AreWords n words → v < n → v / 64 < length words
slot_within n v words are less = let room = are.room in omega arith

-- a word in whose place another stands that differs at most in one bit
pub record IsWithBit (words : List ℕ) (v word : ℕ) (b : Bool) : Type 0 where
  pub here : eqb (bit_at word (v % 64)) 1 ≡ b
  pub others : (i : ℕ) → i < 64 → i ≢ v % 64 → bit_at word i ≡ bit_at (get_or words (v / 64) 0) i

marked_here : (words : List ℕ) (v word : ℕ) (b : Bool) → v / 64 < length words → IsWithBit words v word b → has_mark (set words (v / 64) word) v ≡ b
unfolding has_mark
marked_here words v word b within bit = ap (λ (w : ℕ). eqb (bit_at w (v % 64)) 1) (get_or-set_same words (v / 64) word 0 within) ∙ bit.here

marked_other : (words : List ℕ) (v word k : ℕ) (b : Bool) → v / 64 < length words → IsWithBit words v word b → k ≢ v → has_mark (set words (v / 64) word) k ≡ has_mark words k
unfolding has_mark
marked_other words v word k b within bit other =
    elim (cases_eq (k / 64) (v / 64)) as (λ _. has_mark (set words (v / 64) word) k ≡ has_mark words k) [
      | inl same ↦
          let apart : k % 64 ≢ v % 64 = λ equal. other (omega arith) in
          let kept : bit_at word (k % 64) ≡ bit_at (get_or words (v / 64) 0) (k % 64) = bit.others (k % 64) (omega arith) apart in
          ap (λ (at : ℕ). eqb (bit_at (get_or (set words (v / 64) word) at 0) (k % 64)) 1) same
          ∙ ap (λ (w : ℕ). eqb (bit_at w (k % 64)) 1) (get_or-set_same words (v / 64) word 0 within)
          ∙ ap (λ (x : ℕ). eqb x 1) kept
          ∙ ap (λ (at : ℕ). eqb (bit_at (get_or words at 0) (k % 64)) 1) (sym same)
      | inr differ ↦ ap (λ (w : ℕ). eqb (bit_at w (k % 64)) 1) (get_or-set_other words (v / 64) (k / 64) word 0 differ)
    ]

pub set_are_words : (n v : ℕ) (words : List ℕ) (word : ℕ) (b : Bool) → AreWords n words → v < n → IsWithBit words v word b → AreWords n (set words (v / 64) word)
set_are_words n v words word b are less bit = record {
  few = are.few;
  room = let room = are.room in let long = length-set words (v / 64) word in omega arith;
  none_behind = λ k behind. marked_other words v word k b (slot_within n v words are less) bit (λ same. omega arith) ∙ are.none_behind k behind;
}

pub marks_after_set : (n v : ℕ) (words : List ℕ) (word : ℕ) (b : Bool) → AreWords n words → v < n → IsWithBit words v word b
    → marks_of n (set words (v / 64) word) ≡ set (marks_of n words) v b
marks_after_set n v words word b are less bit =
    let within = slot_within n v words are less in
    let long = length-marks_of n words in
    marks_by n (set words (v / 64) word) (set (marks_of n words) v b) (length-set (marks_of n words) v b ∙ long) (λ k below.
    elim (cases_eq k v) as (λ _. get_or (set (marks_of n words) v b) k false ≡ has_mark (set words (v / 64) word) k) [
      | inl same ↦
          subst (λ (at : ℕ). get_or (set (marks_of n words) v b) at false ≡ has_mark (set words (v / 64) word) at) (sym same)
          (get_or-set_same (marks_of n words) v b false (omega arith) ∙ sym (marked_here words v word b within bit))
      | inr other ↦ get_or-set_other (marks_of n words) v k b false other ∙ marks_at n words k are ∙ sym (marked_other words v word k b within bit other)
    ])

-- the mark of a number in a word that is read
pub mark_in_word : (words : List ℕ) (at word k : ℕ) → word ≡ get_or words at 0 → 64 * at ≤ k → k < 64 * at + 64 → has_mark words k ≡ eqb (bit_at word (k - 64 * at)) 1
unfolding has_mark
mark_in_word words at word k is low high =
    let slot : k / 64 ≡ at = omega arith in
    let place : k % 64 ≡ k - 64 * at = omega arith in
    ap (λ (i : ℕ). eqb (bit_at (get_or words i 0) (k % 64)) 1) slot ∙ ap (λ (w : ℕ). eqb (bit_at w (k % 64)) 1) (sym is) ∙ ap (λ (i : ℕ). eqb (bit_at word i) 1) place
