-- Counting the numbers of a set word by word.
use Rattle.std.proofs.Common.{◌≡◌, ℕ, zero, suc, ◌+◌, ◌-◌, ◌*◌, ◌/◌, ◌%◌, ◌^◌, ◌<◌, ◌≤◌, Bool, false, cond, eqb, List, ◌∷◌, ◌++◌, get_or, map, sym, ap, refl, ◌∙◌, inl, inr, arith, add-one, add-zero, zero-add, eq-eqb, ne_eqb}
use Rattle.std.specs.Int.{bit_at}
use Rattle.std.specs.Int.RustNames.{count_ones}
use Rattle.std.specs.List.{range_with_len, count_by}
use lib.Lanes.{mask_l}
use Rattle.std.proofs.Math.Nat.{suc-add, mod-eq_of_lt, div-div-eq-div-mul, div-one}
use Rattle.std.proofs.lemmas.Bool.{cases_lt, cases_eq}
use Rattle.gm_label.specs.LabelsRules.{sum_by-map}
use Rattle.std.proofs.lemmas.List.Sums.{sum_by-cons, sum_by-append, count_by-le-length}
use Rattle.std.proofs.lemmas.List.FromFn.{length-range_with_len}
use Rattle.std.proofs.lemmas.Nat.{pow-add, mod-pow-add}
use Rattle.std.proofs.lemmas.Simd.{ones-mask_l}
use Rattle.gm_active.specs.Bits.{members_of}
use Rattle.gm_active.specs.Words.{has_mark, marks_of, AreWords}
use Rattle.gm_active.proofs.Marks.{mark_in_word}

range-split : (a m k : ℕ) → range_with_len a (m + k) ≡ range_with_len a m ++ range_with_len (a + m) k
range-split a zero k = ap (λ (n : ℕ). range_with_len a n) (zero-add k) ∙ ap (λ (b : ℕ). range_with_len b k) (sym (add-zero a))
range-split a (suc m) k =
    let place : a + 1 + m ≡ a + suc m = omega arith in
    ap (λ (n : ℕ). range_with_len a n) (suc-add m k) ∙ ap (λ (xs : List ℕ). a ∷ xs) (range-split (a + 1) m k ∙ ap (λ (b : ℕ). range_with_len (a + 1) m ++ range_with_len b k) place)

count-cons : (p : ℕ → Bool) (x : ℕ) (xs : List ℕ) → count_by p (x ∷ xs) ≡ cond (p x) 1 0 + count_by p xs
count-cons p x xs = sum_by-cons (λ (y : ℕ). cond (p y) 1 0) x xs

count-split : (p : ℕ → Bool) (m k : ℕ) → count_by p (range_with_len 0 (m + k)) ≡ count_by p (range_with_len 0 m) + count_by p (range_with_len m k)
count-split p m k =
    ap (count_by p) (range-split 0 m k ∙ ap (λ (b : ℕ). range_with_len 0 m ++ range_with_len b k) (zero-add m))
    ∙ sum_by-append (λ (y : ℕ). cond (p y) 1 0) (range_with_len 0 m) (range_with_len m k)

-- tests that say the same of two ranges count the same there
count-same : (p q : ℕ → Bool) (a b m : ℕ) → ((j : ℕ) → j < m → p (a + j) ≡ q (b + j)) → count_by p (range_with_len a m) ≡ count_by q (range_with_len b m)
count-same p q a b zero same = refl
count-same p q a b (suc m) same =
    let first : p a ≡ q b = ap p (sym (add-zero a)) ∙ same 0 (omega arith) ∙ ap q (add-zero b) in
    let rest = count-same p q (a + 1) (b + 1) m (λ j less.
    ap p (let e : a + 1 + j ≡ a + suc j = omega arith in e) ∙ same (suc j) (omega arith) ∙ ap q (let e : b + suc j ≡ b + 1 + j = omega arith in e)) in
    count-cons p a (range_with_len (a + 1) m) ∙ ap (λ (t : Bool). cond t 1 0 + count_by p (range_with_len (a + 1) m)) first
    ∙ ap (λ (n : ℕ). cond (q b) 1 0 + n) rest ∙ sym (count-cons q b (range_with_len (b + 1) m))

count-none : (p : ℕ → Bool) (a m : ℕ) → ((k : ℕ) → a ≤ k → p k ≡ false) → count_by p (range_with_len a m) ≡ 0
count-none p a zero none = refl
count-none p a (suc m) none =
    count-cons p a (range_with_len (a + 1) m) ∙ ap (λ (t : Bool). cond t 1 0 + count_by p (range_with_len (a + 1) m)) (none a (omega arith))
    ∙ zero-add (count_by p (range_with_len (a + 1) m)) ∙ count-none p (a + 1) m (λ k le. none k (omega arith))

digit_of_test : (n : ℕ) → cond (eqb (n % 2) 1) 1 0 ≡ n % 2
digit_of_test n =
    elim (cases_eq (n % 2) 1) as (λ _. cond (eqb (n % 2) 1) 1 0 ≡ n % 2) [
      | inl one ↦ ap (λ (t : Bool). cond t 1 0) (eq-eqb (n % 2) 1 one) ∙ sym one
      | inr other ↦ ap (λ (t : Bool). cond t 1 0) (ne_eqb (n % 2) 1 other) ∙ omega arith
    ]

-- the bits of a number from a place on, as a number again
mask_of_bits : (w a k : ℕ) → mask_l (map (λ j. eqb (bit_at w j) 1) (range_with_len a k)) ≡ w / 2 ^ a % 2 ^ k
mask_of_bits w a zero = omega arith
mask_of_bits w a (suc k) =
    let half : w / 2 ^ (a + 1) ≡ w / 2 ^ a / 2 ^ 1 = ap (λ (m : ℕ). w / m) (pow-add 2 a 1) ∙ sym (div-div-eq-div-mul w (2 ^ a) (2 ^ 1)) in
    let rest : mask_l (map (λ j. eqb (bit_at w j) 1) (range_with_len (a + 1) k)) ≡ w / 2 ^ a / 2 ^ 1 % 2 ^ k = mask_of_bits w (a + 1) k ∙ ap (λ (n : ℕ). n % 2 ^ k) half in
    let digit : cond (eqb (bit_at w a) 1) 1 0 ≡ w / 2 ^ a % 2 = digit_of_test (w / 2 ^ a) in
    let whole : w / 2 ^ a % 2 ^ (k + 1) ≡ (w / 2 ^ a / 2 ^ 1 % 2 ^ k) * 2 ^ 1 + w / 2 ^ a % 2 ^ 1 = mod-pow-add (w / 2 ^ a) k 1 in
    let all : cond (eqb (bit_at w a) 1) 1 0 + 2 * mask_l (map (λ j. eqb (bit_at w j) 1) (range_with_len (a + 1) k)) ≡ w / 2 ^ a % 2 ^ (k + 1) = omega arith in
    all ∙ ap (λ (n : ℕ). w / 2 ^ a % 2 ^ n) (add-one k)

ones_of_word : (w k : ℕ) → w < 2 ^ k → count_by (λ j. eqb (bit_at w j) 1) (range_with_len 0 k) ≡ count_ones w
ones_of_word w k fits =
    sym (ones-mask_l (λ (j : ℕ). eqb (bit_at w j) 1) (range_with_len 0 k)) ∙ ap count_ones (mask_of_bits w 0 k ∙ ap (λ (n : ℕ). n % 2 ^ k) (div-one w) ∙ mod-eq_of_lt fits)

-- how many of the numbers below this one are marked
abbrev pub marked_below : List ℕ → ℕ → ℕ
marked_below words m = count_by (has_mark words) (range_with_len 0 m)

next_word : (words : List ℕ) (at k : ℕ) → k ≡ 64 → get_or words at 0 < 2 ^ k → marked_below words (64 * at + k) ≡ marked_below words (64 * at) + count_ones (get_or words at 0)
next_word words at k wide fits =
    count-split (has_mark words) (64 * at) k
    ∙ ap (λ (n : ℕ). marked_below words (64 * at) + n)
    (count-same (has_mark words) (λ j. eqb (bit_at (get_or words at 0) j) 1) (64 * at) 0 k
    (λ j less. mark_in_word words at (get_or words at 0) (64 * at + j) refl (omega arith) (omega arith)
    ∙ ap (λ (i : ℕ). eqb (bit_at (get_or words at 0) i) 1) (let e : 64 * at + j - 64 * at ≡ 0 + j = omega arith in e))
    ∙ ones_of_word (get_or words at 0) k fits)

pub marked_below_next_word : (words : List ℕ) (at : ℕ) → get_or words at 0 < 2 ^ 64 → marked_below words (64 * (at + 1)) ≡ marked_below words (64 * at) + count_ones (get_or words at 0)
marked_below_next_word words at fits = ap (marked_below words) (let e : 64 * (at + 1) ≡ 64 * at + 64 = omega arith in e) ∙ next_word words at 64 refl fits

pub marked_below_all : (n m : ℕ) (words : List ℕ) → AreWords n words → n ≤ m → marked_below words m ≡ marked_below words n
marked_below_all n m words are le =
    ap (marked_below words) (let e : m ≡ n + (m - n) = omega arith in e) ∙ count-split (has_mark words) n (m - n)
    ∙ ap (λ (k : ℕ). marked_below words n + k) (count-none (has_mark words) n (m - n) are.none_behind) ∙ add-zero (marked_below words n)

pub marked_below-le : (n m : ℕ) (words : List ℕ) → AreWords n words → marked_below words m ≤ n
marked_below-le n m words are =
    elim (cases_lt n m) as (λ _. marked_below words m ≤ n) [
      | inl less ↦
          let all = marked_below_all n m words are (omega arith) in
          let most = count_by-le-length (has_mark words) (range_with_len 0 n) in
          let long = length-range_with_len 0 n in
          omega arith
      | inr more ↦ let most = count_by-le-length (has_mark words) (range_with_len 0 m) in let long = length-range_with_len 0 m in omega arith
    ]

pub members_of_marks : (n : ℕ) (words : List ℕ) → members_of (marks_of n words) ≡ marked_below words n
unfolding marks_of
members_of_marks n words = sum_by-map (λ (b : Bool). cond b 1 0) (has_mark words) (range_with_len 0 n)
