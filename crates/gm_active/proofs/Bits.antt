-- Bits of a word and of the same word shifted down.
use Rattle.std.proofs.Common.{◌≡◌, ℕ, ◌+◌, ◌-◌, ◌/◌, ◌%◌, ◌^◌, ◌<◌, ◌≤◌, sym, ap, ◌∙◌, inl, inr, arith, w64}
use Rattle.std.specs.Int.{bit_at, trailing_zeros}
use Rattle.std.proofs.Math.Nat.{div-div-eq-div-mul, div-le_self}
use Rattle.std.proofs.lemmas.Nat.{pow-add}
use Rattle.std.proofs.lemmas.Nat.Bits.{bit_at-zero, bit_at-trailing_zeros, bit_at_above}
use Rattle.std.proofs.lemmas.Bool.{cases_lt}

pub bit_at-shifted : (n k i : ℕ) → bit_at (n / 2 ^ k) i ≡ bit_at n (k + i)
bit_at-shifted n k i = ap (λ (q : ℕ). q % 2) (div-div-eq-div-mul n (2 ^ k) (2 ^ i) ∙ ap (λ (p : ℕ). n / p) (sym (pow-add 2 k i)))

-- the same by the number of the bit in the whole word
pub bit_at-from : (n k i : ℕ) → k ≤ i → bit_at n i ≡ bit_at (n / 2 ^ k) (i - k)
bit_at-from n k i le = let place : i ≡ k + (i - k) = omega arith in ap (λ (j : ℕ). bit_at n j) place ∙ sym (bit_at-shifted n k (i - k))

-- where nothing is left, no bit is set from there on
pub none_from : (n k : ℕ) → n / 2 ^ k ≡ 0 → (i : ℕ) → k ≤ i → bit_at n i ≡ 0
none_from n k empty i le = bit_at-from n k i le ∙ ap (λ (m : ℕ). bit_at m (i - k)) empty ∙ bit_at-zero (i - k)

-- the least bit that is set from there on
pub record IsLeastFrom (n k at : ℕ) : Type 0 where
  pub low : k ≤ at
  pub high : at < 64
  pub here : bit_at n at ≡ 1
  pub before : (i : ℕ) → k ≤ i → i < at → bit_at n i ≡ 0

pub least_from : (n k : ℕ) → n < 2 ^ 64 → k < 64 → 0 < n / 2 ^ k → IsLeastFrom n k (k + trailing_zeros w64 (n / 2 ^ k))
least_from n k fits within some =
    let small : n / 2 ^ k < 2 ^ 64 = let less = div-le_self n (2 ^ k) in omega arith in
    let lowest = bit_at-trailing_zeros w64 (n / 2 ^ k) some small in
    let set : bit_at n (k + trailing_zeros w64 (n / 2 ^ k)) ≡ 1 = sym (bit_at-shifted n k (trailing_zeros w64 (n / 2 ^ k))) ∙ lowest.1 in
    let high : k + trailing_zeros w64 (n / 2 ^ k) < 64 =
    elim (cases_lt (k + trailing_zeros w64 (n / 2 ^ k)) 64) as (λ _. k + trailing_zeros w64 (n / 2 ^ k) < 64) [
      | inl less ↦ less
      | inr more ↦ let unset = bit_at_above n 64 (k + trailing_zeros w64 (n / 2 ^ k)) fits more in absurd (omega arith)
    ] in
    record {
      low = omega arith;
      high = high;
      here = set;
      before = λ i le less. bit_at-from n k i le ∙ lowest.2 (i - k) (omega arith);
    }
