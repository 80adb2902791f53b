-- Sums over the vertices below n.
use Rattle.std.proofs.Common.{◌≡◌, ℕ, zero, suc, ◌+◌, ◌*◌, ◌<◌, ◌≤◌, cond, eqb, List, length, inl, inr, sum, map, ap, ◌∙◌, refl, arith}
use Rattle.std.specs.Prelude.{slice_index}
use Rattle.std.specs.List.{range_with_len}
use Rattle.std.proofs.lemmas.Bool.{cases_eq, eq-eqb, ne_eqb, cond-true, cond-false}
use Rattle.std.proofs.lemmas.List.FromFn.{fill_by_all, sum_by-map-range_with_len_more}

abbrev pub total : (ℕ → ℕ) → ℕ → ℕ
total f zero = 0
total f (suc n) = total f n + f n

pub total-add : (f g : ℕ → ℕ) (n : ℕ) → total (λ u. f u + g u) n ≡ total f n + total g n
total-add f g zero = refl
total-add f g (suc n) = let ih = total-add f g n in omega arith

pub total-scale : (c : ℕ) (f : ℕ → ℕ) (n : ℕ) → total (λ u. c * f u) n ≡ c * total f n
total-scale c f zero = omega arith
total-scale c f (suc n) = let ih = total-scale c f n in omega arith

pub total-le : (f g : ℕ → ℕ) (n : ℕ) → ((u : ℕ) → u < n → f u ≤ g u) → total f n ≤ total g n
total-le f g zero h = omega arith
total-le f g (suc n) h =
    let ih = total-le f g n (λ u l. h u (omega arith)) in
    let last = h n (omega arith) in
    omega arith

pub total_constant : (c n : ℕ) → total (λ u. c) n ≡ n * c
total_constant c zero = omega arith
total_constant c (suc n) = let ih = total_constant c n in omega arith

-- one vertex alone
total_none : (a : ℕ) (w : ℕ → ℕ) (n : ℕ) → n ≤ a → total (λ u. cond (eqb a u) (w u) 0) n ≡ 0
total_none a w zero h = refl
total_none a w (suc n) h =
    let ih = total_none a w n (omega arith) in
    let other : cond (eqb a n) (w n) 0 ≡ 0 = cond-false (eqb a n) (w n) 0 (ne_eqb a n (λ e. omega arith)) in
    omega arith

pub total_one : (a : ℕ) (w : ℕ → ℕ) (n : ℕ) → a < n → total (λ u. cond (eqb a u) (w u) 0) n ≡ w a
total_one a w zero h = absurd (omega arith)
total_one a w (suc n) h =
    elim (cases_eq a n) as (λ _. total (λ u. cond (eqb a u) (w u) 0) (suc n) ≡ w a) [
      | inl e ↦
          let before : total (λ u. cond (eqb a u) (w u) 0) n ≡ 0 = total_none a w n (omega arith) in
          let here : cond (eqb a n) (w n) 0 ≡ w n = cond-true (eqb a n) (w n) 0 (eq-eqb a n e) in
          let same : w a ≡ w n = ap w e in
          omega arith
      | inr ne ↦
          let before : total (λ u. cond (eqb a u) (w u) 0) n ≡ w a = total_one a w n (omega arith) in
          let here : cond (eqb a n) (w n) 0 ≡ 0 = cond-false (eqb a n) (w n) 0 (ne_eqb a n ne) in
          omega arith
    ]

pub sum_of_range : (f : ℕ → ℕ) (n : ℕ) → sum (map f (range_with_len 0 n)) ≡ total f n
sum_of_range f zero = refl
sum_of_range f (suc n) =
    let one_more : suc n ≡ n + 1 = omega arith in
    let step : sum (map f (range_with_len 0 (n + 1))) ≡ sum (map f (range_with_len 0 n)) + f n =
    sum_by-map-range_with_len_more (λ x. x) f 0 n n (omega arith) in
    ap (λ m. sum (map f (range_with_len 0 m))) one_more ∙ step ∙ ap (λ s. s + f n) (sum_of_range f n)

pub sum_by_vertex : (xs : List ℕ) → sum xs ≡ total (slice_index xs) (length xs)
sum_by_vertex xs = ap sum (fill_by_all (slice_index xs) xs (length xs) 0 refl (λ k h. refl)) ∙ sum_of_range (slice_index xs) (length xs)

pub term-le-total : (f : ℕ → ℕ) (n v : ℕ) → v < n → f v ≤ total f n
term-le-total f zero v h = absurd (omega arith)
term-le-total f (suc n) v h =
    elim (cases_eq v n) as (λ _. f v ≤ total f (suc n)) [
      | inl e ↦ let same : f v ≡ f n = ap f e in omega arith
      | inr ne ↦ let ih = term-le-total f n v (omega arith) in omega arith
    ]
