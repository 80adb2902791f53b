-- A best rank there always is, so that a block is picked where some row has one.
use Rattle.std.proofs.Common.{◌≡◌, ℕ, zero, suc, ◌+◌, ◌*◌, ◌<◌, ◌≤◌, Bool, true, cond, List, [], ◌∷◌, Some, sym, ap, subst, ◌∙◌, refl, arith}
use Rattle.std.specs.Prelude.{nat_lt, find, IsSome}
use Rattle.std.specs.List.{list_all, range_with_len}
use Rattle.std.proofs.lemmas.Bool.{and_parts, ltb-false, ltb-true}
use Rattle.gm_priority.specs.Priority.{rows_with, fewest_with, is_at_least, is_greatest, pick_of, IsBest}
use Rattle.gm_priority.proofs.Greatest.{by_test, best-above, best-stays, picked}

-- a block, how many rows have it, and the fewest blocks of these, which are the best below an end
pub record Best (blocks : ℕ) (rows : List (List Bool)) (end : ℕ) : Type 0 where
  pub block : ℕ
  pub many : ℕ
  pub fewest : ℕ
  pub best : IsBest blocks rows end block many fewest

-- one block more
next_best : (blocks : ℕ) (rows : List (List Bool)) (end : ℕ) → end < blocks → Best blocks rows end → Best blocks rows (end + 1)
next_best blocks rows end within b =
    let a = b.many * fewest_with blocks rows end in
    let d = rows_with rows end * b.fewest in
    by_test (nat_lt a d) (λ t. nat_lt a d ≡ t → Best blocks rows (end + 1))
    (λ on e. record { block = end; many = rows_with rows end; fewest = fewest_with blocks rows end; best = best-above blocks rows end b.block b.many b.fewest within b.best (ltb-true a d e) })
    (λ off e. record { block = b.block; many = b.many; fewest = b.fewest; best = best-stays blocks rows end b.block b.many b.fewest b.best (ltb-false a d e) })
    refl

best_below : (blocks : ℕ) (rows : List (List Bool)) (end : ℕ) → end ≤ blocks → Best blocks rows end
best_below blocks rows zero low = record {
  block = 0;
  many = 0;
  fewest = 1;
  best = record {
    none = λ none. refl;
    within = λ some. absurd (omega arith);
    rows_here = λ some. absurd (omega arith);
    fewest_here = λ some. absurd (omega arith);
    greatest = λ other less. absurd (omega arith);
    lowest = λ other less. absurd (omega arith);
  };
}
best_below blocks rows (suc end) low =
    let more : end + 1 ≡ suc end = omega arith in
    subst (Best blocks rows) more (next_best blocks rows end (omega arith) (best_below blocks rows end (omega arith)))

-- where the best one has no rows, no block has
no_rows : (a f m g : ℕ) → f ≡ 1 → m ≡ 0 → a * f ≤ m * g → a ≡ 0
no_rows a f m g one none h = let h2 : a * 1 ≤ 0 * g = subst (λ x. a * x ≤ 0 * g) one (subst (λ x. a * f ≤ x * g) none h) in grind arith

pub picked_where_some : (blocks block : ℕ) (rows : List (List Bool)) → block < blocks → 0 < rows_with rows block → IsSome (pick_of blocks rows)
picked_where_some blocks block rows within some =
    let b = best_below blocks rows blocks (omega arith) in
    by_test (nat_lt 0 b.many) (λ t. nat_lt 0 b.many ≡ t → IsSome (pick_of blocks rows))
    (λ on e. rw (picked blocks rows b.block b.many b.fewest b.best (ltb-true 0 b.many e)) refl)
    (λ off e.
    let low = ltb-false 0 b.many e in
    let none : b.many ≡ 0 = omega arith in
    let unneeded = no_rows (rows_with rows block) b.fewest b.many (fewest_with blocks rows block) (b.best.none none) none (b.best.greatest block within) in
    absurd (omega arith))
    refl

found_passes : (test : ℕ → Bool) (xs : List ℕ) (x : ℕ) → find test xs ≡ Some x → test x ≡ true
found_passes test [] x h = cc
found_passes test (y ∷ ys) x h =
    by_test (test y) (λ t. test y ≡ t → cond t (Some y) (find test ys) ≡ Some x → test x ≡ true)
    (λ on e g. let same : y ≡ x = cc in ap test (sym same) ∙ e) (λ off e g. found_passes test ys x g) refl h

pub picked_has_rows : (blocks block : ℕ) (rows : List (List Bool)) → pick_of blocks rows ≡ Some block → 0 < rows_with rows block
picked_has_rows blocks block rows h =
    let test = found_passes (is_greatest blocks rows) (range_with_len 0 blocks) block h in
    ltb-true 0 (rows_with rows block) (and_parts (nat_lt 0 (rows_with rows block)) (list_all (is_at_least blocks rows block) (range_with_len 0 blocks)) test).0
