-- The best rank, block by block, and the block that is picked.
use Rattle.std.proofs.Common.{◌≡◌, ℕ, zero, suc, ◌+◌, ◌*◌, ◌<◌, ◌≤◌, Bool, true, false, cond, ◌&&◌, List, [], ◌∷◌, map, fold, filter, min, Some, None, sym, ap, subst, ◌∙◌, refl, arith}
use Rattle.std.specs.Prelude.{nat_lt, find}
use Rattle.std.specs.List.{list_all, range_with_len}
use Rattle.std.proofs.lemmas.Bool.{true≢false, lt-ltb, le-leb, lt-leb, ltb-false, ltb-true}
use Rattle.std.proofs.Math.Nat.{mul-le-mul_right, mul_assoc, mul_comm}
use Rattle.std.proofs.lemmas.List.Sums.{sum_by-append}
use Rattle.gm_priority.specs.declared.priority.Rank.{Rank}
use Rattle.gm_priority.specs.Priority.{has, blocks_in, rows_with, fewest_with, is_at_least, is_greatest, pick_of, IsBest}

pub by_test : (b : Bool) (P : Bool → Type 0) → (b ≡ true → P true) → (b ≡ false → P false) → P b
by_test true P t f = t refl
by_test false P t f = f refl

blocks_cons : (here : Bool) (row : List Bool) → blocks_in (here ∷ row) ≡ cond here 1 0 + blocks_in row
blocks_cons here row = sum_by-append (λ (b : Bool). cond b 1 0) (here ∷ []) row ∙ ap (λ n. n + blocks_in row) (one here)
  where
    one : (b : Bool) → blocks_in (b ∷ []) ≡ cond b 1 0
    one true = refl
    one false = refl

-- a row with the block has one
row_has_blocks : (row : List Bool) (block : ℕ) → has block row ≡ true → 0 < blocks_in row
row_has_blocks [] block h = absurd (true≢false (sym h))
row_has_blocks (here ∷ row) zero h = let all : blocks_in (here ∷ row) ≡ 1 + blocks_in row = blocks_cons here row ∙ ap (λ (b : Bool). cond b 1 0 + blocks_in row) h in omega arith
row_has_blocks (here ∷ row) (suc block) h = let all = blocks_cons here row in let rest = row_has_blocks row block h in omega arith

fewest-above : (blocks : ℕ) (rows : List (List Bool)) (block : ℕ) → 0 < blocks → 0 < fewest_with blocks rows block
fewest-above blocks [] block some = some
fewest-above blocks (row ∷ rows) block some =
    by_test (has block row) (λ t. has block row ≡ t → 0 < fold min blocks (map blocks_in (cond t (row ∷ filter (has block) rows) (filter (has block) rows))))
    (λ on e. let one = row_has_blocks row block e in let both : 0 < min blocks (blocks_in row) = least blocks (blocks_in row) some one in fewest-above (min blocks (blocks_in row)) rows block both)
    (λ off e. fewest-above blocks rows block some) refl
  where
    least : (a b : ℕ) → 0 < a → 0 < b → 0 < min a b
    least a b p q = grind arith

swap_last : (x y z : ℕ) → x * y * z ≡ x * z * y
swap_last x y z = mul_assoc x y z ∙ ap (λ n. x * n) (mul_comm y z) ∙ sym (mul_assoc x z y)

-- a / b is at most c / d, and that is below e / f
cross : (a b c d e f : ℕ) → 0 < b → a * d ≤ c * b → c * f < e * d → a * f < e * b
cross a b c d e f some one two =
    by_test (nat_lt (a * f) (e * b)) (λ t. nat_lt (a * f) (e * b) ≡ t → a * f < e * b) (λ on h. ltb-true (a * f) (e * b) h)
    (λ off h.
    let p = mul-le-mul_right {m = a * d} {n = c * b} f one in
    let q = mul-le-mul_right {m = suc (c * f)} {n = e * d} b two in
    let r = mul-le-mul_right {m = e * b} {n = a * f} d (ltb-false (a * f) (e * b) h) in
    let more : suc (c * f) * b ≡ c * f * b + b = one_more (c * f) b in
    absurd (omega (arith, swap_last a d f, swap_last c b f, swap_last e d b))) refl
  where
    one_more : (a b : ℕ) → suc a * b ≡ a * b + b
    one_more a b = grind arith

at_or_before : (end other : ℕ) → other < end + 1 → (P : ℕ → Type 0) → P end → (other < end → P other) → P other
at_or_before end other low P here before =
    by_test (nat_lt other end) (λ t. nat_lt other end ≡ t → P other) (λ on e. before (ltb-true other end e))
    (λ off e. let past = ltb-false other end e in let same : end ≡ other = omega arith in subst P same here) refl

-- the best one of one block more
pub best-above : (blocks : ℕ) (rows : List (List Bool)) (end block many fewest : ℕ) → end < blocks → IsBest blocks rows end block many fewest
    → many * fewest_with blocks rows end < rows_with rows end * fewest → IsBest blocks rows (end + 1) end (rows_with rows end) (fewest_with blocks rows end)
best-above blocks rows end block many fewest within best above =
    let a = rows_with rows end in let b = fewest_with blocks rows end in
    let before : (other : ℕ) → other < end → rows_with rows other * b < a * fewest_with blocks rows other =
    λ other low. cross (rows_with rows other) (fewest_with blocks rows other) many fewest a b (fewest-above blocks rows other (omega arith)) (best.greatest other low) above in
    record {
      none = λ zero_rows. absurd (nothing many b a fewest zero_rows above);
      within = λ some. omega arith;
      rows_here = λ some. refl;
      fewest_here = λ some. refl;
      greatest = λ other low. at_or_before end other low (λ o. rows_with rows o * b ≤ a * fewest_with blocks rows o) (omega arith) (λ less. let l = before other less in omega arith);
      lowest = before;
    }
  where
    nothing : (m b a f : ℕ) → a ≡ 0 → m * b < a * f → ⊥
    nothing m b a f e h = let h2 : m * b < 0 * f = subst (λ x. m * b < x * f) e h in grind arith

pub best-stays : (blocks : ℕ) (rows : List (List Bool)) (end block many fewest : ℕ) → IsBest blocks rows end block many fewest
    → rows_with rows end * fewest ≤ many * fewest_with blocks rows end → IsBest blocks rows (end + 1) block many fewest
best-stays blocks rows end block many fewest best below = record {
  none = best.none;
  within = λ some. let w = best.within some in omega arith;
  rows_here = best.rows_here;
  fewest_here = best.fewest_here;
  greatest = λ other low. at_or_before end other low (λ o. rows_with rows o * fewest ≤ many * fewest_with blocks rows o) below (best.greatest other);
  lowest = best.lowest;
}

all_in_range : (test : ℕ → Bool) (from count : ℕ) → ((k : ℕ) → from ≤ k → k < from + count → test k ≡ true) → list_all test (range_with_len from count) ≡ true
all_in_range test from zero each = refl
all_in_range test from (suc count) each = rw (each from (omega arith) (omega arith)) (all_in_range test (from + 1) count (λ k low high. each k (omega arith) (omega arith)))

one_fails : (test : ℕ → Bool) (from count k : ℕ) → from ≤ k → k < from + count → test k ≡ false → list_all test (range_with_len from count) ≡ false
one_fails test from zero k low high fails = absurd (omega arith)
one_fails test from (suc count) k low high fails =
    by_test (nat_lt from k) (λ t. nat_lt from k ≡ t → list_all test (range_with_len from (suc count)) ≡ false)
    (λ on e. let past = ltb-true from k e in let rest = one_fails test (from + 1) count k (omega arith) (omega arith) fails in rw rest (never (test from)))
    (λ off e. let back = ltb-false from k e in let same : k ≡ from = omega arith in let here : test from ≡ false = ap test (sym same) ∙ fails in rw here refl) refl
  where
    never : (b : Bool) → (b && false) ≡ false
    never true = refl
    never false = refl

found_first : (test : ℕ → Bool) (from count k : ℕ) → from ≤ k → k < from + count → test k ≡ true → ((j : ℕ) → from ≤ j → j < k → test j ≡ false) → find test (range_with_len from count) ≡ Some k
found_first test from zero k low high here before = absurd (omega arith)
found_first test from (suc count) k low high here before =
    by_test (nat_lt from k) (λ t. nat_lt from k ≡ t → find test (range_with_len from (suc count)) ≡ Some k)
    (λ on e. let past = ltb-true from k e in rw (before from (omega arith) past) (found_first test (from + 1) count k (omega arith) (omega arith) here (λ j more less. before j (omega arith) less)))
    (λ off e. let back = ltb-false from k e in let same : k ≡ from = omega arith in let is : test from ≡ true = ap test (sym same) ∙ here in rw is (ap Some (sym same))) refl

none_found : (test : ℕ → Bool) (from count : ℕ) → ((k : ℕ) → from ≤ k → k < from + count → test k ≡ false) → find test (range_with_len from count) ≡ None
none_found test from zero each = refl
none_found test from (suc count) each = rw (each from (omega arith) (omega arith)) (none_found test (from + 1) count (λ k low high. each k (omega arith) (omega arith)))

-- the better one of two ranks
pub best-step : (blocks : ℕ) (rows : List (List Bool)) (end : ℕ) (best rank new : Rank) → end < blocks → IsBest blocks rows end best.block best.rows best.fewest
    → rank.block ≡ end → rank.rows ≡ rows_with rows end → rank.fewest ≡ fewest_with blocks rows end
    → (best.rows * rank.fewest < rank.rows * best.fewest → new ≡ rank) → (rank.rows * best.fewest ≤ best.rows * rank.fewest → new ≡ best)
    → IsBest blocks rows (end + 1) new.block new.rows new.fewest
best-step blocks rows end best rank new within is at many few above below =
    by_test (nat_lt (best.rows * rank.fewest) (rank.rows * best.fewest))
    (λ t. nat_lt (best.rows * rank.fewest) (rank.rows * best.fewest) ≡ t → IsBest blocks rows (end + 1) new.block new.rows new.fewest)
    (λ on e.
    let more = ltb-true (best.rows * rank.fewest) (rank.rows * best.fewest) e in
    subst (λ (r : Rank). IsBest blocks rows (end + 1) r.block r.rows r.fewest) (sym (above more))
    (rw (at, many, few) (best-above blocks rows end best.block best.rows best.fewest within is (subst (λ f. best.rows * f < rows_with rows end * best.fewest) few (subst (λ m. best.rows * rank.fewest < m * best.fewest) many more)))))
    (λ off e.
    let less = ltb-false (best.rows * rank.fewest) (rank.rows * best.fewest) e in
    subst (λ (r : Rank). IsBest blocks rows (end + 1) r.block r.rows r.fewest) (sym (below less))
    (best-stays blocks rows end best.block best.rows best.fewest is (subst (λ f. rows_with rows end * best.fewest ≤ best.rows * f) few (subst (λ m. m * best.fewest ≤ best.rows * rank.fewest) many less))))
    refl

-- a best one of all blocks is the one that is picked
pub picked : (blocks : ℕ) (rows : List (List Bool)) (block many fewest : ℕ) → IsBest blocks rows blocks block many fewest → 0 < many → pick_of blocks rows ≡ Some block
picked blocks rows block many fewest best some =
    let is = best.rows_here some in let few = best.fewest_here some in
    let inside : block < 0 + blocks = let low = best.within some in omega arith in
    found_first (is_greatest blocks rows) 0 blocks block (omega arith) inside
    (both (nat_lt 0 (rows_with rows block)) _ (lt-ltb 0 (rows_with rows block) (omega arith))
    (all_in_range (is_at_least blocks rows block) 0 blocks (λ other low high. let within : other < blocks = omega arith in le-leb _ _ (subst (λ m. rows_with rows other * fewest_with blocks rows block ≤ m * fewest_with blocks rows other) is
    (subst (λ f. rows_with rows other * f ≤ many * fewest_with blocks rows other) few (best.greatest other within))))))
    (λ other low less. neither (nat_lt 0 (rows_with rows other)) _
    (one_fails (is_at_least blocks rows other) 0 blocks block (omega arith) inside (lt-leb _ _ (subst (λ m. rows_with rows other * fewest_with blocks rows block < m * fewest_with blocks rows other) is
    (subst (λ f. rows_with rows other * f < many * fewest_with blocks rows other) few (best.lowest other less))))))
  where
    both : (a b : Bool) → a ≡ true → b ≡ true → (a && b) ≡ true
    both a b p q = rw (p, q) refl

    neither : (a b : Bool) → b ≡ false → (a && b) ≡ false
    neither true b h = h
    neither false b h = refl

pub none_picked : (blocks : ℕ) (rows : List (List Bool)) (block many fewest : ℕ) → IsBest blocks rows blocks block many fewest → many ≡ 0 → pick_of blocks rows ≡ None
none_picked blocks rows block many fewest best nothing =
    none_found (is_greatest blocks rows) 0 blocks (λ other low high.
    let unneeded : rows_with rows other ≡ 0 = no_rows (rows_with rows other) fewest many (fewest_with blocks rows other) (best.none nothing) nothing (best.greatest other (omega arith)) in
    rw unneeded refl)
  where
    no_rows : (a f m g : ℕ) → f ≡ 1 → m ≡ 0 → a * f ≤ m * g → a ≡ 0
    no_rows a f m g one none h = let h2 : a * 1 ≤ 0 * g = subst (λ x. a * x ≤ 0 * g) one (subst (λ x. a * f ≤ x * g) none h) in grind arith
