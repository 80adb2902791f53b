-- A chunk is chosen exactly where one is owed.
use Rattle.std.proofs.Common.{◌≡◌, ℕ, zero, suc, ◌+◌, ◌<◌, ◌≤◌, Bool, true, false, cond, eqb, ltb, ◌&&◌, ◌||◌, List, [], ◌∷◌, map, filter, sym, ap, ◌∙◌, refl, Option, Some, None, is_some, ⊎_elim, ◌⊎◌, inl, inr, true≢false, arith}
use Rattle.std.specs.Prelude.{find, get_or, IsSome}
use Rattle.std.specs.List.{list_any, range_with_len, count_by}
use Rattle.std.proofs.lemmas.Bool.{or_cases, and_parts, and_from, eqb-true}
use Rattle.std.proofs.lemmas.List.Sums.{sum_by-cons}
use Rattle.gm_priority.specs.Priority.{has, rows_with, pick_of}
use Rattle.gm_machine.specs.Setups.{Setup}
use Rattle.gm_machine.specs.Plans.{choice, numbers_to, is_in, owes_in, row_of, owed_by_any, or_else, above_cursor, first_in}
use Rattle.gm_machine.proofs.Lists.{by_test, eqb_refl}
use Rattle.gm_machine.proofs.InVisits.{or_more}

pub found_passes : (test : ℕ → Bool) (xs : List ℕ) (x : ℕ) → find test xs ≡ Some x → test x ≡ true
found_passes test [] x h = cc
found_passes test (y ∷ ys) x h =
    by_test (test y) (λ t. test y ≡ t → cond t (Some y) (find test ys) ≡ Some x → test x ≡ true)
    (λ _ e g. let same : y ≡ x = cc in ap test (sym same) ∙ e) (λ _ e g. found_passes test ys x g) refl h

-- a number of the range that passes
pub one_found : (test : ℕ → Bool) (from count k : ℕ) → from ≤ k → k < from + count → test k ≡ true → find test (range_with_len from count) ≡ None → ⊥
one_found test from zero k low high passes none = absurd (omega arith)
one_found test from (suc count) k low high passes none =
    by_test (test from) (λ t. test from ≡ t → cond t (Some from) (find test (range_with_len (from + 1) count)) ≡ None → ⊥)
    (λ _ e g. cc)
    (λ _ e g.
    by_test (eqb from k) (λ t. eqb from k ≡ t → ⊥)
    (λ _ same. true≢false (sym passes ∙ ap test (sym (eqb-true from k same)) ∙ e))
    (λ _ other. one_found test (from + 1) count k (above from k low other) (omega arith) passes g) refl)
    refl none
  where
    above : (a b : ℕ) → a ≤ b → eqb a b ≡ false → a + 1 ≤ b
    above a b low other = grind arith

pub in_filter : (test : ℕ → Bool) (from count k : ℕ) → from ≤ k → k < from + count → test k ≡ true → is_in (filter test (range_with_len from count)) k ≡ true
in_filter test from zero k low high passes = absurd (omega arith)
in_filter test from (suc count) k low high passes =
    let rest = filter test (range_with_len (from + 1) count) in
    by_test (eqb from k) (λ t. eqb from k ≡ t → is_in (cond (test from) (from ∷ rest) rest) k ≡ true)
    (λ _ same.
    let here : test from ≡ true = ap test (eqb-true from k same) ∙ passes in
    rw here (ap (λ (b : Bool). b || is_in rest k) same))
    (λ _ other.
    let later : is_in rest k ≡ true = in_filter test (from + 1) count k (above from k low other) (omega arith) passes in
    by_test (test from) (λ t. is_in (cond t (from ∷ rest) rest) k ≡ true) (λ _. or_more (eqb from k) (is_in rest k) later) (λ _. later))
    refl
  where
    above : (a b : ℕ) → a ≤ b → eqb a b ≡ false → a + 1 ≤ b
    above a b low other = grind arith

pub filter_passes : (test : ℕ → Bool) (xs : List ℕ) (k : ℕ) → is_in (filter test xs) k ≡ true → test k ≡ true
filter_passes test [] k h = absurd (true≢false (sym h))
filter_passes test (x ∷ xs) k h =
    by_test (test x) (λ t. test x ≡ t → is_in (cond t (x ∷ filter test xs) (filter test xs)) k ≡ true → test k ≡ true)
    (λ _ e g. ⊎_elim (λ here. ap test (sym (eqb-true x k here)) ∙ e) (λ there. filter_passes test xs k there) (or_cases (eqb x k) (is_in (filter test xs) k) g))
    (λ _ e g. filter_passes test xs k g) refl h

-- ---- rows

any_of : {X Y : Type 0} (f : X → Y) (p : Y → Bool) (xs : List X) → list_any p (map f xs) ≡ list_any (λ x. p (f x)) xs
any_of f p [] = refl
any_of f p (x ∷ xs) = ap (λ (b : Bool). p (f x) || b) (any_of f p xs)

-- a sum with a part that is above 0, and with a part that is 0
first_above : (all one rest : ℕ) → all ≡ one + rest → one ≡ 1 → 0 < all
first_above all one rest sum is = omega arith

rest_above : (all one rest : ℕ) → all ≡ one + rest → 0 < rest → 0 < all
rest_above all one rest sum is = omega arith

only_rest : (all one rest : ℕ) → all ≡ one + rest → one ≡ 0 → 0 < all → 0 < rest
only_rest all one rest sum is some = omega arith

abbrev pub one_if : Bool → ℕ
one_if b = cond b 1 0

pub counted : {X : Type 0} (p : X → Bool) (x : X) (xs : List X) → count_by p (x ∷ xs) ≡ cond (p x) 1 0 + count_by p xs
counted p x xs = sum_by-cons (λ y. cond (p y) 1 0) x xs

some_count : {X : Type 0} (p : X → Bool) (xs : List X) → list_any p xs ≡ true → 0 < count_by p xs
some_count p [] h = absurd (true≢false (sym h))
some_count p (x ∷ xs) h =
    ⊎_elim
    (λ here. first_above (count_by p (x ∷ xs)) (cond (p x) 1 0) (count_by p xs) (counted p x xs) (ap (λ (b : Bool). cond b 1 0) here))
    (λ there. rest_above (count_by p (x ∷ xs)) (cond (p x) 1 0) (count_by p xs) (counted p x xs) (some_count p xs there))
    (or_cases (p x) (list_any p xs) h)

count_some : {X : Type 0} (p : X → Bool) (xs : List X) → 0 < count_by p xs → list_any p xs ≡ true
count_some p [] h = absurd (none h)
  where
    none : 0 < 0 → ⊥
    none h = omega arith
count_some p (x ∷ xs) h =
    by_test (p x) (λ t. one_if (p x) ≡ one_if t → (t || list_any p xs) ≡ true)
    (λ _ _. refl)
    (λ _ e. count_some p xs (only_rest (count_by p (x ∷ xs)) (cond (p x) 1 0) (count_by p xs) (counted p x xs) e h)) refl

row_at : (f : ℕ → Bool) (from count k : ℕ) → k < count → get_or (map f (range_with_len from count)) k false ≡ f (from + k)
row_at f from zero k low = absurd (omega arith)
row_at f from (suc count) zero low = ap f (omega arith)
row_at f from (suc count) (suc k) low = row_at f (from + 1) count k (omega arith) ∙ ap f (omega arith)

row_has : (f : ℕ → Bool) (from count k : ℕ) → get_or (map f (range_with_len from count)) k false ≡ true → f (from + k) ≡ true
row_has f from zero k h = absurd (true≢false (sym h))
row_has f from (suc count) zero h = ap f (omega arith) ∙ h
row_has f from (suc count) (suc k) h = ap f (omega arith) ∙ row_has f (from + 1) count k h

-- ---- what is owed

any_more : {X : Type 0} (p q : X → Bool) → ((x : X) → p x ≡ true → q x ≡ true) → (xs : List X) → list_any p xs ≡ true → list_any q xs ≡ true
any_more p q each [] h = h
any_more p q each (x ∷ xs) h =
    ⊎_elim (λ here. ap (λ (t : Bool). t || list_any q xs) (each x here)) (λ there. or_more (q x) (list_any q xs) (any_more p q each xs there)) (or_cases (p x) (list_any p xs) h)

-- a number that two tests share
in_one : (p : ℕ → Bool) (xs : List ℕ) → list_any p xs ≡ true → (d : ℕ) × (is_in xs d ≡ true) × (p d ≡ true)
in_one p [] h = absurd (true≢false (sym h))
in_one p (x ∷ xs) h =
    ⊎_elim
    (λ here. (x, ap (λ (b : Bool). b || is_in xs x) (eqb_refl x), here))
    (λ there. let rest = in_one p xs there in (rest.0, or_more (eqb x rest.0) (is_in xs rest.0) rest.1, rest.2))
    (or_cases (p x) (list_any p xs) h)

module _ {State : Type 0} (s : Setup State)
    (picked : (blocks block : ℕ) (rows : List (List Bool)) → block < blocks → 0 < rows_with rows block → IsSome (pick_of blocks rows))
    (needed : (blocks block : ℕ) (rows : List (List Bool)) → pick_of blocks rows ≡ Some block → 0 < rows_with rows block) where
  chunk_of_block : (block : ℕ) (owed : List (List ℕ)) → list_any (owes_in s block) owed ≡ true → (d : ℕ) × (owed_by_any owed d ≡ true) × (eqb (s.block_of d) block ≡ true)
  chunk_of_block block [] h = absurd (true≢false (sym h))
  chunk_of_block block (xs ∷ owed) h =
      ⊎_elim
      (λ here. let one = in_one (λ c. eqb (s.block_of c) block) xs here in (one.0, ap (λ (b : Bool). b || owed_by_any owed one.0) one.1, one.2))
      (λ there. let rest = chunk_of_block block owed there in (rest.0, or_more (is_in xs rest.0) (owed_by_any owed rest.0) rest.1, rest.2))
      (or_cases (owes_in s block xs) (list_any (owes_in s block) owed) h)

  block_of_chunk : (owed : List (List ℕ)) (c : ℕ) → owed_by_any owed c ≡ true → list_any (owes_in s (s.block_of c)) owed ≡ true
  block_of_chunk owed c h =
      any_more (λ xs. is_in xs c) (owes_in s (s.block_of c))
      (λ xs has_it. any_more (λ x. eqb x c) (λ x. eqb (s.block_of x) (s.block_of c)) (λ x same. ap (λ y. eqb (s.block_of y) (s.block_of c)) (eqb-true x c same) ∙ eqb_refl (s.block_of c)) xs has_it) owed h

  rows_some : (owed : List (List ℕ)) (block : ℕ) → block < s.blocks → list_any (owes_in s block) owed ≡ true → 0 < rows_with (map (row_of s) owed) block
  rows_some owed block low h =
      some_count (has block) (map (row_of s) owed)
      (any_of (row_of s) (has block) owed
      ∙ any_more (owes_in s block) (λ xs. has block (row_of s xs)) (λ xs e. row_at (λ b. owes_in s b xs) 0 s.blocks block low ∙ ap (λ b. owes_in s b xs) (zero_more block) ∙ e) owed h)
    where
      zero_more : (b : ℕ) → 0 + b ≡ b
      zero_more b = omega arith

  some_rows : (owed : List (List ℕ)) (block : ℕ) → 0 < rows_with (map (row_of s) owed) block → list_any (owes_in s block) owed ≡ true
  some_rows owed block h =
      any_more (λ xs. has block (row_of s xs)) (owes_in s block) (λ xs e. ap (λ b. owes_in s b xs) (zero_more block) ∙ row_has (λ b. owes_in s b xs) 0 s.blocks block e) owed
      (sym (any_of (row_of s) (has block) owed) ∙ count_some (has block) (map (row_of s) owed) h)
    where
      zero_more : (b : ℕ) → b ≡ 0 + b
      zero_more b = omega arith

  -- an owed chunk of a block of the grid is chosen, or another one
  pub some_choice : (cursor : Option ℕ) (owed : List (List ℕ)) (c : ℕ) → ((d : ℕ) → owed_by_any owed d ≡ true → d < s.chunks) → s.block_of c < s.blocks
      → owed_by_any owed c ≡ true → choice s cursor owed ≡ None → ⊥
  unfolding choice
  some_choice cursor owed c within in_blocks h none = at (pick_of s.blocks rows) refl (is_picked (pick_of s.blocks rows) refl)
    where
      rows : List (List Bool)
      rows = map (row_of s) owed

      second_none : (a b : Option ℕ) → or_else a b ≡ None → b ≡ None
      second_none None b e = e
      second_none (Some a) b e = cc

      is_picked : (o : Option ℕ) → pick_of s.blocks (map (row_of s) owed) ≡ o → is_some o ≡ true
      is_picked o e = ap is_some (sym e) ∙ picked s.blocks (s.block_of c) (map (row_of s) owed) in_blocks (rows_some owed (s.block_of c) in_blocks (block_of_chunk owed c h))

      found : (block : ℕ) → 0 < rows_with (map (row_of s) owed) block → first_in s (Some block) owed ≡ None → ⊥
      found block needs empty =
          let one = chunk_of_block block owed (some_rows owed block needs) in
          let d = one.0 in
          let low = within d one.1 in
          one_found (λ x. eqb (s.block_of x) block && owed_by_any owed x) 0 s.chunks d (omega arith) (omega arith) (and_from (eqb (s.block_of d) block) (owed_by_any owed d) one.2 one.1) empty

      at : (o : Option ℕ) → pick_of s.blocks (map (row_of s) owed) ≡ o → is_some o ≡ true → ⊥
      at None e g = true≢false (sym g)
      at (Some block) e g = found block (needed s.blocks block (map (row_of s) owed) e) (ap (λ (p : Option ℕ). first_in s p owed) (sym e) ∙ second_none (above_cursor s cursor owed) (first_in s (pick_of s.blocks (map (row_of s) owed)) owed) none)

or_else_cases : (a b : Option ℕ) (c : ℕ) → or_else a b ≡ Some c → (a ≡ Some c) ⊎ (b ≡ Some c)
or_else_cases None b c h = inr h
or_else_cases (Some a) b c h = inl h

module _ {State : Type 0} where
  -- what is chosen is owed
  pub choice_owed : (s : Setup State) (cursor : Option ℕ) (owed : List (List ℕ)) (c : ℕ) → choice s cursor owed ≡ Some c → owed_by_any owed c ≡ true
  unfolding choice
  choice_owed s cursor owed c h =
      let block = pick_of s.blocks (map (row_of s) owed) in
      ⊎_elim (λ first. above cursor first) (λ second. lowest block second) (or_else_cases (above_cursor s cursor owed) (first_in s block owed) c h)
    where
      above : (o : Option ℕ) → above_cursor s o owed ≡ Some c → owed_by_any owed c ≡ true
      above None e = cc
      above (Some d) e = (and_parts (ltb d c && eqb (s.block_of c) (s.block_of d)) (owed_by_any owed c) (found_passes (λ x. ltb d x && eqb (s.block_of x) (s.block_of d) && owed_by_any owed x) (numbers_to s.chunks) c e)).1

      lowest : (o : Option ℕ) → first_in s o owed ≡ Some c → owed_by_any owed c ≡ true
      lowest None e = cc
      lowest (Some block) e = (and_parts (eqb (s.block_of c) block) (owed_by_any owed c) (found_passes (λ x. eqb (s.block_of x) block && owed_by_any owed x) (numbers_to s.chunks) c e)).1
