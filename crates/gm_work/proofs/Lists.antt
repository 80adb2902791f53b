-- Marks by number, and the chunks that were passed and those that weren't.
use Rattle.std.specs.Prelude.{◌≡◌, ℕ, zero, suc, ◌+◌, ◌<◌, ◌≤◌, Bool, true, false, cond, not, ◌&&◌, ◌||◌, List, [], ◌∷◌, ◌++◌, length, slice_set, filter, flat_map, count_by, refl}
use Rattle.std.specs.List.{list_any, range_with_len}
use Rattle.std.proofs.Common.{eqb, sym, ap, ap₂, ◌∙◌, true≢false, arith}
use Rattle.std.proofs.lemmas.Bool.{and_parts, or_parts, not-true, eqb-true, eqb-false, ne_eqb}
use Rattle.std.proofs.lemmas.List.{length-set, get_or-set_other}
use Rattle.std.proofs.lemmas.List.Sums.{sum_by-append}
use Rattle.gm_base.specs.declared.edge.Edge.{Edge}
use Rattle.gm_base.specs.Graph.{is_same_edge, IsSameGraph}
use Rattle.gm_active.specs.Bits.{is_in}
use Rattle.gm_work.specs.JobStates.{owes_any}
use Rattle.gm_work.specs.Views.{owed_after, WerePassed}

pub by_test : (b : Bool) (P : Bool → Type 0) → (b ≡ true → P true) → (b ≡ false → P false) → P b
by_test true P t f = t refl
by_test false P t f = f refl

pub and-true : (b : Bool) → (b && true) ≡ b
and-true true = refl
and-true false = refl

pub and-false : (b : Bool) → (b && false) ≡ false
and-false true = refl
and-false false = refl

pub second : (a b : Bool) → (a && b) ≡ false → a ≡ true → b ≡ false
second true b h g = h
second false b h g = absurd (true≢false (sym g))

and_nots : (a m e : Bool) → ((a && not m) && not e) ≡ (a && not (e || m))
and_nots false m e = refl
and_nots true true true = refl
and_nots true true false = refl
and_nots true false true = refl
and_nots true false false = refl

-- ---- marks

-- one mark is taken off
off_itself : (marks : List Bool) (c : ℕ) → is_in (slice_set marks c false) c ≡ false
off_itself [] c = refl
off_itself (m ∷ marks) zero = refl
off_itself (m ∷ marks) (suc c) = off_itself marks c

pub is_in-off : (marks : List Bool) (c x : ℕ) → is_in (slice_set marks c false) x ≡ (is_in marks x && not (eqb c x))
is_in-off marks c x =
    by_test (eqb c x) (λ b. is_in (slice_set marks c false) x ≡ (is_in marks x && not b))
    (λ same. ap (is_in (slice_set marks c false)) (sym (eqb-true c x same)) ∙ off_itself marks c ∙ sym (and-false (is_in marks x)))
    (λ other. get_or-set_other marks c x false false (λ e. eqb-false c x other (sym e)) ∙ sym (and-true (is_in marks x)))

pub none_owed : (owed : List Bool) (x : ℕ) → owes_any owed ≡ false → is_in owed x ≡ false
none_owed [] x h = refl
none_owed (o ∷ owed) zero h = (or_parts o (owes_any owed) h).0
none_owed (o ∷ owed) (suc x) h = none_owed owed x (or_parts o (owes_any owed) h).1

pub within : (marks : List Bool) (c : ℕ) → is_in marks c ≡ true → c < length marks
within [] c h = absurd (true≢false (sym h))
within (m ∷ marks) zero h = omega arith
within (m ∷ marks) (suc c) h = let rest = within marks c h in omega arith

-- ---- passed chunks

abbrev pub has_passed : List ℕ → ℕ → Bool
has_passed passed c = list_any (λ p. eqb p c) passed

-- owed is what is needed and wasn't passed
pub is_owed : (needed : List Bool) (passed : List ℕ) (x : ℕ) → is_in (owed_after needed passed) x ≡ (is_in needed x && not (has_passed passed x))
is_owed needed [] x = sym (and-true (is_in needed x))
is_owed needed (c ∷ passed) x =
    is_in-off (owed_after needed passed) c x
    ∙ ap (λ b. b && not (eqb c x)) (is_owed needed passed x)
    ∙ and_nots (is_in needed x) (has_passed passed x) (eqb c x)

pub length-owed : (needed : List Bool) (passed : List ℕ) → length (owed_after needed passed) ≡ length needed
length-owed needed [] = refl
length-owed needed (c ∷ passed) = length-set (owed_after needed passed) c false ∙ length-owed needed passed

-- each is a chunk, and stands in the list once
abbrev pub AreChunks : ℕ → List ℕ → Type 0
AreChunks chunks [] = Unit {0}
AreChunks chunks (c ∷ passed) = (c < chunks) × (has_passed passed c ≡ false) × AreChunks chunks passed

pub passed_once : (needed : List Bool) (passed : List ℕ) → WerePassed needed passed → AreChunks (length needed) passed
passed_once needed [] h = tt
passed_once needed (c ∷ passed) h =
    let low = within (owed_after needed passed) c h.0 in
    let long = length-owed needed passed in
    let parts = and_parts (is_in needed c) (not (has_passed passed c)) (sym (is_owed needed passed c) ∙ h.0) in
    (omega arith, not-true (has_passed passed c) parts.1, passed_once needed passed h.1)

-- a passed chunk isn't owed again
pub passed_not_owed : (needed : List Bool) (passed : List ℕ) (x : ℕ) → has_passed passed x ≡ true → is_in (owed_after needed passed) x ≡ false
passed_not_owed needed passed x h = is_owed needed passed x ∙ ap (λ b. is_in needed x && not b) h ∙ and-false (is_in needed x)

-- ---- all chunks are those passed and those left

abbrev pub total : (ℕ → ℕ) → List ℕ → ℕ
total w [] = 0
total w (c ∷ cs) = w c + total w cs

-- of so many chunks from a on those that weren't passed
abbrev pub left_over : List ℕ → ℕ → ℕ → List ℕ
left_over passed a count = filter (λ c. not (has_passed passed c)) (range_with_len a count)

none_passed : (w : ℕ → ℕ) (a count : ℕ) → total w (left_over [] a count) ≡ total w (range_with_len a count)
none_passed w a zero = refl
none_passed w a (suc count) = ap (λ n. w a + n) (none_passed w (a + 1) count)

-- a chunk before the range changes nothing
outside : (c : ℕ) (passed : List ℕ) (a count : ℕ) → c < a → left_over (c ∷ passed) a count ≡ left_over passed a count
outside c passed a zero h = refl
outside c passed a (suc count) h =
    let other : eqb c a ≡ false = ne_eqb c a (λ e. omega arith) in
    rw (other, outside c passed (a + 1) count (omega arith)) refl

lt_unless : (m n : ℕ) → m ≤ n → (m ≡ n → ⊥) → m + 1 ≤ n
lt_unless m n h g = grind (arith, h, g)

-- one that is in it is one less
inside : (w : ℕ → ℕ) (c : ℕ) (passed : List ℕ) (a count : ℕ) → a ≤ c → c < a + count → has_passed passed c ≡ false
    → total w (left_over passed a count) ≡ w c + total w (left_over (c ∷ passed) a count)
inside w c passed a zero low high fresh = absurd (omega arith)
inside w c passed a (suc count) low high fresh =
    by_test (eqb c a)
    (λ b. total w (left_over passed a (suc count)) ≡ w c + total w (cond (not (b || has_passed passed a)) (a ∷ left_over (c ∷ passed) (a + 1) count) (left_over (c ∷ passed) (a + 1) count)))
    (λ same.
    let e = eqb-true c a same in
    let free : has_passed passed a ≡ false = ap (has_passed passed) (sym e) ∙ fresh in
    rw free (ap (λ m. w m + total w (left_over passed (a + 1) count)) (sym e)
    ∙ ap (λ (xs : List ℕ). w c + total w xs) (sym (outside c passed (a + 1) count (omega arith)))))
    (λ other.
    let ne = eqb-false c a other in
    let less : a + 1 ≤ c = lt_unless a c low (λ e. ne (sym e)) in
    let rest = inside w c passed (a + 1) count less (omega arith) fresh in
    by_test (has_passed passed a)
    (λ b. total w (cond (not b) (a ∷ left_over passed (a + 1) count) (left_over passed (a + 1) count)) ≡ w c + total w (cond (not b) (a ∷ left_over (c ∷ passed) (a + 1) count) (left_over (c ∷ passed) (a + 1) count)))
    (λ _. rest) (λ _. omega arith))

pub all_chunks : (w : ℕ → ℕ) (chunks : ℕ) (passed : List ℕ) → AreChunks chunks passed → total w (range_with_len 0 chunks) ≡ total w passed + total w (left_over passed 0 chunks)
all_chunks w chunks [] h = let e = none_passed w 0 chunks in omega arith
all_chunks w chunks (c ∷ passed) h =
    let rest = all_chunks w chunks passed h.2 in
    let one = inside w c passed 0 chunks (omega arith) (omega (arith, h.0)) h.1 in
    omega arith

-- ---- the edges of passed chunks

-- in the order in which they were passed
abbrev pub kept : (ℕ → List Edge) → List ℕ → List Edge
kept content [] = []
kept content (c ∷ passed) = kept content passed ++ content c

count_flat : (test : Edge → Bool) (content : ℕ → List Edge) (cs : List ℕ) → count_by test (flat_map content cs) ≡ total (λ c. count_by test (content c)) cs
count_flat test content [] = refl
count_flat test content (c ∷ cs) =
    sum_by-append (λ x. cond (test x) 1 0) (content c) (flat_map content cs) ∙ ap (λ n. count_by test (content c) + n) (count_flat test content cs)

count_kept : (test : Edge → Bool) (content : ℕ → List Edge) (passed : List ℕ) → count_by test (kept content passed) ≡ total (λ c. count_by test (content c)) passed
count_kept test content [] = refl
count_kept test content (c ∷ passed) =
    let w : Edge → ℕ = λ x. cond (test x) 1 0 in
    let rest = count_kept test content passed in
    sum_by-append w (kept content passed) (content c) ∙ ap (λ n. n + count_by test (content c)) rest ∙ omega arith

-- with those of the chunks left they are all edges
pub kept_and_left : (content : ℕ → List Edge) (chunks : ℕ) (passed : List ℕ) → AreChunks chunks passed
    → IsSameGraph (flat_map content (range_with_len 0 chunks)) (kept content passed ++ flat_map content (left_over passed 0 chunks))
kept_and_left content chunks passed once = λ e.
    let test = is_same_edge e in
    let w : ℕ → ℕ = λ c. count_by test (content c) in
    let b = count_flat test content (range_with_len 0 chunks) in
    let c = all_chunks w chunks passed once in
    let f = count_kept test content passed in
    let g = count_flat test content (left_over passed 0 chunks) in
    let h = sum_by-append (λ x. cond (test x) 1 0) (kept content passed) (flat_map content (left_over passed 0 chunks)) in
    b ∙ c ∙ ap₂ (λ m n. m + n) (sym f) (sym g) ∙ sym h
