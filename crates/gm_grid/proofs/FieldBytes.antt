-- The bytes of a number that was read, lowest first, are the bytes that it was read from; and lists of pieces of one size, written one
-- after another and cut again.
use Rattle.std.proofs.Common.{◌≡◌, ℕ, zero, suc, ◌+◌, ◌*◌, ◌/◌, ◌%◌, ◌^◌, ◌<◌, ◌≤◌, List, [], ◌∷◌, ◌++◌, length, take, drop, slice_index, map, get_or, inl, inr, refl, sym, ap, ◌∙◌, arith}
use Rattle.std.proofs.lemmas.Bool.{cases_lt}
use Rattle.std.proofs.Math.Seq.{take-add}
use Rattle.std.specs.List.{flat_map, AllByRecursion}
use Rattle.std.specs.Simd.{first_chunks}
use Rattle.std.proofs.lemmas.List.{append_assoc, take_at, drop_at, length-take-le, length-append, get_or-take, get_or_past, length-take, drop-drop, take-append-drop, get_or-drop, length-drop, take_all}
use Rattle.std.proofs.Math.Nat.{div-div-eq-div-mul, pow-succ'}
use Rattle.std.specs.Int.{byte_at, bytes_low_first}
use Rattle.byteorder.specs.Endian.{little_bytes, little_number}
use Rattle.byteorder.specs.Numbers.{little_from-cons}
use Rattle.gm_base.specs.declared.edge.Edge.{Edge}
use Rattle.gm_grid.specs.Format.{magic, head_bytes, edge_bytes}
use Rattle.gm_grid.specs.GridBytes.{shape_of_head, edge_of_bytes}

-- each is below 256
abbrev pub AreBytes : List ℕ → Type 0
AreBytes xs = (k : ℕ) → slice_index xs k < 256

-- a lowest byte in front moves the others on
byte_at_shift : (i b y : ℕ) → b < 256 → byte_at (suc i) (b + 256 * y) ≡ byte_at i y
byte_at_shift zero b y h =
    let q : (b + 256 * y) / 256 ≡ y = omega arith in
    ap (λ (z : ℕ). z % 256) q
byte_at_shift (suc i) b y h =
    let q : (b + 256 * y) / 256 ≡ y = omega arith in
    let split : (b + 256 * y) / 256 ^ suc (suc i) ≡ (b + 256 * y) / 256 / 256 ^ suc i =
    ap (λ (p : ℕ). (b + 256 * y) / p) (pow-succ' 256 (suc i)) ∙ sym (div-div-eq-div-mul (b + 256 * y) 256 (256 ^ suc i)) in
    ap (λ (z : ℕ). z % 256) (split ∙ ap (λ (z : ℕ). z / 256 ^ suc i) q)

bytes_shift : (k i b y : ℕ) → b < 256 → bytes_low_first (suc i) k (b + 256 * y) ≡ bytes_low_first i k y
bytes_shift zero i b y h = refl
bytes_shift (suc k) i b y h =
    let first = byte_at_shift i b y h in
    let others = bytes_shift k (suc i) b y h in
    rw (first, others) refl

pub bytes-number : (n : ℕ) (xs : List ℕ) → n ≤ length xs → AreBytes xs → little_bytes n (little_number n xs) ≡ take n xs
bytes-number zero xs fits small = refl
bytes-number (suc n) [] fits small = absurd (omega arith)
bytes-number (suc n) (x ∷ xs) fits small =
    let moved = little_from-cons 0 n x xs in
    let byte : x < 256 = small 0 in
    let y = little_number n xs in
    let first : (x + 256 * y) % 256 ≡ x = omega arith in
    let others = bytes_shift n 0 x y byte in
    let back = bytes-number n xs (omega arith) (λ k. small (suc k)) in
    rw (moved, first, others, back) refl

joined : {a b c d e f : List ℕ} → a ≡ d → b ≡ e → c ≡ f → a ++ (b ++ c) ≡ d ++ (e ++ f)
joined p q r = cc

-- a list in three parts
three_parts : (xs : List ℕ) (i j : ℕ) → take i xs ++ (take j (drop i xs) ++ drop (i + j) xs) ≡ xs
three_parts xs i j =
    let rest : take j (drop i xs) ++ drop (i + j) xs ≡ drop i xs =
    ap (λ ys. take j (drop i xs) ++ ys) (sym (drop-drop j i xs)) ∙ take-append-drop j (drop i xs) in
    ap (λ ys. take i xs ++ ys) rest ∙ take-append-drop i xs

pub AreBytes-drop : (i : ℕ) (xs : List ℕ) → AreBytes xs → AreBytes (drop i xs)
AreBytes-drop i xs small k = rw (get_or-drop i xs k 0) (small (i + k))

pub AreBytes-take : (i : ℕ) (xs : List ℕ) → AreBytes xs → AreBytes (take i xs)
AreBytes-take i xs small k =
    elim (cases_lt k i) [
      | inl below ↦ rw (get_or-take i xs k 0 below) (small k)
      | inr past ↦
          let none : get_or (take i xs) k 0 ≡ 0 = get_or_past (take i xs) k 0 (omega (arith, length-take i xs)) in
          omega arith
    ]

-- the bytes of a number of n bytes
pub whole_number : (n : ℕ) (xs : List ℕ) → length xs ≡ n → AreBytes xs → little_bytes n (little_number n xs) ≡ xs
whole_number n xs whole small = bytes-number n xs (omega arith) small ∙ take_all n xs (omega arith)

-- a number of four bytes, which are all that is left
last_four : (i : ℕ) (xs : List ℕ) → length xs ≡ i + 4 → AreBytes xs → little_bytes 4 (little_number 4 (drop i xs)) ≡ drop i xs
last_four i xs whole small =
    bytes-number 4 (drop i xs) (omega (arith, length-drop i xs)) (AreBytes-drop i xs small)
    ∙ take_all 4 (drop i xs) (omega (arith, length-drop i xs))

-- the edge of twelve bytes has these bytes
pub edge_bytes-edge_of_bytes : (e : Edge) (xs : List ℕ) → length xs ≡ 12 → AreBytes xs → e ≡ edge_of_bytes xs → edge_bytes e ≡ xs
edge_bytes-edge_of_bytes e xs whole small is =
    ap edge_bytes is
    ∙ joined (bytes-number 4 xs (omega arith) small)
    (bytes-number 4 (drop 4 xs) (omega (arith, length-drop 4 xs)) (AreBytes-drop 4 xs small))
    (last_four 8 xs whole small)
    ∙ three_parts xs 4 4

-- the head of sixteen bytes has these bytes
pub head_bytes-fields : (n parts : ℕ) (xs : List ℕ) → length xs ≡ 16 → AreBytes xs → take 8 xs ≡ magic
    → n ≡ (shape_of_head xs).n → parts ≡ (shape_of_head xs).parts → xs ≡ head_bytes n parts
head_bytes-fields n parts xs whole small kind vertices ranges =
    sym (
    joined (sym kind)
    (ap (little_bytes 4) vertices ∙ bytes-number 4 (drop 8 xs) (omega (arith, length-drop 8 xs)) (AreBytes-drop 8 xs small))
    (ap (little_bytes 4) ranges ∙ last_four 12 xs whole small)
    ∙ three_parts xs 8 4)

-- what is read of pieces and written again is the pieces
pub written_again : {X : Type 0} (read : List ℕ → X) (write : X → List ℕ) (n : ℕ)
    → ((piece : List ℕ) → length piece ≡ n → AreBytes piece → write (read piece) ≡ piece)
    → (k : ℕ) (xs : List ℕ) → n * k ≤ length xs → AreBytes xs → flat_map write (map read (first_chunks n k xs)) ≡ take (n * k) xs
written_again read write n back zero xs fits small =
    let none : n * zero ≡ 0 = omega arith in
    sym (ap (λ m. take m xs) none)
written_again read write n back (suc k) xs fits small =
    let size : n + n * k ≡ n * suc k = omega arith in
    let first = back (take n xs) (length-take-le n xs (omega arith)) (AreBytes-take n xs small) in
    let others = written_again read write n back k (drop n xs) (omega (arith, length-drop n xs)) (AreBytes-drop n xs small) in
    ap (λ ys. ys ++ flat_map write (map read (first_chunks n k (drop n xs)))) first
    ∙ ap (λ ys. take n xs ++ ys) others
    ∙ sym (take-add n (n * k) xs)
    ∙ ap (λ m. take m xs) size

-- what is written in pieces, whatever follows, is read again
pub read_again : {X : Type 0} (read : List ℕ → X) (write : X → List ℕ) (n : ℕ) (P : X → Type 0)
    → ((x : X) → length (write x) ≡ n) → ((x : X) → P x → read (write x) ≡ x)
    → (xs : List X) (rest : List ℕ) → AllByRecursion P xs → map read (first_chunks n (length xs) (flat_map write xs ++ rest)) ≡ xs
read_again read write n P sized back [] rest fit = refl
read_again read write n P sized back (x ∷ xs) rest fit =
    let regrouped : (write x ++ flat_map write xs) ++ rest ≡ write x ++ (flat_map write xs ++ rest) = append_assoc (write x) (flat_map write xs) rest in
    let first : take n ((write x ++ flat_map write xs) ++ rest) ≡ write x = ap (take n) regrouped ∙ take_at (write x) (flat_map write xs ++ rest) n (sized x) in
    let others : drop n ((write x ++ flat_map write xs) ++ rest) ≡ flat_map write xs ++ rest = ap (drop n) regrouped ∙ drop_at (write x) (flat_map write xs ++ rest) n (sized x) in
    ap (λ ys. read ys ∷ map read (first_chunks n (length xs) (drop n ((write x ++ flat_map write xs) ++ rest)))) first
    ∙ ap (λ ys. read (write x) ∷ map read (first_chunks n (length xs) ys)) others
    ∙ ap (λ y. y ∷ map read (first_chunks n (length xs) (flat_map write xs ++ rest))) (back x fit.0)
    ∙ ap (λ ys. x ∷ ys) (read_again read write n P sized back xs rest fit.1)

pub length-written : {X : Type 0} (write : X → List ℕ) (n : ℕ) → ((x : X) → length (write x) ≡ n)
    → (xs : List X) → length (flat_map write xs) ≡ n * length xs
length-written write n sized [] = omega arith
length-written write n sized (x ∷ xs) =
    let first = sized x in
    let others = length-written write n sized xs in
    omega (arith, length-append (write x) (flat_map write xs))
