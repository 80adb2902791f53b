-- What proofs need of a file that is read part by part: the edges of some of its bytes are those at their places.
use Rattle.std.specs.Prelude.{◌≡◌, ℕ, zero, suc, ◌+◌, ◌-◌, ◌*◌, ◌/◌, ◌<◌, ◌≤◌, min, List, [], ◌∷◌, ◌++◌, length, take, drop, map, sum, slice_index, refl}
use Rattle.std.proofs.Common.{sym, ap, ◌∙◌, arith}
use Rattle.std.specs.Simd.{first_chunks}
use Rattle.std.proofs.Math.Seq.{drop-append-add}
use Rattle.std.proofs.lemmas.List.{take-append-drop, take-take, take-map, drop-map, drop-drop, drop-take, take_at, drop_at, take-append-le, drop-append-le, length-map, length-append, length-take, length-take-le, length-drop}
use Rattle.std.proofs.lemmas.List.Sums.{sum_by-cons}
use Rattle.gm_base.specs.declared.edge.Edge.{Edge}
use Rattle.gm_grid.specs.GridBytes.{edge_of_bytes, edges_of_bytes, blocks_of, placed_edges, index_end, shape_in, edges_in}

pub length-first_chunks : (n k : ℕ) (xs : List ℕ) → length (first_chunks n k xs) ≡ k
length-first_chunks n zero xs = refl
length-first_chunks n (suc k) xs = ap suc (length-first_chunks n k (drop n xs))

-- the first pieces of a list are those of its front that holds them
first_chunks-take : (n k m : ℕ) (xs : List ℕ) → k ≤ m → first_chunks n k (take (n * m) xs) ≡ first_chunks n k xs
first_chunks-take n zero m xs fits = refl
first_chunks-take n (suc k) zero xs fits = absurd (omega arith)
first_chunks-take n (suc k) (suc m) xs fits =
    let size : n + n * m ≡ n * suc m = omega arith in
    let first : take n (take (n + n * m) xs) ≡ take n xs = take-take n (n + n * m) xs (omega arith) in
    let others : drop n (take (n + n * m) xs) ≡ take (n * m) (drop n xs) = drop-take n (n * m) xs in
    ap (λ (l : ℕ). first_chunks n (suc k) (take l xs)) (sym size)
    ∙ ap (λ x. x ∷ first_chunks n k (drop n (take (n + n * m) xs))) first
    ∙ ap (λ ys. take n xs ∷ first_chunks n k ys) others
    ∙ ap (λ ys. take n xs ∷ ys) (first_chunks-take n k m (drop n xs) (omega arith))

take-first_chunks : (n i k : ℕ) (xs : List ℕ) → take i (first_chunks n k xs) ≡ first_chunks n (min i k) xs
take-first_chunks n zero k xs = let none : min 0 k ≡ 0 = omega arith in rw none refl
take-first_chunks n (suc i) zero xs = let none : min (suc i) 0 ≡ 0 = omega arith in rw none refl
take-first_chunks n (suc i) (suc k) xs =
    let one_more : min (suc i) (suc k) ≡ suc (min i k) = omega arith in rw one_more (ap (λ ys. take n xs ∷ ys) (take-first_chunks n i k (drop n xs)))

drop-first_chunks : (n i k : ℕ) (xs : List ℕ) → drop i (first_chunks n k xs) ≡ first_chunks n (k - i) (drop (n * i) xs)
drop-first_chunks n zero k xs =
    let none : n * zero ≡ 0 = omega arith in rw none (ap (λ (m : ℕ). first_chunks n m xs) (omega arith))
drop-first_chunks n (suc i) zero xs = let none : 0 - suc i ≡ 0 = omega arith in rw none refl
drop-first_chunks n (suc i) (suc k) xs =
    let left : suc k - suc i ≡ k - i = omega arith in
    let size : n + n * i ≡ n * suc i = omega arith in
    drop-first_chunks n i k (drop n xs)
    ∙ ap (first_chunks n (k - i)) (drop-drop (n * i) n xs ∙ ap (λ (l : ℕ). drop l xs) size)
    ∙ ap (λ (m : ℕ). first_chunks n m (drop (n * suc i) xs)) (sym left)

pub length-edges_of_bytes : (bytes : List ℕ) → length (edges_of_bytes bytes) ≡ length bytes / 12
length-edges_of_bytes bytes =
    length-map (first_chunks 12 (length bytes / 12) bytes) edge_of_bytes ∙ length-first_chunks 12 (length bytes / 12) bytes

-- the edges of the bytes of so many edges behind so many others
pub edges_of_bytes-part : (first count : ℕ) (bytes : List ℕ)
    → edges_of_bytes (take (12 * count) (drop (12 * first) bytes)) ≡ take count (drop first (edges_of_bytes bytes))
edges_of_bytes-part first count bytes =
    let all : ℕ = length bytes / 12 in
    let rest = drop (12 * first) bytes in
    let part = take (12 * count) rest in
    let many : length part / 12 ≡ min count (all - first) = omega (arith, length-take (12 * count) rest, length-drop (12 * first) bytes) in
    let pieces : first_chunks 12 (length part / 12) part ≡ first_chunks 12 (min count (all - first)) rest =
    ap (λ (k : ℕ). first_chunks 12 k part) many ∙ first_chunks-take 12 (min count (all - first)) count rest (omega arith) in
    let cut : take count (drop first (first_chunks 12 all bytes)) ≡ first_chunks 12 (min count (all - first)) rest =
    ap (take count) (drop-first_chunks 12 first all bytes) ∙ take-first_chunks 12 count (all - first) rest in
    ap (map edge_of_bytes) (pieces ∙ sym cut)
    ∙ sym (take-map edge_of_bytes count (drop first (first_chunks 12 all bytes)))
    ∙ ap (take count) (sym (drop-map edge_of_bytes first (first_chunks 12 all bytes)))

-- the edges of a file at these places are those of its bytes there
pub edges_in-part : (first count : ℕ) (bytes : List ℕ)
    → edges_of_bytes (take (12 * count) (drop (index_end (shape_in bytes) + 12 * first) bytes)) ≡ take count (drop first (edges_in bytes))
edges_in-part first count bytes =
    ap (λ ys. edges_of_bytes (take (12 * count) ys)) (sym (drop-drop (12 * first) (index_end (shape_in bytes)) bytes))
    ∙ edges_of_bytes-part first count (drop (index_end (shape_in bytes)) bytes)

-- the edges of bytes that are joined
pub edges_of_bytes-append : (count : ℕ) (xs ys : List ℕ) → length xs ≡ 12 * count → edges_of_bytes (xs ++ ys) ≡ edges_of_bytes xs ++ edges_of_bytes ys
edges_of_bytes-append count xs ys whole =
    let all : ℕ = length (xs ++ ys) / 12 in
    let joined = length-append xs ys in
    let front : take (12 * count) (xs ++ ys) ≡ xs = take_at xs ys (12 * count) whole in
    let back : drop (12 * count) (xs ++ ys) ≡ ys = drop_at xs ys (12 * count) whole in
    let first : take count (edges_of_bytes (xs ++ ys)) ≡ edges_of_bytes xs =
    sym (edges_of_bytes-part 0 count (xs ++ ys)) ∙ ap edges_of_bytes front in
    let others : drop count (edges_of_bytes (xs ++ ys)) ≡ edges_of_bytes ys =
    drop-map edge_of_bytes count (first_chunks 12 all (xs ++ ys))
    ∙ ap (map edge_of_bytes) (drop-first_chunks 12 count all (xs ++ ys) ∙ ap (first_chunks 12 (all - count)) back)
    ∙ ap (λ (k : ℕ). map edge_of_bytes (first_chunks 12 k ys)) (omega arith) in
    sym (take-append-drop count (edges_of_bytes (xs ++ ys))) ∙ (λ i. first i ++ others i)

pub length-in_block : (block : ℕ) (edges : List Edge) → length {A = ℕ × Edge} (map (λ e. (block, e)) edges) ≡ length edges
length-in_block block [] = refl
length-in_block block (e ∷ edges) = ap suc (length-in_block block edges)

-- a part of what is made of a list's front
part_of_front : {X Y : Type 0} (f : X → Y) (xs : List X) (first place count : ℕ) (after : List Y) → first ≤ length xs → place + count ≤ first
    → take count (drop place (map f (take first xs) ++ after)) ≡ map f (take count (drop place xs))
part_of_front f xs first place count after some fits =
    let front = take first xs in
    let size : length (map f front) ≡ first = length-map front f ∙ length-take-le first xs some in
    let left : length (drop place (map f front)) ≡ first - place = length-drop place (map f front) ∙ ap (λ (m : ℕ). m - place) size in
    let cut : place + (first - place) ≡ first = omega arith in
    let inside : drop place front ≡ take (first - place) (drop place xs) =
    ap (λ (m : ℕ). drop place (take m xs)) (sym cut) ∙ drop-take place (first - place) xs in
    ap (take count) (drop-append-le place (map f front) after (omega arith))
    ∙ take-append-le count (drop place (map f front)) after (omega arith)
    ∙ ap (take count) (drop-map f place front)
    ∙ take-map f count (drop place front)
    ∙ ap (λ ys. map f (take count ys)) inside
    ∙ ap (map f) (take-take count (first - place) (drop place xs) (omega arith))

-- a part of what is made of the edges behind a block
part_behind : (block first k n count : ℕ) (edges : List Edge) (front after : List (ℕ × Edge)) → length front ≡ first
    → take count (drop n after) ≡ map (λ e. (block + 1 + k, e)) (take count (drop n (drop first edges)))
    → take count (drop (first + n) (front ++ after)) ≡ map (λ e. (block + suc k, e)) (take count (drop (first + n) edges))
part_behind block first k n count edges front after size part =
    let next : block + 1 + k ≡ block + suc k = omega arith in
    ap (λ (m : ℕ). take count (drop (m + n) (front ++ after))) (sym size)
    ∙ ap (take count) (drop-append-add front after n)
    ∙ part
    ∙ ap (λ (b : ℕ). map (λ e. (b, e)) (take count (drop n (drop first edges)))) next
    ∙ ap (λ es. map (λ e. (block + suc k, e)) (take count es)) (drop-drop n first edges)

-- some edges of a block, behind so many others of it
pub placed_edges-part : (block : ℕ) (counts : List ℕ) (edges : List Edge) (k place count : ℕ) → sum counts ≡ length edges
    → k < length counts → place + count ≤ slice_index counts k
    → take count (drop (sum (take k counts) + place) (placed_edges block (blocks_of counts edges)))
    ≡ map (λ e. (block + k, e)) (take count (drop (sum (take k counts) + place) edges))
placed_edges-part block [] edges k place count whole within fits = absurd (omega arith)
placed_edges-part block (first ∷ counts) edges zero place count whole within fits =
    let total : first + sum counts ≡ length edges = sym (sum_by-cons (λ x. x) first counts) ∙ whole in
    let none : block + 0 ≡ block = omega arith in
    let start : 0 + place ≡ place = omega arith in
    rw (start, none)
    (part_of_front {Y = ℕ × Edge} (λ e. (block, e)) edges first place count (placed_edges (block + 1) (blocks_of counts (drop first edges))) (omega arith) fits)
placed_edges-part block (first ∷ counts) edges (suc k) place count whole within fits =
    let total : first + sum counts ≡ length edges = sym (sum_by-cons (λ x. x) first counts) ∙ whole in
    let rest : sum counts ≡ length (drop first edges) = omega (arith, length-drop first edges) in
    let size : length {A = ℕ × Edge} (map (λ e. (block, e)) (take first edges)) ≡ first = length-in_block block (take first edges) ∙ length-take-le first edges (omega arith) in
    let before : sum (first ∷ take k counts) + place ≡ first + (sum (take k counts) + place) = omega (arith, sum_by-cons (λ x. x) first (take k counts)) in
    rw before
    (part_behind block first k (sum (take k counts) + place) count edges (map (λ e. (block, e)) (take first edges)) (placed_edges (block + 1) (blocks_of counts (drop first edges))) size
    (placed_edges-part (block + 1) counts (drop first edges) k place count rest (omega arith) fits))

-- a file that is read part by part
pub ruleset edges_by_parts = (length-edges_of_bytes, edges_of_bytes-part, edges_in-part, edges_of_bytes-append, placed_edges-part)
