-- What proofs need of chunks: joined they are the edges again, all but a block's last are full, and they stand block by block.
use Rattle.std.specs.Prelude.{◌≡◌, ℕ, zero, suc, ◌+◌, ◌-◌, ◌*◌, ◌/◌, ◌%◌, ◌<◌, ◌≤◌, Bool, true, false, ◌&&◌, ◌⊎◌, cond, List, [], ◌∷◌, ◌++◌, map, length, take, drop, sum, sum_by, flat_map, count_by, All, refl}
use Rattle.std.specs.List.{AllByRecursion}
use Rattle.std.proofs.Common.{eqb, get_or, append-nil, length-append, inl, inr, sym, ap, ◌∙◌, subst, arith, div-mul-le_self, div-le_self, mul_comm, append_assoc}
use Rattle.std.proofs.lemmas.Bool.{cases_lt, eq-eqb, ne_eqb}
use Rattle.std.proofs.Math.Seq.{take-add}
use Rattle.std.proofs.Math.Nat.{div-add-mod}
use Rattle.std.proofs.lemmas.Nat.{div-mul-add}
use Rattle.std.proofs.lemmas.List.{take_at, drop_at, drop-drop, take_all, length-drop, length-take-le}
use Rattle.std.proofs.lemmas.List.Elements.{All-nil, All-cons, All-head, All-tail, All-weaker, All-append, All-from_recursion}
use Rattle.std.proofs.lemmas.List.Sums.{sum_by-cons, sum_by-append}
use Rattle.std.proofs.lemmas.List.Concat.{flat_map-append}
use Rattle.gm_base.specs.declared.edge.Edge.{Edge}
use Rattle.gm_base.specs.ChunkCounts.{block_chunk_count, chunk_count}
use Rattle.gm_base.specs.Dimensions.{Dimensions, block_of}
use Rattle.gm_label.specs.declared.chunk.Place.{Place}
use Rattle.gm_label.specs.Chunks.{cut_rest, before_last, chunks_of_block, chunks_from, chunks_of, base_of, AreInBlocks}

joined_places : (size block first rest more : ℕ) (edges : List Edge)
    → flat_map (base_of edges) (cut_rest size block first rest more) ≡ take (size * more + rest) (drop first edges)
joined_places size block first rest zero edges =
    let all : rest ≡ size * zero + rest = omega arith in
    append-nil (take rest (drop first edges)) ∙ ap (λ n. take n (drop first edges)) all
joined_places size block first rest (suc more) edges =
    let all : size + (size * more + rest) ≡ size * suc more + rest = omega arith in
    ap (λ xs. take size (drop first edges) ++ xs)
    (joined_places size block (first + size) rest more edges ∙ ap (take (size * more + rest)) (sym (drop-drop size first edges)))
    ∙ sym (take-add size (size * more + rest) (drop first edges))
    ∙ ap (λ n. take n (drop first edges)) all

pub sizes_add_up : (size count : ℕ) → size * before_last size count + (count - size * before_last size count) ≡ count
sizes_add_up size count =
    let small = div-mul-le_self (count - 1) size in
    let turned = mul_comm size (before_last size count) in
    omega arith

pub block-joined : (size block first count : ℕ) (edges : List Edge)
    → flat_map (base_of edges) (chunks_of_block size block first count) ≡ take count (drop first edges)
block-joined size block first count edges =
    joined_places size block first (count - size * before_last size count) (before_last size count) edges
    ∙ ap (λ n. take n (drop first edges)) (sizes_add_up size count)

joined_from : (size block first : ℕ) (counts : List ℕ) (edges : List Edge)
    → flat_map (base_of edges) (chunks_from size block first counts) ≡ take (sum counts) (drop first edges)
joined_from size block first [] edges = refl
joined_from size block first (count ∷ counts) edges =
    flat_map-append (base_of edges) (chunks_of_block size block first count) (chunks_from size (block + 1) (first + count) counts)
    ∙ ap (λ xs. xs ++ flat_map (base_of edges) (chunks_from size (block + 1) (first + count) counts)) (block-joined size block first count edges)
    ∙ ap (λ xs. take count (drop first edges) ++ xs)
    (joined_from size (block + 1) (first + count) counts edges ∙ ap (take (sum counts)) (sym (drop-drop count first edges)))
    ∙ sym (take-add count (sum counts) (drop first edges))
    ∙ ap (λ n. take n (drop first edges)) (sym (sum_by-cons (λ x. x) count counts))

pub chunks-joined : (size : ℕ) (counts : List ℕ) (edges : List Edge) → sum counts ≡ length edges → flat_map (base_of edges) (chunks_of size counts) ≡ edges
chunks-joined size counts edges whole =
    joined_from size 0 0 counts edges ∙ ap (λ n. take n edges) whole ∙ take_all (length edges) edges (omega arith)

abbrev IsFull : ℕ → ℕ → Place → Type 0
IsFull size count place = (place.count ≤ size) × (place.is_last ≡ false → place.count ≡ size) × (1 ≤ count → 1 ≤ place.count)

full_places : (size block first rest more count : ℕ) → 1 ≤ size → rest ≤ size → (1 ≤ count → 1 ≤ rest)
    → AllByRecursion (IsFull size count) (cut_rest size block first rest more)
full_places size block first rest zero count some small last = ((small, (λ h. cc), last), tt)
full_places size block first rest (suc more) count some small last =
    ((omega arith, (λ h. refl), (λ h. some)), full_places size block (first + size) rest more count some small last)

pub chunks-full : (size block first count : ℕ) → 1 ≤ size → All (IsFull size count) (chunks_of_block size block first count)
chunks-full size block first count some =
    let parts = div-add-mod (count - 1) size in
    All-from_recursion (IsFull size count) (chunks_of_block size block first count)
    (full_places size block first (count - size * before_last size count) (before_last size count) count some (omega arith) (λ h. omega arith))

-- what holds of each item of two lists joined
all_parts : {X : Type 0} (P : X → Type 0) (xs ys : List X) → All P (xs ++ ys) → All P xs × All P ys
all_parts P [] ys h = (All-nil P, h)
all_parts P (x ∷ xs) ys h =
    let rest = all_parts P xs ys (All-tail P x (xs ++ ys) h) in
    (All-cons P x xs (All-head P x (xs ++ ys) h) rest.0, rest.1)

recursion-append : {X : Type 0} (P : X → Type 0) (xs ys : List X) → AllByRecursion P xs → AllByRecursion P ys → AllByRecursion P (xs ++ ys)
recursion-append P [] ys hx hy = hy
recursion-append P (x ∷ xs) ys hx hy = (hx.0, recursion-append P xs ys hx.1 hy)

abbrev LiesInBlock : Dimensions → List Edge → Place → Type 0
LiesInBlock d edges place = All (λ e. block_of d e ≡ place.block) (base_of edges place)

lie_places : (d : Dimensions) (size block first rest more : ℕ) (edges : List Edge)
    → All (λ e. block_of d e ≡ block) (take (size * more + rest) (drop first edges))
    → AllByRecursion (LiesInBlock d edges) (cut_rest size block first rest more)
lie_places d size block first rest zero edges lie =
    let all : size * zero + rest ≡ rest = omega arith in
    (subst (λ (n : ℕ). All (λ e. block_of d e ≡ block) (take n (drop first edges))) all lie, tt)
lie_places d size block first rest (suc more) edges lie =
    let all : size * suc more + rest ≡ size + (size * more + rest) = omega arith in
    let split : take (size * suc more + rest) (drop first edges) ≡ take size (drop first edges) ++ take (size * more + rest) (drop (first + size) edges) =
    ap (λ n. take n (drop first edges)) all ∙ take-add size (size * more + rest) (drop first edges)
    ∙ ap (λ xs. take size (drop first edges) ++ take (size * more + rest) xs) (drop-drop size first edges) in
    let both = all_parts (λ e. block_of d e ≡ block) (take size (drop first edges)) (take (size * more + rest) (drop (first + size) edges))
    (subst (λ (xs : List Edge). All (λ e. block_of d e ≡ block) xs) split lie) in
    (both.0, lie_places d size block (first + size) rest more edges both.1)

lie_from : (d : Dimensions) (size block first : ℕ) (counts : List ℕ) (edges : List Edge) → AreInBlocks d block counts (drop first edges)
    → AllByRecursion (LiesInBlock d edges) (chunks_from size block first counts)
lie_from d size block first [] edges lie = tt
lie_from d size block first (count ∷ counts) edges lie =
    let here : All (λ e. block_of d e ≡ block) (take (size * before_last size count + (count - size * before_last size count)) (drop first edges)) =
    subst (λ (n : ℕ). All (λ e. block_of d e ≡ block) (take n (drop first edges))) (sym (sizes_add_up size count)) lie.0 in
    recursion-append (LiesInBlock d edges) (chunks_of_block size block first count) (chunks_from size (block + 1) (first + count) counts)
    (lie_places d size block first (count - size * before_last size count) (before_last size count) edges here)
    (lie_from d size (block + 1) (first + count) counts edges
    (subst (λ (xs : List Edge). AreInBlocks d (block + 1) counts xs) (drop-drop count first edges) lie.1))

pub chunks-in_blocks : (d : Dimensions) (size : ℕ) (counts : List ℕ) (edges : List Edge) → AreInBlocks d 0 counts edges
    → AllByRecursion (LiesInBlock d edges) (chunks_of size counts)
chunks-in_blocks d size counts edges in_blocks = lie_from d size 0 0 counts edges in_blocks

pub chunks-lie : (d : Dimensions) (size : ℕ) (counts : List ℕ) (edges : List Edge) → AreInBlocks d 0 counts edges
    → All (LiesInBlock d edges) (chunks_of size counts)
chunks-lie d size counts edges in_blocks = All-from_recursion (LiesInBlock d edges) (chunks_of size counts) (chunks-in_blocks d size counts edges in_blocks)

pub blocks-in_blocks : (d : Dimensions) (block : ℕ) (blocks : List (List Edge))
    → ((k : ℕ) → All (λ e. block_of d e ≡ block + k) (get_or blocks k []))
    → AreInBlocks d block (map (λ edges. length edges) blocks) (flat_map (λ edges. edges) blocks)
blocks-in_blocks d block [] each = tt
blocks-in_blocks d block (edges ∷ blocks) each =
    let others = flat_map (λ (xs : List Edge). xs) blocks in
    let here : All (λ e. block_of d e ≡ block) edges =
    let same : block + 0 ≡ block = omega arith in
    subst (λ (b : ℕ). All (λ e. block_of d e ≡ b) edges) same (each 0) in
    let rest = blocks-in_blocks d (block + 1) blocks (λ k.
    let next : block + suc k ≡ block + 1 + k = omega arith in
    subst (λ (b : ℕ). All (λ e. block_of d e ≡ b) (get_or blocks k [])) next (each (suc k))) in (
      subst (λ (xs : List Edge). All (λ e. block_of d e ≡ block) xs) (sym (take_at edges others (length edges) refl)) here,
      subst (λ (xs : List Edge). AreInBlocks d (block + 1) (map (λ ys. length ys) blocks) xs) (sym (drop_at edges others (length edges) refl)) rest,
    )

-- one chunk of a block is its last
abbrev pub is_last_in : ℕ → Place → Bool
is_last_in b place = place.is_last && eqb b place.block

last_places : (size block first rest more b : ℕ) → count_by (is_last_in b) (cut_rest size block first rest more) ≡ cond (eqb b block) 1 0
last_places size block first rest zero b = omega arith
last_places size block first rest (suc more) b =
    sum_by-cons (λ (p : Place). cond (is_last_in b p) 1 0) (record { block = block; first = first; count = size; is_last = false }) (cut_rest size block (first + size) rest more)
    ∙ ap (λ n. 0 + n) (last_places size block (first + size) rest more b) ∙ omega arith

last_here : (size block first b : ℕ) (count : ℕ) (counts : List ℕ)
    → count_by (is_last_in b) (chunks_from size block first (count ∷ counts))
    ≡ cond (eqb b block) 1 0 + count_by (is_last_in b) (chunks_from size (block + 1) (first + count) counts)
last_here size block first b count counts =
    sum_by-append (λ (p : Place). cond (is_last_in b p) 1 0) (chunks_of_block size block first count) (chunks_from size (block + 1) (first + count) counts)
    ∙ ap (λ n. n + count_by (is_last_in b) (chunks_from size (block + 1) (first + count) counts))
    (last_places size block first (count - size * before_last size count) (before_last size count) b)

pub none_last : (size block first b : ℕ) (counts : List ℕ) → (b < block) ⊎ (block + length counts ≤ b) → count_by (is_last_in b) (chunks_from size block first counts) ≡ 0
none_last size block first b [] away = refl
none_last size block first b (count ∷ counts) away =
    let other : eqb b block ≡ false = ne_eqb b block (λ same. elim away as (λ _. ⊥) [ inl low ↦ omega arith | inr high ↦ omega arith ]) in
    let rest = none_last size (block + 1) (first + count) b counts (elim away as (λ _. (b < block + 1) ⊎ (block + 1 + length counts ≤ b)) [
      | inl low ↦ inl (omega arith)
      | inr high ↦ inr (omega arith)
    ]) in
    last_here size block first b count counts ∙ ap (λ t. cond t 1 0 + count_by (is_last_in b) (chunks_from size (block + 1) (first + count) counts)) other
    ∙ omega arith

pub one_last : (size block first b : ℕ) (counts : List ℕ) → block ≤ b → b < block + length counts → count_by (is_last_in b) (chunks_from size block first counts) ≡ 1
one_last size block first b [] low high = absurd (omega arith)
one_last size block first b (count ∷ counts) low high =
    let rest = count_by (is_last_in b) (chunks_from size (block + 1) (first + count) counts) in
    elim (cases_lt block b) as (λ _. count_by (is_last_in b) (chunks_from size block first (count ∷ counts)) ≡ 1) [
      | inl later ↦
          let other : eqb b block ≡ false = ne_eqb b block (λ same. omega arith) in
          let one = one_last size (block + 1) (first + count) b counts (omega arith) (omega arith) in
          last_here size block first b count counts ∙ ap (λ t. cond t 1 0 + rest) other ∙ omega arith
      | inr here ↦
          let same : eqb b block ≡ true = eq-eqb b block (omega arith) in
          let none = none_last size (block + 1) (first + count) b counts (inl (omega arith)) in
          last_here size block first b count counts ∙ ap (λ t. cond t 1 0 + rest) same ∙ omega arith
    ]

-- a block's last chunk isn't larger than the size, and its full ones fit in its edges
pub sizes_fit : (size count : ℕ) → 1 ≤ size → (size * ((count - 1) / size) ≤ count) × (count - size * ((count - 1) / size) ≤ size) × ((count - 1) / size ≤ count)
sizes_fit size count some =
    let parts = div-add-mod (count - 1) size in
    let small = div-mul-le_self (count - 1) size in
    let turned = mul_comm size ((count - 1) / size) in
    let few = div-le_self (count - 1) size in
    (omega arith, omega arith, omega arith)

-- one chunk more
pub one_more : (size block at rest left : ℕ) (ps : List Place) → 1 ≤ left
    → (ps ++ record { block = block; first = at; count = size; is_last = false } ∷ []) ++ cut_rest size block (at + size) rest (left - 1)
    ≡ ps ++ cut_rest size block at rest left
one_more size block at rest zero ps some = absurd (omega arith)
one_more size block at rest (suc left) ps some =
    let one : List Place = record { block = block; first = at; count = size; is_last = false } ∷ [] in
    let less : suc left - 1 ≡ left = omega arith in
    ap (λ n. (ps ++ one) ++ cut_rest size block (at + size) rest n) less ∙ append_assoc ps one (cut_rest size block (at + size) rest left)

pub length-cut_rest : (size block first rest more : ℕ) → length (cut_rest size block first rest more) ≡ more + 1
length-cut_rest size block first rest zero = omega arith
length-cut_rest size block first rest (suc more) = let ih = length-cut_rest size block (first + size) rest more in omega arith

-- a block's chunks are as many as full ones are needed to hold its edges, and at least one
pub one_chunk_more : (size count : ℕ) → 1 ≤ size → before_last size count + 1 ≡ block_chunk_count size count
one_chunk_more size count some =
    let full : ℕ = count / size in
    let rest : ℕ = count % size in
    let whole : size * full + rest ≡ count = omega arith in
    let small : rest < size = omega arith in
    elim (cases_lt 0 rest) as (λ _. before_last size count + 1 ≡ block_chunk_count size count) [
      | inl some_rest ↦
          let before : count - 1 ≡ full * size + (rest - 1) = omega arith in
          let quotient : before_last size count ≡ full = ap (λ (n : ℕ). n / size) before ∙ div-mul-add full size (rest - 1) (omega arith) in
          omega arith
      | inr no_rest ↦ elim (cases_lt 0 full) as (λ _. before_last size count + 1 ≡ block_chunk_count size count) [
        | inl some_full ↦
            let all : size * full ≡ size * ((full - 1) + 1) = ap (λ (n : ℕ). size * n) (omega arith) in
            let before : count - 1 ≡ (full - 1) * size + (size - 1) = omega arith in
            let quotient : before_last size count ≡ full - 1 = ap (λ (n : ℕ). n / size) before ∙ div-mul-add (full - 1) size (size - 1) (omega arith) in
            omega arith
        | inr no_full ↦
            let none : size * full ≡ size * 0 = ap (λ (n : ℕ). size * n) (omega arith) in
            let before : count - 1 ≡ 0 * size + 0 = omega arith in
            let quotient : before_last size count ≡ 0 = ap (λ (n : ℕ). n / size) before ∙ div-mul-add 0 size 0 (omega arith) in
            omega arith
      ]
    ]

length-from : (size block first : ℕ) (counts : List ℕ) → 1 ≤ size → length (chunks_from size block first counts) ≡ chunk_count size counts
length-from size block first [] some = refl
length-from size block first (count ∷ counts) some =
    let here = length-cut_rest size block first (count - size * before_last size count) (before_last size count) in
    let full = one_chunk_more size count some in
    let rest = length-from size (block + 1) (first + count) counts some in
    let all = sum_by-cons (block_chunk_count size) count counts in
    length-append (chunks_of_block size block first count) (chunks_from size (block + 1) (first + count) counts) ∙ omega arith

-- how many chunks there are
pub length-chunks_of : (size : ℕ) (counts : List ℕ) → 1 ≤ size → length (chunks_of size counts) ≡ chunk_count size counts
length-chunks_of size counts some = length-from size 0 0 counts some

-- each chunk lies within all edges
fits_rest : (size block first rest more all : ℕ) → first + (size * more + rest) ≤ all
    → AllByRecursion (λ (p : Place). p.first + p.count ≤ all) (cut_rest size block first rest more)
fits_rest size block first rest zero all end = (omega arith, tt)
fits_rest size block first rest (suc more) all end =
    let product : size * suc more ≡ size + size * more = omega arith in
    (omega arith, fits_rest size block (first + size) rest more all (omega arith))

fits_from : (size block first : ℕ) (counts : List ℕ) (all : ℕ) → first + sum counts ≤ all
    → AllByRecursion (λ (p : Place). p.first + p.count ≤ all) (chunks_from size block first counts)
fits_from size block first [] all end = tt
fits_from size block first (count ∷ counts) all end =
    let whole = sum_by-cons (λ (x : ℕ). x) count counts in
    let here = sizes_add_up size count in
    recursion-append (λ (p : Place). p.first + p.count ≤ all) (chunks_of_block size block first count) (chunks_from size (block + 1) (first + count) counts)
    (fits_rest size block first (count - size * before_last size count) (before_last size count) all (omega arith))
    (fits_from size (block + 1) (first + count) counts all (omega arith))

pub chunks-within : (size : ℕ) (counts : List ℕ) → All (λ place. place.first + place.count ≤ sum counts) (chunks_of size counts)
chunks-within size counts =
    All-from_recursion (λ (p : Place). p.first + p.count ≤ sum counts) (chunks_of size counts) (fits_from size 0 0 counts (sum counts) (omega arith))

-- each chunk has as many edges as it counts
pub chunks-have_edges : (size : ℕ) (counts : List ℕ) (edges : List Edge) → sum counts ≡ length edges
    → All (λ place. length (base_of edges place) ≡ place.count) (chunks_of size counts)
chunks-have_edges size counts edges whole =
    All-weaker (λ (p : Place). p.first + p.count ≤ sum counts) (λ p. length (base_of edges p) ≡ p.count)
    (λ p end. let long = length-drop p.first edges in length-take-le p.count (drop p.first edges) (omega arith)) (chunks_of size counts) (chunks-within size counts)

counted_rest : (size block first rest more : ℕ) → sum_by (λ (p : Place). p.count) (cut_rest size block first rest more) ≡ size * more + rest
counted_rest size block first rest zero = omega arith
counted_rest size block first rest (suc more) =
    let tail = counted_rest size block (first + size) rest more in
    let product : size * suc more ≡ size + size * more = omega arith in
    sum_by-cons (λ (p : Place). p.count) (record { block = block; first = first; count = size; is_last = false }) (cut_rest size block (first + size) rest more) ∙ omega arith

counted_from : (size block first : ℕ) (counts : List ℕ) → sum_by (λ (p : Place). p.count) (chunks_from size block first counts) ≡ sum counts
counted_from size block first [] = refl
counted_from size block first (count ∷ counts) =
    let here = counted_rest size block first (count - size * before_last size count) (before_last size count) in
    let whole = sizes_add_up size count in
    let rest = counted_from size (block + 1) (first + count) counts in
    let all = sum_by-cons (λ (x : ℕ). x) count counts in
    sum_by-append (λ (p : Place). p.count) (chunks_of_block size block first count) (chunks_from size (block + 1) (first + count) counts) ∙ omega arith

-- all chunks have all edges
pub chunks-count_edges : (size : ℕ) (counts : List ℕ) → sum_by (λ (p : Place). p.count) (chunks_of size counts) ≡ sum counts
chunks-count_edges size counts = counted_from size 0 0 counts

cut-in_range : (blocks size block first rest more : ℕ) → block < blocks → All (λ (p : Place). p.block < blocks) (cut_rest size block first rest more)
cut-in_range blocks size block first rest zero below =
    All-cons (λ (p : Place). p.block < blocks) (record { block = block; first = first; count = rest; is_last = true }) [] below (All-nil (λ (p : Place). p.block < blocks))
cut-in_range blocks size block first rest (suc more) below =
    All-cons (λ (p : Place). p.block < blocks) (record { block = block; first = first; count = size; is_last = false }) (cut_rest size block (first + size) rest more) below
    (cut-in_range blocks size block (first + size) rest more below)

-- each chunk is of one of the blocks
pub chunks-in_range : (blocks size block first : ℕ) (counts : List ℕ) → block + length counts ≤ blocks
    → All (λ (p : Place). p.block < blocks) (chunks_from size block first counts)
chunks-in_range blocks size block first [] within = All-nil (λ (p : Place). p.block < blocks)
chunks-in_range blocks size block first (count ∷ counts) within =
    All-append (λ (p : Place). p.block < blocks) (chunks_of_block size block first count) (chunks_from size (block + 1) (first + count) counts)
    (cut-in_range blocks size block first (count - size * before_last size count) (before_last size count) (omega arith))
    (chunks-in_range blocks size (block + 1) (first + count) counts (omega arith))
