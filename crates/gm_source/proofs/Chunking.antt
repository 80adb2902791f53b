-- Chunks stand one behind the other, and joined they are the file's edges with their blocks.
use Rattle.std.proofs.Common.{◌≡◌, ℕ, zero, suc, ◌+◌, ◌-◌, ◌*◌, ◌<◌, ◌≤◌, List, [], ◌∷◌, ◌++◌, length, map, take, drop, get_or, refl, sym, ap, subst, ◌∙◌, arith}
use Rattle.std.specs.Prelude.{flat_map, sum}
use Rattle.std.specs.List.{AllByRecursion}
use Rattle.std.proofs.lemmas.List.{map-append, drop-drop, length-append, length-map}
use Rattle.std.proofs.lemmas.List.Elements.{recursion_from_All}
use Rattle.std.proofs.lemmas.List.Sums.{sum_by-cons}
use Rattle.std.proofs.lemmas.List.Concat.{flat_map-append}
use Rattle.gm_base.specs.declared.edge.Edge.{Edge}
use Rattle.gm_grid.specs.GridBytes.{blocks_of, placed_edges}
use Rattle.gm_label.specs.declared.chunk.Place.{Place}
use Rattle.gm_label.specs.Chunks.{cut_rest, before_last, chunks_of_block, chunks_from, chunks_of, base_of}
use Rattle.gm_label.specs.ChunksRules.{sizes_add_up, sizes_fit, block-joined, chunks-have_edges}
use Rattle.gm_label.specs.Catalogues.{no_place}
use Rattle.gm_source.specs.Openings.{placed_of, edges_before}

abbrev count_of : Place → ℕ
count_of place = place.count

-- each chunk begins where the one before it ends
abbrev AreOneByOne : ℕ → List Place → Type 0
AreOneByOne first [] = Unit {0}
AreOneByOne first (place ∷ places) = (place.first ≡ first) × AreOneByOne (first + place.count) places

rest_one_by_one : (size block first rest more : ℕ) (places : List Place) → AreOneByOne (first + (size * more + rest)) places
    → AreOneByOne first (cut_rest size block first rest more ++ places)
rest_one_by_one size block first rest zero places behind =
    let end : first + (size * zero + rest) ≡ first + rest = omega arith in
    (refl, subst (λ (n : ℕ). AreOneByOne n places) end behind)
rest_one_by_one size block first rest (suc more) places behind =
    let product : size * suc more ≡ size + size * more = omega arith in
    let end : first + (size * suc more + rest) ≡ (first + size) + (size * more + rest) = omega arith in
    (refl, rest_one_by_one size block (first + size) rest more places (subst (λ (n : ℕ). AreOneByOne n places) end behind))

from_one_by_one : (size block first : ℕ) (counts : List ℕ) → AreOneByOne first (chunks_from size block first counts)
from_one_by_one size block first [] = tt
from_one_by_one size block first (count ∷ counts) =
    let whole = sizes_add_up size count in
    let end : first + count ≡ first + (size * before_last size count + (count - size * before_last size count)) = omega arith in
    rest_one_by_one size block first (count - size * before_last size count) (before_last size count) (chunks_from size (block + 1) (first + count) counts)
    (subst (λ (n : ℕ). AreOneByOne n (chunks_from size (block + 1) (first + count) counts)) end (from_one_by_one size (block + 1) (first + count) counts))

first_at : (first : ℕ) (places : List Place) (k : ℕ) → AreOneByOne first places → k < length places
    → (get_or places k no_place).first ≡ first + edges_before places k
first_at first [] k all within = absurd (omega arith)
first_at first (place ∷ places) zero all within = all.0 ∙ omega arith
first_at first (place ∷ places) (suc k) all within =
    let rest = first_at (first + place.count) places k all.1 (omega arith) in
    let more = sum_by-cons count_of place (take k places) in
    rest ∙ omega arith

-- a chunk's first edge is behind those of the chunks before it
pub first_of_chunk : (size : ℕ) (counts : List ℕ) (k : ℕ) → k < length (chunks_of size counts)
    → (get_or (chunks_of size counts) k no_place).first ≡ edges_before (chunks_of size counts) k
first_of_chunk size counts k within = first_at 0 (chunks_of size counts) k (from_one_by_one size 0 0 counts) within ∙ omega arith

abbrev in_block : ℕ → Edge → ℕ × Edge
in_block block e = (block, e)

placed_rest : (size block first rest more : ℕ) (edges : List Edge)
    → flat_map (placed_of edges) (cut_rest size block first rest more) ≡ map (in_block block) (flat_map (base_of edges) (cut_rest size block first rest more))
placed_rest size block first rest zero edges = sym (map-append (in_block block) (take rest (drop first edges)) [])
placed_rest size block first rest (suc more) edges =
    ap (λ xs. map (in_block block) (take size (drop first edges)) ++ xs) (placed_rest size block (first + size) rest more edges)
    ∙ sym (map-append (in_block block) (take size (drop first edges)) (flat_map (base_of edges) (cut_rest size block (first + size) rest more)))

placed_from : (size block first : ℕ) (counts : List ℕ) (edges : List Edge)
    → placed_edges block (blocks_of counts (drop first edges)) ≡ flat_map (placed_of edges) (chunks_from size block first counts)
placed_from size block first [] edges = refl
placed_from size block first (count ∷ counts) edges =
    let here = chunks_of_block size block first count in
    let after = chunks_from size (block + 1) (first + count) counts in
    ap (λ xs. map (in_block block) xs ++ placed_edges (block + 1) (blocks_of counts (drop count (drop first edges)))) (sym (block-joined size block first count edges))
    ∙ ap (λ xs. xs ++ placed_edges (block + 1) (blocks_of counts (drop count (drop first edges))))
    (sym (placed_rest size block first (count - size * before_last size count) (before_last size count) edges))
    ∙ ap (λ xs. flat_map (placed_of edges) here ++ placed_edges (block + 1) (blocks_of counts xs)) (drop-drop count first edges)
    ∙ ap (λ xs. flat_map (placed_of edges) here ++ xs) (placed_from size (block + 1) (first + count) counts edges)
    ∙ sym (flat_map-append (placed_of edges) here after)

-- a file's edges with their blocks, chunk by chunk
pub placed_by_chunks : (size : ℕ) (counts : List ℕ) (edges : List Edge)
    → placed_edges 0 (blocks_of counts edges) ≡ flat_map (placed_of edges) (chunks_of size counts)
placed_by_chunks size counts edges = placed_from size 0 0 counts edges

length_before : (edges : List Edge) (places : List Place) (k : ℕ) → AllByRecursion (λ (p : Place). length (base_of edges p) ≡ p.count) places
    → length {A = ℕ × Edge} (flat_map (placed_of edges) (take k places)) ≡ edges_before places k
length_before edges [] zero all = refl
length_before edges [] (suc k) all = refl
length_before edges (place ∷ places) zero all = refl
length_before edges (place ∷ places) (suc k) all =
    let here = length-map (base_of edges place) (in_block place.block) ∙ all.0 in
    let rest = length_before edges places k all.1 in
    let more = sum_by-cons count_of place (take k places) in
    length-append {A = ℕ × Edge} (placed_of edges place) (flat_map (placed_of edges) (take k places)) ∙ omega arith

-- so many edges stand before a chunk
pub length_of_placed : (size : ℕ) (counts : List ℕ) (edges : List Edge) (k : ℕ) → sum counts ≡ length edges
    → length {A = ℕ × Edge} (flat_map (placed_of edges) (take k (chunks_of size counts))) ≡ edges_before (chunks_of size counts) k
length_of_placed size counts edges k whole =
    length_before edges (chunks_of size counts) k
    (recursion_from_All (λ (p : Place). length (base_of edges p) ≡ p.count) (chunks_of size counts) (chunks-have_edges size counts edges whole))

short_rest : (size block first rest more : ℕ) → rest ≤ size → AllByRecursion (λ (p : Place). p.count ≤ size) (cut_rest size block first rest more)
short_rest size block first rest zero small = (small, tt)
short_rest size block first rest (suc more) small = (omega arith, short_rest size block (first + size) rest more small)

short_both : (size : ℕ) (ps qs : List Place) → AllByRecursion (λ (p : Place). p.count ≤ size) ps → AllByRecursion (λ (p : Place). p.count ≤ size) qs
    → AllByRecursion (λ (p : Place). p.count ≤ size) (ps ++ qs)
short_both size [] qs a b = b
short_both size (p ∷ ps) qs a b = (a.0, short_both size ps qs a.1 b)

short_from : (size block first : ℕ) (counts : List ℕ) → 1 ≤ size → AllByRecursion (λ (p : Place). p.count ≤ size) (chunks_from size block first counts)
short_from size block first [] some = tt
short_from size block first (count ∷ counts) some =
    short_both size (chunks_of_block size block first count) (chunks_from size (block + 1) (first + count) counts)
    (short_rest size block first (count - size * before_last size count) (before_last size count) (sizes_fit size count some).1)
    (short_from size (block + 1) (first + count) counts some)

short_at : (size : ℕ) (ps : List Place) (c : ℕ) → AllByRecursion (λ (p : Place). p.count ≤ size) ps → (get_or ps c no_place).count ≤ size
short_at size [] c all = omega arith
short_at size (p ∷ ps) zero all = all.0
short_at size (p ∷ ps) (suc c) all = short_at size ps c all.1

-- no chunk has more edges than the chunk size
pub short_chunk : (size : ℕ) (counts : List ℕ) (c : ℕ) → 1 ≤ size → (get_or (chunks_of size counts) c no_place).count ≤ size
short_chunk size counts c some = short_at size (chunks_of size counts) c (short_from size 0 0 counts some)
