-- What proofs need of catalogues: the sources of a block's edges are those of its rows, and what the layers above use of chunks.
use Rattle.std.specs.Prelude.{◌≡◌, ℕ, zero, suc, ◌+◌, ◌-◌, ◌*◌, ◌/◌, ◌<◌, ◌≤◌, true, cond, List, [], ◌∷◌, ◌++◌, map, length, take, drop, flat_map, sum_by, slice_set, All, refl}
use Rattle.std.specs.List.{range_with_len, list_any, AllByRecursion}
use Rattle.std.proofs.Common.{eqb, get_or, append_assoc, append-nil, inr, sym, ap, ◌∙◌, subst, arith}
use Rattle.std.proofs.Math.Nat.{div-mul-le_self, mul-le-mul_left, div-lt_iff_lt-mul, div-add-mod}
use Rattle.std.proofs.lemmas.Nat.{div-mul-add}
use Rattle.std.proofs.lemmas.List.{length-map, length-take-le, drop_more, get_or_at, map_more, set_at, take_all, drop_all}
use Rattle.std.proofs.lemmas.List.FromFn.{fill_by_all}
use Rattle.std.proofs.lemmas.List.Elements.{All-nil, All-weaker, All-get_or}
use Rattle.std.proofs.Math.ListN.{get_or-map}
use Rattle.gm_base.specs.declared.edge.Edge.{Edge}
use Rattle.gm_base.specs.Dimensions.{Dimensions, AreDimensions, width_of, range_of, block_of}
use Rattle.gm_base.specs.DimensionsRules.{width_above, range_below}
use Rattle.gm_base.specs.Graph.{HasEndsBelow}
use Rattle.gm_label.specs.declared.chunk.Place.{Place}
use Rattle.gm_label.specs.Chunks.{chunks_of, base_of}
use Rattle.gm_label.specs.ChunksRules.{block-joined, chunks-joined, chunks-full, chunks-in_blocks, chunks-lie, blocks-in_blocks, chunks-within, chunks-have_edges, chunks-count_edges, length-chunks_of, is_last_in, none_last, one_last, chunks-in_range}
use Rattle.gm_label.specs.Labels.{label_of, sources_of}
use Rattle.gm_label.specs.LabelsRules.{sum_by-map, label-counts, label-lists, label-sources, label-total, label_of-is_label, one_label}
use Rattle.gm_label.specs.Catalogues.{Catalogue, no_place, place_at, label_at, base_at, catalogue_of, unlabelled, with_label, labelled_up_to, first_source_of, IsSourceIn, FitsChunk, IsCut, IsOver}

-- the row of a block is that of its edges' sources
row_of_block : (d : Dimensions) (e : Edge) → AreDimensions d.n d.parts → HasEndsBelow d.n e → block_of d e / d.parts ≡ range_of d e.from
row_of_block d e dims ends = div-mul-add (range_of d e.from) d.parts (range_of d e.to) (range_below d e.to dims ends.1)

-- each edge's source is one that edges of its block may have
pub source-in_rows : (d : Dimensions) (e : Edge) → AreDimensions d.n d.parts → HasEndsBelow d.n e → IsSourceIn d (block_of d e) e.from
source-in_rows d e dims ends =
    let width = width_of d in
    let row : block_of d e / d.parts ≡ range_of d e.from = row_of_block d e dims ends in
    let first : first_source_of d (block_of d e) ≡ range_of d e.from * width = ap (λ (r : ℕ). r * width) row in
    let low = div-mul-le_self e.from width in
    let some = width_above d dims in
    let parts = div-add-mod e.from width in
    let below = ends.0 in
    (omega arith, omega arith)

-- a block's rows don't end far behind the last vertex
pub rows-end : (d : Dimensions) (block : ℕ) → AreDimensions d.n d.parts → block < d.parts * d.parts → first_source_of d block + width_of d ≤ d.n + (d.parts - 1)
rows-end d block dims below =
    let some : 0 < d.parts = dims.some_range in
    let row : block / d.parts < d.parts = (div-lt_iff_lt-mul {k = d.parts} {x = block} {y = d.parts} some).1 below in
    let width = width_of d in
    let all : width * d.parts ≤ d.n + (d.parts - 1) = div-mul-le_self (d.n + (d.parts - 1)) d.parts in
    let next : block / d.parts + 1 ≤ d.parts = omega arith in
    let more : width * (block / d.parts + 1) ≤ width * d.parts = mul-le-mul_left width next in
    omega arith

-- the sources of a block's label are those that its edges may have
pub label-in_rows : (d : Dimensions) (block : ℕ) (edges : List Edge) → AreDimensions d.n d.parts
    → All (λ e. HasEndsBelow d.n e × (block_of d e ≡ block)) edges → All (IsSourceIn d block) (sources_of (label_of edges))
label-in_rows d block edges dims placed =
    label-sources (IsSourceIn d block) edges (All-weaker (λ e. HasEndsBelow d.n e × (block_of d e ≡ block)) (λ e. IsSourceIn d block e.from)
    (λ e place. subst (λ (b : ℕ). IsSourceIn d b e.from) place.1 (source-in_rows d e dims place.0)) edges placed)

-- the label of so many edges of a chunk's block can be the chunk's
pub label-fits : (cat : Catalogue) (c : ℕ) (edges : List Edge) → AreDimensions cat.dimensions.n cat.dimensions.parts → length edges ≡ (place_at cat c).count
    → All (λ e. HasEndsBelow cat.dimensions.n e × (block_of cat.dimensions e ≡ (place_at cat c).block)) edges → FitsChunk cat c (label_of edges)
label-fits cat c edges dims long placed = record {
  is_label = label_of-is_label edges;
  counted = label-total edges ∙ long;
  in_rows = label-in_rows cat.dimensions (place_at cat c).block edges dims placed;
}

by_number : {X : Type 0} (d : X) (xs : List X) → xs ≡ map (λ c. get_or xs c d) (range_with_len 0 (length xs))
by_number d xs = fill_by_all (λ c. get_or xs c d) xs (length xs) d refl (λ k h. refl)

flat_map-map : {X A : Type 0} (f : X → List A) (g : ℕ → X) (ns : List ℕ) → flat_map f (map g ns) ≡ flat_map (λ n. f (g n)) ns
flat_map-map f g [] = refl
flat_map-map f g (n ∷ ns) = ap (λ rest. f (g n) ++ rest) (flat_map-map f g ns)

flat_map-numbers : {X A : Type 0} (f : X → List A) (d : X) (xs : List X) → flat_map (λ c. f (get_or xs c d)) (range_with_len 0 (length xs)) ≡ flat_map f xs
flat_map-numbers f d xs =
    sym (flat_map-map f (λ c. get_or xs c d) (range_with_len 0 (length xs))) ∙ ap (flat_map f) (sym (by_number d xs))

sum_by-numbers : {X : Type 0} (f : X → ℕ) (d : X) (xs : List X) → sum_by (λ c. f (get_or xs c d)) (range_with_len 0 (length xs)) ≡ sum_by f xs
sum_by-numbers f d xs =
    sym (sum_by-map f (λ c. get_or xs c d) (range_with_len 0 (length xs))) ∙ ap (sum_by f) (sym (by_number d xs))

-- what holds of each item and of the default holds at each number
All-at : {X : Type 0} (P : X → Type 0) (d : X) (xs : List X) → AllByRecursion P xs → P d → (c : ℕ) → P (get_or xs c d)
All-at P d [] all other c = other
All-at P d (x ∷ xs) all other zero = all.0
All-at P d (x ∷ xs) all other (suc c) = All-at P d xs all.1 other c

pub label_at-is : (d : Dimensions) (size : ℕ) (counts : List ℕ) (edges : List Edge) (c : ℕ)
    → label_at (catalogue_of d size counts edges) c ≡ label_of (base_at (catalogue_of d size counts edges) edges c)
label_at-is d size counts edges c = get_or-map (λ place. label_of (base_of edges place)) (chunks_of size counts) c no_place

pub catalogue-is_over : (d : Dimensions) (size : ℕ) (counts : List ℕ) (edges : List Edge) → IsCut d counts edges → IsOver (catalogue_of d size counts edges) edges
catalogue-is_over d size counts edges cut =
    let cat = catalogue_of d size counts edges in
    let chunks = chunks_of size counts in
    let blocks = cut.blocks in
    record {
      joined = flat_map-numbers (base_of edges) no_place chunks ∙ chunks-joined size counts edges cut.whole;
      one_last = λ block within.
          sum_by-numbers (λ (p : Place). cond (is_last_in block p) 1 0) no_place chunks
          ∙ one_last size 0 0 block counts (omega arith) (omega arith);
      no_other = λ block beyond.
          sum_by-numbers (λ (p : Place). cond (is_last_in block p) 1 0) no_place chunks
          ∙ none_last size 0 0 block counts (inr (omega arith));
      in_range = λ c within.
          let all = cut.blocks in
          All-get_or (λ (p : Place). p.block < d.parts * d.parts) chunks c no_place within (chunks-in_range (d.parts * d.parts) size 0 0 counts (omega (arith, all)));
      in_block = All-at (λ (p : Place). All (λ e. block_of d e ≡ p.block) (base_of edges p)) no_place chunks (chunks-in_blocks d size counts edges cut.in_blocks) (All-nil (λ e. block_of d e ≡ no_place.block));
      listed = λ c.
          subst (λ (label : List (ℕ × ℕ)). All (λ (e : Edge). list_any (λ s. eqb s e.from) (sources_of label) ≡ true) (base_at cat edges c))
          (sym (label_at-is d size counts edges c)) (label-lists (base_at cat edges c));
    }

-- before the first chunk has its label
pub labelled_up_to-none : (d : Dimensions) (places : List Place) (edges : List Edge) → labelled_up_to d places edges 0 ≡ unlabelled d places
labelled_up_to-none d places edges = refl

abbrev made_label : List Edge → Place → List (ℕ × ℕ)
made_label edges place = label_of (base_of edges place)

abbrev none_made : Place → List (ℕ × ℕ)
none_made place = []

length-made : (edges : List Edge) (k : ℕ) (places : List Place) → k ≤ length places → length (map (made_label edges) (take k places)) ≡ k
length-made edges k places within = length-map (take k places) (made_label edges) ∙ length-take-le k places within

rest-made : (k : ℕ) (places : List Place) → k < length places → map none_made (drop k places) ≡ [] ∷ map none_made (drop (k + 1) places)
rest-made k places within = ap (map none_made) (drop_more places k no_place within)

-- the next chunk has none yet
pub labelled_up_to-fresh : (d : Dimensions) (places : List Place) (edges : List Edge) (k : ℕ) → k < length places
    → label_at (labelled_up_to d places edges k) k ≡ []
labelled_up_to-fresh d places edges k within =
    let made = map (made_label edges) (take k places) in
    ap (λ (ls : List (List (ℕ × ℕ))). get_or (made ++ ls) k []) (rest-made k places within)
    ∙ get_or_at made [] (map none_made (drop (k + 1) places)) [] k (length-made edges k places (omega arith))

-- it is given its own
pub labelled_up_to-next : (d : Dimensions) (places : List Place) (edges : List Edge) (k : ℕ) → k < length places
    → with_label (labelled_up_to d places edges k) k (label_of (base_of edges (get_or places k no_place))) ≡ labelled_up_to d places edges (k + 1)
labelled_up_to-next d places edges k within =
    let made = map (made_label edges) (take k places) in
    let rest = map none_made (drop (k + 1) places) in
    let label = made_label edges (get_or places k no_place) in
    let more : map (made_label edges) (take (k + 1) places) ≡ made ++ label ∷ [] = map_more (made_label edges) places k no_place within in
    let known = λ (labels : List (List (ℕ × ℕ))). let cat : Catalogue = record { dimensions = d; places = places; labels = labels } in cat in
    ap (λ (ls : List (List (ℕ × ℕ))). known (slice_set (made ++ ls) k label)) (rest-made k places within)
    ∙ ap known (set_at made [] rest label k (length-made edges k places (omega arith)))
    ∙ ap known (sym (append_assoc made (label ∷ []) rest))
    ∙ ap (λ (ls : List (List (ℕ × ℕ))). known (ls ++ rest)) (sym more)

-- until all have theirs
pub labelled_up_to-all : (d : Dimensions) (size : ℕ) (counts : List ℕ) (edges : List Edge) (k : ℕ) → length (chunks_of size counts) ≤ k
    → labelled_up_to d (chunks_of size counts) edges k ≡ catalogue_of d size counts edges
labelled_up_to-all d size counts edges k past =
    let places = chunks_of size counts in
    let known = λ (labels : List (List (ℕ × ℕ))). let cat : Catalogue = record { dimensions = d; places = places; labels = labels } in cat in
    ap (λ (ps : List Place). known (map (made_label edges) ps ++ map none_made (drop k places))) (take_all k places past)
    ∙ ap (λ (ps : List Place). known (map (made_label edges) places ++ map none_made ps)) (drop_all k places past)
    ∙ ap known (append-nil (map (made_label edges) places))

-- labels, and catalogues that are labelled chunk by chunk
pub ruleset labelling = (label_of-is_label, label-counts, label-total, label-lists, source-in_rows, label-in_rows, label-fits, one_label, block-joined, chunks-joined, chunks-full, chunks-lie, blocks-in_blocks, chunks-within, chunks-have_edges, chunks-count_edges, length-chunks_of, label_at-is, catalogue-is_over, labelled_up_to-none, labelled_up_to-fresh, labelled_up_to-next, labelled_up_to-all)
