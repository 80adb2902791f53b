-- What the bytes of a grid are read as, and which bytes aren't refused.
use Rattle.std.proofs.Common.{◌≡◌, ℕ, zero, suc, ◌+◌, ◌*◌, ◌/◌, ◌<◌, ◌≤◌, ◌^◌, Bool, true, false, cond, List, [], ◌∷◌, ◌++◌, length, map, take, drop, sum, get_or, Option, Some, None, inl, inr, refl, sym, ap, ◌∙◌, arith}
use Rattle.std.specs.List.{All, AllByRecursion, flat_map, position}
use Rattle.std.specs.Option.{option_map}
use Rattle.std.specs.Simd.{first_chunks}
use Rattle.std.proofs.lemmas.Bool.{cases_lt, and_parts, and_from, leb-true, le-leb, le-ltb, ltb-false, ltb-true, eq-eqb, eqb-true, not-false, not_from_true}
use Rattle.std.proofs.lemmas.List.{append-nil, take_at, drop_at, take-append-drop, length-append, length-map, length-take-le, length-drop, take_all, get_or_past, drop-drop}
use Rattle.std.proofs.lemmas.List.Elements.{All-weaker, All-from_recursion, recursion_from_All}
use Rattle.std.proofs.lemmas.Option.{none-some}
use Rattle.std.proofs.lemmas.Slice.Eq.{bytes_eq-Decides}
use Rattle.byteorder.specs.Endian.{little_bytes, little_number}
use Rattle.byteorder.specs.Numbers.{little_number-reads_back, little_from-lt}
use Rattle.gm_base.specs.declared.edge.Edge.{Edge}
use Rattle.gm_base.specs.declared.limits.TheConstants.{MAX_VERTICES, MAX_PARTS, MAX_EDGES}
use Rattle.gm_base.specs.Dimensions.{AreDimensions, are_dimensions}
use Rattle.gm_grid.specs.declared.grid_error.GridError.TheVariants.{BadEdge}
use Rattle.gm_grid.specs.Format.{magic, head_bytes, index_bytes, edge_bytes, edges_of_grid, grid_bytes, dimensions_of, is_in_block, FitsBlock, IsGrid}
use Rattle.gm_grid.specs.GridBytes.{shape_of_head, counts_of_index, edge_of_bytes, edges_of_bytes, blocks_of, placed_edges, index_size, index_end, grid_file_size, shape_in, counts_in, edges_in, blocks_in}
use Rattle.gm_grid.specs.GridBytesRules.{length-first_chunks}
use Rattle.gm_grid.specs.GridRefusals.{head_refusal, is_misplaced, refusal_by_head, refusal_by_index, refusal_by_chunks, refusal_by_edges, grid_refusal}
use Rattle.gm_grid.specs.GridRefusalsRules.{option_or-None, option_or-split, option_or-nothing, refused_behind_index}
use Rattle.gm_grid.proofs.FieldBytes.{AreBytes, AreBytes-take, AreBytes-drop, whole_number, edge_bytes-edge_of_bytes, head_bytes-fields, written_again, read_again, length-written}
use Rattle.gm_grid.proofs.BlockCuts.{blocks_of-edges_of_grid, sum-lengths, length-blocks_of, edges_of_grid-blocks_of, lengths-blocks_of, All-blocks_of, All-edges_of_grid, none_misplaced, all_placed}

-- its numbers have four bytes each
abbrev pub HasSmallNumbers : Edge → Type 0
HasSmallNumbers e = (e.from < 256 ^ 4) × (e.to < 256 ^ 4) × (e.weight < 256 ^ 4)

-- the bytes of an edge are read as the edge
pub edge_of_bytes-edge_bytes : (e : Edge) → HasSmallNumbers e → edge_of_bytes (edge_bytes e) ≡ e
edge_of_bytes-edge_bytes e small =
    let from = little_number-reads_back 4 e.from (little_bytes 4 e.to ++ little_bytes 4 e.weight) small.0 in
    let to = little_number-reads_back 4 e.to (little_bytes 4 e.weight) small.1 in
    let weight = little_number-reads_back 4 e.weight [] small.2 in
    ap (λ (x : ℕ). record { from = x; to = little_number 4 (drop 4 (edge_bytes e)); weight = little_number 4 (drop 8 (edge_bytes e)) }) from
    ∙ ap (λ (x : ℕ). record { from = e.from; to = x; weight = little_number 4 (drop 8 (edge_bytes e)) }) to
    ∙ ap (λ (x : ℕ). record { from = e.from; to = e.to; weight = x }) weight

index_bytes-lengths : (blocks : List (List Edge)) → index_bytes blocks ≡ flat_map (little_bytes 8) (map (λ b. length b) blocks)
index_bytes-lengths [] = refl
index_bytes-lengths (b ∷ blocks) = ap (λ x. little_bytes 8 (length b) ++ x) (index_bytes-lengths blocks)

-- no block has more edges than there are
small_lengths : (m : ℕ) → m < 256 ^ 8 → (blocks : List (List Edge)) → length (edges_of_grid blocks) ≤ m
    → AllByRecursion (λ (c : ℕ). c < 256 ^ 8) (map (λ b. length b) blocks)
small_lengths m h [] few = tt
small_lengths m h (b ∷ blocks) few =
    let both = length-append b (edges_of_grid blocks) in
    (omega arith, small_lengths m h blocks (omega arith))

-- the counts that were written are read
counts_of_index-index_bytes : (blocks : List (List Edge)) → length (edges_of_grid blocks) ≤ MAX_EDGES → counts_of_index (index_bytes blocks) ≡ map (λ b. length b) blocks
counts_of_index-index_bytes blocks few =
    let counts : List ℕ = map (λ b. length b) blocks in
    let written = flat_map (little_bytes 8) counts in
    let size : length written ≡ 8 * length counts = length-written (little_bytes 8) 8 (λ _. refl) counts in
    let many : length written / 8 ≡ length counts = omega arith in
    ap counts_of_index (index_bytes-lengths blocks)
    ∙ ap (λ k. map (little_number 8) (first_chunks 8 k written)) many
    ∙ ap (λ xs. map (little_number 8) (first_chunks 8 (length counts) xs)) (sym (append-nil written))
    ∙ read_again (little_number 8) (little_bytes 8) 8 (λ (c : ℕ). c < 256 ^ 8) (λ _. refl)
    (λ c h. ap (little_number 8) (sym (append-nil (little_bytes 8 c))) ∙ little_number-reads_back 8 c [] h) counts [] (small_lengths MAX_EDGES (omega arith) blocks few)

-- the edges that were written are read
edges_of_bytes-edge_bytes : (edges : List Edge) → All HasSmallNumbers edges → edges_of_bytes (flat_map edge_bytes edges) ≡ edges
edges_of_bytes-edge_bytes edges small =
    let written = flat_map edge_bytes edges in
    let size : length written ≡ 12 * length edges = length-written edge_bytes 12 (λ _. refl) edges in
    let many : length written / 12 ≡ length edges = omega arith in
    ap (λ k. map edge_of_bytes (first_chunks 12 k written)) many
    ∙ ap (λ xs. map edge_of_bytes (first_chunks 12 (length edges) xs)) (sym (append-nil written))
    ∙ read_again edge_of_bytes edge_bytes 12 HasSmallNumbers (λ _. refl) edge_of_bytes-edge_bytes edges [] (recursion_from_All HasSmallNumbers edges small)

-- where a file's index and its edges stand
abbrev index_part : List ℕ → List ℕ
index_part bytes = take (index_size (shape_in bytes)) (drop 16 bytes)

abbrev edges_part : List ℕ → List ℕ
edges_part bytes = drop (index_end (shape_in bytes)) bytes

edges_part-behind_index : (bytes : List ℕ) → edges_part bytes ≡ drop (index_size (shape_in bytes)) (drop 16 bytes)
edges_part-behind_index bytes = sym (drop-drop (index_size (shape_in bytes)) 16 bytes)

-- What a grid's bytes are read as.
pub record Reads (bytes : List ℕ) (n parts : ℕ) (blocks : List (List Edge)) : Type 0 where
  pub head : take 16 bytes ≡ head_bytes n parts
  pub shape : shape_in bytes ≡ dimensions_of n parts
  pub counts : counts_in bytes ≡ map (λ b. length b) blocks
  pub edges : edges_in bytes ≡ edges_of_grid blocks
  pub size : length bytes ≡ 16 + 8 * (parts * parts) + 12 * length (edges_of_grid blocks)

small_numbers : (n parts : ℕ) (blocks : List (List Edge)) → n ≤ MAX_VERTICES → ((block : ℕ) → All (FitsBlock (dimensions_of n parts) block) (get_or blocks block []))
    → All HasSmallNumbers (edges_of_grid blocks)
small_numbers n parts blocks few places =
    All-edges_of_grid HasSmallNumbers blocks
    (λ k. All-weaker (FitsBlock (dimensions_of n parts) k) HasSmallNumbers
    (λ e fits.
    let p = and_parts _ _ fits.place in
    let q = and_parts _ _ p.0 in
    let from = ltb-true e.from n q.0 in
    let to = ltb-true e.to n q.1 in
    let weight = fits.weight in
    (omega arith, omega arith, omega arith))
    (get_or blocks k []) (places k))

head-reads : (n parts : ℕ) → AreDimensions n parts → shape_of_head (head_bytes n parts) ≡ dimensions_of n parts
head-reads n parts dims =
    let vertices : little_number 4 (drop 8 (head_bytes n parts)) ≡ n = little_number-reads_back 4 n (little_bytes 4 parts) (omega (arith, dims.vertices)) in
    let ranges : little_number 4 (drop 12 (head_bytes n parts)) ≡ parts = little_number-reads_back 4 parts [] (omega (arith, dims.ranges)) in
    ap (λ (x : ℕ). dimensions_of x (little_number 4 (drop 12 (head_bytes n parts)))) vertices ∙ ap (λ (x : ℕ). dimensions_of n x) ranges

pub reads-IsGrid : (bytes : List ℕ) (n parts : ℕ) (blocks : List (List Edge)) → IsGrid bytes n parts blocks → Reads bytes n parts blocks
reads-IsGrid bytes n parts blocks grid =
    let edges = edges_of_grid blocks in
    let index = index_bytes blocks in
    let body = flat_map edge_bytes edges in
    let head : take 16 bytes ≡ head_bytes n parts = ap (take 16) grid.layout in
    let rest : drop 16 bytes ≡ index ++ body = ap (drop 16) grid.layout in
    let shape : shape_in bytes ≡ dimensions_of n parts = ap shape_of_head head ∙ head-reads n parts grid.shape in
    let index_length : length index ≡ 8 * (parts * parts) =
    ap length (index_bytes-lengths blocks) ∙ length-written (little_bytes 8) 8 (λ _. refl) (map (λ b. length b) blocks)
    ∙ ap (λ k. 8 * k) (length-map blocks (λ b. length b) ∙ grid.count) in
    let is_index : index_part bytes ≡ index =
    ap (λ d. take (index_size d) (drop 16 bytes)) shape ∙ ap (take (8 * (parts * parts))) rest ∙ take_at index body (8 * (parts * parts)) index_length in
    let is_body : edges_part bytes ≡ body =
    edges_part-behind_index bytes
    ∙ ap (λ d. drop (index_size d) (drop 16 bytes)) shape ∙ ap (drop (8 * (parts * parts))) rest ∙ drop_at index body (8 * (parts * parts)) index_length in
    let body_length : length body ≡ 12 * length edges = length-written edge_bytes 12 (λ _. refl) edges in
    let joined : length (index ++ body) ≡ length index + length body = length-append index body in
    let whole : length bytes ≡ 16 + length (index ++ body) = ap length grid.layout ∙ omega arith in
    record {
      head = head;
      shape = shape;
      counts = ap counts_of_index is_index ∙ counts_of_index-index_bytes blocks grid.most;
      edges = ap edges_of_bytes is_body ∙ edges_of_bytes-edge_bytes edges (small_numbers n parts blocks grid.shape.vertices grid.places);
      size = omega arith;
    }

-- a grid's blocks are those that its bytes tell
blocks_in-IsGrid : (bytes : List ℕ) (n parts : ℕ) (blocks : List (List Edge)) → IsGrid bytes n parts blocks → blocks_in bytes ≡ blocks
blocks_in-IsGrid bytes n parts blocks grid =
    let reads = reads-IsGrid bytes n parts blocks grid in
    ap (λ c. blocks_of c (edges_in bytes)) reads.counts
    ∙ ap (blocks_of (map (λ b. length b) blocks)) reads.edges
    ∙ blocks_of-edges_of_grid blocks

none_if : {A : Type 0} {b : Bool} (x : A) {r : Option A} → b ≡ false → r ≡ None → cond b (Some x) r ≡ None
none_if x {r} p q = ap (λ t. cond t (Some x) r) p ∙ q

none_unless : {A : Type 0} {b : Bool} (x : A) → b ≡ true → cond b None (Some x) ≡ None
none_unless x p = ap (λ t. cond t None (Some x)) p

from_none_if : {A : Type 0} (b : Bool) (x : A) (r : Option A) → cond b (Some x) r ≡ None → (b ≡ false) × (r ≡ None)
from_none_if true x r h = absurd (none-some x (sym h))
from_none_if false x r h = (refl, h)

from_none_unless : {A : Type 0} (b : Bool) (x : A) → cond b None (Some x) ≡ None → b ≡ true
from_none_unless true x h = refl
from_none_unless false x h = absurd (none-some x (sym h))

from_none_map : {A B : Type 0} (f : A → B) (o : Option A) → option_map f o ≡ None → o ≡ None
from_none_map f None h = refl
from_none_map f (Some x) h = absurd (none-some (f x) (sym h))

are_dimensions-true : (n parts : ℕ) → AreDimensions n parts → are_dimensions n parts ≡ true
are_dimensions-true n parts d =
    and_from _ _ (and_from _ _ (and_from _ _ (and_from _ _ (le-leb 1 n d.some_vertex) (le-leb n MAX_VERTICES d.vertices)) (le-leb 1 parts d.some_range)) (le-leb parts MAX_PARTS d.ranges)) (le-leb parts n d.no_more_ranges)

AreDimensions-from_true : (n parts : ℕ) → are_dimensions n parts ≡ true → AreDimensions n parts
AreDimensions-from_true n parts t =
    let a = and_parts _ _ t in
    let b = and_parts _ _ a.0 in
    let c = and_parts _ _ b.0 in
    let d = and_parts _ _ c.0 in
    record {
      some_vertex = leb-true 1 n d.0;
      vertices = leb-true n MAX_VERTICES d.1;
      some_range = leb-true 1 parts c.1;
      ranges = leb-true parts MAX_PARTS b.1;
      no_more_ranges = leb-true parts n a.1;
    }

-- a head that was written isn't refused
head_refusal-head_bytes : (n parts : ℕ) → AreDimensions n parts → head_refusal (head_bytes n parts) ≡ None
unfolding head_refusal
head_refusal-head_bytes n parts dims =
    let good : are_dimensions (shape_of_head (head_bytes n parts)).n (shape_of_head (head_bytes n parts)).parts ≡ true =
    ap (λ d. are_dimensions d.n d.parts) (head-reads n parts dims) ∙ are_dimensions-true n parts dims in
    none_if _ (not_from_true _ good) refl

-- what isn't refused by its head and by its index, at this size
pub record Passes (size : ℕ) (head counts : List ℕ) : Type 0 where
  pub by_head : refusal_by_head size head ≡ None
  pub by_index : refusal_by_index size counts ≡ None

pub passes-IsGrid : (bytes : List ℕ) (n parts : ℕ) (blocks : List (List Edge)) → IsGrid bytes n parts blocks
    → Passes (length bytes) (take 16 bytes) (counts_in bytes)
passes-IsGrid bytes n parts blocks grid =
    let reads = reads-IsGrid bytes n parts blocks grid in
    let ranges : (shape_in bytes).parts ≡ parts = ap (λ d. d.parts) reads.shape in
    let square : (shape_in bytes).parts * (shape_in bytes).parts ≡ parts * parts = ap (λ (x : ℕ). x * x) ranges in
    let many : length (counts_in bytes) ≡ parts * parts = ap length reads.counts ∙ length-map blocks (λ b. length b) ∙ grid.count in
    let total : sum (counts_in bytes) ≡ length (edges_of_grid blocks) = ap sum reads.counts ∙ sum-lengths blocks in
    let long : 16 ≤ length bytes = omega (arith, reads.size) in
    let indexed : index_end (shape_in bytes) ≤ length bytes = omega (arith, reads.size) in
    let few : sum (counts_in bytes) ≤ MAX_EDGES = omega (arith, grid.most) in
    let whole : length bytes ≡ grid_file_size (length (counts_in bytes)) (sum (counts_in bytes)) = omega (arith, reads.size) in
    record {
      by_head = option_or-None (none_if _ (le-ltb _ _ long) refl)
          (option_or-None (ap head_refusal reads.head ∙ head_refusal-head_bytes n parts grid.shape)
          (none_if _ (le-ltb _ _ indexed) refl));
      by_index = option_or-None (none_if _ (le-ltb _ _ few) refl) (none_unless _ (eq-eqb _ _ whole));
    }

-- the edges of a grid aren't refused
pub refusal_by_edges-IsGrid : (bytes : List ℕ) (n parts : ℕ) (blocks : List (List Edge)) → IsGrid bytes n parts blocks
    → refusal_by_edges (shape_in bytes) (counts_in bytes) (edges_in bytes) ≡ None
unfolding refusal_by_edges
refusal_by_edges-IsGrid bytes n parts blocks grid =
    let reads = reads-IsGrid bytes n parts blocks grid in
    let placed : position (is_misplaced (dimensions_of n parts)) (placed_edges 0 blocks) ≡ None =
    none_misplaced (dimensions_of n parts) blocks
    (λ k. All-weaker (FitsBlock (dimensions_of n parts) k) (λ x. is_in_block (dimensions_of n parts) k x ≡ true) (λ x fits. fits.place) (get_or blocks k []) (grid.places k)) in
    ap (λ d. option_map BadEdge (position (is_misplaced d) (placed_edges 0 (blocks_in bytes)))) reads.shape
    ∙ ap (λ b. option_map BadEdge (position (is_misplaced (dimensions_of n parts)) (placed_edges 0 b))) (blocks_in-IsGrid bytes n parts blocks grid)
    ∙ ap (option_map BadEdge) placed

-- a grid isn't refused, unless it has too many chunks
pub grid_refusal-IsGrid : (chunk_size : ℕ) (bytes : List ℕ) (n parts : ℕ) (blocks : List (List Edge)) → IsGrid bytes n parts blocks
    → grid_refusal chunk_size bytes ≡ refusal_by_chunks chunk_size (map (λ b. length b) blocks)
grid_refusal-IsGrid chunk_size bytes n parts blocks grid =
    let passes = passes-IsGrid bytes n parts blocks grid in
    refused_behind_index chunk_size bytes passes.by_head passes.by_index
    ∙ option_or-nothing (refusal_by_chunks chunk_size (counts_in bytes)) _ (refusal_by_edges-IsGrid bytes n parts blocks grid)
    ∙ ap (refusal_by_chunks chunk_size) (reads-IsGrid bytes n parts blocks grid).counts

-- What bytes that their head and their index don't refuse are known to be.
record Fits (bytes : List ℕ) : Type 0 where
  long : 16 ≤ length bytes
  kind : take 8 (take 16 bytes) ≡ magic
  shape : AreDimensions (shape_in bytes).n (shape_in bytes).parts
  indexed : index_end (shape_in bytes) ≤ length bytes
  few : sum (counts_in bytes) ≤ MAX_EDGES
  size : length bytes ≡ grid_file_size (length (counts_in bytes)) (sum (counts_in bytes))

fits-passes : (bytes : List ℕ) → Passes (length bytes) (take 16 bytes) (counts_in bytes) → Fits bytes
unfolding head_refusal
fits-passes bytes passes =
    let a = option_or-split _ _ passes.by_head in
    let b = option_or-split _ _ a.1 in
    let d = option_or-split _ _ passes.by_index in
    let kind = from_none_if _ _ _ b.0 in
    let shape = from_none_if _ _ _ kind.1 in
    record {
      long = ltb-false (length bytes) 16 (from_none_if _ _ _ a.0).0;
      kind = (bytes_eq-Decides (take 8 (take 16 bytes)) magic).0 (not-false _ kind.0);
      shape = AreDimensions-from_true _ _ (not-false _ shape.0);
      indexed = ltb-false (length bytes) _ (from_none_if _ _ _ b.1).0;
      few = ltb-false MAX_EDGES _ (from_none_if _ _ _ d.0).0;
      size = eqb-true _ _ (from_none_unless _ _ d.1);
    }

-- no weight that was read is too great
small_weights : (k : ℕ) (xs : List ℕ) → AreBytes xs → AllByRecursion (λ e. e.weight < 2 ^ 32) (map edge_of_bytes (first_chunks 12 k xs))
small_weights zero xs small = tt
small_weights (suc k) xs small =
    (little_from-lt 0 4 (drop 8 (take 12 xs)) (AreBytes-drop 8 (take 12 xs) (AreBytes-take 12 xs small)), small_weights k (drop 12 xs) (AreBytes-drop 12 xs small))

edge_pieces : (piece : List ℕ) → length piece ≡ 12 → AreBytes piece → edge_bytes (edge_of_bytes piece) ≡ piece
edge_pieces piece whole small = edge_bytes-edge_of_bytes (edge_of_bytes piece) piece whole small refl

-- How many counts and edges such bytes have.
record Sizes (bytes : List ℕ) : Type 0 where
  index_length : length (index_part bytes) ≡ 8 * ((shape_in bytes).parts * (shape_in bytes).parts)
  counts_length : length (counts_in bytes) ≡ (shape_in bytes).parts * (shape_in bytes).parts
  body_length : length (edges_part bytes) ≡ 12 * sum (counts_in bytes)
  edges_length : length (edges_in bytes) ≡ sum (counts_in bytes)

sizes-fits : (bytes : List ℕ) → Fits bytes → Sizes bytes
sizes-fits bytes a =
    let square : ℕ = (shape_in bytes).parts * (shape_in bytes).parts in
    let index = index_part bytes in
    let body = edges_part bytes in
    let index_length : length index ≡ 8 * square = length-take-le (8 * square) (drop 16 bytes) (omega (arith, a.indexed, length-drop 16 bytes)) in
    let many : length index / 8 ≡ square = omega arith in
    let counts_length : length (counts_in bytes) ≡ square =
    length-map (first_chunks 8 (length index / 8) index) (little_number 8) ∙ length-first_chunks 8 (length index / 8) index ∙ many in
    let body_length : length body ≡ 12 * sum (counts_in bytes) = omega (arith, a.size, length-drop (index_end (shape_in bytes)) bytes) in
    let body_many : length body / 12 ≡ sum (counts_in bytes) = omega arith in
    record {
      index_length = index_length;
      counts_length = counts_length;
      body_length = body_length;
      edges_length = length-map (first_chunks 12 (length body / 12) body) edge_of_bytes ∙ length-first_chunks 12 (length body / 12) body ∙ body_many;
    }

pub sizes-passes : (bytes : List ℕ) → Passes (length bytes) (take 16 bytes) (counts_in bytes)
    → (sum (counts_in bytes) ≡ length (edges_in bytes)) × (length bytes ≡ index_end (shape_in bytes) + 12 * length (edges_in bytes))
sizes-passes bytes passes =
    let a = fits-passes bytes passes in
    let s = sizes-fits bytes a in
    (sym s.edges_length, omega (arith, a.size, s.counts_length, s.edges_length))

pub edges_of_grid-blocks_in : (bytes : List ℕ) → Passes (length bytes) (take 16 bytes) (counts_in bytes) → edges_of_grid (blocks_in bytes) ≡ edges_in bytes
edges_of_grid-blocks_in bytes passes =
    edges_of_grid-blocks_of (counts_in bytes) (edges_in bytes) (sym (sizes-fits bytes (fits-passes bytes passes)).edges_length)

-- bytes that neither their head nor their index refuses are a grid, where each edge is in its block
pub IsGrid-from_blocks : (bytes : List ℕ) → AreBytes bytes → Passes (length bytes) (take 16 bytes) (counts_in bytes)
    → ((block : ℕ) → All (λ e. is_in_block (shape_in bytes) block e ≡ true) (get_or (blocks_in bytes) block []))
    → IsGrid bytes (shape_in bytes).n (shape_in bytes).parts (blocks_in bytes)
IsGrid-from_blocks bytes small passes placed =
    let a = fits-passes bytes passes in
    let s = sizes-fits bytes a in
    let d = shape_in bytes in
    let blocks = blocks_in bytes in
    let rest = drop 16 bytes in
    let rest_small : AreBytes rest = AreBytes-drop 16 bytes small in
    let index = index_part bytes in
    let body = edges_part bytes in
    let counts = counts_in bytes in
    let edges = edges_of_grid-blocks_in bytes passes in
    let lengths : map (λ b. length b) blocks ≡ counts = lengths-blocks_of counts (edges_in bytes) (sym s.edges_length) in
    let head : take 16 bytes ≡ head_bytes d.n d.parts =
    head_bytes-fields d.n d.parts (take 16 bytes) (length-take-le 16 bytes a.long) (AreBytes-take 16 bytes small) a.kind refl refl in
    let index_small : AreBytes index = AreBytes-take (index_size d) rest rest_small in
    let body_small : AreBytes body = AreBytes-drop (index_end d) bytes small in
    let is_index : index_bytes blocks ≡ index =
    index_bytes-lengths blocks ∙ ap (flat_map (little_bytes 8)) lengths
    ∙ written_again (little_number 8) (little_bytes 8) 8 (whole_number 8) (length index / 8) index (omega arith) index_small
    ∙ take_all (8 * (length index / 8)) index (omega (arith, s.index_length)) in
    let is_body : flat_map edge_bytes (edges_of_grid blocks) ≡ body =
    ap (flat_map edge_bytes) edges
    ∙ written_again edge_of_bytes edge_bytes 12 edge_pieces (length body / 12) body (omega arith) body_small
    ∙ take_all (12 * (length body / 12)) body (omega (arith, s.body_length)) in
    let behind : flat_map edge_bytes (edges_of_grid blocks) ≡ drop (index_size d) rest = is_body ∙ edges_part-behind_index bytes in
    let layout : bytes ≡ grid_bytes d.n d.parts blocks =
    sym (take-append-drop 16 bytes)
    ∙ ap (λ x. x ++ rest) head
    ∙ ap (λ x. head_bytes d.n d.parts ++ x) (sym (take-append-drop (index_size d) rest))
    ∙ ap (λ x. head_bytes d.n d.parts ++ (x ++ drop (index_size d) rest)) (sym is_index)
    ∙ ap (λ x. head_bytes d.n d.parts ++ (index_bytes blocks ++ x)) (sym behind) in
    let weights = All-from_recursion (λ e. e.weight < 2 ^ 32) (edges_in bytes) (small_weights (length body / 12) body body_small) in
    record {
      layout = layout;
      shape = a.shape;
      count = length-blocks_of counts (edges_in bytes) ∙ s.counts_length;
      most = rw edges (omega (arith, a.few, s.edges_length));
      places = λ k i e within. record {
        place = placed k i e within;
        weight = All-blocks_of (λ x. x.weight < 2 ^ 32) counts (edges_in bytes) weights k i e within;
      };
    }

-- and so they are where no edge is refused
IsGrid-from_parts : (bytes : List ℕ) → AreBytes bytes → Passes (length bytes) (take 16 bytes) (counts_in bytes)
    → refusal_by_edges (shape_in bytes) (counts_in bytes) (edges_in bytes) ≡ None
    → IsGrid bytes (shape_in bytes).n (shape_in bytes).parts (blocks_in bytes)
unfolding refusal_by_edges
IsGrid-from_parts bytes small passes none =
    IsGrid-from_blocks bytes small passes (all_placed (shape_in bytes) (blocks_in bytes) (from_none_map BadEdge _ none))

-- What isn't refused passes each stage.
record Unrefused (bytes : List ℕ) : Type 0 where
  passes : Passes (length bytes) (take 16 bytes) (counts_in bytes)
  by_edges : refusal_by_edges (shape_in bytes) (counts_in bytes) (edges_in bytes) ≡ None

grid_refusal-None : (chunk_size : ℕ) (bytes : List ℕ) → grid_refusal chunk_size bytes ≡ None → Unrefused bytes
unfolding grid_refusal
grid_refusal-None chunk_size bytes none =
    let a = option_or-split _ _ none in
    let b = option_or-split _ _ a.1 in
    let c = option_or-split _ _ b.1 in
    record { passes = record { by_head = a.0; by_index = b.0 }; by_edges = c.1 }

-- bytes that aren't refused are a grid
pub IsGrid-from_chunked : (chunk_size : ℕ) (bytes : List ℕ) → AreBytes bytes → grid_refusal chunk_size bytes ≡ None
    → IsGrid bytes (shape_in bytes).n (shape_in bytes).parts (blocks_in bytes)
IsGrid-from_chunked chunk_size bytes small none =
    let unrefused = grid_refusal-None chunk_size bytes none in IsGrid-from_parts bytes small unrefused.passes unrefused.by_edges

-- the bytes determine what they are the grid of
pub same_from_IsGrid : (bytes : List ℕ) (n m parts ranges : ℕ) (blocks others : List (List Edge))
    → IsGrid bytes n parts blocks → IsGrid bytes m ranges others → (n ≡ m) × (parts ≡ ranges) × (blocks ≡ others)
same_from_IsGrid bytes n m parts ranges blocks others p q =
    let first = reads-IsGrid bytes n parts blocks p in
    let second = reads-IsGrid bytes m ranges others q in (
      ap (λ d. d.n) (sym first.shape ∙ second.shape),
      ap (λ d. d.parts) (sym first.shape ∙ second.shape),
      sym (blocks_in-IsGrid bytes n parts blocks p) ∙ blocks_in-IsGrid bytes m ranges others q,
    )

pub AreBytes-from_All : (bytes : List ℕ) → All (λ (b : ℕ). b < 256) bytes → AreBytes bytes
AreBytes-from_All bytes all k =
    elim (cases_lt k (length bytes)) [
      | inl within ↦ all k 0 within
      | inr past ↦
          let none : get_or bytes k 0 ≡ 0 = get_or_past bytes k 0 past in
          omega arith
    ]
