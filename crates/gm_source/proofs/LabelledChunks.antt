-- Chunks that are read and labelled one after the other.
use Rattle.std.proofs.Common.{◌≡◌, ℕ, zero, suc, Result, ◌+◌, ◌*◌, ◌<◌, ◌≤◌, not, List, [], ◌∷◌, ◌++◌, length, map, take, drop, get_or, Option, Some, None, refl, sym, ap, subst, append-nil, ◌∙◌, arith}
use Rattle.std.specs.Prelude.{IfSome, IsSome, is_some, flat_map, sum, sum_by, nat_lt, Bool, true, false, if◌then◌else◌}
use Rattle.std.specs.List.{position}
use Rattle.std.specs.Option.{option_or, option_map}
use Rattle.std.proofs.Math.Seq.{take-add}
use Rattle.std.proofs.lemmas.List.{take_more, take-append-drop, take_all, drop_more}
use Rattle.std.proofs.lemmas.List.Elements.{All-append}
use Rattle.std.proofs.lemmas.List.Sums.{sum_by-cons, sum_by-append, sum_by-take-le}
use Rattle.std.proofs.lemmas.List.Concat.{flat_map-append}
use Rattle.gm_outside.specs.States.{DepotState}
use Rattle.gm_outside.specs.Causes.{counted_times}
use Rattle.gm_outside.specs.CausesRules.{counted_times-add}
use Rattle.gm_outside.specs.Files.{Files, HasBytesAt}
use Rattle.gm_outside.specs.Frames.{OnlyReads}
use Rattle.gm_outside.specs.FramesRules.{only_reads-none, only_reads-then}
use Rattle.gm_base.specs.declared.edge.Edge.{Edge}
use Rattle.gm_base.specs.Dimensions.{Dimensions}
use Rattle.gm_base.specs.declared.limits.TheConstants.{MAX_CHUNKS}
use Rattle.gm_base.specs.ChunkCounts.{chunk_count}
use Rattle.gm_grid.specs.declared.grid_error.GridError.{GridError}
use Rattle.gm_grid.specs.declared.grid_error.GridError.TheVariants.{BadEdge, TooManyChunks}
use Rattle.std.proofs.lemmas.Bool.{ltb-false}
use Rattle.std.proofs.Common.{ltb}
use Rattle.gm_grid.specs.Format.{IsGrid, edges_of_grid, is_in_block}
use Rattle.gm_grid.specs.GridBytes.{blocks_of, blocks_in, placed_edges, index_end, shape_in, counts_in, edges_in, edges_of_bytes}
use Rattle.gm_grid.specs.GridBytesRules.{edges_in-part}
use Rattle.gm_grid.specs.GridRefusals.{grid_refusal, refusal_by_head, refusal_by_index, refusal_by_chunks, is_misplaced}
use Rattle.gm_grid.specs.GridRefusalsRules.{refused_by_edges, refusal_by_edges-position, position-append, position-in_block}
use Rattle.gm_label.specs.declared.chunk.Place.{Place}
use Rattle.gm_label.specs.Chunks.{chunks_of, base_of}
use Rattle.gm_label.specs.ChunksRules.{chunks-within, chunks-count_edges, length-chunks_of}
use Rattle.gm_label.specs.Labels.{label_of}
use Rattle.gm_label.specs.Catalogues.{Catalogue, no_place, place_at, label_at, catalogue_of, unlabelled, with_label}
use Rattle.gm_label.specs.CataloguesRules.{labelled_up_to-none, labelled_up_to-next, labelled_up_to-all}
use Rattle.gm_source.specs.Openings.{AreBytes, HasIndex, HasLabelled, IsCatalogueOf, IsTold, IsSameCut, IsSetAt, IsFreshFrom, IsPlanned, OpensBy, placed_of, edges_before, chunk_reads, reads_before}
use Rattle.gm_source.specs.OpeningReads.{HasStray}
use Rattle.gm_source.specs.declared.errors.OpenError.{OpenError}
use Rattle.gm_source.specs.OpeningsRules.{opens_by-then, opens_by-more, opens_by-served}
use Rattle.gm_source.specs.Fetches.{WasRead, ReadsChunk, chunk_start, is_in_chunk}
use Rattle.gm_source.proofs.Told.{told-weaker, told-both, told-piece}
use Rattle.gm_source.proofs.Decoding.{no_stray, a_stray}
use Rattle.gm_source.proofs.Chunking.{first_of_chunk, placed_by_chunks, length_of_placed, short_chunk}

abbrev no_pairs : List (ℕ × ℕ)
no_pairs = []

abbrev chunks_in : ℕ → List ℕ → List Place
chunks_in size bytes = chunks_of size (counts_in bytes)

abbrev chunk_in : ℕ → List ℕ → ℕ → Place
chunk_in size bytes k = get_or (chunks_in size bytes) k no_place

-- the first chunk is still to come
pub labelled-none : (size : ℕ) (shape : Dimensions) (counts bytes : List ℕ) (cat : Catalogue) → cat ≡ unlabelled shape (chunks_of size counts)
    → refusal_by_chunks size counts ≡ None → HasIndex shape counts bytes → HasLabelled size 0 cat bytes
labelled-none size shape counts bytes cat is few index = record {
  index = subst (λ (d : Dimensions). HasIndex d (counts_in bytes) bytes) index.head.is (subst (λ (c : List ℕ). HasIndex shape c bytes) index.is index);
  few = ap (refusal_by_chunks size) (sym index.is) ∙ few;
  labels =
      is
      ∙ (λ i. unlabelled (index.head.is i) (chunks_of size (index.is i)))
      ∙ sym (labelled_up_to-none (shape_in bytes) (chunks_of size (counts_in bytes)) (edges_in bytes));
  placed = refl;
  small =
      let end : index_end shape ≡ index_end (shape_in bytes) + 12 * 0 = ap index_end index.head.is ∙ omega arith in
      subst (λ (n : ℕ). AreBytes (take n bytes)) end index.small;
}

before_more : (size k : ℕ) (bytes : List ℕ) → k < length (chunks_in size bytes)
    → edges_before (chunks_in size bytes) (k + 1) ≡ edges_before (chunks_in size bytes) k + (chunk_in size bytes k).count
before_more size k bytes within =
    let last = sum_by-cons (λ (place : Place). place.count) (chunk_in size bytes k) [] in
    ap (sum_by (λ (place : Place). place.count)) (take_more (chunks_in size bytes) k no_place within)
    ∙ sum_by-append (λ (place : Place). place.count) (take k (chunks_in size bytes)) (chunk_in size bytes k ∷ []) ∙ omega arith

placed_more : (size k : ℕ) (bytes : List ℕ) → k < length (chunks_in size bytes)
    → flat_map (placed_of (edges_in bytes)) (take (k + 1) (chunks_in size bytes))
    ≡ flat_map (placed_of (edges_in bytes)) (take k (chunks_in size bytes)) ++ flat_map (placed_of (edges_in bytes)) (chunk_in size bytes k ∷ [])
placed_more size k bytes within =
    ap (flat_map (placed_of (edges_in bytes))) (take_more (chunks_in size bytes) k no_place within)
    ∙ flat_map-append (placed_of (edges_in bytes)) (take k (chunks_in size bytes)) (chunk_in size bytes k ∷ [])

none_of_two : (first second : Option ℕ) (k : ℕ) → first ≡ None → second ≡ None → option_or first (option_map (λ (i : ℕ). k + i) second) ≡ None
none_of_two first second k a b = (λ i. option_or (a i) (option_map (λ (n : ℕ). k + n) (b i)))

here_placed : (d : Dimensions) (place : Place) (edges : List Edge)
    → position (is_misplaced d) (flat_map (placed_of edges) (place ∷ [])) ≡ position (λ e. not (is_in_block d place.block e)) (base_of edges place)
here_placed d place edges =
    ap (position (is_misplaced d)) (append-nil (placed_of edges place)) ∙ position-in_block d place.block (base_of edges place)

-- a chunk whose edges lie in its block was labelled
pub labelled-next : (size k : ℕ) (bytes : List ℕ) (cat next : Catalogue) → k < length (chunks_in size bytes)
    → next ≡ with_label cat k (label_of (base_of (edges_in bytes) (chunk_in size bytes k)))
    → position (λ e. not (is_in_block (shape_in bytes) (chunk_in size bytes k).block e)) (base_of (edges_in bytes) (chunk_in size bytes k)) ≡ None
    → AreBytes (take (12 * (chunk_in size bytes k).count) (drop (index_end (shape_in bytes) + 12 * (chunk_in size bytes k).first) bytes))
    → HasLabelled size k cat bytes → HasLabelled size (k + 1) next bytes
labelled-next size k bytes cat next within is inside small so_far =
    let d = shape_in bytes in
    let edges = edges_in bytes in
    let places = chunks_in size bytes in
    let place = chunk_in size bytes k in
    let front = flat_map (placed_of edges) (take k places) in
    let first = first_of_chunk size (counts_in bytes) k within in
    let count = before_more size k bytes within in
    record {
      index = so_far.index;
      few = so_far.few;
      labels = is ∙ ap (λ (c : Catalogue). with_label c k (label_of (base_of edges place))) so_far.labels ∙ labelled_up_to-next d places edges k within;
      placed =
          ap (position (is_misplaced d)) (placed_more size k bytes within)
          ∙ position-append (is_misplaced d) front (flat_map (placed_of edges) (place ∷ []))
          ∙ none_of_two (position (is_misplaced d) front) (position (is_misplaced d) (flat_map (placed_of edges) (place ∷ []))) (length {A = ℕ × Edge} front)
          so_far.placed (here_placed d place edges ∙ inside);
      small =
          let before : ℕ = index_end d + 12 * edges_before places k in
          let all : before + 12 * place.count ≡ index_end d + 12 * edges_before places (k + 1) = omega arith in
          let here : index_end d + 12 * place.first ≡ before = omega arith in
          subst (λ (n : ℕ). AreBytes (take n bytes)) all
          (subst AreBytes (sym (take-add before (12 * place.count) bytes))
          (All-append (λ (byte : ℕ). byte < 256) (take before bytes) (take (12 * place.count) (drop before bytes)) so_far.small
          (subst (λ (n : ℕ). AreBytes (take (12 * place.count) (drop n bytes))) here small)));
    }

-- what a file's size tells of bytes that neither head nor index refuses
abbrev pub HasSizes : List ℕ → Type 0
HasSizes bytes = (sum (counts_in bytes) ≡ length (edges_in bytes)) × (length bytes ≡ index_end (shape_in bytes) + 12 * length (edges_in bytes))

-- .. as a law of grids
abbrev pub AllHaveSizes : Type 0
AllHaveSizes = (bytes : List ℕ) → refusal_by_head (length bytes) (take 16 bytes) ≡ None → refusal_by_index (length bytes) (counts_in bytes) ≡ None → HasSizes bytes

some_behind : (first second third : Option ℕ) (k l p : ℕ) → first ≡ None → second ≡ Some p
    → option_or first (option_map (λ (i : ℕ). k + i) (option_or second (option_map (λ (i : ℕ). l + i) third))) ≡ Some (k + p)
some_behind first second third k l p a b =
    (λ i. option_or (a i) (option_map (λ (n : ℕ). k + n) (option_or (b i) (option_map (λ (n : ℕ). l + n) third))))

-- a stray edge in the next chunk is the file's first bad edge
pub stray-refused : (size k p : ℕ) (bytes : List ℕ) (cat : Catalogue) → HasSizes bytes → k < length (chunks_in size bytes)
    → position (λ e. not (is_in_block (shape_in bytes) (chunk_in size bytes k).block e)) (base_of (edges_in bytes) (chunk_in size bytes k)) ≡ Some p
    → HasLabelled size k cat bytes → grid_refusal size bytes ≡ Some (BadEdge ((chunk_in size bytes k).first + p))
stray-refused size k p bytes cat sizes within stray so_far =
    let d = shape_in bytes in
    let edges = edges_in bytes in
    let places = chunks_in size bytes in
    let place = chunk_in size bytes k in
    let front = flat_map (placed_of edges) (take k places) in
    let here = flat_map (placed_of edges) (place ∷ []) in
    let behind = flat_map (placed_of edges) (drop (k + 1) places) in
    let long : length {A = ℕ × Edge} front ≡ place.first = length_of_placed size (counts_in bytes) edges k sizes.0 ∙ sym (first_of_chunk size (counts_in bytes) k within) in
    let cut : places ≡ take k places ++ (place ∷ drop (k + 1) places) =
    sym (take-append-drop k places) ∙ ap (λ (ps : List Place). take k places ++ ps) (drop_more places k no_place within) in
    let all : flat_map (placed_of edges) places ≡ front ++ (here ++ behind) =
    ap (flat_map (placed_of edges)) cut
    ∙ flat_map-append (placed_of edges) (take k places) (place ∷ drop (k + 1) places)
    ∙ ap (λ xs. front ++ xs) (flat_map-append (placed_of edges) (place ∷ []) (drop (k + 1) places)) in
    let found : position (is_misplaced d) (placed_edges 0 (blocks_of (counts_in bytes) edges)) ≡ Some (place.first + p) =
    ap (position (is_misplaced d)) (placed_by_chunks size (counts_in bytes) edges ∙ all)
    ∙ position-append (is_misplaced d) front (here ++ behind)
    ∙ ap (λ o. option_or (position (is_misplaced d) front) (option_map (λ (i : ℕ). length {A = ℕ × Edge} front + i) o)) (position-append (is_misplaced d) here behind)
    ∙ some_behind (position (is_misplaced d) front) (position (is_misplaced d) here) (position (is_misplaced d) behind) (length {A = ℕ × Edge} front) (length {A = ℕ × Edge} here) p
    so_far.placed (here_placed d place edges ∙ stray)
    ∙ ap (λ (n : ℕ). Some (n + p)) long in
    refused_by_edges size bytes so_far.index.head.taken so_far.index.taken so_far.few
    ∙ refusal_by_edges-position d (counts_in bytes) edges
    ∙ ap (option_map BadEdge) found

-- where all chunks have their labels, the file isn't refused
pub labelled-taken : (size k : ℕ) (bytes : List ℕ) (cat : Catalogue) → length (chunks_in size bytes) ≤ k → HasLabelled size k cat bytes
    → grid_refusal size bytes ≡ None
labelled-taken size k bytes cat past labelled =
    let d = shape_in bytes in
    let edges = edges_in bytes in
    refused_by_edges size bytes labelled.index.head.taken labelled.index.taken labelled.few
    ∙ refusal_by_edges-position d (counts_in bytes) edges
    ∙ ap (option_map BadEdge)
    (ap (position (is_misplaced d)) (placed_by_chunks size (counts_in bytes) edges ∙ ap (flat_map (placed_of edges)) (sym (take_all k (chunks_in size bytes) past)))
    ∙ labelled.placed)

-- and all of it are bytes
pub labelled-small : (size k : ℕ) (bytes : List ℕ) (cat : Catalogue) → HasSizes bytes → length (chunks_in size bytes) ≤ k → HasLabelled size k cat bytes
    → AreBytes bytes
labelled-small size k bytes cat sizes past labelled =
    let all : edges_before (chunks_in size bytes) k ≡ sum (counts_in bytes) =
    ap (sum_by (λ (place : Place). place.count)) (take_all k (chunks_in size bytes) past) ∙ chunks-count_edges size (counts_in bytes) in
    let end : length bytes ≤ index_end (shape_in bytes) + 12 * edges_before (chunks_in size bytes) k = omega (arith, sizes.0, sizes.1) in
    subst AreBytes (take_all (index_end (shape_in bytes) + 12 * edges_before (chunks_in size bytes) k) bytes end) labelled.small

-- so that the catalogue is the file's, where that is a grid
pub labelled-catalogue : (size k : ℕ) (bytes : List ℕ) (cat : Catalogue) → length (chunks_in size bytes) ≤ k → HasLabelled size k cat bytes
    → IsGrid bytes (shape_in bytes).n (shape_in bytes).parts (blocks_in bytes)
    → counts_in bytes ≡ map (λ edges. length edges) (blocks_in bytes) → edges_in bytes ≡ edges_of_grid (blocks_in bytes) → IsCatalogueOf bytes size cat
labelled-catalogue size k bytes cat past labelled grid counts edges = record {
  n = (shape_in bytes).n;
  parts = (shape_in bytes).parts;
  blocks = blocks_in bytes;
  grid = grid;
  few = ap (refusal_by_chunks size) (sym counts) ∙ labelled.few;
  all =
      labelled.labels
      ∙ labelled_up_to-all (shape_in bytes) size (counts_in bytes) (edges_in bytes) k past
      ∙ (λ i. catalogue_of (shape_in bytes) size (counts i) (edges i));
}

-- a chunk of the catalogue that was read from its place
record IsRead (size k : ℕ) (cat : Catalogue) (piece bytes : List ℕ) : Type 0 where
  shape_is : cat.dimensions ≡ shape_in bytes
  place_is : place_at cat k ≡ chunk_in size bytes k
  within : k < length (chunks_in size bytes)
  edges_are : edges_of_bytes piece ≡ base_of (edges_in bytes) (chunk_in size bytes k)
  piece_is : piece ≡ take (12 * (chunk_in size bytes k).count) (drop (index_end (shape_in bytes) + 12 * (chunk_in size bytes k).first) bytes)

-- what stands from a place on is this piece
abbrev pub Stands : ℕ → List ℕ → List ℕ → Type 0
Stands pos piece bytes = piece ≡ take (length piece) (drop pos bytes)

is_read : (size k : ℕ) (cat : Catalogue) (piece bytes : List ℕ) → k < length cat.places → length piece ≡ 12 * (place_at cat k).count
    → HasLabelled size k cat bytes × Stands (chunk_start cat k) piece bytes → IsRead size k cat piece bytes
is_read size k cat piece bytes within long told =
    let shape : cat.dimensions ≡ shape_in bytes = ap (λ (c : Catalogue). c.dimensions) told.0.labels in
    let places : cat.places ≡ chunks_in size bytes = ap (λ (c : Catalogue). c.places) told.0.labels in
    let place : place_at cat k ≡ chunk_in size bytes k = ap (λ (ps : List Place). get_or ps k no_place) places in
    let piece_is : piece ≡ take (12 * (chunk_in size bytes k).count) (drop (index_end (shape_in bytes) + 12 * (chunk_in size bytes k).first) bytes) =
    told.1 ∙ (λ i. take ((long ∙ ap (λ (p : Place). 12 * p.count) place) i) (drop (index_end (shape i) + 12 * (place i).first) bytes)) in
    record {
      shape_is = shape;
      place_is = place;
      within = subst (λ (ps : List Place). k < length ps) places within;
      edges_are = ap edges_of_bytes piece_is ∙ edges_in-part (chunk_in size bytes k).first (chunk_in size bytes k).count bytes;
      piece_is = piece_is;
    }

search_in : (size k : ℕ) (cat : Catalogue) (piece bytes : List ℕ) (read : List Edge) (found : Option ℕ) → read ≡ edges_of_bytes piece
    → position (λ e. not (is_in_chunk cat k e)) read ≡ found → IsRead size k cat piece bytes
    → position (λ e. not (is_in_block (shape_in bytes) (chunk_in size bytes k).block e)) (base_of (edges_in bytes) (chunk_in size bytes k)) ≡ found
search_in size k cat piece bytes read found same is all =
    (λ i. position (λ e. not (is_in_block (sym all.shape_is i) (sym all.place_is i).block e)) (sym (same ∙ all.edges_are) i)) ∙ is

inside : (told : Option Files) (n : ℕ) (P : Files → Type 0) → (0 < n → IfSome told P) → IfSome told (λ held. 0 < n → P held)
inside None n P some = tt
inside (Some held) n P some = some

-- where the file has labels up to a chunk, what was read for the chunk stands at its place
stands : (told : Option Files) (name : List ℕ) (size k : ℕ) (cat : Catalogue) (read : List Edge) (was : WasRead told name cat k read)
    → IsTold told name (HasLabelled size k cat) → IsTold told name (λ bytes. HasLabelled size k cat bytes × Stands (chunk_start cat k) was.bytes bytes)
stands told name size k cat read was labelled =
    told-both told name _ _ labelled (told-piece told name _ (12 * (place_at cat k).count) _ _ was.bytes was.long refl labelled
    (inside told (12 * (place_at cat k).count) (λ held. HasBytesAt held name (chunk_start cat k) was.bytes) (λ some. was.place (omega arith))))

-- a chunk that was read and lies in its block is labelled
pub chunk-labelled : (told : Option Files) (name : List ℕ) (size k : ℕ) (cat next : Catalogue) (kept : List Edge) (stray : Option Edge)
    → k < length cat.places → ReadsChunk told name cat k kept stray → is_some stray ≡ false → next ≡ with_label cat k (label_of kept)
    → IsTold told name (HasLabelled size k cat) → IsTold told name (HasLabelled size (k + 1) next)
chunk-labelled told name size k cat next kept stray within reads none is labelled =
    let decoded = no_stray (is_in_chunk cat k) reads.read kept stray none reads.decoded in
    let was = reads.from in
    told-weaker told name _ _
    (λ bytes both. let read = is_read size k cat was.bytes bytes within was.long both in
    labelled-next size k bytes cat next read.within
    (is ∙ ap (λ (edges : List Edge). with_label cat k (label_of edges)) (decoded.0 ∙ was.is ∙ read.edges_are))
    (search_in size k cat was.bytes bytes reads.read None was.is decoded.1 read)
    (subst AreBytes read.piece_is was.small) both.0)
    (stands told name size k cat reads.read was labelled)

-- and one with a stray edge is refused for it
pub chunk-refused : (told : Option Files) (name : List ℕ) (size k index : ℕ) (cat : Catalogue) (kept : List Edge) (stray : Option Edge)
    → k < length cat.places → ReadsChunk told name cat k kept stray → is_some stray ≡ true → index ≡ (place_at cat k).first + length kept → AllHaveSizes
    → IsTold told name (HasLabelled size k cat) → IsTold told name (λ bytes. grid_refusal size bytes ≡ Some (BadEdge index))
chunk-refused told name size k index cat kept stray within reads some is sizes labelled =
    let found = a_stray (is_in_chunk cat k) reads.read kept stray some reads.decoded in
    let was = reads.from in
    told-weaker told name _ _
    (λ bytes both. let read = is_read size k cat was.bytes bytes within was.long both in
    stray-refused size k (length kept) bytes cat (sizes bytes both.0.index.head.taken both.0.index.taken) read.within
    (search_in size k cat was.bytes bytes reads.read (Some (length kept)) was.is found read) both.0
    ∙ (λ i. Some (BadEdge ((sym read.place_is i).first + length kept))) ∙ ap (λ (n : ℕ). Some (BadEdge n)) (sym is))
    (stands told name size k cat reads.read was labelled)

-- then that edge is one of the file's chunk
pub chunk-stray : (told : Option Files) (name : List ℕ) (size k : ℕ) (cat : Catalogue) (kept : List Edge) (stray : Option Edge)
    → k < length cat.places → ReadsChunk told name cat k kept stray → is_some stray ≡ true
    → IsTold told name (HasLabelled size k cat) → IsTold told name (HasStray size k)
chunk-stray told name size k cat kept stray within reads some labelled =
    let found = a_stray (is_in_chunk cat k) reads.read kept stray some reads.decoded in
    let was = reads.from in
    told-weaker told name _ _
    (λ bytes both. let read = is_read size k cat was.bytes bytes within was.long both in
    let place = chunk_in size bytes k in
    let at : position (is_misplaced (shape_in bytes)) (placed_of (edges_in bytes) place) ≡ Some (length kept) =
    position-in_block (shape_in bytes) place.block (base_of (edges_in bytes) place)
    ∙ search_in size k cat was.bytes bytes reads.read (Some (length kept)) was.is found read in
    subst (λ (o : Option ℕ). IsSome o) (sym at) refl)
    (stands told name size k cat reads.read was labelled)

-- a chunk lies in the file
pub chunk-in_range : (told : Option Files) (name : List ℕ) (size k : ℕ) (cat : Catalogue) → k < length cat.places → AllHaveSizes
    → IsTold told name (HasLabelled size k cat) → IsTold told name (λ bytes. chunk_start cat k + 12 * (place_at cat k).count ≤ length bytes)
chunk-in_range told name size k cat within all_sizes =
    told-weaker told name _ _ (λ bytes labelled.
    let sizes = all_sizes bytes labelled.index.head.taken labelled.index.taken in
    let shape : cat.dimensions ≡ shape_in bytes = ap (λ (c : Catalogue). c.dimensions) labelled.labels in
    let places : cat.places ≡ chunks_in size bytes = ap (λ (c : Catalogue). c.places) labelled.labels in
    let within_counts : (place_at cat k).first + (place_at cat k).count ≤ sum (counts_in bytes) =
    subst (λ (ps : List Place). k < length ps → (get_or ps k no_place).first + (get_or ps k no_place).count ≤ sum (counts_in bytes)) (sym places)
    (λ w. chunks-within size (counts_in bytes) k no_place w) within in
    let end : index_end cat.dimensions ≡ index_end (shape_in bytes) = ap index_end shape in
    omega (arith, sizes.0, sizes.1))

-- So many chunks were labelled by these calls.
pub record Labels (old new : DepotState) (name : List ℕ) (cat now : Catalogue) (k : ℕ) : Type 0 where
  pub cut : IsSameCut cat now
  pub fresh : IsFreshFrom k now
  pub frame : OnlyReads 0 (reads_before cat.places k) old new
  pub served : new.faults ≡ old.faults
  pub read : new.reads ≡ counted_times (reads_before cat.places k) old.reads
  pub labelled : (size : ℕ) → IsTold old.files name (HasLabelled size 0 cat) → IsTold old.files name (HasLabelled size k now)

pub labels-none : (depot : DepotState) (name : List ℕ) (cat : Catalogue) → IsFreshFrom 0 cat → Labels depot depot name cat cat 0
labels-none depot name cat fresh =
    record { cut = (refl, refl); fresh = fresh; frame = only_reads-none depot; served = refl; read = refl; labelled = λ size told. told }

pub reads_before-next : (places : List Place) (k : ℕ) → k < length places
    → reads_before places (k + 1) ≡ reads_before places k + chunk_reads (get_or places k no_place)
reads_before-next places k within =
    let last = sum_by-cons chunk_reads (get_or places k no_place) [] in
    ap (sum_by chunk_reads) (take_more places k no_place within) ∙ sum_by-append chunk_reads (take k places) (get_or places k no_place ∷ []) ∙ omega arith

fresh-next : (k : ℕ) (cat next : Catalogue) → IsSetAt k cat next → IsFreshFrom k cat → IsFreshFrom (k + 1) next
fresh-next k cat next set fresh c behind = set c (λ same. absurd (omega (arith, ap (λ (n : ℕ). n) same))) ∙ fresh c (omega arith)

-- one more was
pub labels-next : (old mid new : DepotState) (name : List ℕ) (cat now next : Catalogue) (k : ℕ) → k < length cat.places
    → Labels old mid name cat now k → IsSameCut now next → IsSetAt k now next
    → OnlyReads 0 (chunk_reads (place_at now k)) mid new → new.faults ≡ mid.faults
    → new.reads ≡ counted_times (chunk_reads (place_at now k)) mid.reads
    → ((size : ℕ) → IsTold mid.files name (HasLabelled size k now) → IsTold mid.files name (HasLabelled size (k + 1) next))
    → Labels old new name cat next (k + 1)
labels-next old mid new name cat now next k within a cut set frame served read labelled =
    let place : place_at now k ≡ get_or cat.places k no_place = ap (λ (ps : List Place). get_or ps k no_place) a.cut.1 in
    let more : reads_before cat.places k + chunk_reads (place_at now k) ≡ reads_before cat.places (k + 1) =
    ap (λ (p : Place). reads_before cat.places k + chunk_reads p) place ∙ sym (reads_before-next cat.places k within) in
    record {
      cut = (cut.0 ∙ a.cut.0, cut.1 ∙ a.cut.1);
      fresh = fresh-next k now next set a.fresh;
      frame = subst (λ (n : ℕ). OnlyReads 0 n old new) more
          (only_reads-then 0 (reads_before cat.places k) 0 (chunk_reads (place_at now k)) old mid new a.frame frame);
      served = served ∙ a.served;
      read =
          read
          ∙ ap (counted_times (chunk_reads (place_at now k))) a.read
          ∙ sym (counted_times-add (reads_before cat.places k) (chunk_reads (place_at now k)) old.reads)
          ∙ ap (λ (n : ℕ). counted_times n old.reads) more;
      labelled = λ size told.
          subst (λ (f : Option Files). IsTold f name (HasLabelled size (k + 1) next)) a.frame.files
          (labelled size (subst (λ (f : Option Files). IsTold f name (HasLabelled size k now)) (sym a.frame.files) (a.labelled size told)));
    }

-- a chunk gave up behind others
pub labels-refused : {X : Type 0} (old mid new : DepotState) (size : ℕ) (name : List ℕ) (cat now : Catalogue) (k : ℕ)
    (result : Result X OpenError) → k < length cat.places → Labels old mid name cat now k → IsTold old.files name (HasLabelled size 0 cat)
    → ((told : IsTold mid.files name (HasLabelled size k now)) → OpensBy 0 (chunk_reads (place_at now k)) size name mid new result)
    → OpensBy 0 (sum_by chunk_reads cat.places) size name old new result
labels-refused old mid new size name cat now k result within a told opens =
    let place : place_at now k ≡ get_or cat.places k no_place = ap (λ (ps : List Place). get_or ps k no_place) a.cut.1 in
    let more : reads_before cat.places k + chunk_reads (place_at now k) ≡ reads_before cat.places (k + 1) =
    ap (λ (p : Place). reads_before cat.places k + chunk_reads p) place ∙ sym (reads_before-next cat.places k within) in
    let few = sum_by-take-le chunk_reads cat.places (k + 1) in
    opens_by-more old new (reads_before cat.places k + chunk_reads (place_at now k)) (sum_by chunk_reads cat.places) size name result (omega arith)
    (opens_by-then old mid new (reads_before cat.places k) (chunk_reads (place_at now k)) size name (tt {0}) result
    (opens_by-served old mid (reads_before cat.places k) size name (tt {0}) a.frame a.served)
    (opens (subst (λ (f : Option Files). IsTold f name (HasLabelled size k now)) (sym a.frame.files) (a.labelled size told))))

no_labels : (places : List Place) (c : ℕ) → get_or (map (λ (place : Place). no_pairs) places) c no_pairs ≡ no_pairs
no_labels [] c = refl
no_labels (p ∷ ps) zero = refl
no_labels (p ∷ ps) (suc c) = no_labels ps c

not_more : (b : Bool) (chunks most : ℕ) (e : GridError) → ltb most chunks ≡ b → (if b then Some e else None) ≡ None → chunks ≤ most
not_more true chunks most e is none = absurd cc
not_more false chunks most e is none = ltb-false most chunks is

few_planned : (size : ℕ) (counts : List ℕ) → refusal_by_chunks size counts ≡ None → chunk_count size counts ≤ MAX_CHUNKS
few_planned size counts none = not_more (nat_lt MAX_CHUNKS (chunk_count size counts)) (chunk_count size counts) MAX_CHUNKS (TooManyChunks (chunk_count size counts)) refl none

-- chunks that were just planned
pub planned-chunks : (size : ℕ) (shape : Dimensions) (counts : List ℕ) (cat : Catalogue) → 1 ≤ size → cat ≡ unlabelled shape (chunks_of size counts)
    → refusal_by_chunks size counts ≡ None → IsPlanned size cat
planned-chunks size shape counts cat some is taken =
    let places : cat.places ≡ chunks_of size counts = ap (λ (known : Catalogue). known.places) is in
    record {
      fresh = λ c behind. ap (λ (known : Catalogue). label_at known c) is ∙ no_labels (chunks_of size counts) c;
      few =
          let many : length cat.places ≡ chunk_count size counts = ap length places ∙ length-chunks_of size counts some in
          let most = few_planned size counts taken in
          omega arith;
      short = λ c. subst (λ (ps : List Place). (get_or ps c no_place).count ≤ size) (sym places) (short_chunk size counts c some);
    }

one_each : (places : List Place) → sum_by chunk_reads places ≤ length places
one_each [] = omega arith
one_each (place ∷ places) = let rest = one_each places in let all = sum_by-cons chunk_reads place places in omega arith

-- opening takes no more reads than there may be chunks, and two
pub few_reads : (size : ℕ) (cat : Catalogue) → IsPlanned size cat → 2 + sum_by chunk_reads cat.places ≤ 2 + MAX_CHUNKS
few_reads size cat planned = let each = one_each cat.places in let few = planned.few in omega arith
