-- What is known of a chunk where the catalogue is that of a file's bytes.
use Rattle.std.specs.Prelude.{◌≡◌, ℕ, suc, ◌+◌, ◌*◌, ◌<◌, ◌≤◌, Bool, true, false, ◌&&◌, not, nat_lt, List, [], ◌∷◌, map, length, drop, sum, All, Some, None, refl}
use Rattle.std.specs.List.{position, position_or_len}
use Rattle.std.proofs.lemmas.List.{length-map}
use Rattle.std.proofs.Common.{eqb, get_or, cond, sym, ap, ◌∙◌, subst, length-append, arith}
use Rattle.std.proofs.lemmas.Bool.{and_from, lt-ltb, eq-eqb, le-ltb, not_from_true}
use Rattle.std.proofs.lemmas.List.Elements.{All-nil, All-append, All-take, All-drop, All-weaker, All-get_or}
use Rattle.std.proofs.lemmas.List.Sums.{sum_by-cons, position_or_len_is}
use Rattle.gm_base.specs.declared.edge.Edge.{Edge}
use Rattle.gm_base.specs.Dimensions.{Dimensions, block_of}
use Rattle.gm_base.specs.Graph.{HasEndsBelow}
use Rattle.gm_grid.specs.Format.{IsGrid, FitsBlock, dimensions_of, edges_of_grid, is_in_block}
use Rattle.gm_grid.specs.GridBytes.{index_end, grid_file_size, shape_in, edges_in}
use Rattle.gm_label.specs.declared.chunk.Place.{Place}
use Rattle.gm_label.specs.Chunks.{chunks_of}
use Rattle.gm_label.specs.ChunksRules.{blocks-in_blocks, chunks-within}
use Rattle.gm_label.specs.Labels.{label_of}
use Rattle.gm_label.specs.Catalogues.{Catalogue, no_place, place_at, label_at, base_at, catalogue_of, IsCut}
use Rattle.gm_label.specs.CataloguesRules.{label_at-is, catalogue-is_over}
use Rattle.gm_source.specs.Openings.{IsCatalogueOf}
use Rattle.gm_source.specs.Fetches.{is_in_chunk}
use Rattle.gm_source.proofs.Decoding.{in_block-means}

-- an edge with its ends below n in this block passes the block's test
pub is_in : (d : Dimensions) (block : ℕ) (e : Edge) → HasEndsBelow d.n e → block_of d e ≡ block → is_in_block d block e ≡ true
is_in d block e ends here =
    and_from (nat_lt e.from d.n && nat_lt e.to d.n) (eqb (block_of d e) block)
    (and_from (nat_lt e.from d.n) (nat_lt e.to d.n) (lt-ltb e.from d.n ends.0) (lt-ltb e.to d.n ends.1)) (eq-eqb (block_of d e) block here)

-- where all elements pass a test, none fails it
pub none_fails : {X : Type 0} (p : X → Bool) (xs : List X) → All (λ x. p x ≡ true) xs → position (λ x. not (p x)) xs ≡ None
none_fails p [] all = refl
none_fails p (x ∷ xs) all =
    let end : position_or_len (λ y. not (p y)) (x ∷ xs) ≡ length (x ∷ xs) =
    position_or_len_is (λ y. not (p y)) (x ∷ xs) (length (x ∷ xs)) x (omega arith) (λ k within. not_from_true (p (get_or (x ∷ xs) k x)) (all k x within))
    (λ past. absurd (omega arith)) in
    let not_before : nat_lt (position_or_len (λ y. not (p y)) (x ∷ xs)) (length (x ∷ xs)) ≡ false = le-ltb _ _ (omega arith) in
    ap (λ b. cond b (Some (position_or_len (λ y. not (p y)) (x ∷ xs))) None) not_before

sum-lengths : (blocks : List (List Edge)) → sum (map (λ edges. length edges) blocks) ≡ length (edges_of_grid blocks)
sum-lengths [] = refl
sum-lengths (edges ∷ blocks) =
    let rest = sum-lengths blocks in
    sum_by-cons (λ (x : ℕ). x) (length edges) (map (λ xs. length xs) blocks) ∙ omega (arith, length-append edges (edges_of_grid blocks))

all_edges : (P : Edge → Type 0) (blocks : List (List Edge)) → ((k : ℕ) → All P (get_or blocks k [])) → All P (edges_of_grid blocks)
all_edges P [] all = All-nil P
all_edges P (edges ∷ blocks) all = All-append P edges (edges_of_grid blocks) (all 0) (all_edges P blocks (λ k. all (suc k)))

-- what a chunk's catalogue tells of a file's bytes
pub record IsChunkIn (bytes : List ℕ) (c : ℕ) (cat : Catalogue) : Type 0 where
  pub shape : cat.dimensions ≡ shape_in bytes
  pub end : index_end cat.dimensions + 12 * ((place_at cat c).first + (place_at cat c).count) ≤ length bytes
  pub label : label_at cat c ≡ label_of (base_at cat (edges_in bytes) c)
  pub placed : All (λ e. is_in_chunk cat c e ≡ true) (base_at cat (edges_in bytes) c)

-- what a grid's bytes are read as
pub record ReadsBack (bytes : List ℕ) (n parts : ℕ) (blocks : List (List Edge)) : Type 0 where
  pub shape : shape_in bytes ≡ dimensions_of n parts
  pub edges : edges_in bytes ≡ edges_of_grid blocks
  pub size : length bytes ≡ grid_file_size (length blocks) (length (edges_of_grid blocks))

module _ (bytes : List ℕ) (n parts size c : ℕ) (blocks : List (List Edge)) (grid : IsGrid bytes n parts blocks) (back : ReadsBack bytes n parts blocks) where
  abbrev d : Dimensions
  d = dimensions_of n parts

  abbrev counts : List ℕ
  counts = map (λ edges. length edges) blocks

  abbrev cat : Catalogue
  cat = catalogue_of d size counts (edges_of_grid blocks)

  pub cut : IsCut d counts (edges_of_grid blocks)
  cut = record {
    blocks = length-map blocks (λ edges. length edges) ∙ grid.count;
    whole = sum-lengths blocks;
    in_blocks = blocks-in_blocks d 0 blocks (λ k. All-weaker (FitsBlock d k) (λ e. block_of d e ≡ 0 + k) (λ e fits. (in_block-means d k e fits.place).1 ∙ omega arith) (get_or blocks k []) (grid.places k));
  }

  pub ends : All (HasEndsBelow n) (edges_of_grid blocks)
  ends = all_edges (HasEndsBelow n) blocks (λ k. All-weaker (FitsBlock d k) (HasEndsBelow n) (λ e fits. (in_block-means d k e fits.place).0) (get_or blocks k []) (grid.places k))

  base_ends : All (HasEndsBelow n) (base_at cat (edges_of_grid blocks) c)
  base_ends = All-take (HasEndsBelow n) (place_at cat c).count (drop (place_at cat c).first (edges_of_grid blocks))
      (All-drop (HasEndsBelow n) (place_at cat c).first (edges_of_grid blocks) ends)

  base_placed : All (λ e. is_in_chunk cat c e ≡ true) (base_at cat (edges_of_grid blocks) c)
  base_placed k e within =
      let here = (catalogue-is_over d size counts (edges_of_grid blocks) cut).in_block c in
      is_in d (place_at cat c).block (get_or (base_at cat (edges_of_grid blocks) c) k e) (base_ends k e within) (here k e within)

  catalogue_chunk : c < length (chunks_of size counts) → IsChunkIn bytes c cat
  catalogue_chunk within =
      let inside : (place_at cat c).first + (place_at cat c).count ≤ sum counts =
      All-get_or (λ (p : Place). p.first + p.count ≤ sum counts) (chunks_of size counts) c no_place within (chunks-within size counts) in
      record {
        shape = sym back.shape;
        end = omega (arith, inside, sum-lengths blocks, back.size, grid.count);
        label = label_at-is d size counts (edges_of_grid blocks) c ∙ ap (λ edges. label_of (base_at cat edges c)) (sym back.edges);
        placed = subst (λ (edges : List Edge). All (λ e. is_in_chunk cat c e ≡ true) (base_at cat edges c)) (sym back.edges) base_placed;
      }

pub chunk_in : (bytes : List ℕ) (size c : ℕ) (catalogue : Catalogue) (is : IsCatalogueOf bytes size catalogue) → ReadsBack bytes is.n is.parts is.blocks
    → c < length catalogue.places → IsChunkIn bytes c catalogue
chunk_in bytes size c catalogue is back within =
    subst (λ (cat : Catalogue). IsChunkIn bytes c cat) (sym is.all)
    (catalogue_chunk bytes is.n is.parts size c is.blocks is.grid back (subst (λ (cat : Catalogue). c < length cat.places) is.all within))
