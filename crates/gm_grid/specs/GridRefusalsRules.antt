-- What proofs need of refusals: the first of several stages, and the first misplaced edge of a file that is looked through part by part.
use Rattle.std.specs.Prelude.{◌≡◌, ℕ, suc, ◌+◌, ◌<◌, ◌≤◌, Bool, true, false, cond, not, List, [], ◌∷◌, ◌++◌, length, take, map, sum, Option, Some, None, option_map, refl}
use Rattle.std.proofs.Common.{sym, ap, ◌∙◌, arith}
use Rattle.std.specs.List.{position, position_from}
use Rattle.std.specs.Option.{option_or}
use Rattle.std.proofs.lemmas.Bool.{lt-ltb, le-ltb}
use Rattle.std.proofs.lemmas.Option.{none-some}
use Rattle.std.proofs.lemmas.Iterator.Adapters.{position_from-zero}
use Rattle.gm_base.specs.declared.edge.Edge.{Edge}
use Rattle.gm_base.specs.Dimensions.{Dimensions}
use Rattle.gm_grid.specs.declared.grid_error.GridError.{GridError}
use Rattle.gm_grid.specs.declared.grid_error.GridError.TheVariants.{BadSize, BadEdge}
use Rattle.gm_grid.specs.declared.sizes.TheConstants.{HEAD_SIZE}
use Rattle.gm_grid.specs.Format.{is_in_block}
use Rattle.gm_grid.specs.GridBytes.{shape_of_head, blocks_of, placed_edges, index_end, grid_file_size, shape_in, counts_in, edges_in}
use Rattle.gm_grid.specs.GridRefusals.{short_refusal, head_refusal, index_refusal, size_refusal, is_misplaced, refusal_by_head, refusal_by_index, refusal_by_chunks, refusal_by_edges, grid_refusal, HasGoodHead, HasGoodIndex}

-- the first of two, where it is there, where it isn't, and where neither is
pub option_or-Some : {A : Type 0} (a b : Option A) (x : A) → a ≡ Some x → option_or a b ≡ Some x
option_or-Some a b x is = ap (λ o. option_or o b) is

pub option_or-None : {A : Type 0} {a b : Option A} → a ≡ None → b ≡ None → option_or a b ≡ None
option_or-None {b = b} p q = ap (λ o. option_or o b) p ∙ q

pub option_or-split : {A : Type 0} (a b : Option A) → option_or a b ≡ None → (a ≡ None) × (b ≡ None)
option_or-split None b none = (refl, none)
option_or-split (Some x) b none = absurd (none-some x (sym none))

pub option_or-skip : {A : Type 0} (a b : Option A) → a ≡ None → option_or a b ≡ b
option_or-skip a b none = ap (λ o. option_or o b) none

pub option_or-nothing : {A : Type 0} (a b : Option A) → b ≡ None → option_or a b ≡ a
option_or-nothing None b none = none
option_or-nothing (Some x) b none = refl

-- what is refused behind the index
abbrev behind_index : ℕ → List ℕ → Option GridError
behind_index chunk_size bytes =
    option_or (refusal_by_chunks chunk_size (counts_in bytes)) (refusal_by_edges (shape_in bytes) (counts_in bytes) (edges_in bytes))

-- what each step by the head refuses, where the steps before it refuse nothing
pub refusal_by_head-short : (size : ℕ) (head : List ℕ) → size < HEAD_SIZE → refusal_by_head size head ≡ Some (BadSize size HEAD_SIZE)
refusal_by_head-short size head short = rw (lt-ltb size HEAD_SIZE short) refl

pub refusal_by_head-head : (size : ℕ) (head : List ℕ) (e : GridError) → HEAD_SIZE ≤ size → head_refusal head ≡ Some e → refusal_by_head size head ≡ Some e
refusal_by_head-head size head e long refused = rw (le-ltb size HEAD_SIZE long, refused) refl

pub refusal_by_head-index : (size : ℕ) (head : List ℕ) → HEAD_SIZE ≤ size → head_refusal head ≡ None
    → refusal_by_head size head ≡ short_refusal size (index_end (shape_of_head head))
refusal_by_head-index size head long good = rw (le-ltb size HEAD_SIZE long, good) refl

-- and each step by the index
pub refusal_by_index-index : (size : ℕ) (counts : List ℕ) (e : GridError) → index_refusal counts ≡ Some e → refusal_by_index size counts ≡ Some e
refusal_by_index-index size counts e refused = option_or-Some (index_refusal counts) _ e refused

pub refusal_by_index-size : (size : ℕ) (counts : List ℕ) → index_refusal counts ≡ None
    → refusal_by_index size counts ≡ size_refusal size (grid_file_size (length counts) (sum counts))
refusal_by_index-size size counts good = option_or-skip (index_refusal counts) _ good

-- each stage's refusal is the file's, where the stages before it refuse nothing
pub refused_by_head : (chunk_size : ℕ) (bytes : List ℕ) (e : GridError) → refusal_by_head (length bytes) (take HEAD_SIZE bytes) ≡ Some e
    → grid_refusal chunk_size bytes ≡ Some e
unfolding grid_refusal
refused_by_head chunk_size bytes e refused = option_or-Some (refusal_by_head (length bytes) (take HEAD_SIZE bytes)) _ e refused

refused_behind_head : (chunk_size : ℕ) (bytes : List ℕ) → HasGoodHead bytes
    → grid_refusal chunk_size bytes ≡ option_or (refusal_by_index (length bytes) (counts_in bytes)) (behind_index chunk_size bytes)
unfolding grid_refusal
refused_behind_head chunk_size bytes head = option_or-skip (refusal_by_head (length bytes) (take HEAD_SIZE bytes)) _ head

pub refused_by_index : (chunk_size : ℕ) (bytes : List ℕ) (e : GridError) → HasGoodHead bytes
    → refusal_by_index (length bytes) (counts_in bytes) ≡ Some e → grid_refusal chunk_size bytes ≡ Some e
refused_by_index chunk_size bytes e head refused =
    refused_behind_head chunk_size bytes head ∙ option_or-Some (refusal_by_index (length bytes) (counts_in bytes)) _ e refused

pub refused_behind_index : (chunk_size : ℕ) (bytes : List ℕ) → HasGoodHead bytes → HasGoodIndex bytes
    → grid_refusal chunk_size bytes ≡ behind_index chunk_size bytes
refused_behind_index chunk_size bytes head index =
    refused_behind_head chunk_size bytes head ∙ option_or-skip (refusal_by_index (length bytes) (counts_in bytes)) _ index

pub refused_by_chunks : (chunk_size : ℕ) (bytes : List ℕ) (e : GridError) → HasGoodHead bytes → HasGoodIndex bytes
    → refusal_by_chunks chunk_size (counts_in bytes) ≡ Some e → grid_refusal chunk_size bytes ≡ Some e
refused_by_chunks chunk_size bytes e head index refused =
    refused_behind_index chunk_size bytes head index ∙ option_or-Some (refusal_by_chunks chunk_size (counts_in bytes)) _ e refused

pub refused_by_edges : (chunk_size : ℕ) (bytes : List ℕ) → HasGoodHead bytes → HasGoodIndex bytes
    → refusal_by_chunks chunk_size (counts_in bytes) ≡ None
    → grid_refusal chunk_size bytes ≡ refusal_by_edges (shape_in bytes) (counts_in bytes) (edges_in bytes)
refused_by_edges chunk_size bytes head index chunks =
    refused_behind_index chunk_size bytes head index ∙ option_or-skip (refusal_by_chunks chunk_size (counts_in bytes)) _ chunks

-- the first bad edge of a file is its first misplaced one
pub refusal_by_edges-position : (d : Dimensions) (counts : List ℕ) (edges : List Edge)
    → refusal_by_edges d counts edges ≡ option_map BadEdge (position (is_misplaced d) (placed_edges 0 (blocks_of counts edges)))
unfolding refusal_by_edges
refusal_by_edges-position d counts edges = refl

-- the first place in the front, or else in what follows it
pub position_from-append : {X : Type 0} (p : X → Bool) (i : ℕ) (xs ys : List X)
    → position_from p i (xs ++ ys) ≡ option_or (position_from p i xs) (position_from p (i + length xs) ys)
position_from-append p i [] ys = ap (λ (k : ℕ). position_from p k ys) (omega arith)
position_from-append p i (x ∷ xs) ys =
    let rest = position_from-append p (i + 1) xs ys in
    let moved : position_from p (i + 1 + length xs) ys ≡ position_from p (i + suc (length xs)) ys =
    ap (λ (k : ℕ). position_from p k ys) (omega arith) in
    elim (p x) as (λ b. cond b (Some i) (position_from p (i + 1) (xs ++ ys))
    ≡ option_or (cond b (Some i) (position_from p (i + 1) xs)) (position_from p (i + suc (length xs)) ys)) [
      | true ↦ refl
      | false ↦ rest ∙ ap (λ o. option_or (position_from p (i + 1) xs) o) moved
    ]

position_from-later : {X : Type 0} (p : X → Bool) (k i : ℕ) (xs : List X) → position_from p (k + i) xs ≡ option_map (λ (j : ℕ). k + j) (position_from p i xs)
position_from-later p k i [] = refl
position_from-later p k i (x ∷ xs) =
    let moved : k + i + 1 ≡ k + (i + 1) = omega arith in
    elim (p x) as (λ b. cond b (Some (k + i)) (position_from p (k + i + 1) xs) ≡ option_map (λ (j : ℕ). k + j) (cond b (Some i) (position_from p (i + 1) xs))) [
      | true ↦ refl
      | false ↦ ap (λ (m : ℕ). position_from p m xs) moved ∙ position_from-later p k (i + 1) xs
    ]

-- a place that is counted from another number on
pub position_from-position : {X : Type 0} (p : X → Bool) (k : ℕ) (xs : List X) → position_from p k xs ≡ option_map (λ (i : ℕ). k + i) (position p xs)
position_from-position p k xs =
    let begin : k ≡ k + 0 = omega arith in
    ap (λ (m : ℕ). position_from p m xs) begin ∙ position_from-later p k 0 xs ∙ ap (option_map (λ (i : ℕ). k + i)) (sym (position_from-zero p xs))

pub position-append : {X : Type 0} (p : X → Bool) (xs ys : List X)
    → position p (xs ++ ys) ≡ option_or (position p xs) (option_map (λ (i : ℕ). length xs + i) (position p ys))
position-append p xs ys =
    let begin : 0 + length xs ≡ length xs = omega arith in
    position_from-zero p (xs ++ ys)
    ∙ position_from-append p 0 xs ys
    ∙ ap (λ o. option_or o (position_from p (0 + length xs) ys)) (sym (position_from-zero p xs))
    ∙ ap (λ (m : ℕ). option_or (position p xs) (position_from p m ys)) begin
    ∙ ap (option_or (position p xs)) (position_from-position p (length xs) ys)

-- among edges of one block
pub position_from-in_block : (d : Dimensions) (block i : ℕ) (edges : List Edge)
    → position_from (is_misplaced d) i (map (λ e. (block, e)) edges) ≡ position_from (λ e. not (is_in_block d block e)) i edges
position_from-in_block d block i [] = refl
position_from-in_block d block i (e ∷ edges) = ap (λ o. cond (not (is_in_block d block e)) (Some i) o) (position_from-in_block d block (i + 1) edges)

pub position-in_block : (d : Dimensions) (block : ℕ) (edges : List Edge)
    → position (is_misplaced d) (map (λ e. (block, e)) edges) ≡ position (λ e. not (is_in_block d block e)) edges
position-in_block d block edges =
    position_from-zero (is_misplaced d) (map (λ e. (block, e)) edges)
    ∙ position_from-in_block d block 0 edges
    ∙ sym (position_from-zero (λ e. not (is_in_block d block e)) edges)

-- a file that is refused stage by stage, and looked through part by part
pub ruleset refused_by_stages = (refusal_by_head-short, refusal_by_head-head, refusal_by_head-index, refusal_by_index-index, refusal_by_index-size, refused_by_head, refused_by_index, refused_by_chunks, refused_by_edges, refusal_by_edges-position)

pub ruleset misplaced_by_parts = (position-append, position-in_block)
