-- Edges cut into blocks and joined again, and which of them are in their blocks.
use Rattle.std.proofs.Common.{◌≡◌, ℕ, zero, suc, ◌+◌, Bool, true, false, cond, not, List, [], ◌∷◌, ◌++◌, length, map, take, drop, sum, get_or, Some, None, refl, sym, ap, ◌∙◌, arith}
use Rattle.std.specs.List.{All, position, position_from}
use Rattle.std.proofs.Math.Nat.{add-zero}
use Rattle.std.specs.Option.{option_or}
use Rattle.std.proofs.lemmas.List.{take_at, drop_at, take-append-drop, length-take-le, length-drop, nil_from_length, length-append}
use Rattle.std.proofs.lemmas.List.Elements.{All-cons, All-nil, All-head, All-tail, All-take, All-drop, All-append}
use Rattle.std.proofs.lemmas.List.Sums.{sum_by-cons}
use Rattle.std.proofs.lemmas.Option.{none-some}
use Rattle.std.proofs.lemmas.Iterator.Adapters.{position_from-zero}
use Rattle.gm_base.specs.declared.edge.Edge.{Edge}
use Rattle.gm_base.specs.Dimensions.{Dimensions}
use Rattle.gm_grid.specs.Format.{is_in_block, edges_of_grid}
use Rattle.gm_grid.specs.GridBytes.{blocks_of, placed_edges}
use Rattle.gm_grid.specs.GridRefusals.{is_misplaced}
use Rattle.gm_grid.specs.GridRefusalsRules.{option_or-split, position_from-append, position_from-in_block}

-- blocks that are joined and cut by their lengths are the blocks
pub blocks_of-edges_of_grid : (blocks : List (List Edge)) → blocks_of (map (λ b. length b) blocks) (edges_of_grid blocks) ≡ blocks
blocks_of-edges_of_grid [] = refl
blocks_of-edges_of_grid (b ∷ blocks) =
    ap (λ x. x ∷ blocks_of (map (λ b. length b) blocks) (drop (length b) (b ++ edges_of_grid blocks))) (take_at b (edges_of_grid blocks) (length b) refl)
    ∙ ap (λ x. b ∷ blocks_of (map (λ b. length b) blocks) x) (drop_at b (edges_of_grid blocks) (length b) refl)
    ∙ ap (λ x. b ∷ x) (blocks_of-edges_of_grid blocks)

pub sum-lengths : (blocks : List (List Edge)) → sum (map (λ b. length b) blocks) ≡ length (edges_of_grid blocks)
sum-lengths [] = refl
sum-lengths (b ∷ blocks) =
    sum_by-cons (λ x. x) (length b) (map (λ b. length b) blocks)
    ∙ ap (λ k. length b + k) (sum-lengths blocks)
    ∙ sym (length-append b (edges_of_grid blocks))

pub length-blocks_of : (counts : List ℕ) (edges : List Edge) → length (blocks_of counts edges) ≡ length counts
length-blocks_of [] edges = refl
length-blocks_of (count ∷ counts) edges = ap suc (length-blocks_of counts (drop count edges))

-- cut by counts that add up to all of them, and joined, edges are what they were
pub edges_of_grid-blocks_of : (counts : List ℕ) (edges : List Edge) → sum counts ≡ length edges → edges_of_grid (blocks_of counts edges) ≡ edges
edges_of_grid-blocks_of [] edges whole = sym (nil_from_length edges (sym whole))
edges_of_grid-blocks_of (count ∷ counts) edges whole =
    let total : count + sum counts ≡ length edges = sym (sum_by-cons (λ x. x) count counts) ∙ whole in
    let rest : sum counts ≡ length (drop count edges) = omega (arith, length-drop count edges) in
    ap (λ x. take count edges ++ x) (edges_of_grid-blocks_of counts (drop count edges) rest) ∙ take-append-drop count edges

-- the blocks' lengths are the counts
pub lengths-blocks_of : (counts : List ℕ) (edges : List Edge) → sum counts ≡ length edges → map (λ b. length b) (blocks_of counts edges) ≡ counts
lengths-blocks_of [] edges whole = refl
lengths-blocks_of (count ∷ counts) edges whole =
    let total : count + sum counts ≡ length edges = sym (sum_by-cons (λ x. x) count counts) ∙ whole in
    let rest : sum counts ≡ length (drop count edges) = omega (arith, length-drop count edges) in
    ap (λ k. k ∷ map (λ b. length b) (blocks_of counts (drop count edges))) (length-take-le count edges (omega arith))
    ∙ ap (λ x. count ∷ x) (lengths-blocks_of counts (drop count edges) rest)

-- what holds of all edges holds of those of each block
pub All-blocks_of : (P : Edge → Type 0) (counts : List ℕ) (edges : List Edge) → All P edges → (k : ℕ) → All P (get_or (blocks_of counts edges) k [])
All-blocks_of P [] edges all k = All-nil P
All-blocks_of P (count ∷ counts) edges all zero = All-take P count edges all
All-blocks_of P (count ∷ counts) edges all (suc k) = All-blocks_of P counts (drop count edges) (All-drop P count edges all) k

-- and what holds of those of each block holds of all
pub All-edges_of_grid : (P : Edge → Type 0) (blocks : List (List Edge)) → ((k : ℕ) → All P (get_or blocks k [])) → All P (edges_of_grid blocks)
All-edges_of_grid P [] all = All-nil P
All-edges_of_grid P (b ∷ blocks) all = All-append P b (edges_of_grid blocks) (all 0) (All-edges_of_grid P blocks (λ k. all (suc k)))

-- no edge of a block is found that isn't in it
none_in_block : (d : Dimensions) (block i : ℕ) (edges : List Edge) → All (λ e. is_in_block d block e ≡ true) edges
    → position_from (λ e. not (is_in_block d block e)) i edges ≡ None
none_in_block d block i [] all = refl
none_in_block d block i (e ∷ edges) all =
    let is = All-head (λ e. is_in_block d block e ≡ true) e edges all in
    ap (λ b. cond (not b) (Some i) (position_from (λ e. not (is_in_block d block e)) (i + 1) edges)) is
    ∙ none_in_block d block (i + 1) edges (All-tail (λ e. is_in_block d block e ≡ true) e edges all)

all_in_block : (d : Dimensions) (block i : ℕ) (edges : List Edge) → position_from (λ e. not (is_in_block d block e)) i edges ≡ None
    → All (λ e. is_in_block d block e ≡ true) edges
all_in_block d block i [] none = All-nil (λ e. is_in_block d block e ≡ true)
all_in_block d block i (e ∷ edges) none =
    let cases : (b : Bool) → cond (not b) (Some i) (position_from (λ e. not (is_in_block d block e)) (i + 1) edges) ≡ None
    → (b ≡ true) × (position_from (λ e. not (is_in_block d block e)) (i + 1) edges ≡ None) =
    λ b. elim b as (λ b. cond (not b) (Some i) (position_from (λ e. not (is_in_block d block e)) (i + 1) edges) ≡ None
    → (b ≡ true) × (position_from (λ e. not (is_in_block d block e)) (i + 1) edges ≡ None)) [
      | true ↦ λ h. (refl, h)
      | false ↦ λ h. absurd (none-some i (sym h))
    ] in
    let both = cases (is_in_block d block e) none in
    All-cons (λ e. is_in_block d block e ≡ true) e edges both.0 (all_in_block d block (i + 1) edges both.1)

-- where each edge is in its block none is found misplaced, counted from any number
none_misplaced_from : (d : Dimensions) (block i : ℕ) (blocks : List (List Edge))
    → ((k : ℕ) → All (λ e. is_in_block d (block + k) e ≡ true) (get_or blocks k []))
    → position_from (is_misplaced d) i (placed_edges block blocks) ≡ None
none_misplaced_from d block i [] all = refl
none_misplaced_from d block i (b ∷ blocks) all =
    let here : List (ℕ × Edge) = map (λ e. (block, e)) b in
    let now : position_from (is_misplaced d) i here ≡ None =
    position_from-in_block d block i b ∙ none_in_block d block i b (rw add-zero at (all 0)) in
    let then = none_misplaced_from d (block + 1) (i + length here) blocks
    (λ k. let e : block + suc k ≡ block + 1 + k = omega arith in rw (← e) (all (suc k))) in
    position_from-append (is_misplaced d) i here (placed_edges (block + 1) blocks)
    ∙ ap (λ o. option_or o (position_from (is_misplaced d) (i + length here) (placed_edges (block + 1) blocks))) now
    ∙ then

-- and where none is found misplaced each is in its block
all_placed_from : (d : Dimensions) (block i : ℕ) (blocks : List (List Edge))
    → position_from (is_misplaced d) i (placed_edges block blocks) ≡ None
    → (k : ℕ) → All (λ e. is_in_block d (block + k) e ≡ true) (get_or blocks k [])
all_placed_from d block i [] none k = All-nil (λ e. is_in_block d (block + k) e ≡ true)
all_placed_from d block i (b ∷ blocks) none zero =
    let here : List (ℕ × Edge) = map (λ e. (block, e)) b in
    let both = option_or-split (position_from (is_misplaced d) i here) (position_from (is_misplaced d) (i + length here) (placed_edges (block + 1) blocks))
    (sym (position_from-append (is_misplaced d) i here (placed_edges (block + 1) blocks)) ∙ none) in
    rw add-zero (all_in_block d block i b (sym (position_from-in_block d block i b) ∙ both.0))
all_placed_from d block i (b ∷ blocks) none (suc k) =
    let here : List (ℕ × Edge) = map (λ e. (block, e)) b in
    let both = option_or-split (position_from (is_misplaced d) i here) (position_from (is_misplaced d) (i + length here) (placed_edges (block + 1) blocks))
    (sym (position_from-append (is_misplaced d) i here (placed_edges (block + 1) blocks)) ∙ none) in
    let e : block + suc k ≡ block + 1 + k = omega arith in
    rw e (all_placed_from d (block + 1) (i + length here) blocks both.1 k)

-- the same counted from 0
pub none_misplaced : (d : Dimensions) (blocks : List (List Edge)) → ((k : ℕ) → All (λ e. is_in_block d k e ≡ true) (get_or blocks k []))
    → position (is_misplaced d) (placed_edges 0 blocks) ≡ None
none_misplaced d blocks all =
    position_from-zero (is_misplaced d) (placed_edges 0 blocks)
    ∙ none_misplaced_from d 0 0 blocks (λ k. let e : 0 + k ≡ k = omega arith in rw e (all k))

pub all_placed : (d : Dimensions) (blocks : List (List Edge)) → position (is_misplaced d) (placed_edges 0 blocks) ≡ None
    → (k : ℕ) → All (λ e. is_in_block d k e ≡ true) (get_or blocks k [])
all_placed d blocks none k =
    let e : 0 + k ≡ k = omega arith in
    rw e at (all_placed_from d 0 0 blocks (sym (position_from-zero (is_misplaced d) (placed_edges 0 blocks)) ∙ none) k)
