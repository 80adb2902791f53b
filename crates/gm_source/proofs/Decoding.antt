-- Edges that are decoded up to the first stray one.
use Rattle.std.proofs.Common.{◌≡◌, ℕ, ◌+◌, ◌<◌, ◌≤◌, Bool, true, false, cond, not, List, [], ◌∷◌, ◌++◌, length, map, take, drop, get_or, Option, Some, None, refl, sym, ap, ◌∙◌, arith}
use Rattle.std.specs.Prelude.{slice_get}
use Rattle.std.specs.Prelude.{is_some, ◌&&◌, ◌==◌, nat_lt, All}
use Rattle.std.specs.List.{position, position_from, AllByRecursion}
use Rattle.std.proofs.lemmas.Bool.{ltb-true, eqb-true}
use Rattle.std.proofs.lemmas.List.Elements.{All-weaker, All-from_recursion}
use Rattle.std.proofs.lemmas.Iterator.Adapters.{position_from-zero}
use Rattle.std.proofs.lemmas.List.{drop_more, drop_all, take_all, take_more, length-map, length-take-le, get_or-map}
use Rattle.std.proofs.lemmas.Option.{slice_get-get_or}
use Rattle.gm_base.specs.declared.edge.Edge.{Edge}
use Rattle.gm_base.specs.Dimensions.{Dimensions, block_of}
use Rattle.gm_base.specs.Graph.{HasEndsBelow}
use Rattle.gm_grid.specs.Format.{is_in_block}
use Rattle.gm_source.specs.Openings.{Decodes}

abbrev pub no_edge : Edge
no_edge = record { from = 0; to = 0; weight = 0 }

-- so many edges are decoded, and the first stray one is looked for among the others
pub record DecodesUpTo (is_in : Edge → Bool) (all kept : List Edge) (index : ℕ) : Type 0 where
  pub kept_are : kept ≡ take index all
  pub rest : position_from (λ e. not (is_in e)) index (drop index all) ≡ position (λ e. not (is_in e)) all

pub decodes-none : (is_in : Edge → Bool) (all : List Edge) → DecodesUpTo is_in all [] 0
decodes-none is_in all = record { kept_are = refl; rest = sym (position_from-zero (λ e. not (is_in e)) all) }

next_of : (is_in : Edge → Bool) (all : List Edge) (index : ℕ) → index < length all
    → position_from (λ e. not (is_in e)) index (drop index all)
    ≡ cond (not (is_in (get_or all index no_edge))) (Some index) (position_from (λ e. not (is_in e)) (index + 1) (drop (index + 1) all))
next_of is_in all index within = ap (position_from (λ e. not (is_in e)) index) (drop_more all index no_edge within)

pub decodes-next : (is_in : Edge → Bool) (all kept : List Edge) (index : ℕ) (e : Edge) → index < length all → e ≡ get_or all index no_edge
    → is_in e ≡ true → DecodesUpTo is_in all kept index → DecodesUpTo is_in all (kept ++ e ∷ []) (index + 1)
decodes-next is_in all kept index e within is inside so_far = record {
  kept_are = (λ i. so_far.kept_are i ++ is i ∷ []) ∙ sym (take_more all index no_edge within);
  rest =
      sym (ap (λ b. cond (not b) (Some index) (position_from (λ e. not (is_in e)) (index + 1) (drop (index + 1) all))) (ap is_in (sym is) ∙ inside))
      ∙ sym (next_of is_in all index within)
      ∙ so_far.rest;
}

pub decodes-stray : (is_in : Edge → Bool) (all kept : List Edge) (index : ℕ) (e : Edge) → index < length all → e ≡ get_or all index no_edge
    → is_in e ≡ false → DecodesUpTo is_in all kept index → Decodes is_in all kept (Some e)
decodes-stray is_in all kept index e within is outside so_far =
    let long : length kept ≡ index = ap length so_far.kept_are ∙ length-take-le index all (omega arith) in (
      sym so_far.rest
          ∙ next_of is_in all index within
          ∙ ap (λ b. cond (not b) (Some index) (position_from (λ e. not (is_in e)) (index + 1) (drop (index + 1) all))) (ap is_in (sym is) ∙ outside)
          ∙ ap Some (sym long),
      ap (slice_get all) long ∙ slice_get-get_or all index no_edge within ∙ ap Some (sym is),
    )

pub decodes-all : (is_in : Edge → Bool) (all kept : List Edge) (index : ℕ) → length all ≤ index
    → DecodesUpTo is_in all kept index → Decodes is_in all kept None
decodes-all is_in all kept index past so_far = (
  so_far.kept_are ∙ take_all index all past,
  sym so_far.rest ∙ ap (position_from (λ e. not (is_in e)) index) (drop_all index all past),
)

-- the edge of so many bytes
pub decoded_at : {B : Type 0} (f : B → Edge) (all : List B) (index : ℕ) (none : B) (e : Edge) → index < length all → e ≡ f (get_or all index none)
    → e ≡ get_or (map f all) index no_edge
decoded_at f all index none e within is = is ∙ sym (get_or-map f all index none no_edge within)

pub within_map : {B : Type 0} (f : B → Edge) (all : List B) (index : ℕ) → index < length all → index < length (map f all)
within_map f all index within = let long = length-map all f in omega arith

none_from : (p : Edge → Bool) (i : ℕ) (xs : List Edge) → position_from p i xs ≡ None → AllByRecursion (λ x. p x ≡ false) xs
none_from p i [] none = tt
none_from p i (x ∷ xs) none = by_test (p x) refl none (none_from p (i + 1) xs)
  where
    by_test : (b : Bool) → p x ≡ b → cond b (Some i) (position_from p (i + 1) xs) ≡ None
        → (position_from p (i + 1) xs ≡ None → AllByRecursion (λ y. p y ≡ false) xs) → (p x ≡ false) × AllByRecursion (λ y. p y ≡ false) xs
    by_test true is none rest = absurd cc
    by_test false is none rest = (is, rest none)

not_false : (b : Bool) → not b ≡ false → b ≡ true
not_false true e = refl
not_false false e = absurd cc

-- where no edge is stray, all are in
pub all_in : (is_in : Edge → Bool) (edges : List Edge) → position (λ e. not (is_in e)) edges ≡ None → All (λ e. is_in e ≡ true) edges
all_in is_in edges none =
    All-weaker (λ e. not (is_in e) ≡ false) (λ e. is_in e ≡ true) (λ e. not_false (is_in e)) edges
    (All-from_recursion (λ e. not (is_in e) ≡ false) edges (none_from (λ e. not (is_in e)) 0 edges (sym (position_from-zero (λ e. not (is_in e)) edges) ∙ none)))

-- an edge of a block has its ends below n, and lies in the block
pub in_block-means : (d : Dimensions) (block : ℕ) (e : Edge) → is_in_block d block e ≡ true → HasEndsBelow d.n e × (block_of d e ≡ block)
in_block-means d block e is =
    let all = and_split (nat_lt e.from d.n && nat_lt e.to d.n) (block_of d e == block) is in
    let ends = and_split (nat_lt e.from d.n) (nat_lt e.to d.n) all.0 in
    ((ltb-true e.from d.n ends.0, ltb-true e.to d.n ends.1), eqb-true (block_of d e) block all.1)
  where
    and_split : (a b : Bool) → (a && b) ≡ true → (a ≡ true) × (b ≡ true)
    and_split true true is = (refl, refl)
    and_split true false is = absurd cc
    and_split false true is = absurd cc
    and_split false false is = absurd cc

pub none_of_test : (stray : Option Edge) → is_some stray ≡ false → stray ≡ None
none_of_test None none = refl
none_of_test (Some e) none = absurd cc

-- by whether a stray edge was answered
pub no_stray : (is_in : Edge → Bool) (read kept : List Edge) (stray : Option Edge) → is_some stray ≡ false → Decodes is_in read kept stray
    → Decodes is_in read kept None
no_stray is_in read kept None none decoded = decoded
no_stray is_in read kept (Some e) none decoded = absurd cc

pub a_stray : (is_in : Edge → Bool) (read kept : List Edge) (stray : Option Edge) → is_some stray ≡ true → Decodes is_in read kept stray
    → position (λ e. not (is_in e)) read ≡ Some (length kept)
a_stray is_in read kept None some decoded = absurd cc
a_stray is_in read kept (Some e) some decoded = decoded.0
