-- Gifts that stand in lists: which edge and which vertex each comes from, and sums that have it in them.
use Rattle.std.specs.Prelude.{◌≡◌, ℕ, Bool, true, false, ◌&&◌, cond, ◌==◌, List, [], ◌∷◌, ◌++◌, ◌⊎◌, fold, flat_map, refl}
use Rattle.std.proofs.Common.{inl, inr, sym, ap, ◌∙◌, subst}
use Rattle.std.specs.List.{AllByRecursion}
use Rattle.std.proofs.lemmas.Bool.{and_parts}
use Rattle.gm_base.specs.declared.edge.Edge.{Edge}
use Rattle.gm_base.specs.GraphRules.{JoinLaws, join_moves}
use Rattle.gm_kernel.specs.Kernels.{Kernel}
use Rattle.gm_kernel.specs.Runs.{gift_from, gifts_of_edge}

-- x stands in the list
abbrev pub StandsIn : {X : Type 0} → X → List X → Type 0
StandsIn x [] = ⊥
StandsIn x (y ∷ ys) = (x ≡ y) ⊎ StandsIn x ys

pub StandsIn-append_left : {X : Type 0} (x : X) (xs ys : List X) → StandsIn x xs → StandsIn x (xs ++ ys)
StandsIn-append_left x [] ys h = absurd h
StandsIn-append_left x (y ∷ xs) ys h = elim h as (λ _. StandsIn x ((y ∷ xs) ++ ys)) [ inl e ↦ inl e | inr m ↦ inr (StandsIn-append_left x xs ys m) ]

pub StandsIn-append_right : {X : Type 0} (x : X) (xs ys : List X) → StandsIn x ys → StandsIn x (xs ++ ys)
StandsIn-append_right x [] ys h = h
StandsIn-append_right x (y ∷ xs) ys h = inr (StandsIn-append_right x xs ys h)

StandsIn-append_cases : {X : Type 0} (x : X) (xs ys : List X) → StandsIn x (xs ++ ys) → StandsIn x xs ⊎ StandsIn x ys
StandsIn-append_cases x [] ys h = inr h
StandsIn-append_cases x (y ∷ xs) ys h =
    elim h as (λ _. StandsIn x (y ∷ xs) ⊎ StandsIn x ys) [
      | inl e ↦ inl (inl e)
      | inr m ↦ elim (StandsIn-append_cases x xs ys m) as (λ _. StandsIn x (y ∷ xs) ⊎ StandsIn x ys) [ inl l ↦ inl (inr l) | inr r ↦ inr r ]
    ]

pub All-in : {X : Type 0} (P : X → Type 0) (xs : List X) (x : X) → AllByRecursion P xs → StandsIn x xs → P x
All-in P [] x all h = absurd h
All-in P (y ∷ ys) x all h = elim h as (λ _. P x) [ inl e ↦ subst P (sym e) all.0 | inr m ↦ All-in P ys x all.1 m ]

-- a sum after a gift is some sum joined with it
pub record HasInIt (k : Kernel) (sum gift : ℕ) : Type 0 where
  pub rest : ℕ
  pub is : sum ≡ k.join_values rest gift

pub fold_has_in_it : (k : Kernel) → JoinLaws k.join_values → (gifts : List ℕ) (s g : ℕ) → StandsIn g gifts → HasInIt k (fold k.join_values s gifts) g
fold_has_in_it k laws [] s g h = absurd h
fold_has_in_it k laws (x ∷ gifts) s g h =
    elim h as (λ _. HasInIt k (fold k.join_values s (x ∷ gifts)) g) [
      | inl e ↦ record {
        rest = fold k.join_values s gifts;
        is = ap (λ t. fold k.join_values (k.join_values s t) gifts) (sym e) ∙ join_moves k.join_values laws gifts s g;
      }
      | inr m ↦ fold_has_in_it k laws gifts (k.join_values s x) g m
    ]

-- what each join keeps, all of them keep
pub fold_keeps : (P : ℕ → Type 0) (join : ℕ → ℕ → ℕ) (gifts : List ℕ) (s : ℕ)
    → P s → ((t g : ℕ) → StandsIn g gifts → P t → P (join t g)) → P (fold join s gifts)
fold_keeps P join [] s start each = start
fold_keeps P join (g ∷ gifts) s start each =
    fold_keeps P join gifts (join s g) (each s g (inl refl) start) (λ t x m. each t x (inr m))

-- the edge that a gift comes from
pub record FromEdge (gifts : Edge → List ℕ) (xs : List Edge) (g : ℕ) : Type 0 where
  pub e : Edge
  pub stands : StandsIn e xs
  pub gives : StandsIn g (gifts e)

pub from_edge : (gifts : Edge → List ℕ) (xs : List Edge) (g : ℕ) → StandsIn g (flat_map gifts xs) → FromEdge gifts xs g
from_edge gifts [] g h = absurd h
from_edge gifts (x ∷ xs) g h =
    elim (StandsIn-append_cases g (gifts x) (flat_map gifts xs) h) as (λ _. FromEdge gifts (x ∷ xs) g) [
      | inl here ↦ record { e = x; stands = inl refl; gives = here }
      | inr later ↦ let r = from_edge gifts xs g later in record { e = r.e; stands = inr r.stands; gives = r.gives }
    ]

pub to_gifts : (gifts : Edge → List ℕ) (xs : List Edge) (e : Edge) (g : ℕ) → StandsIn e xs → StandsIn g (gifts e) → StandsIn g (flat_map gifts xs)
to_gifts gifts [] e g h m = absurd h
to_gifts gifts (x ∷ xs) e g h m =
    elim h as (λ _. StandsIn g (flat_map gifts (x ∷ xs))) [
      | inl same ↦ StandsIn-append_left g (gifts x) (flat_map gifts xs) (subst (λ (y : Edge). StandsIn g (gifts y)) same m)
      | inr later ↦ StandsIn-append_right g (gifts x) (flat_map gifts xs) (to_gifts gifts xs e g later m)
    ]

-- a gift of an edge: its giver, which is the source or in a two-way kernel the destination. By other values the giver gives over it too
pub record Gift (k : Kernel) (degree_of : ℕ → ℕ) (values : List ℕ) (v : ℕ) (e : Edge) (g : ℕ) : Type 0 where
  pub giver : ℕ
  pub end : (giver ≡ e.from) ⊎ ((k.is_two_way ≡ true) × (giver ≡ e.to))
  pub is : g ≡ gift_from k degree_of values giver e.weight
  pub otherwise : (others : List ℕ) → StandsIn (gift_from k degree_of others giver e.weight) (gifts_of_edge k degree_of others v e)

one_gift : (b : Bool) (g x y : ℕ) → StandsIn g (cond b (x ∷ []) []) → (b ≡ true) × (g ≡ x) × StandsIn y (cond b (y ∷ []) [])
one_gift true g x y h = elim h as (λ _. (true ≡ true) × (g ≡ x) × StandsIn y (y ∷ [])) [ inl e ↦ (refl, e, inl refl) | inr m ↦ absurd m ]
one_gift false g x y h = absurd h

pub gift_of : (k : Kernel) (degree_of : ℕ → ℕ) (values : List ℕ) (v : ℕ) (e : Edge) (g : ℕ)
    → StandsIn g (gifts_of_edge k degree_of values v e) → Gift k degree_of values v e g
gift_of k degree_of values v e g h =
    let gift = λ (xs : List ℕ) (u : ℕ). gift_from k degree_of xs u e.weight in
    let along = λ (xs : List ℕ). cond (e.to == v) (gift xs e.from ∷ []) [] in
    let back = λ (xs : List ℕ). cond (k.is_two_way && (e.from == v)) (gift xs e.to ∷ []) [] in
    elim (StandsIn-append_cases g (along values) (back values) h) as (λ _. Gift k degree_of values v e g) [
      | inl m ↦
          let one = λ (others : List ℕ). one_gift (e.to == v) g (gift values e.from) (gift others e.from) m in
          record {
            giver = e.from;
            end = inl refl;
            is = (one values).1;
            otherwise = λ others. StandsIn-append_left _ (along others) (back others) (one others).2;
          }
      | inr m ↦
          let one = λ (others : List ℕ). one_gift (k.is_two_way && (e.from == v)) g (gift values e.to) (gift others e.to) m in
          let both = and_parts k.is_two_way (e.from == v) (one values).0 in
          record {
            giver = e.to;
            end = inr (both.0, refl);
            is = (one values).1;
            otherwise = λ others. StandsIn-append_right _ (along others) (back others) (one others).2;
          }
    ]
