-- What proofs need of graphs as lists of edges: lists that are the same graph, and sums into which each edge's gifts are joined.
use Rattle.std.specs.Prelude.{◌≡◌, ℕ, ◌+◌, ◌<◌, Bool, true, false, cond, ◌==◌, List, [], ◌∷◌, ◌++◌, fold, flat_map, count_by, refl}
use Rattle.std.proofs.Common.{inl, inr, sym, ap, ◌∙◌, subst, arith}
use Rattle.std.proofs.lemmas.Bool.{cases_Bool, and_parts, and_from, eqb-true, eq-eqb, cond-false}
use Rattle.std.proofs.lemmas.List.Sums.{fold-append, sum_by-cons, sum_by-append}
use Rattle.std.proofs.lemmas.List.Concat.{flat_map-append}
use Rattle.gm_base.specs.declared.edge.Edge.{Edge}
use Rattle.gm_base.specs.Graph.{edge, is_same_edge, IsSameGraph, out_degree}

-- numbers may be joined in any order
pub record JoinLaws (join : ℕ → ℕ → ℕ) : Type 0 where
  pub commutes : (a b : ℕ) → join a b ≡ join b a
  pub associates : (a b c : ℕ) → join (join a b) c ≡ join a (join b c)

-- the second of two numbers first
join_swap : (join : ℕ → ℕ → ℕ) → JoinLaws join → (s a b : ℕ) → join (join s a) b ≡ join (join s b) a
join_swap join laws s a b = laws.associates s a b ∙ ap (join s) (laws.commutes a b) ∙ sym (laws.associates s b a)

-- a number before the others or after them
pub join_moves : (join : ℕ → ℕ → ℕ) → JoinLaws join → (gifts : List ℕ) (s a : ℕ) → fold join (join s a) gifts ≡ join (fold join s gifts) a
join_moves join laws [] s a = refl
join_moves join laws (g ∷ gifts) s a =
    ap (λ t. fold join t gifts) (join_swap join laws s a g) ∙ join_moves join laws gifts (join s g) a

-- two lists of numbers, either first
pub folds_commute : (join : ℕ → ℕ → ℕ) → JoinLaws join → (xs ys : List ℕ) (s : ℕ)
    → fold join (fold join s xs) ys ≡ fold join (fold join s ys) xs
folds_commute join laws [] ys s = refl
folds_commute join laws (x ∷ xs) ys s =
    folds_commute join laws xs ys (join s x) ∙ ap (λ t. fold join t xs) (join_moves join laws ys s x)

same_edge_refl : (e : Edge) → is_same_edge e e ≡ true
same_edge_refl e =
    and_from _ _ (and_from _ _ (eq-eqb e.from e.from refl) (eq-eqb e.to e.to refl)) (eq-eqb e.weight e.weight refl)

pub same_edge_is : (a b : Edge) → is_same_edge a b ≡ true → a ≡ b
same_edge_is a b h =
    let ends_and_weight = and_parts _ _ h in
    let ends = and_parts _ _ ends_and_weight.0 in
    ap (λ n. edge n a.to a.weight) (eqb-true a.from b.from ends.0)
    ∙ ap (λ n. edge b.from n a.weight) (eqb-true a.to b.to ends.1)
    ∙ ap (λ n. edge b.from b.to n) (eqb-true a.weight b.weight ends_and_weight.1)

-- how often an edge stands in a list
abbrev pub count_of : Edge → List Edge → ℕ
count_of e xs = count_by (is_same_edge e) xs

pub count_of-cons : (e x : Edge) (xs : List Edge) → count_of e (x ∷ xs) ≡ cond (is_same_edge e x) 1 0 + count_of e xs
count_of-cons e x xs = sum_by-cons (λ y. cond (is_same_edge e y) 1 0) x xs

pub count_of-append : (e : Edge) (xs ys : List Edge) → count_of e (xs ++ ys) ≡ count_of e xs + count_of e ys
count_of-append e xs ys = sum_by-append (λ y. cond (is_same_edge e y) 1 0) xs ys

counts_itself : (x : Edge) (xs : List Edge) → count_of x (x ∷ xs) ≡ 1 + count_of x xs
counts_itself x xs = count_of-cons x x xs ∙ ap (λ b. cond b 1 0 + count_of x xs) (same_edge_refl x)

pub same_graph-symmetric : (xs ys : List Edge) → IsSameGraph xs ys → IsSameGraph ys xs
same_graph-symmetric xs ys same e = sym (same e)

pub same_graph-transitive : (xs ys zs : List Edge) → IsSameGraph xs ys → IsSameGraph ys zs → IsSameGraph xs zs
same_graph-transitive xs ys zs first second e = first e ∙ second e

pub same_graph-append : (xs ys us vs : List Edge) → IsSameGraph xs ys → IsSameGraph us vs → IsSameGraph (xs ++ us) (ys ++ vs)
same_graph-append xs ys us vs first second e =
    let left = count_of-append e xs us in
    let right = count_of-append e ys vs in
    let front = first e in
    let back = second e in
    omega arith

pub same_graph-swapped : (xs ys : List Edge) → IsSameGraph (xs ++ ys) (ys ++ xs)
same_graph-swapped xs ys e =
    let left = count_of-append e xs ys in
    let right = count_of-append e ys xs in
    omega arith

-- where an edge stands in a list
record Place (e : Edge) (xs : List Edge) : Type 0 where
  before : List Edge
  after : List Edge
  is : xs ≡ before ++ e ∷ after

place_of : (e : Edge) (xs : List Edge) → 0 < count_of e xs → Place e xs
place_of e [] some = absurd (omega arith)
place_of e (x ∷ xs) some =
    elim (cases_Bool (is_same_edge e x)) as (λ _. Place e (x ∷ xs)) [
      | inl here ↦ record { before = []; after = xs; is = ap (λ y. y ∷ xs) (sym (same_edge_is e x here)) }
      | inr other ↦
          let counted : count_of e (x ∷ xs) ≡ count_of e xs = count_of-cons e x xs ∙ ap (λ n. n + count_of e xs) (cond-false (is_same_edge e x) 1 0 other) ∙ omega arith in
          let later = place_of e xs (omega arith) in
          record { before = x ∷ later.before; after = later.after; is = ap (λ ys. x ∷ ys) later.is }
    ]

-- the first edge's place in the other list
place_in_same : (x : Edge) (xs ys : List Edge) → IsSameGraph (x ∷ xs) ys → Place x ys
place_in_same x xs ys same =
    let counted : count_of x ys ≡ 1 + count_of x xs = sym (same x) ∙ counts_itself x xs in
    place_of x ys (omega arith)

-- what is left without that edge
same_without : (x : Edge) (xs before after : List Edge) → IsSameGraph (x ∷ xs) (before ++ x ∷ after) → IsSameGraph xs (before ++ after)
same_without x xs before after same e =
    let left = count_of-cons e x xs in
    let right = count_of-append e before (x ∷ after) in
    let last = count_of-cons e x after in
    let joined = count_of-append e before after in
    let equal = same e in
    omega arith

-- no list of edges but the empty one has no edge
empty_same : (ys : List Edge) → IsSameGraph [] ys → ys ≡ []
empty_same [] same = refl
empty_same (y ∷ ys) same =
    let counted : 0 ≡ 1 + count_of y ys = same y ∙ counts_itself y ys in
    absurd (omega arith)

-- each edge's gifts joined, over one list or over another that is the same graph
pub same_graph-folds : (join : ℕ → ℕ → ℕ) → JoinLaws join → (gifts : Edge → List ℕ) (xs ys : List Edge) (s : ℕ) → IsSameGraph xs ys
    → fold join s (flat_map gifts xs) ≡ fold join s (flat_map gifts ys)
same_graph-folds join laws gifts [] ys s same = ap (λ zs. fold join s (flat_map gifts zs)) (sym (empty_same ys same))
same_graph-folds join laws gifts (x ∷ xs) ys s same =
    let place = place_in_same x xs ys same in
    let moved : IsSameGraph (x ∷ xs) (place.before ++ x ∷ place.after) = subst (λ (zs : List Edge). IsSameGraph (x ∷ xs) zs) place.is same in
    let start = fold join s (gifts x) in
    let sums = λ (zs : List Edge) (t : ℕ). fold join t (flat_map gifts zs) in
    let first : sums (x ∷ xs) s ≡ sums xs start = fold-append join s (gifts x) (flat_map gifts xs) in
    let rest : sums xs start ≡ sums (place.before ++ place.after) start =
    same_graph-folds join laws gifts xs (place.before ++ place.after) start (same_without x xs place.before place.after moved) in
    let cut : (zs ws : List Edge) (t : ℕ) → sums (zs ++ ws) t ≡ sums ws (sums zs t) =
    λ zs ws t. ap (fold join t) (flat_map-append gifts zs ws) ∙ fold-append join t (flat_map gifts zs) (flat_map gifts ws) in
    let swap : sums place.before start ≡ fold join (sums place.before s) (gifts x) = folds_commute join laws (gifts x) (flat_map gifts place.before) s in
    let back : sums (x ∷ place.after) (sums place.before s) ≡ sums place.after (fold join (sums place.before s) (gifts x)) =
    fold-append join (sums place.before s) (gifts x) (flat_map gifts place.after) in
    first ∙ rest ∙ cut place.before place.after start ∙ ap (sums place.after) swap ∙ sym back
    ∙ sym (cut place.before (x ∷ place.after) s) ∙ ap (λ zs. sums zs s) (sym place.is)

-- one for each edge that leaves the vertex
leaves : ℕ → Edge → List ℕ
leaves v e = cond (e.from == v) (1 ∷ []) []

counted_leaving : (v : ℕ) (xs : List Edge) (s : ℕ) → fold (λ a b. a + b) s (flat_map (leaves v) xs) ≡ s + out_degree xs v
unfolding leaves
counted_leaving v [] s = omega arith
counted_leaving v (e ∷ xs) s =
    let rest = flat_map (leaves v) xs in
    let goal_at = λ (b : Bool). fold (λ a b. a + b) s (cond b (1 ∷ []) [] ++ rest) ≡ s + (cond b 1 0 + out_degree xs v) in
    let at : (b : Bool) → goal_at b = elim [
      | true ↦ let ih = counted_leaving v xs (s + 1) in ih ∙ omega arith
      | false ↦ let ih = counted_leaving v xs s in ih ∙ omega arith
    ] in
    at (e.from == v) ∙ ap (λ d. s + d) (sym (sum_by-cons (λ (x : Edge). cond (x.from == v) 1 0) e xs))

-- the same graph has the same out-degrees
pub out_degree-same : (xs ys : List Edge) → IsSameGraph xs ys → (v : ℕ) → out_degree xs v ≡ out_degree ys v
out_degree-same xs ys same v =
    let a = counted_leaving v xs 0 in
    let b = counted_leaving v ys 0 in
    let s = same_graph-folds (λ a b. a + b) (record { commutes = λ a b. omega arith; associates = λ a b c. omega arith }) (leaves v) xs ys 0 same in
    omega arith

pub out_degree-append : (xs ys : List Edge) (v : ℕ) → out_degree (xs ++ ys) v ≡ out_degree xs v + out_degree ys v
out_degree-append xs ys v = sum_by-append (λ (x : Edge). cond (x.from == v) 1 0) xs ys

-- lists that are the same graph
pub ruleset same_graphs = (same_graph-symmetric, same_graph-transitive, same_graph-append, same_graph-swapped, out_degree-same, out_degree-append)
