-- A kernel that keeps the least value, and whose gifts are never less than what gives them, is settled after as many rounds as there
-- are vertices. A value that changed in a round came from a giver whose value changed in the round before, and so on back to the first
-- round. No vertex stands twice in that chain, since along it values don't fall, while at a vertex that changes they do.
use Rattle.std.specs.Prelude.{◌≡◌, ℕ, zero, suc, ◌+◌, ◌-◌, ◌<◌, ◌≤◌, min, Bool, true, false, List, [], ◌∷◌, length, slice_index, fold, find, Option, Some, None, refl}
use Rattle.std.specs.List.{AllByRecursion, IsDistinct, list_any, range_with_len}
use Rattle.std.proofs.Common.{eqb, inl, inr, sym, ap, ◌∙◌, subst, arith}
use Rattle.std.proofs.lemmas.Bool.{cases_lt, cases_Bool, eqb-true, ne_eqb, or_cases, both_ways, cond-true, cond-false}
use Rattle.std.proofs.lemmas.Grind.{same_number_lists}
use Rattle.std.proofs.lemmas.List.Elements.{recursion_from_All}
use Rattle.std.proofs.lemmas.Map.Steps.{length-le_from_distinct_below}
use Rattle.std.proofs.lemmas.Slice.Eq.{bytes_eq-Decides}
use Rattle.gm_base.specs.declared.limits.TheConstants.{TOP}
use Rattle.gm_base.specs.declared.edge.Edge.{Edge}
use Rattle.gm_base.specs.declared.job.Spec.{Spec}
use Rattle.gm_base.specs.declared.job.Spec.TheVariants.{Bfs, Sssp, Wcc, Rank}
use Rattle.gm_base.specs.declared.job.Outcome.TheVariants.{Done, Rounds}
use Rattle.gm_base.specs.Graph.{HasEndsBelow, IsGraph, out_degree}
use Rattle.gm_kernel.specs.Kernels.{Kernel, kernel_of, least_kernel, from_source, sum_to_top}
use Rattle.gm_kernel.specs.KernelsRules.{from_source-le}
use Rattle.gm_kernel.specs.Runs.{gifts_to, gifts_of_edge, values_after, is_settled_by, outcome_at, settled_run, lone_run, most_rounds, Settles}
use Rattle.gm_kernel.specs.GiftsRules.{StandsIn, All-in, from_edge, to_gifts, gift_of}
use Rattle.gm_kernel.specs.RunsRules.{slice_index-round_of, length-values_after, slice_index-values_after}

fold_min-le : (gs : List ℕ) (s : ℕ) → fold min s gs ≤ s
fold_min-le [] s = omega arith
fold_min-le (g ∷ gs) s = let ih = fold_min-le gs (min s g) in omega arith

fold_min-le-in : (gs : List ℕ) (s g : ℕ) → StandsIn g gs → fold min s gs ≤ g
fold_min-le-in [] s g h = absurd h
fold_min-le-in (x ∷ gs) s g h =
    elim h as (λ _. fold min s (x ∷ gs) ≤ g) [
      | inl e ↦ let ih = fold_min-le gs (min s x) in omega arith
      | inr m ↦ fold_min-le-in gs (min s x) g m
    ]

-- a least value that isn't the first one is one of the others
fold_min-in : (gs : List ℕ) (s : ℕ) → fold min s gs < s → StandsIn (fold min s gs) gs
fold_min-in [] s h = absurd (omega arith)
fold_min-in (x ∷ gs) s h =
    elim (cases_lt (fold min (min s x) gs) (min s x)) as (λ _. StandsIn (fold min s (x ∷ gs)) (x ∷ gs)) [
      | inl less ↦ inr (fold_min-in gs (min s x) less)
      | inr same ↦ let bound = fold_min-le gs (min s x) in inl (omega arith)
    ]

All-map : {X : Type 0} (P Q : X → Type 0) (xs : List X) → ((x : X) → P x → Q x) → AllByRecursion P xs → AllByRecursion Q xs
All-map P Q [] each all = tt
All-map P Q (x ∷ xs) each all = (each x all.0, All-map P Q xs each all.1)

-- such a kernel on a graph of n vertices
record Setting : Type 0 where
  initial : ℕ → ℕ
  gift : ℕ → ℕ → ℕ
  two_way : Bool
  n : ℕ
  edges : List Edge
  limit : ℕ
  starts_within : (v : ℕ) → v < n → initial v ≤ limit
  gifts_grow : (x weight : ℕ) → x ≤ limit → x ≤ gift x weight
  graph : AllByRecursion (HasEndsBelow n) edges

abbrev kernel_in : Setting → Kernel
kernel_in c = least_kernel c.initial c.gift c.two_way

abbrev values_in : Setting → ℕ → List ℕ
values_in c k = values_after (kernel_in c) c.n c.edges k

-- v's value after k rounds
abbrev at : Setting → ℕ → ℕ → ℕ
at c k v = slice_index (values_in c k) v

length-values_in : (c : Setting) (k : ℕ) → length (values_in c k) ≡ c.n
length-values_in c k = length-values_after (kernel_in c) c.n c.edges k

abbrev gifts_in : Setting → ℕ → ℕ → List ℕ
gifts_in c k v = gifts_to (kernel_in c) (out_degree c.edges) (values_in c k) c.edges v

at_next : (c : Setting) (k v : ℕ) → v < c.n → at c (suc k) v ≡ fold min (at c k v) (gifts_in c k v)
unfolding values_after
at_next c k v h =
    let within : v < length (values_in c k) = let long = length-values_in c k in omega arith in
    slice_index-round_of (kernel_in c) c.edges (values_in c k) v within

falls : (c : Setting) (k v : ℕ) → v < c.n → at c (suc k) v ≤ at c k v
falls c k v h = let next = at_next c k v h in let least = fold_min-le (gifts_in c k v) (at c k v) in omega arith

within_limit : (c : Setting) (k v : ℕ) → v < c.n → at c k v ≤ c.limit
within_limit c zero v h = let start = slice_index-values_after (kernel_in c) c.n c.edges v h in let small = c.starts_within v h in omega arith
within_limit c (suc k) v h = let before = within_limit c k v h in let less = falls c k v h in omega arith

-- v's value is another than in the round before
abbrev Changed : Setting → ℕ → ℕ → Type 0
Changed c zero v = Unit {0}
Changed c (suc k) v = at c (suc k) v < at c k v

record Source (c : Setting) (k v : ℕ) : Type 0 where
  giver : ℕ
  below : giver < c.n
  less : at c k giver ≤ at c (suc k) v
  changed : Changed c k giver

changed_giver : (c : Setting) (k v u weight : ℕ) (e : Edge)
    → v < c.n → u < c.n → StandsIn e c.edges
    → at c (suc k) v ≡ c.gift (at c k u) weight
    → at c (suc k) v < at c k v
    → ((j : ℕ) → k ≡ suc j → StandsIn (c.gift (at c j u) weight) (gifts_in c j v))
    → Changed c k u
changed_giver c zero v u weight e below_v below_u stands is less gave = tt
changed_giver c (suc j) v u weight e below_v below_u stands is less gave =
    elim (cases_lt (at c (suc j) u) (at c j u)) as (λ _. at c (suc j) u < at c j u) [
      | inl changed ↦ changed
      | inr same ↦
          let fell = falls c j u below_u in
          let equal : at c (suc j) u ≡ at c j u = omega arith in
          let same_gift : c.gift (at c (suc j) u) weight ≡ c.gift (at c j u) weight =
          ap (λ x. c.gift x weight) equal in
          let had = fold_min-le-in (gifts_in c j v) (at c j v) _ (gave j refl) in
          let next = at_next c j v below_v in
          absurd (omega arith)
    ]

source_of : (c : Setting) (k v : ℕ) → v < c.n → at c (suc k) v < at c k v → Source c k v
source_of c k v below less =
    let kernel = kernel_in c in
    let degree_of = out_degree c.edges in
    let next = at_next c k v below in
    let joined : StandsIn (fold min (at c k v) (gifts_in c k v)) (gifts_in c k v) = fold_min-in (gifts_in c k v) (at c k v) (omega arith) in
    let gift : StandsIn (at c (suc k) v) (gifts_in c k v) = subst (λ (g : ℕ). StandsIn g (gifts_in c k v)) (sym next) joined in
    let from = from_edge (gifts_of_edge kernel degree_of (values_in c k) v) c.edges (at c (suc k) v) gift in
    let ends = All-in (HasEndsBelow c.n) c.edges from.e c.graph from.stands in
    let gave = gift_of kernel degree_of (values_in c k) v from.e (at c (suc k) v) from.gives in
    let below_giver : gave.giver < c.n =
    elim gave.end as (λ _. gave.giver < c.n) [ inl f ↦ let h = ends.0 in omega arith | inr t ↦ let e = t.1 in let h = ends.1 in omega arith ] in
    let grows = c.gifts_grow (at c k gave.giver) from.e.weight (within_limit c k gave.giver below_giver) in
    let is = gave.is in
    record {
      giver = gave.giver;
      below = below_giver;
      less = omega arith;
      changed = changed_giver c k v gave.giver from.e.weight from.e below below_giver from.stands gave.is less
          (λ j _. to_gifts (gifts_of_edge kernel degree_of (values_in c j) v) c.edges from.e _ from.stands (gave.otherwise (values_in c j)));
    }

-- the vertices of such a chain, latest first
record Chain (c : Setting) (k v : ℕ) : Type 0 where
  vertices : List ℕ
  long : length vertices ≡ suc k
  distinct : IsDistinct eqb vertices
  each : AllByRecursion (λ u. (u < c.n) × (at c k u ≤ at c k v)) vertices

chain_of : (c : Setting) (k v : ℕ) → v < c.n → Changed c k v → Chain c k v
unfolding IsDistinct
chain_of c zero v below changed = record {
  vertices = v ∷ [];
  long = refl;
  distinct = (tt, tt);
  each = ((below, omega arith), tt);
}
chain_of c (suc k) v below changed =
    let source = source_of c k v below changed in
    let chain = chain_of c k source.giver source.below source.changed in
    let arrived = source.less in
    record {
      vertices = v ∷ chain.vertices;
      long = ap suc chain.long;
      distinct = (
        All-map (λ u. (u < c.n) × (at c k u ≤ at c k source.giver)) (λ u. eqb v u ≡ false) chain.vertices
            (λ u kept. ne_eqb v u (λ same. let equal : at c k v ≡ at c k u = ap (at c k) same in let low = kept.1 in omega arith)) chain.each,
        chain.distinct,
      );
      each = (
        (below, omega arith),
        All-map (λ u. (u < c.n) × (at c k u ≤ at c k source.giver)) (λ u. (u < c.n) × (at c (suc k) u ≤ at c (suc k) v)) chain.vertices
            (λ u kept. (kept.0, (let fell = falls c k u kept.0 in let low = kept.1 in omega arith))) chain.each,
      );
    }

all_below : (c : Setting) (k v : ℕ) (us : List ℕ) → AllByRecursion (λ u. (u < c.n) × (at c k u ≤ at c k v)) us
    → (q : ℕ) → list_any (eqb q) us ≡ true → q < c.n
all_below c k v [] each q h = absurd (cc)
all_below c k v (u ∷ us) each q h =
    elim (or_cases (eqb q u) (list_any (eqb q) us) h) as (λ _. q < c.n) [
      | inl here ↦ let same = eqb-true q u here in let low = each.0.0 in omega arith
      | inr later ↦ all_below c k v us each.1 q later
    ]

-- a round that changes a value comes before as many rounds as there are vertices
changes-lt : (c : Setting) (k v : ℕ) → v < c.n → Changed c k v → k < c.n
changes-lt c k v below changed =
    let chain = chain_of c k v below changed in
    let few = length-le_from_distinct_below chain.vertices c.n chain.distinct (all_below c k v chain.vertices chain.each) in
    let long = chain.long in
    omega arith

settled : (c : Setting) (k : ℕ) → c.n ≤ suc k → values_in c (suc k) ≡ values_in c k
settled c k enough =
    same_number_lists (values_in c (suc k)) (values_in c k) (length-values_in c (suc k) ∙ sym (length-values_in c k)) (λ v within.
    let below : v < c.n = let long = length-values_in c (suc k) in omega arith in
    elim (cases_lt (at c (suc k) v) (at c k v)) as (λ _. at c (suc k) v ≡ at c k v) [
      | inl less ↦ let early = changes-lt c (suc k) v below less in absurd (omega arith)
      | inr same ↦ let fell = falls c k v below in omega arith
    ])

-- a job that sums from a source, over edges that add so much
paths_in : (n source : ℕ) (step : ℕ → ℕ) (edges : List Edge) → IsGraph n edges → Setting
paths_in n source step edges graph = record {
  initial = from_source source;
  gift = λ x weight. sum_to_top x (step weight);
  two_way = false;
  n = n;
  edges = edges;
  limit = TOP;
  starts_within = λ v h. from_source-le source v;
  gifts_grow = λ x weight h. omega arith;
  graph = recursion_from_All (HasEndsBelow n) edges graph;
}

components_in : (n : ℕ) (edges : List Edge) → IsGraph n edges → Setting
components_in n edges graph = record {
  initial = λ v. v;
  gift = λ x weight. x;
  two_way = true;
  n = n;
  edges = edges;
  limit = n;
  starts_within = λ v h. omega arith;
  gifts_grow = λ x weight h. omega arith;
  graph = recursion_from_All (HasEndsBelow n) edges graph;
}

is_settled_in : (c : Setting) (round : ℕ) → 1 ≤ round → c.n ≤ round → is_settled_by (kernel_in c) c.n c.edges round ≡ true
unfolding is_settled_by
is_settled_in c zero some enough = absurd (omega arith)
is_settled_in c (suc k) some enough =
    let back : suc k - 1 ≡ k = omega arith in
    (bytes_eq-Decides _ _).1 (settled c k enough ∙ ap (values_in c) (sym back))

-- a job that settles has settled by the round whose number is that of the vertices
pub is_settled_by-n : (spec : Spec) (n : ℕ) (edges : List Edge) (round : ℕ) → Settles spec → IsGraph n edges → 1 ≤ round → n ≤ round
    → is_settled_by (kernel_of spec) n edges round ≡ true
unfolding paths_in components_in
is_settled_by-n (Bfs source bound) n edges round settles graph some enough = is_settled_in (paths_in n source (λ _. 1) edges graph) round some enough
is_settled_by-n (Sssp source bound) n edges round settles graph some enough = is_settled_in (paths_in n source (λ weight. weight) edges graph) round some enough
is_settled_by-n (Wcc bound) n edges round settles graph some enough = is_settled_in (components_in n edges graph) round some enough
is_settled_by-n (Rank rounds) n edges round settles graph some enough = absurd settles

-- the first number that passes is at most any that does
find-le : (p : ℕ → Bool) (len a r m : ℕ) → find p (range_with_len a len) ≡ Some r → a ≤ m → p m ≡ true → r ≤ m
find-le p zero a r m found low passes = absurd (cc)
find-le p (suc len) a r m found low passes =
    let rest = find p (range_with_len (a + 1) len) in
    elim (cases_Bool (p a)) as (λ _. r ≤ m) [
      | inl first ↦ let is : Some a ≡ Some r = sym (cond-true (p a) (Some a) rest first) ∙ found in let same : a ≡ r = cc in omega arith
      | inr not_it ↦
          let later : rest ≡ Some r = sym (cond-false (p a) (Some a) rest not_it) ∙ found in
          elim (cases_lt a m) as (λ _. r ≤ m) [
            | inl above ↦ find-le p len (a + 1) r m later (omega arith) passes
            | inr same ↦ let here : a ≡ m = omega arith in absurd (both_ways (p a) not_it (ap p here ∙ passes))
          ]
    ]

-- where none passes, any that does comes after them
find_none-le : (p : ℕ → Bool) (len a m : ℕ) → find p (range_with_len a len) ≡ None → a ≤ m → p m ≡ true → a + len ≤ m
find_none-le p zero a m found low passes = omega arith
find_none-le p (suc len) a m found low passes =
    let rest = find p (range_with_len (a + 1) len) in
    elim (cases_Bool (p a)) as (λ _. a + suc len ≤ m) [
      | inl first ↦ let is : Some a ≡ None = sym (cond-true (p a) (Some a) rest first) ∙ found in absurd (cc)
      | inr not_it ↦
          let later : rest ≡ None = sym (cond-false (p a) (Some a) rest not_it) ∙ found in
          elim (cases_lt a m) as (λ _. a + suc len ≤ m) [
            | inl above ↦ let more = find_none-le p len (a + 1) m later (omega arith) passes in omega arith
            | inr same ↦ let here : a ≡ m = omega arith in absurd (both_ways (p a) not_it (ap p here ∙ passes))
          ]
    ]

outcome_at-done : (k : Kernel) (n : ℕ) (edges : List Edge) (bound : ℕ) (found : Option ℕ) (rounds : ℕ) (values : List ℕ)
    → outcome_at k n edges bound found ≡ Done rounds values → found ≡ Some rounds
outcome_at-done k n edges bound (Some round) rounds values is = let same : round ≡ rounds = cc in ap Some same
outcome_at-done k n edges bound None rounds values is = absurd (cc)

outcome_at-rounds : (k : Kernel) (n : ℕ) (edges : List Edge) (bound : ℕ) (found : Option ℕ) (rounds : ℕ)
    → outcome_at k n edges bound found ≡ Rounds rounds → (found ≡ None) × (rounds ≡ bound)
outcome_at-rounds k n edges bound (Some round) rounds is = absurd (cc)
outcome_at-rounds k n edges bound None rounds is = let same : rounds ≡ bound = cc in (refl, same)

-- a run that ends settled doesn't end after a round that settles
settled_run-done-le : (k : Kernel) (n : ℕ) (edges : List Edge) (bound rounds : ℕ) (values : List ℕ) (round : ℕ)
    → settled_run k n edges bound ≡ Done rounds values → 1 ≤ round → is_settled_by k n edges round ≡ true → rounds ≤ round
unfolding settled_run
settled_run-done-le k n edges bound rounds values round is some settles =
    find-le (is_settled_by k n edges) bound 1 rounds round
    (outcome_at-done k n edges bound (find (is_settled_by k n edges) (range_with_len 1 bound)) rounds values is) some settles

-- a run that ends for want of rounds has a bound below each round that settles
settled_run-rounds-lt : (k : Kernel) (n : ℕ) (edges : List Edge) (bound rounds round : ℕ)
    → settled_run k n edges bound ≡ Rounds rounds → 1 ≤ round → is_settled_by k n edges round ≡ true → (rounds ≡ bound) × (bound < round)
unfolding settled_run
settled_run-rounds-lt k n edges bound rounds round is some settles =
    let ends = outcome_at-rounds k n edges bound (find (is_settled_by k n edges) (range_with_len 1 bound)) rounds is in
    let few = find_none-le (is_settled_by k n edges) bound 1 round ends.0 some settles in
    (ends.1, omega arith)

-- a job that settles is done after at most as many rounds as there are vertices
pub lone_run-done-le : (spec : Spec) (n : ℕ) (edges : List Edge) (rounds : ℕ) (values : List ℕ) → Settles spec → IsGraph n edges → 1 ≤ n
    → lone_run spec n edges ≡ Done rounds values → rounds ≤ n
lone_run-done-le (Bfs source bound) n edges rounds values settles graph some is =
    settled_run-done-le (kernel_of (Bfs source bound)) n edges bound rounds values n is some (is_settled_by-n (Bfs source bound) n edges n tt graph some (omega arith))
lone_run-done-le (Sssp source bound) n edges rounds values settles graph some is =
    settled_run-done-le (kernel_of (Sssp source bound)) n edges bound rounds values n is some (is_settled_by-n (Sssp source bound) n edges n tt graph some (omega arith))
lone_run-done-le (Wcc bound) n edges rounds values settles graph some is =
    settled_run-done-le (kernel_of (Wcc bound)) n edges bound rounds values n is some (is_settled_by-n (Wcc bound) n edges n tt graph some (omega arith))
lone_run-done-le (Rank total) n edges rounds values settles graph some is = absurd settles

-- a job ends for want of rounds only where it may make fewer than there are vertices
pub lone_run-rounds-lt : (spec : Spec) (n : ℕ) (edges : List Edge) (rounds : ℕ) → IsGraph n edges → 1 ≤ n
    → lone_run spec n edges ≡ Rounds rounds → (rounds ≡ most_rounds spec) × (most_rounds spec < n)
lone_run-rounds-lt (Bfs source bound) n edges rounds graph some is =
    settled_run-rounds-lt (kernel_of (Bfs source bound)) n edges bound rounds n is some (is_settled_by-n (Bfs source bound) n edges n tt graph some (omega arith))
lone_run-rounds-lt (Sssp source bound) n edges rounds graph some is =
    settled_run-rounds-lt (kernel_of (Sssp source bound)) n edges bound rounds n is some (is_settled_by-n (Sssp source bound) n edges n tt graph some (omega arith))
lone_run-rounds-lt (Wcc bound) n edges rounds graph some is =
    settled_run-rounds-lt (kernel_of (Wcc bound)) n edges bound rounds n is some (is_settled_by-n (Wcc bound) n edges n tt graph some (omega arith))
lone_run-rounds-lt (Rank total) n edges rounds graph some is = absurd (cc)

-- by when jobs settle
pub ruleset settling_laws = (is_settled_by-n, lone_run-done-le, lone_run-rounds-lt)
