-- Where a phase owes nothing more, its sums are the values after the round, and its out-degrees are those of the graph.
use Rattle.std.specs.Prelude.{◌≡◌, ℕ, zero, suc, ◌+◌, ◌-◌, ◌<◌, ◌≤◌, Bool, true, false, cond, not, ◌&&◌, ◌||◌, List, [], ◌∷◌, ◌++◌, length, map, slice_index, ◌⊎◌, flat_map, refl}
use Rattle.std.specs.List.{list_any, range_with_len, AllByRecursion}
use Rattle.std.proofs.Common.{inl, inr, eqb, sym, ap, ◌∙◌, subst, true≢false, arith}
use Rattle.std.proofs.lemmas.Bool.{or_parts, eqb-true, eqb-false, ne_eqb}
use Rattle.std.proofs.lemmas.List.Elements.{All-from_recursion, recursion_from_All}
use Rattle.std.proofs.lemmas.List.FromFn.{get_or-map-range_with_len, length-map-range_with_len}
use Rattle.std.proofs.lemmas.List.Sums.{sum_by-cons}
use Rattle.gm_base.specs.declared.edge.Edge.{Edge}
use Rattle.gm_base.specs.declared.job.Spec.{Spec}
use Rattle.gm_base.specs.declared.job.Spec.TheVariants.{Bfs, Sssp, Wcc, Rank}
use Rattle.gm_base.specs.Graph.{HasEndsBelow, IsSameGraph, IsGraph, out_degree}
use Rattle.gm_base.specs.GraphRules.{same_graph-transitive}
use Rattle.gm_kernel.specs.Kernels.{kernel_of}
use Rattle.gm_kernel.specs.KernelLaws.{GivesTheSame}
use Rattle.gm_kernel.specs.Runs.{joined_at}
use Rattle.gm_kernel.specs.PassRules.{joined_at-append}
use Rattle.gm_kernel.specs.Activity.{active_in_round, IsQuiet}
use Rattle.gm_kernel.specs.ActivityRules.{next_values_skipping_quiet}
use Rattle.gm_active.specs.Bits.{is_in, any_between}
use Rattle.gm_active.specs.Needs.{has_source, is_needed, first_destination_of, end_destination_of}
use Rattle.gm_kernel.specs.declared.phase.Phase.TheVariants.{Round}
use Rattle.gm_work.specs.JobStates.{kernel_in, counts_degrees, owes_any}
use Rattle.gm_work.specs.Views.{JobView, IsCutIntoChunks, values_at, degrees_of, needed_in, owed_after, sums_after, WerePassed}
use Rattle.gm_work.proofs.Lists.{by_test, second, has_passed, AreChunks, passed_once, is_owed, none_owed, and-true, left_over, kept, kept_and_left}

-- ---- lists

all_append : (P : Edge → Type 0) (xs ys : List Edge) → AllByRecursion P xs → AllByRecursion P ys → AllByRecursion P (xs ++ ys)
all_append P [] ys h g = g
all_append P (x ∷ xs) ys h g = (h.0, all_append P xs ys h.1 g)

all_flat : (P : Edge → Type 0) (f : ℕ → List Edge) (cs : List ℕ) → AllByRecursion (λ c. AllByRecursion P (f c)) cs → AllByRecursion P (flat_map f cs)
all_flat P f [] h = tt
all_flat P f (c ∷ cs) h = all_append P (f c) (flat_map f cs) h.0 (all_flat P f cs h.1)

none_at : (test : ℕ → Bool) (us : List ℕ) (u : ℕ) → list_any test us ≡ false → list_any (λ s. eqb s u) us ≡ true → test u ≡ false
none_at test [] u none found = absurd (true≢false (sym found))
none_at test (x ∷ us) u none found =
    let parts = or_parts (test x) (list_any test us) none in
    by_test (eqb x u) (λ b. (b || list_any (λ s. eqb s u) us) ≡ true → test u ≡ false)
    (λ same _. ap test (sym (eqb-true x u same)) ∙ parts.0)
    (λ other there. none_at test us u parts.1 there)
    found

none_between : (test : ℕ → Bool) (a count u : ℕ) → list_any test (range_with_len a count) ≡ false → a ≤ u → u < a + count → test u ≡ false
none_between test a zero u none low high = absurd (omega arith)
none_between test a (suc count) u none low high =
    let parts = or_parts (test a) (list_any test (range_with_len (a + 1) count)) none in
    by_test (eqb a u) (λ b. test u ≡ false)
    (λ same. ap test (sym (eqb-true a u same)) ∙ parts.0)
    (λ other. none_between test (a + 1) count u parts.1 (lt_unless a u low (eqb-false a u other)) (omega arith))
  where
    lt_unless : (m n : ℕ) → m ≤ n → (m ≡ n → ⊥) → m + 1 ≤ n
    lt_unless m n h g = grind (arith, h, g)

-- ---- out-degrees

beyond : (n : ℕ) (edges : List Edge) (u : ℕ) → AllByRecursion (HasEndsBelow n) edges → n ≤ u → out_degree edges u ≡ 0
beyond n [] u ends h = refl
beyond n (e ∷ edges) u ends h =
    let low = ends.0.0 in
    let rest = beyond n edges u ends.1 h in
    let other : eqb e.from u ≡ false = ne_eqb e.from u (λ same. omega (arith, low, same, h)) in
    sum_by-cons (λ (x : Edge). cond (eqb x.from u) 1 0) e edges ∙ ap (λ b. cond b 1 0 + out_degree edges u) other ∙ omega (arith, rest)

past_the_end : (f : ℕ → ℕ) (a n u : ℕ) → n ≤ u → slice_index (map f (range_with_len a n)) u ≡ 0
past_the_end f a zero u h = refl
past_the_end f a (suc n) zero h = absurd (omega arith)
past_the_end f a (suc n) (suc u) h = past_the_end f (a + 1) n u (omega arith)

degree_is : (n : ℕ) (edges : List Edge) (u : ℕ) → IsGraph n edges → slice_index (map (out_degree edges) (range_with_len 0 n)) u ≡ out_degree edges u
degree_is n edges u graph =
    elim (split u n) as (λ _. slice_index (map (out_degree edges) (range_with_len 0 n)) u ≡ out_degree edges u) [
      | inl below ↦ get_or-map-range_with_len (out_degree edges) 0 n u u 0 below (omega arith)
      | inr above ↦ past_the_end (out_degree edges) 0 n u above ∙ sym (beyond n edges u (recursion_from_All (HasEndsBelow n) edges graph) above)
    ]
  where
    split : (u n : ℕ) → (u < n) ⊎ (n ≤ u)
    split zero zero = inr (omega arith)
    split zero (suc n) = inl (omega arith)
    split (suc u) zero = inr (omega arith)
    split (suc u) (suc n) = elim (split u n) as (λ _. (suc u < suc n) ⊎ (suc n ≤ suc u)) [ inl h ↦ inl (omega (arith, h)) | inr h ↦ inr (omega (arith, h)) ]

-- with the degrees that a job's rounds look at, vertices give what they give with those of the graph
gives_in : (spec : Spec) (n : ℕ) (edges : List Edge) → IsGraph n edges
    → GivesTheSame (kernel_of spec) (slice_index (map (λ u. cond (counts_degrees spec) (out_degree edges u) 0) (range_with_len 0 n))) (out_degree edges)
gives_in (Bfs source bound) n edges graph u x weight = refl
gives_in (Sssp source bound) n edges graph u x weight = refl
gives_in (Wcc bound) n edges graph u x weight = refl
gives_in (Rank rounds) n edges graph u x weight = ap (λ degree. (kernel_of (Rank rounds)).gift_along x degree weight) (degree_is n edges u graph)

pub gives_the_same : (d : JobView) → IsCutIntoChunks d → GivesTheSame (kernel_in d.context) (slice_index (degrees_of d)) (out_degree d.edges)
gives_the_same d cut = gives_in d.context.spec d.context.dimensions.n d.edges cut.graph

-- ---- sums of the passed chunks

pub sum_is : (d : JobView) (values : List ℕ) (passed : List ℕ) (v : ℕ) → v < d.context.dimensions.n
    → slice_index (sums_after d values passed) v
    ≡ joined_at (kernel_in d.context) (slice_index (degrees_of d)) values (kept d.content_at passed) v ((kernel_in d.context).carried_value (slice_index values v))
sum_is d values [] v h =
    get_or-map-range_with_len (λ u. (kernel_in d.context).carried_value (slice_index values u)) 0 d.context.dimensions.n v v 0 h (omega arith)
sum_is d values (c ∷ passed) v h =
    let k = kernel_in d.context in
    let degree_of = slice_index (degrees_of d) in
    let start = k.carried_value (slice_index values v) in
    get_or-map-range_with_len (λ u. joined_at k degree_of values (d.content_at c) u (slice_index (sums_after d values passed) u)) 0 d.context.dimensions.n v v 0 h (omega arith)
    ∙ ap (joined_at k degree_of values (d.content_at c) v) (sum_is d values passed v h)
    ∙ sym (joined_at-append k degree_of values (kept d.content_at passed) (d.content_at c) v start)

pub length-sums : (d : JobView) (values : List ℕ) (passed : List ℕ) → length (sums_after d values passed) ≡ d.context.dimensions.n
length-sums d values [] = length-map-range_with_len (λ u. (kernel_in d.context).carried_value (slice_index values u)) 0 d.context.dimensions.n
length-sums d values (c ∷ passed) =
    length-map-range_with_len (λ u. joined_at (kernel_in d.context) (slice_index (degrees_of d)) values (d.content_at c) u (slice_index (sums_after d values passed) u)) 0 d.context.dimensions.n

-- ---- chunks that weren't passed

pub some_source : (us : List ℕ) (u : ℕ) → list_any (λ s. eqb s u) us ≡ true → has_source us ≡ true
some_source [] u h = h
some_source (x ∷ us) u h = refl

-- a chunk that isn't needed has no edge over which an active vertex gives
quiet_edges : (d : JobView) (active : ℕ → Bool) (c : ℕ) (es : List Edge)
    → is_needed d.context.dimensions (kernel_in d.context).is_two_way active (d.context.block_at c) (d.context.sources_at c) ≡ false
    → AllByRecursion (λ e. list_any (λ s. eqb s e.from) (d.context.sources_at c) ≡ true) es
    → AllByRecursion (λ e. (first_destination_of d.context.dimensions (d.context.block_at c) ≤ e.to) × (e.to < end_destination_of d.context.dimensions (d.context.block_at c))) es
    → AllByRecursion (IsQuiet (kernel_in d.context) active) es
quiet_edges d active c [] none s t = tt
quiet_edges d active c (e ∷ es) none s t =
    let k = kernel_in d.context in
    let first = first_destination_of d.context.dimensions (d.context.block_at c) in
    let last = end_destination_of d.context.dimensions (d.context.block_at c) in
    let sources = d.context.sources_at c in
    let rest : (list_any active sources || (k.is_two_way && any_between active first last)) ≡ false = second (has_source sources) _ none (some_source sources e.from s.0) in
    let parts = or_parts (list_any active sources) (k.is_two_way && any_between active first last) rest in
    let low = t.0.0 in
    let high = t.0.1 in
    let one : IsQuiet k active e = record {
      source = none_at active sources e.from parts.0 s.0;
      destination = λ two. none_between active first (last - first) e.to (second k.is_two_way (any_between active first last) parts.1 two) low (omega (arith, low, high));
    } in
    (one, quiet_edges d active c es none s.1 t.1)

-- what a chunk that is left has
pub left_has : (Q : ℕ → Type 0) (needed : List Bool) (passed : List ℕ) (a count : ℕ) → owes_any (owed_after needed passed) ≡ false
    → ((c : ℕ) → a ≤ c → c < a + count → is_in needed c ≡ false → Q c) → AllByRecursion Q (left_over passed a count)
left_has Q needed passed a zero none each = tt
left_has Q needed passed a (suc count) none each =
    let rest = left_has Q needed passed (a + 1) count none (λ c low high. each c (omega (arith, low)) (omega (arith, high))) in
    by_test (has_passed passed a)
    (λ b. ((is_in needed a && not b) ≡ false) → AllByRecursion Q (cond (not b) (a ∷ left_over passed (a + 1) count) (left_over passed (a + 1) count)))
    (λ _ _. rest)
    (λ _ owes. (each a (omega arith) (omega arith) (sym (and-true (is_in needed a)) ∙ owes), rest))
    (sym (is_owed needed passed a) ∙ none_owed (owed_after needed passed) a none)

pub whole : (d : JobView) → IsCutIntoChunks d → (passed : List ℕ) → AreChunks d.context.chunks passed
    → IsSameGraph d.edges (kept d.content_at passed ++ flat_map d.content_at (left_over passed 0 d.context.chunks))
whole d cut passed once =
    same_graph-transitive d.edges (flat_map d.content_at (range_with_len 0 d.context.chunks)) (kept d.content_at passed ++ flat_map d.content_at (left_over passed 0 d.context.chunks)) cut.whole (kept_and_left d.content_at d.context.chunks passed once)

-- a round over the needed chunks alone is the round over all edges
pub closes : (d : JobView) → IsCutIntoChunks d → (r : ℕ) (passed : List ℕ) → WerePassed (needed_in d (Round r)) passed
    → owes_any (owed_after (needed_in d (Round r)) passed) ≡ false → sums_after d (values_at d r) passed ≡ values_at d (r + 1)
closes d cut r passed were none =
    let n = d.context.dimensions.n in
    let chunks = d.context.chunks in
    let k = kernel_in d.context in
    let active = active_in_round d.context.spec n d.edges (slice_index (degrees_of d)) r in
    let test : ℕ → Bool = λ c. is_needed d.context.dimensions k.is_two_way active (d.context.block_at c) (d.context.sources_at c) in
    let long : length (needed_in d (Round r)) ≡ chunks = length-map-range_with_len test 0 chunks in
    let once = subst (λ (m : ℕ). AreChunks m passed) long (passed_once (needed_in d (Round r)) passed were) in
    let quiet = left_has (λ c. AllByRecursion (IsQuiet k active) (d.content_at c)) (needed_in d (Round r)) passed 0 chunks none
    (λ c low high off. quiet_edges d active c (d.content_at c) (sym (get_or-map-range_with_len test 0 chunks c c false (omega (arith, high)) (omega arith)) ∙ off)
    (recursion_from_All _ (d.content_at c) (cut.sources c)) (recursion_from_All _ (d.content_at c) (cut.columns c))) in
    let few = cut.dimensions.vertices in
    next_values_skipping_quiet d.context.spec n r (slice_index (degrees_of d)) (sums_after d (values_at d r) passed) d.edges
    (kept d.content_at passed) (flat_map d.content_at (left_over passed 0 chunks))
    (omega (arith, few)) (gives_the_same d cut) (whole d cut passed once)
    (All-from_recursion (IsQuiet k active) _ (all_flat (IsQuiet k active) d.content_at (left_over passed 0 chunks) quiet))
    (length-sums d (values_at d r) passed) (λ v h. sum_is d (values_at d r) passed v h)
