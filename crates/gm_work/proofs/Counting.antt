-- Where the counting owes nothing more, the out-degrees are those of the graph.
use Rattle.std.specs.Prelude.{◌≡◌, ℕ, ◌+◌, ◌<◌, min, Bool, true, false, cond, List, [], ◌∷◌, ◌++◌, length, slice_index, flat_map, refl}
use Rattle.std.specs.List.{list_any, AllByRecursion}
use Rattle.std.proofs.Common.{eqb, sym, ap, ◌∙◌, subst, true≢false, arith}
use Rattle.std.proofs.Math.Nat.{min-eq_left}
use Rattle.std.proofs.lemmas.List.Elements.{recursion_from_All}
use Rattle.std.proofs.lemmas.List.FromFn.{get_or-map-range_with_len, length-map-range_with_len, fill_by_all}
use Rattle.std.proofs.lemmas.List.Sums.{count_by-le-length}
use Rattle.gm_rank.specs.declared.passes.TheConstants.{MAX_DEGREE}
use Rattle.gm_base.specs.declared.edge.Edge.{Edge}
use Rattle.gm_base.specs.Graph.{out_degree}
use Rattle.gm_base.specs.GraphRules.{out_degree-same, out_degree-append}
use Rattle.gm_active.specs.Needs.{has_source}
use Rattle.gm_work.specs.JobStates.{counts_degrees, counted_chunks_of, owes_any}
use Rattle.gm_work.specs.Views.{JobView, IsCutIntoChunks, degrees_of, owed_after, degrees_after, WerePassed}
use Rattle.gm_work.proofs.Lists.{AreChunks, passed_once, left_over, kept}
use Rattle.gm_work.proofs.Rounds.{left_has, whole, some_source}

capped : (a b most : ℕ) → min (min a most + b) most ≡ min (a + b) most
capped a b most = omega arith

-- as far as they were counted
counted_so_far : (d : JobView) (passed : List ℕ) (u : ℕ) → u < d.context.dimensions.n
    → slice_index (degrees_after d passed) u ≡ min (out_degree (kept d.content_at passed) u) MAX_DEGREE
counted_so_far d [] u h = get_or-map-range_with_len (λ v. 0) 0 d.context.dimensions.n u u 0 h (omega arith)
counted_so_far d (c ∷ passed) u h =
    let before = out_degree (kept d.content_at passed) u in
    let here = out_degree (d.content_at c) u in
    get_or-map-range_with_len (λ v. min (slice_index (degrees_after d passed) v + out_degree (d.content_at c) v) MAX_DEGREE) 0 d.context.dimensions.n u u 0 h (omega arith)
    ∙ ap (λ m. min (m + here) MAX_DEGREE) (counted_so_far d passed u h)
    ∙ capped before here MAX_DEGREE
    ∙ ap (λ m. min m MAX_DEGREE) (sym (out_degree-append (kept d.content_at passed) (d.content_at c) u))

length-degrees : (d : JobView) (passed : List ℕ) → length (degrees_after d passed) ≡ d.context.dimensions.n
length-degrees d [] = length-map-range_with_len (λ v. 0) 0 d.context.dimensions.n
length-degrees d (c ∷ passed) =
    length-map-range_with_len (λ v. min (slice_index (degrees_after d passed) v + out_degree (d.content_at c) v) MAX_DEGREE) 0 d.context.dimensions.n

-- a chunk without sources has no edge
no_edge : (d : JobView) (c : ℕ) → IsCutIntoChunks d → has_source (d.context.sources_at c) ≡ false → d.content_at c ≡ []
no_edge d c cut none = empty (d.content_at c) (recursion_from_All (λ e. list_any (λ s. eqb s e.from) (d.context.sources_at c) ≡ true) (d.content_at c) (cut.sources c))
  where
    empty : (es : List Edge) → AllByRecursion (λ e. list_any (λ s. eqb s e.from) (d.context.sources_at c) ≡ true) es → es ≡ []
    empty [] all = refl
    empty (e ∷ es) all = absurd (true≢false (sym (some_source (d.context.sources_at c) e.from all.0) ∙ none))

all_empty : (f : ℕ → List Edge) (cs : List ℕ) → AllByRecursion (λ c. f c ≡ []) cs → flat_map f cs ≡ []
all_empty f [] all = refl
all_empty f (c ∷ cs) all = ap (λ es. es ++ flat_map f cs) all.0 ∙ all_empty f cs all.1

pub counts_close : (d : JobView) → IsCutIntoChunks d → counts_degrees d.context.spec ≡ true → (passed : List ℕ) → WerePassed (counted_chunks_of d.context) passed
    → owes_any (owed_after (counted_chunks_of d.context) passed) ≡ false → degrees_after d passed ≡ degrees_of d
counts_close d cut counts passed were none =
    let chunks = d.context.chunks in
    let test : ℕ → Bool = λ c. has_source (d.context.sources_at c) in
    let long : length (counted_chunks_of d.context) ≡ chunks = length-map-range_with_len test 0 chunks in
    let once = subst (λ (m : ℕ). AreChunks m passed) long (passed_once (counted_chunks_of d.context) passed were) in
    let left = left_over passed 0 chunks in
    let empty = all_empty d.content_at left (left_has (λ c. d.content_at c ≡ []) (counted_chunks_of d.context) passed 0 chunks none
    (λ c low high off. no_edge d c cut (sym (get_or-map-range_with_len test 0 chunks c c false (omega (arith, high)) (omega arith)) ∙ off))) in
    let each : (u : ℕ) → out_degree (kept d.content_at passed) u ≡ out_degree d.edges u =
    λ u. sym (out_degree-same d.edges (kept d.content_at passed ++ flat_map d.content_at left) (whole d cut passed once) u
    ∙ out_degree-append (kept d.content_at passed) (flat_map d.content_at left) u
    ∙ ap (λ es. out_degree (kept d.content_at passed) u + out_degree es u) empty
    ∙ omega arith) in
    let few = cut.few in
    fill_by_all (λ u. cond (counts_degrees d.context.spec) (out_degree d.edges u) 0) (degrees_after d passed) d.context.dimensions.n 0 (length-degrees d passed)
    (λ u h.
    let less = count_by-le-length (λ (e : Edge). eqb e.from u) d.edges in
    counted_so_far d passed u h
    ∙ ap (λ m. min m MAX_DEGREE) (each u)
    ∙ min-eq_left (omega (arith, less, few))
    ∙ ap (λ b. cond b (out_degree d.edges u) 0) (sym counts))
