-- What proofs need of passes: what may be passed in another order or in parts, and what the gifts go by.
use Rattle.std.specs.Prelude.{◌≡◌, ℕ, ◌+◌, Bool, cond, ◌==◌, ◌&&◌, List, [], ◌∷◌, ◌++◌, slice_index, fold, flat_map, count_by, refl}
use Rattle.std.specs.List.{sum_by}
use Rattle.std.specs.List.Sorted.{IsPermutation}
use Rattle.std.proofs.Common.{sym, ap, ◌∙◌}
use Rattle.std.proofs.lemmas.List.Sums.{fold-append, sum_by-cons, sum_by-append}
use Rattle.std.proofs.lemmas.List.Sorted.{sum_by-IsPermutation}
use Rattle.std.proofs.lemmas.List.Concat.{flat_map-append}
use Rattle.gm_base.specs.declared.edge.Edge.{Edge}
use Rattle.gm_base.specs.declared.job.Spec.{Spec}
use Rattle.gm_base.specs.declared.job.Spec.TheVariants.{Bfs, Sssp, Wcc, Rank}
use Rattle.gm_base.specs.Graph.{is_same_edge, IsSameGraph, out_degree}
use Rattle.gm_base.specs.GraphRules.{JoinLaws, folds_commute, same_graph-folds, out_degree-same}
use Rattle.gm_kernel.specs.Kernels.{Kernel, kernel_of}
use Rattle.gm_kernel.specs.KernelLaws.{GivesTheSame}
use Rattle.gm_kernel.specs.Runs.{gift_from, gifts_of_edge, gifts_to, joined_at, Settles}

-- over one list after another it is one pass after the other
pub joined_at-append : (k : Kernel) (degree_of : ℕ → ℕ) (values : List ℕ) (xs ys : List Edge) (v sum : ℕ)
    → joined_at k degree_of values (xs ++ ys) v sum ≡ joined_at k degree_of values ys v (joined_at k degree_of values xs v sum)
joined_at-append k degree_of values xs ys v sum =
    ap (fold k.join_values sum) (flat_map-append (gifts_of_edge k degree_of values v) xs ys)
    ∙ fold-append k.join_values sum (gifts_to k degree_of values xs v) (gifts_to k degree_of values ys v)

-- over parts joined it is a pass of each part, one after the other
pub joined_at-flat_map : (k : Kernel) (degree_of : ℕ → ℕ) (values : List ℕ) (content : ℕ → List Edge) (parts : List ℕ) (v sum : ℕ)
    → joined_at k degree_of values (flat_map content parts) v sum ≡ fold (λ s part. joined_at k degree_of values (content part) v s) sum parts
joined_at-flat_map k degree_of values content [] v sum = refl
joined_at-flat_map k degree_of values content (part ∷ parts) v sum =
    joined_at-append k degree_of values (content part) (flat_map content parts) v sum
    ∙ joined_at-flat_map k degree_of values content parts v (joined_at k degree_of values (content part) v sum)

-- over the same graph it gives the same sums
pub joined_at-same_graph : (k : Kernel) (degree_of : ℕ → ℕ) (values : List ℕ) (xs ys : List Edge) (v sum : ℕ) → JoinLaws k.join_values
    → IsSameGraph xs ys → joined_at k degree_of values xs v sum ≡ joined_at k degree_of values ys v sum
joined_at-same_graph k degree_of values xs ys v sum joins same =
    same_graph-folds k.join_values joins (gifts_of_edge k degree_of values v) xs ys sum same

-- of two passes either may come first
pub joined_at-swap : (k : Kernel) (degree_of : ℕ → ℕ) (values : List ℕ) (xs ys : List Edge) (v sum : ℕ) → JoinLaws k.join_values
    → joined_at k degree_of values ys v (joined_at k degree_of values xs v sum) ≡ joined_at k degree_of values xs v (joined_at k degree_of values ys v sum)
joined_at-swap k degree_of values xs ys v sum joins =
    folds_commute k.join_values joins (gifts_to k degree_of values xs v) (gifts_to k degree_of values ys v) sum

-- what is joined goes by what each vertex gives
pub joined_at-gifts : (k : Kernel) (gift_along : ℕ → ℕ → ℕ → ℕ) (these those : ℕ → ℕ) (values others : List ℕ) (edges : List Edge) (v sum : ℕ)
    → ((giver weight : ℕ) → gift_from k these values giver weight ≡ gift_along (slice_index others giver) (those giver) weight)
    → joined_at k these values edges v sum ≡ joined_at (record k { gift_along = gift_along }) those others edges v sum
joined_at-gifts k gift_along these those values others edges v sum same =
    let gifts : gift_from k these values ≡ (λ giver weight. gift_along (slice_index others giver) (those giver) weight) = λ i. λ giver weight. same giver weight i in
    let joined : (ℕ → ℕ → ℕ) → ℕ =
    λ gift. fold k.join_values sum (flat_map (λ e. cond (e.to == v) (gift e.from e.weight ∷ []) [] ++ cond (k.is_two_way && (e.from == v)) (gift e.to e.weight ∷ []) []) edges) in
    ap joined gifts

-- out-degrees count only in what vertices give
pub joined_at-same_gifts : (k : Kernel) (these those : ℕ → ℕ) (values : List ℕ) (edges : List Edge) (v sum : ℕ)
    → GivesTheSame k these those → joined_at k these values edges v sum ≡ joined_at k those values edges v sum
joined_at-same_gifts k these those values edges v sum same =
    joined_at-gifts k k.gift_along these those values values edges v sum (λ giver weight. same giver (slice_index values giver) weight)

-- and a job that settles doesn't look at them
pub settling-gives_the_same : (spec : Spec) (these those : ℕ → ℕ) → Settles spec → GivesTheSame (kernel_of spec) these those
settling-gives_the_same (Bfs source bound) these those settles u x weight = refl
settling-gives_the_same (Sssp source bound) these those settles u x weight = refl
settling-gives_the_same (Wcc bound) these those settles u x weight = refl
settling-gives_the_same (Rank rounds) these those settles u x weight = absurd settles

-- how many edges of the parts pass a test, part by part
count_by-flat_map : (test : Edge → Bool) (content : ℕ → List Edge) (parts : List ℕ)
    → count_by test (flat_map content parts) ≡ sum_by (λ part. count_by test (content part)) parts
count_by-flat_map test content [] = refl
count_by-flat_map test content (part ∷ parts) =
    sum_by-append (λ e. cond (test e) 1 0) (content part) (flat_map content parts)
    ∙ ap (λ t. count_by test (content part) + t) (count_by-flat_map test content parts)
    ∙ sym (sum_by-cons (λ c. count_by test (content c)) part parts)

-- the out-degrees of parts joined add up
pub out_degree-flat_map : (content : ℕ → List Edge) (parts : List ℕ) (v : ℕ)
    → out_degree (flat_map content parts) v ≡ sum_by (λ part. out_degree (content part) v) parts
out_degree-flat_map content parts v = count_by-flat_map (λ e. e.from == v) content parts

-- parts joined are the same graph where every sum over them is the same
pub same_graph-sums : (content : ℕ → List Edge) (parts others : List ℕ) → ((weight : ℕ → ℕ) → sum_by weight parts ≡ sum_by weight others)
    → IsSameGraph (flat_map content parts) (flat_map content others)
same_graph-sums content parts others same e =
    count_by-flat_map (is_same_edge e) content parts ∙ same (λ part. count_by (is_same_edge e) (content part))
    ∙ sym (count_by-flat_map (is_same_edge e) content others)

-- so they may be joined in any order
pub same_graph-permutation : (content : ℕ → List Edge) (parts others : List ℕ) → IsPermutation parts others
    → IsSameGraph (flat_map content parts) (flat_map content others)
same_graph-permutation content parts others moved =
    same_graph-sums content parts others (λ weight. sym (sum_by-IsPermutation weight parts others moved))

-- the same graph has the same out-degrees
pub gives_the_same-same_graph : (k : Kernel) (xs ys : List Edge) → IsSameGraph xs ys → GivesTheSame k (out_degree xs) (out_degree ys)
gives_the_same-same_graph k xs ys same u x weight = ap (λ degree. k.gift_along x degree weight) (out_degree-same xs ys same u)

-- the laws of passes
pub ruleset pass_laws = (joined_at-append, joined_at-flat_map, joined_at-same_graph, joined_at-swap, joined_at-same_gifts, settling-gives_the_same, same_graph-permutation)
