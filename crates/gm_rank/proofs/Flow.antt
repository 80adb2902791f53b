-- What a round of ranks gives and takes: each vertex gives at most 0.85 of its rank over all of its edges.
use Rattle.std.proofs.Common.{◌≡◌, ℕ, zero, suc, ◌+◌, ◌*◌, ◌/◌, ◌<◌, ◌≤◌, min, Bool, true, false, cond, eqb, List, [], ◌∷◌, ◌++◌, length, sum, map, sym, ap, ◌∙◌, refl, arith}
use Rattle.std.specs.Prelude.{slice_index}
use Rattle.std.specs.List.{fold, range_with_len, AllByRecursion}
use Rattle.std.proofs.Math.Nat.{mul-div-le}
use Rattle.std.proofs.lemmas.List.Elements.{recursion_from_All}
use Rattle.std.proofs.lemmas.List.Sums.{sum_by-cons, sum_by-append}
use Rattle.gm_base.specs.declared.limits.TheConstants.{MAX_VERTICES}
use Rattle.gm_base.specs.declared.edge.Edge.{Edge}
use Rattle.gm_base.specs.Graph.{HasEndsBelow, IsGraph, out_degree}
use Rattle.gm_kernel.specs.declared.kernel.TheConstants.{MAX_RANK}
use Rattle.gm_kernel.specs.Kernels.{Kernel, kernel_of, share_of}
use Rattle.gm_kernel.specs.Runs.{gifts_to, gifts_of_edge, value_after_round, round_of, values_after}
use Rattle.gm_kernel.specs.RunsRules.{length-values_after}
use Rattle.gm_rank.specs.Ranks.{rank_job}
use Rattle.gm_rank.proofs.Totals.{total, total-add, total-scale, total-le, total_constant, total_one, term-le-total, sum_of_range, sum_by_vertex}

-- what v gets over these edges, where u gives w u over each of its edges
abbrev given : (ℕ → ℕ) → List Edge → ℕ → ℕ
given w [] v = 0
given w (e ∷ edges) v = cond (eqb e.to v) (w e.from) 0 + given w edges v

-- what is given over these edges
abbrev emitted : (ℕ → ℕ) → List Edge → ℕ
emitted w [] = 0
emitted w (e ∷ edges) = w e.from + emitted w edges

abbrev pub rank_kernel : Kernel
rank_kernel = kernel_of rank_job

abbrev shares : (ℕ → ℕ) → List ℕ → ℕ → ℕ
shares degree_of values u = share_of (slice_index values u) (degree_of u)

-- a capped sum is at most the sum
joined-le : (degree_of : ℕ → ℕ) (values : List ℕ) (edges : List Edge) (v s : ℕ)
    → fold rank_kernel.join_values s (gifts_to rank_kernel degree_of values edges v) ≤ s + given (shares degree_of values) edges v
joined-le degree_of values [] v s = omega arith
joined-le degree_of values (e ∷ edges) v s =
    let w = shares degree_of values in
    let rest = gifts_to rank_kernel degree_of values edges v in
    let goal = λ (b : Bool). fold rank_kernel.join_values s ((cond b (w e.from ∷ []) [] ++ []) ++ rest) ≤ s + (cond b (w e.from) 0 + given w edges v) in
    let at : (b : Bool) → goal b =
    elim [
      | true ↦ let ih = joined-le degree_of values edges v (min (s + w e.from) MAX_RANK) in omega arith
      | false ↦ let ih = joined-le degree_of values edges v s in omega arith
    ] in
    at (eqb e.to v)

-- and it is the sum, where that is within the cap
joined-within : (degree_of : ℕ → ℕ) (values : List ℕ) (edges : List Edge) (v s : ℕ)
    → s + given (shares degree_of values) edges v ≤ MAX_RANK
    → fold rank_kernel.join_values s (gifts_to rank_kernel degree_of values edges v) ≡ s + given (shares degree_of values) edges v
joined-within degree_of values [] v s h = omega arith
joined-within degree_of values (e ∷ edges) v s h =
    let w = shares degree_of values in
    let rest = gifts_to rank_kernel degree_of values edges v in
    let goal = λ (b : Bool). s + (cond b (w e.from) 0 + given w edges v) ≤ MAX_RANK
    → fold rank_kernel.join_values s ((cond b (w e.from ∷ []) [] ++ []) ++ rest) ≡ s + (cond b (w e.from) 0 + given w edges v) in
    let at : (b : Bool) → goal b =
    elim [
      | true ↦ λ small.
          let plain : min (s + w e.from) MAX_RANK ≡ s + w e.from = omega arith in
          let ih = joined-within degree_of values edges v (s + w e.from) (omega arith) in
          ap (λ t. fold rank_kernel.join_values t rest) plain ∙ ih ∙ omega arith
      | false ↦ λ small. let ih = joined-within degree_of values edges v s (omega arith) in ih ∙ omega arith
    ] in
    at (eqb e.to v) h

-- each gift arrives at one vertex
total-given : (w : ℕ → ℕ) (n : ℕ) (edges : List Edge) → AllByRecursion (HasEndsBelow n) edges → total (given w edges) n ≡ emitted w edges
total-given w n [] ends = total_constant 0 n ∙ omega arith
total-given w n (e ∷ edges) ends =
    total-add (λ v. cond (eqb e.to v) (w e.from) 0) (given w edges) n
    ∙ ap (λ t. t + total (given w edges) n) (total_one e.to (λ _. w e.from) n ends.0.1)
    ∙ ap (λ t. w e.from + t) (total-given w n edges ends.1)

degree-cons : (e : Edge) (edges : List Edge) (u : ℕ) → out_degree (e ∷ edges) u ≡ cond (eqb e.from u) 1 0 + out_degree edges u
degree-cons e edges u = sum_by-cons (λ x. cond (eqb x.from u) 1 0) e edges

cond-times : (b : Bool) (d w : ℕ) → (cond b 1 0 + d) * w ≡ cond b w 0 + d * w
cond-times true d w = omega arith
cond-times false d w = omega arith

zero_times : (a : ℕ) → 0 * a ≡ 0
zero_times a = omega arith

-- gathered by their givers
emitted_by_vertex : (w : ℕ → ℕ) (n : ℕ) (edges : List Edge) → AllByRecursion (HasEndsBelow n) edges
    → emitted w edges ≡ total (λ u. out_degree edges u * w u) n
emitted_by_vertex w n [] ends = sym (ap (λ f. total f n) (λ i. λ u. zero_times (w u) i) ∙ total_constant 0 n ∙ omega arith)
emitted_by_vertex w n (e ∷ edges) ends =
    let ih = emitted_by_vertex w n edges ends.1 in
    let pointwise : (λ u. out_degree (e ∷ edges) u * w u) ≡ (λ u. cond (eqb e.from u) (w u) 0 + out_degree edges u * w u) =
    λ i. λ u. (ap (λ d. d * w u) (degree-cons e edges u) ∙ cond-times (eqb e.from u) (out_degree edges u) (w u)) i in
    let own : total (λ u. cond (eqb e.from u) (w u) 0) n ≡ w e.from = total_one e.from w n ends.0.0 in
    let parts = total-add (λ u. cond (eqb e.from u) (w u) 0) (λ u. out_degree edges u * w u) n in
    sym (ap (λ f. total f n) pointwise ∙ parts ∙ ap (λ t. t + total (λ u. out_degree edges u * w u) n) own ∙ ap (λ t. w e.from + t) (sym ih))

-- over all of its edges a vertex gives at most 0.85 of its rank
gives_part : (rank degree : ℕ) → 100 * (degree * share_of rank degree) ≤ 85 * rank
gives_part rank degree =
    let goal = λ (b : Bool). 100 * (degree * cond b 0 ((85 * rank) / (100 * degree))) ≤ 85 * rank in
    let at : (b : Bool) → goal b =
    elim [ true ↦ omega arith | false ↦ let part = mul-div-le (85 * rank) (100 * degree) in omega arith ] in
    at (eqb degree 0)

emitted-le : (n : ℕ) (values : List ℕ) (edges : List Edge) → length values ≡ n → AllByRecursion (HasEndsBelow n) edges
    → 100 * emitted (shares (out_degree edges) values) edges ≤ 85 * sum values
emitted-le n values edges long ends =
    let w = shares (out_degree edges) values in
    let gathered : emitted w edges ≡ total (λ u. out_degree edges u * w u) n = emitted_by_vertex w n edges ends in
    let scaled : total (λ u. 100 * (out_degree edges u * w u)) n ≡ 100 * total (λ u. out_degree edges u * w u) n =
    total-scale 100 (λ u. out_degree edges u * w u) n in
    let bound : total (λ u. 100 * (out_degree edges u * w u)) n ≤ total (λ u. 85 * slice_index values u) n =
    total-le (λ u. 100 * (out_degree edges u * w u)) (λ u. 85 * slice_index values u) n (λ u h. gives_part (slice_index values u) (out_degree edges u)) in
    let taken : total (λ u. 85 * slice_index values u) n ≡ 85 * total (slice_index values) n = total-scale 85 (slice_index values) n in
    let all : sum values ≡ total (slice_index values) n = sum_by_vertex values ∙ ap (total (slice_index values)) long in
    omega arith

-- what a round makes of the sum of all ranks, without the cap
uncapped-le : (n : ℕ) (values : List ℕ) (edges : List Edge) → length values ≡ n → AllByRecursion (HasEndsBelow n) edges
    → 100 * total (λ v. 150000000 + given (shares (out_degree edges) values) edges v) n ≤ 100 * (n * 150000000) + 85 * sum values
uncapped-le n values edges long ends =
    let w = shares (out_degree edges) values in
    let parts : total (λ v. 150000000 + given w edges v) n ≡ total (λ v. 150000000) n + total (given w edges) n = total-add (λ v. 150000000) (given w edges) n in
    let carried : total (λ v. 150000000) n ≡ n * 150000000 = total_constant 150000000 n in
    let arrived : total (given w edges) n ≡ emitted w edges = total-given w n edges ends in
    let sent = emitted-le n values edges long ends in
    omega arith

round-le : (n : ℕ) (values : List ℕ) (edges : List Edge) → length values ≡ n → AllByRecursion (HasEndsBelow n) edges
    → 100 * sum (round_of rank_kernel edges values) ≤ 100 * (n * 150000000) + 85 * sum values
unfolding round_of
round-le n values edges long ends =
    let w = shares (out_degree edges) values in
    let after = value_after_round rank_kernel edges values in
    let by_vertex : sum (map after (range_with_len 0 (length values))) ≡ total after n = sum_of_range after (length values) ∙ ap (total after) long in
    let capped : total after n ≤ total (λ v. 150000000 + given w edges v) n =
    total-le after (λ v. 150000000 + given w edges v) n (λ v h. joined-le (out_degree edges) values edges v 150000000) in
    let uncapped = uncapped-le n values edges long ends in
    omega arith

pub sum-values_after : (n : ℕ) (edges : List Edge) (rounds : ℕ) → IsGraph n edges
    → sum (values_after rank_kernel n edges rounds) ≤ n * 1000000000
unfolding values_after
sum-values_after n edges zero graph =
    let start : sum (map rank_kernel.initial_value (range_with_len 0 n)) ≡ n * 1000000000 = sum_of_range rank_kernel.initial_value n ∙ total_constant 1000000000 n in
    omega arith
sum-values_after n edges (suc rounds) graph =
    let before = sum-values_after n edges rounds graph in
    let round = round-le n (values_after rank_kernel n edges rounds) edges (length-values_after rank_kernel n edges rounds) (recursion_from_All (HasEndsBelow n) edges graph) in
    omega arith

gift_sum : (degree_of : ℕ → ℕ) (values : List ℕ) (edges : List Edge) (v : ℕ)
    → sum (gifts_to rank_kernel degree_of values edges v) ≡ given (shares degree_of values) edges v
gift_sum degree_of values [] v = refl
gift_sum degree_of values (e ∷ edges) v =
    let w = shares degree_of values in
    let rest = gifts_to rank_kernel degree_of values edges v in
    let one : (b : Bool) → sum (cond b (w e.from ∷ []) [] ++ []) ≡ cond b (w e.from) 0 = elim [ true ↦ omega arith | false ↦ refl ] in
    sum_by-append (λ x. x) (gifts_of_edge rank_kernel degree_of values v e) rest
    ∙ ap (λ t. t + sum rest) (one (eqb e.to v)) ∙ ap (λ t. cond (eqb e.to v) (w e.from) 0 + t) (gift_sum degree_of values edges v)

pub plain_sum : (n : ℕ) (edges : List Edge) (rounds v : ℕ) → n ≤ MAX_VERTICES → IsGraph n edges → v < n
    → value_after_round rank_kernel edges (values_after rank_kernel n edges rounds) v
    ≡ 150000000 + sum (gifts_to rank_kernel (out_degree edges) (values_after rank_kernel n edges rounds) edges v)
plain_sum n edges rounds v small graph within =
    let values = values_after rank_kernel n edges rounds in
    let w = shares (out_degree edges) values in
    let before = sum-values_after n edges rounds graph in
    let uncapped = uncapped-le n values edges (length-values_after rank_kernel n edges rounds) (recursion_from_All (HasEndsBelow n) edges graph) in
    let one : 150000000 + given w edges v ≤ total (λ u. 150000000 + given w edges u) n = term-le-total (λ u. 150000000 + given w edges u) n v within in
    joined-within (out_degree edges) values edges v 150000000 (omega arith)
    ∙ ap (λ t. 150000000 + t) (sym (gift_sum (out_degree edges) values edges v))
