-- What proofs need of rounds and lone runs: what they keep, what the same graph keeps, and where a run ends.
use Rattle.std.specs.Prelude.{◌≡◌, ℕ, zero, suc, ◌+◌, ◌-◌, ◌<◌, ◌≤◌, Bool, true, false, cond, ◌==◌, List, length, map, slice_index, find, All, Option, Some, None, refl}
use Rattle.std.specs.List.{range_with_len}
use Rattle.std.specs.Str.{bytes_eq}
use Rattle.std.proofs.Common.{inl, inr, sym, ap, ◌∙◌, subst, add-one, arith}
use Rattle.std.proofs.lemmas.Bool.{cases_lt, cond-true, cond-false, eq-eqb, ne_eqb}
use Rattle.std.proofs.lemmas.Grind.{same_number_lists}
use Rattle.std.proofs.lemmas.List.{get_or_past}
use Rattle.std.proofs.lemmas.List.FromFn.{get_or-map-range_with_len, length-map-range_with_len}
use Rattle.gm_base.specs.declared.limits.TheConstants.{TOP}
use Rattle.gm_base.specs.declared.edge.Edge.{Edge}
use Rattle.gm_base.specs.declared.job.Spec.{Spec}
use Rattle.gm_base.specs.declared.job.Spec.TheVariants.{Bfs, Sssp, Wcc, Rank}
use Rattle.gm_base.specs.declared.job.Outcome.{Outcome}
use Rattle.gm_base.specs.declared.job.Outcome.TheVariants.{Done, Rounds}
use Rattle.gm_base.specs.Graph.{IsSameGraph, out_degree}
use Rattle.gm_base.specs.GraphRules.{JoinLaws}
use Rattle.gm_kernel.specs.Kernels.{Kernel, kernel_of}
use Rattle.gm_kernel.specs.KernelLaws.{GivesTheSame, StaysWithinTop}
use Rattle.gm_kernel.specs.KernelsRules.{joins_of, stays_within_top}
use Rattle.gm_kernel.specs.GiftsRules.{StandsIn, fold_keeps, from_edge, gift_of}
use Rattle.gm_kernel.specs.PassRules.{joined_at-same_graph, joined_at-same_gifts, gives_the_same-same_graph}
use Rattle.gm_kernel.specs.Runs.{gifts_of_edge, gifts_to, joined_at, value_after_round, round_of, values_after, is_settled_by, outcome_at, settled_run, lone_run, most_rounds, is_done_after, NoneBefore}

pub slice_index-round_of : (k : Kernel) (edges : List Edge) (values : List ℕ) (v : ℕ) → v < length values
    → slice_index (round_of k edges values) v ≡ value_after_round k edges values v
unfolding round_of
slice_index-round_of k edges values v h = get_or-map-range_with_len (value_after_round k edges values) 0 (length values) v v 0 h (omega arith)

pub length-round_of : (k : Kernel) (edges : List Edge) (values : List ℕ) → length (round_of k edges values) ≡ length values
unfolding round_of
length-round_of k edges values = length-map-range_with_len (value_after_round k edges values) 0 (length values)

-- sums that began as what each vertex carries, and into which all edges were passed, are the values after the round
pub sums_are_round_of : (k : Kernel) (degree_of : ℕ → ℕ) (edges : List Edge) (values sums : List ℕ)
    → GivesTheSame k degree_of (out_degree edges)
    → length sums ≡ length values
    → ((v : ℕ) → v < length values → slice_index sums v ≡ joined_at k degree_of values edges v (k.carried_value (slice_index values v)))
    → sums ≡ round_of k edges values
sums_are_round_of k degree_of edges values sums same long each =
    same_number_lists sums (round_of k edges values) (long ∙ sym (length-round_of k edges values)) (λ v within.
    let within_values : v < length values = omega arith in
    each v within_values
    ∙ joined_at-same_gifts k degree_of (out_degree edges) values edges v (k.carried_value (slice_index values v)) same
    ∙ sym (slice_index-round_of k edges values v within_values))

pub round_of-same_graph : (k : Kernel) (xs ys : List Edge) (values : List ℕ) → JoinLaws k.join_values
    → IsSameGraph xs ys → round_of k xs values ≡ round_of k ys values
round_of-same_graph k xs ys values joins same =
    sums_are_round_of k (out_degree xs) ys values (round_of k xs values) (gives_the_same-same_graph k xs ys same) (length-round_of k xs values)
    (λ v within.
    slice_index-round_of k xs values v within
    ∙ joined_at-same_graph k (out_degree xs) values xs ys v (k.carried_value (slice_index values v)) joins same)

pub length-values_after : (k : Kernel) (n : ℕ) (edges : List Edge) (rounds : ℕ) → length (values_after k n edges rounds) ≡ n
unfolding values_after
length-values_after k n edges zero = length-map-range_with_len k.initial_value 0 n
length-values_after k n edges (suc rounds) =
    length-round_of k edges (values_after k n edges rounds) ∙ length-values_after k n edges rounds

pub slice_index-values_after : (k : Kernel) (n : ℕ) (edges : List Edge) (v : ℕ) → v < n → slice_index (values_after k n edges 0) v ≡ k.initial_value v
unfolding values_after
slice_index-values_after k n edges v h = get_or-map-range_with_len k.initial_value 0 n v v 0 h (omega arith)

-- before the first round
pub values_after-zero : (k : Kernel) (n : ℕ) (edges : List Edge) → values_after k n edges 0 ≡ map k.initial_value (range_with_len 0 n)
unfolding values_after
values_after-zero k n edges = refl

-- one round more
pub values_after-next : (k : Kernel) (n : ℕ) (edges : List Edge) (rounds : ℕ)
    → values_after k n edges (rounds + 1) ≡ round_of k edges (values_after k n edges rounds)
unfolding values_after
values_after-next k n edges rounds = ap (values_after k n edges) (add-one rounds)

-- after the first round the values are the round of those before it
pub values_after-later : (k : Kernel) (n : ℕ) (edges : List Edge) (rounds : ℕ) → (rounds == 0) ≡ false
    → values_after k n edges rounds ≡ round_of k edges (values_after k n edges (rounds - 1))
unfolding values_after
values_after-later k n edges zero later = absurd (cc)
values_after-later k n edges (suc rounds) later =
    let back : rounds ≡ suc rounds - 1 = omega arith in
    ap (λ r. round_of k edges (values_after k n edges r)) back

-- what the next round makes of values so far
pub round_of-next : (k : Kernel) (n : ℕ) (edges : List Edge) (rounds : ℕ) (before after : List ℕ)
    → before ≡ values_after k n edges rounds → after ≡ round_of k edges before → after ≡ values_after k n edges (rounds + 1)
round_of-next k n edges rounds before after was made = made ∙ ap (round_of k edges) was ∙ sym (values_after-next k n edges rounds)

-- and whether it settles
pub is_settled_by-next : (k : Kernel) (n : ℕ) (edges : List Edge) (rounds : ℕ) (before after : List ℕ)
    → before ≡ values_after k n edges rounds → after ≡ round_of k edges before → is_settled_by k n edges (rounds + 1) ≡ bytes_eq after before
unfolding is_settled_by
is_settled_by-next k n edges rounds before after was made =
    let is = round_of-next k n edges rounds before after was made in
    let back : values_after k n edges ((rounds + 1) - 1) ≡ before = ap (values_after k n edges) (omega arith) ∙ sym was in
    λ i. bytes_eq (sym is i) (back i)

pub values_after-same_graph : (k : Kernel) (n : ℕ) (xs ys : List Edge) (rounds : ℕ) → JoinLaws k.join_values
    → IsSameGraph xs ys → values_after k n xs rounds ≡ values_after k n ys rounds
unfolding values_after
values_after-same_graph k n xs ys zero joins same = refl
values_after-same_graph k n xs ys (suc rounds) joins same =
    round_of-same_graph k xs ys (values_after k n xs rounds) joins same
    ∙ ap (round_of k ys) (values_after-same_graph k n xs ys rounds joins same)

gift-within_top : (k : Kernel) (n : ℕ) → StaysWithinTop k n → (degree_of : ℕ → ℕ) (values : List ℕ) (edges : List Edge) (v g : ℕ)
    → ((u : ℕ) → slice_index values u ≤ TOP) → StandsIn g (gifts_to k degree_of values edges v) → g ≤ TOP
gift-within_top k n stays degree_of values edges v g small stands =
    let from = from_edge (gifts_of_edge k degree_of values v) edges g stands in
    let gave = gift_of k degree_of values v from.e g from.gives in
    subst (λ (x : ℕ). x ≤ TOP) (sym gave.is) (stays.gives (slice_index values gave.giver) (degree_of gave.giver) from.e.weight (small gave.giver))

-- a number outside the list counts as 0
slice_index-within_top : (values : List ℕ) → All (λ x. x ≤ TOP) values → (u : ℕ) → slice_index values u ≤ TOP
slice_index-within_top values all u =
    elim (cases_lt u (length values)) as (λ _. slice_index values u ≤ TOP) [
      | inl within ↦ all u 0 within
      | inr past ↦ let none : slice_index values u ≡ 0 = get_or_past values u 0 past in omega arith
    ]

round_of-within_top : (k : Kernel) (n : ℕ) (edges : List Edge) (values : List ℕ) → StaysWithinTop k n
    → All (λ x. x ≤ TOP) values → All (λ x. x ≤ TOP) (round_of k edges values)
unfolding round_of
round_of-within_top k n edges values stays all v d h =
    let after = value_after_round k edges values in
    let small = slice_index-within_top values all in
    let within : v < length values = let long = length-map-range_with_len after 0 (length values) in omega arith in
    subst (λ (x : ℕ). x ≤ TOP) (sym (get_or-map-range_with_len after 0 (length values) v v d within (omega arith)))
    (fold_keeps (λ x. x ≤ TOP) k.join_values (gifts_to k (out_degree edges) values edges v) _ (stays.carries _ (small v))
    (λ t g stands low. stays.joins t g low (gift-within_top k n stays (out_degree edges) values edges v g small stands)))

pub values_after-within_top : (k : Kernel) (n : ℕ) (edges : List Edge) (rounds : ℕ) → StaysWithinTop k n
    → All (λ x. x ≤ TOP) (values_after k n edges rounds)
unfolding values_after
values_after-within_top k n edges zero stays v d h =
    let within : v < n = let long = length-map-range_with_len k.initial_value 0 n in omega arith in
    subst (λ (x : ℕ). x ≤ TOP) (sym (get_or-map-range_with_len k.initial_value 0 n v v d within (omega arith))) (stays.begins v within)
values_after-within_top k n edges (suc rounds) stays v d h =
    round_of-within_top k n edges (values_after k n edges rounds) stays (values_after-within_top k n edges rounds stays) v d h

-- nor of a job of any kind
pub job_values-within_top : (spec : Spec) (n : ℕ) (edges : List Edge) (rounds : ℕ) → n ≤ TOP
    → All (λ x. x ≤ TOP) (values_after (kernel_of spec) n edges rounds)
job_values-within_top spec n edges rounds few = values_after-within_top (kernel_of spec) n edges rounds (stays_within_top spec n few)

-- the first number from a on that passes
find-first : (p : ℕ → Bool) (len a r : ℕ) → a ≤ r → r < a + len → ((j : ℕ) → a ≤ j → j < r → p j ≡ false) → p r ≡ true
    → find p (range_with_len a len) ≡ Some r
find-first p zero a r low high before at = absurd (omega arith)
find-first p (suc len) a r low high before at =
    let rest = find p (range_with_len (a + 1) len) in
    elim (cases_lt a r) as (λ _. cond (p a) (Some a) rest ≡ Some r) [
      | inl less ↦ cond-false (p a) (Some a) rest (before a (omega arith) less)
          ∙ find-first p len (a + 1) r (omega arith) (omega arith) (λ j l h. before j (omega arith) h) at
      | inr same ↦
          let here : a ≡ r = omega arith in
          cond-true (p a) (Some a) rest (ap p here ∙ at) ∙ ap Some here
    ]

-- none of them passes
find-none : (p : ℕ → Bool) (len a : ℕ) → ((j : ℕ) → a ≤ j → j < a + len → p j ≡ false) → find p (range_with_len a len) ≡ None
find-none p zero a none = refl
find-none p (suc len) a none =
    cond-false (p a) (Some a) (find p (range_with_len (a + 1) len)) (none a (omega arith) (omega arith))
    ∙ find-none p len (a + 1) (λ j l h. none j (omega arith) (omega arith))

-- before the first round there is none
pub none_before-one : (test : ℕ → Bool) → NoneBefore test 1
none_before-one test earlier low high = absurd (omega arith)

-- one round more doesn't pass
pub none_before-next : (test : ℕ → Bool) (round : ℕ) → NoneBefore test round → test round ≡ false → NoneBefore test (round + 1)
none_before-next test round before at earlier low high =
    elim (cases_lt earlier round) as (λ _. test earlier ≡ false) [
      | inl less ↦ before earlier low less
      | inr same ↦ let here : earlier ≡ round = omega arith in ap test here ∙ at
    ]

-- the first round that settles ends the run
pub settled_run-done : (k : Kernel) (n : ℕ) (edges : List Edge) (bound round : ℕ) → 1 ≤ round → round ≤ bound
    → NoneBefore (is_settled_by k n edges) round → is_settled_by k n edges round ≡ true
    → settled_run k n edges bound ≡ Done round (values_after k n edges round)
unfolding settled_run
settled_run-done k n edges bound round low high before at =
    ap (outcome_at k n edges bound) (find-first (is_settled_by k n edges) bound 1 round low (omega arith) before at)

pub settled_run-rounds : (k : Kernel) (n : ℕ) (edges : List Edge) (bound : ℕ) → NoneBefore (is_settled_by k n edges) (bound + 1)
    → settled_run k n edges bound ≡ Rounds bound
unfolding settled_run
settled_run-rounds k n edges bound none =
    ap (outcome_at k n edges bound) (find-none (is_settled_by k n edges) bound 1 (λ j l h. none j l (omega arith)))

-- the run of a job of any kind ends at the first round from 1 on after which the job is done
lone_run-find : (spec : Spec) (n : ℕ) (edges : List Edge) → 1 ≤ most_rounds spec
    → lone_run spec n edges ≡ outcome_at (kernel_of spec) n edges (most_rounds spec) (find (is_done_after spec n edges) (range_with_len 1 (most_rounds spec)))
unfolding settled_run
lone_run-find (Bfs source bound) n edges some = refl
lone_run-find (Sssp source bound) n edges some = refl
lone_run-find (Wcc bound) n edges some = refl
lone_run-find (Rank rounds) n edges some =
    sym (ap (outcome_at (kernel_of (Rank rounds)) n edges rounds)
    (find-first (λ round. round == rounds) rounds 1 rounds some (omega arith)
    (λ j l h. ne_eqb j rounds (λ same. omega arith)) (eq-eqb rounds rounds refl)))

pub lone_run-done : (spec : Spec) (n : ℕ) (edges : List Edge) (round : ℕ) → 1 ≤ round → round ≤ most_rounds spec
    → NoneBefore (is_done_after spec n edges) round → is_done_after spec n edges round ≡ true
    → lone_run spec n edges ≡ Done round (values_after (kernel_of spec) n edges round)
lone_run-done spec n edges round low high before at =
    lone_run-find spec n edges (omega arith)
    ∙ ap (outcome_at (kernel_of spec) n edges (most_rounds spec)) (find-first (is_done_after spec n edges) (most_rounds spec) 1 round low (omega arith) before at)

pub lone_run-rounds : (spec : Spec) (n : ℕ) (edges : List Edge) → 1 ≤ most_rounds spec → NoneBefore (is_done_after spec n edges) (most_rounds spec + 1)
    → lone_run spec n edges ≡ Rounds (most_rounds spec)
lone_run-rounds spec n edges some none =
    lone_run-find spec n edges some
    ∙ ap (outcome_at (kernel_of spec) n edges (most_rounds spec)) (find-none (is_done_after spec n edges) (most_rounds spec) 1 (λ j l h. none j l (omega arith)))

-- a run by the values after each number of rounds
outcome_by : ℕ → (ℕ → List ℕ) → Option ℕ → Outcome
outcome_by bound values (Some round) = Done round (values round)
outcome_by bound values None = Rounds bound

run_by : ℕ → (ℕ → List ℕ) → Outcome
run_by bound values = outcome_by bound values (find (λ round. bytes_eq (values round) (values (round - 1))) (range_with_len 1 bound))

outcome_at-by : (k : Kernel) (n : ℕ) (edges : List Edge) (bound : ℕ) (o : Option ℕ) → outcome_at k n edges bound o ≡ outcome_by bound (values_after k n edges) o
unfolding outcome_by
outcome_at-by k n edges bound (Some round) = refl
outcome_at-by k n edges bound None = refl

settled_run-by : (k : Kernel) (n : ℕ) (edges : List Edge) (bound : ℕ) → settled_run k n edges bound ≡ run_by bound (values_after k n edges)
unfolding settled_run is_settled_by run_by
settled_run-by k n edges bound = outcome_at-by k n edges bound (find (is_settled_by k n edges) (range_with_len 1 bound))

pub settled_run-same_graph : (k : Kernel) (n : ℕ) (xs ys : List Edge) (bound : ℕ) → JoinLaws k.join_values
    → IsSameGraph xs ys → settled_run k n xs bound ≡ settled_run k n ys bound
settled_run-same_graph k n xs ys bound joins same =
    let all : values_after k n xs ≡ values_after k n ys = λ i. λ rounds. values_after-same_graph k n xs ys rounds joins same i in
    settled_run-by k n xs bound ∙ ap (run_by bound) all ∙ sym (settled_run-by k n ys bound)

pub lone_run-same_graph : (spec : Spec) (n : ℕ) (xs ys : List Edge) → IsSameGraph xs ys → lone_run spec n xs ≡ lone_run spec n ys
lone_run-same_graph (Bfs source bound) n xs ys same = settled_run-same_graph (kernel_of (Bfs source bound)) n xs ys bound (joins_of (Bfs source bound)) same
lone_run-same_graph (Sssp source bound) n xs ys same = settled_run-same_graph (kernel_of (Sssp source bound)) n xs ys bound (joins_of (Sssp source bound)) same
lone_run-same_graph (Wcc bound) n xs ys same = settled_run-same_graph (kernel_of (Wcc bound)) n xs ys bound (joins_of (Wcc bound)) same
lone_run-same_graph (Rank rounds) n xs ys same = ap (Done rounds) (values_after-same_graph (kernel_of (Rank rounds)) n xs ys rounds (joins_of (Rank rounds)) same)

-- loops over rounds: what the next one makes, whether it settles, and how the run ends
pub ruleset round_steps = (length-round_of, length-values_after, values_after-zero, round_of-next, is_settled_by-next, none_before-one, none_before-next, settled_run-done, settled_run-rounds)

-- the laws of rounds and lone runs
pub ruleset run_laws = (length-round_of, length-values_after, sums_are_round_of, round_of-same_graph, values_after-same_graph, lone_run-same_graph, values_after-within_top, job_values-within_top, settled_run-done, settled_run-rounds, lone_run-done, lone_run-rounds)
