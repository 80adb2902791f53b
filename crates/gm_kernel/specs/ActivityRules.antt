-- A round without the gifts of inactive vertices.
use Rattle.std.specs.Prelude.{◌≡◌, ℕ, ◌+◌, ◌-◌, ◌<◌, ◌≤◌, ◌==◌, Bool, true, false, List, ◌++◌, ◌⊎◌, length, slice_index, fold, flat_map, All, refl}
use Rattle.std.proofs.Common.{inl, inr, sym, ap, ◌∙◌, arith}
use Rattle.std.proofs.lemmas.Bool.{cases_Bool, both_ways}
use Rattle.std.proofs.lemmas.List.Elements.{recursion_from_All}
use Rattle.gm_base.specs.declared.limits.TheConstants.{TOP}
use Rattle.gm_base.specs.declared.edge.Edge.{Edge}
use Rattle.gm_base.specs.Graph.{IsSameGraph, out_degree}
use Rattle.gm_base.specs.GraphRules.{JoinLaws, same_graph-transitive}
use Rattle.gm_base.specs.declared.job.Spec.{Spec}
use Rattle.gm_kernel.specs.Kernels.{Kernel, kernel_of}
use Rattle.gm_kernel.specs.KernelsRules.{laws_of}
use Rattle.gm_kernel.specs.Runs.{gift_from, gifts_of_edge, gifts_to, joined_at, value_after_round, round_of, values_after}
use Rattle.gm_kernel.specs.Activity.{activity_of, active_at, active_in_round, IsQuiet, SkipsQuietEdges}
use Rattle.gm_kernel.specs.KernelLaws.{KernelLaws, GivesTheSame}
use Rattle.gm_kernel.specs.GiftsRules.{StandsIn, StandsIn-append_right, All-in, HasInIt, fold_has_in_it, fold_keeps, from_edge, to_gifts, gift_of}
use Rattle.gm_kernel.specs.PassRules.{joined_at-append, joined_at-same_graph, joined_at-same_gifts, joined_at-swap, gives_the_same-same_graph}
use Rattle.gm_kernel.specs.RunsRules.{slice_index-round_of, length-round_of, round_of-same_graph, sums_are_round_of, length-values_after, values_after-next, values_after-later, job_values-within_top}

quiet_giver : (k : Kernel) (active : ℕ → Bool) (e : Edge) (giver : ℕ) → IsQuiet k active e
    → (giver ≡ e.from) ⊎ ((k.is_two_way ≡ true) × (giver ≡ e.to)) → active giver ≡ false
quiet_giver k active e giver quiet end =
    elim end as (λ _. active giver ≡ false) [
      | inl from ↦ ap active from ∙ quiet.source
      | inr to ↦ ap active to.1 ∙ quiet.destination to.0
    ]

-- after the first round v's value has in it what each edge gave in the round before
had_in_it : (k : Kernel) → JoinLaws k.join_values → (degree_of : ℕ → ℕ) (older values : List ℕ) (edges : List Edge) (v : ℕ)
    → GivesTheSame k degree_of (out_degree edges) → values ≡ round_of k edges older → v < length values
    → (e : Edge) (g : ℕ) → StandsIn e edges → StandsIn g (gifts_of_edge k degree_of older v e) → HasInIt k (slice_index values v) g
had_in_it k joins degree_of older values edges v degrees follows within e g stands gives =
    let gifts = gifts_of_edge k degree_of older v in
    let start = k.carried_value (slice_index older v) in
    let within_older : v < length older = omega (arith, ap length follows, length-round_of k edges older) in
    let value : slice_index values v ≡ fold k.join_values start (flat_map gifts edges) =
    ap (λ (xs : List ℕ). slice_index xs v) follows ∙ slice_index-round_of k edges older v within_older
    ∙ sym (joined_at-same_gifts k degree_of (out_degree edges) older edges v start degrees) in
    let found = fold_has_in_it k joins (flat_map gifts edges) start g (to_gifts gifts edges e g stands gives) in
    record { rest = found.rest; is = value ∙ found.is }

-- edges over which no active vertex gives change nothing at v
quiet_edges : (k : Kernel) (is_active : Bool → ℕ → ℕ → ℕ → Bool) → KernelLaws k is_active
    → (degree_of : ℕ → ℕ) (first : Bool) (older values : List ℕ) (edges skipped : List Edge) (v : ℕ)
    → GivesTheSame k degree_of (out_degree edges)
    → slice_index values v ≤ TOP
    → (first ≡ false → values ≡ round_of k edges older)
    → ((e : Edge) → StandsIn e skipped → StandsIn e edges)
    → All (IsQuiet k (active_at is_active first older values degree_of)) skipped
    → v < length values
    → joined_at k degree_of values skipped v (k.carried_value (slice_index values v)) ≡ k.carried_value (slice_index values v)
quiet_edges k is_active laws degree_of first older values edges skipped v degrees small follows among quiet within =
    let active = active_at is_active first older values degree_of in
    let receiver = slice_index values v in
    let start = k.carried_value receiver in
    let each : (t g : ℕ) → StandsIn g (gifts_to k degree_of values skipped v) → t ≡ start → k.join_values t g ≡ start =
    λ t g stands same.
    let from = from_edge (gifts_of_edge k degree_of values v) skipped g stands in
    let gave = gift_of k degree_of values v from.e g from.gives in
    let edge_quiet = All-in (IsQuiet k active) skipped from.e (recursion_from_All (IsQuiet k active) skipped quiet) from.stands in
    let giver_quiet = quiet_giver k active from.e gave.giver edge_quiet gave.end in
    let law = λ (rest : ℕ). laws.inactive_gives_nothing first (slice_index older gave.giver) (slice_index values gave.giver) (degree_of gave.giver) from.e.weight rest receiver small in
    let unchanged : k.join_values start (gift_from k degree_of values gave.giver from.e.weight) ≡ start =
    elim (cases_Bool first) as (λ _. k.join_values start (gift_from k degree_of values gave.giver from.e.weight) ≡ start) [
      | inl is_first ↦ law 0 (λ later. absurd (both_ways first later is_first)) giver_quiet
      | inr is_later ↦
          let before = had_in_it k laws.joins degree_of older values edges v degrees (follows is_later) within from.e _ (among from.e from.stands) (gave.otherwise older) in
          law before.rest (λ _. before.is) giver_quiet
    ] in
    ap (λ s. k.join_values s g) same ∙ ap (k.join_values start) gave.is ∙ unchanged in
    fold_keeps (λ t. t ≡ start) k.join_values (gifts_to k degree_of values skipped v) start refl each

-- v's value after a round, by the edges that weren't skipped
pub value_skipping_quiet : (k : Kernel) (is_active : Bool → ℕ → ℕ → ℕ → Bool) (degree_of : ℕ → ℕ) (first : Bool)
    (older values : List ℕ) (edges past kept skipped : List Edge) (v : ℕ)
    → KernelLaws k is_active
    → SkipsQuietEdges k is_active degree_of first older values edges past kept skipped
    → v < length values
    → value_after_round k edges values v ≡ joined_at k degree_of values kept v (k.carried_value (slice_index values v))
value_skipping_quiet k is_active degree_of first older values edges past kept skipped v laws skips within =
    let start = k.carried_value (slice_index values v) in
    let parts = kept ++ skipped in
    let all = skips.all_edges in
    let degrees_of_parts : GivesTheSame k degree_of (out_degree parts) =
    λ u x weight. skips.degrees u x weight ∙ gives_the_same-same_graph k edges parts all u x weight in
    let follows_parts : first ≡ false → values ≡ round_of k parts older =
    λ later. skips.follows later ∙ round_of-same_graph k past parts older laws.joins (same_graph-transitive past edges parts skips.same_past all) in
    sym (joined_at-same_gifts k degree_of (out_degree edges) values edges v start skips.degrees)
    ∙ joined_at-same_graph k degree_of values edges parts v start laws.joins all
    ∙ joined_at-append k degree_of values kept skipped v start
    ∙ joined_at-swap k degree_of values kept skipped v start laws.joins
    ∙ ap (joined_at k degree_of values kept v)
    (quiet_edges k is_active laws degree_of first older values parts skipped v degrees_of_parts (skips.within_top v 0 within) follows_parts
    (λ e stands. StandsIn-append_right e kept skipped stands) skips.quiet within)

-- sums into which the edges that weren't skipped were passed are the values after the round
pub sums_skipping_quiet : (k : Kernel) (is_active : Bool → ℕ → ℕ → ℕ → Bool) (degree_of : ℕ → ℕ) (first : Bool)
    (older values sums : List ℕ) (edges past kept skipped : List Edge)
    → KernelLaws k is_active
    → SkipsQuietEdges k is_active degree_of first older values edges past kept skipped
    → length sums ≡ length values
    → ((v : ℕ) → v < length values → slice_index sums v ≡ joined_at k degree_of values kept v (k.carried_value (slice_index values v)))
    → sums ≡ round_of k edges values
sums_skipping_quiet k is_active degree_of first older values sums edges past kept skipped laws skips long each =
    sums_are_round_of k (out_degree edges) edges values sums (λ u x weight. refl) long
    (λ v within.
    each v within ∙ sym (value_skipping_quiet k is_active degree_of first older values edges past kept skipped v laws skips within))

-- the same in a round of a job, by its test of activity
pub next_values_skipping_quiet : (spec : Spec) (n round : ℕ) (degree_of : ℕ → ℕ) (sums : List ℕ) (edges kept skipped : List Edge)
    → n ≤ TOP
    → GivesTheSame (kernel_of spec) degree_of (out_degree edges)
    → IsSameGraph edges (kept ++ skipped)
    → All (IsQuiet (kernel_of spec) (active_in_round spec n edges degree_of round)) skipped
    → length sums ≡ n
    → ((v : ℕ) → v < n → slice_index sums v ≡ joined_at (kernel_of spec) degree_of (values_after (kernel_of spec) n edges round) kept v
    ((kernel_of spec).carried_value (slice_index (values_after (kernel_of spec) n edges round) v)))
    → sums ≡ values_after (kernel_of spec) n edges (round + 1)
next_values_skipping_quiet spec n round degree_of sums edges kept skipped few degrees all quiet long each =
    let k = kernel_of spec in
    let values = values_after k n edges round in
    let count = length-values_after k n edges round in
    let skips : SkipsQuietEdges k (activity_of spec) degree_of (round == 0) (values_after k n edges (round - 1)) values edges edges kept skipped =
    record {
      degrees = degrees;
      within_top = job_values-within_top spec n edges round few;
      same_past = λ e. refl;
      follows = values_after-later k n edges round;
      all_edges = all;
      quiet = quiet;
    } in
    sums_skipping_quiet k (activity_of spec) degree_of (round == 0) (values_after k n edges (round - 1)) values sums edges edges kept skipped
    (laws_of spec) skips (long ∙ sym count) (λ v within. each v (omega arith))
    ∙ sym (values_after-next k n edges round)
