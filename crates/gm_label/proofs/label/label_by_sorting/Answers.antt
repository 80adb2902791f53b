use Rattle.std.proofs.Common.{◌≡◌, ◌++◌, OnOk, List, ℕ, map, sym, ap, ◌∙◌, subst}
use Rattle.std.specs.List.Sorted.{IsNonDecreasing}
use Rattle.std.proofs.lemmas.List.{take_all}
use Rattle.std.proofs.lemmas.List.Sorted.{IsNonDecreasingBy-from_sort}
use Rattle.gm_base.specs.declared.edge.Edge.{Edge}
use Rattle.gm_label.specs.Labels.{label_of, label_of_sources}
use Rattle.gm_label.proofs.Sorting.{sorted_label}
use Rattle.gm_label.proofs.label.label_by_sorting.Goals as goal

pub push_runs-requires-clause-ascending : goal.push_runs-requires-clause-ascending
push_runs-requires-clause-ascending c =
    subst IsNonDecreasing (sym c.as_slice.ensures.value) (IsNonDecreasingBy-from_sort (λ x. x) c.sort_unstable.new.self.items c.sort_unstable.ensures.sorted)

pub returns : goal.returns
returns c =
    let edges = c.args.edges.now in
    let whole : c.loop-edge.sources.items ≡ map (λ (e : Edge). e.from) edges =
    c.loop-edge.invariant ∙ ap (map (λ (e : Edge). e.from)) (take_all c.loop-edge.edge-index edges c.loop-edge-test.false) in
    let same : c.clear.new.self.items ++ label_of_sources c.as_slice.result.now ≡ label_of edges =
    ap (λ (ps : List (ℕ × ℕ)). ps ++ label_of_sources c.as_slice.result.now) c.clear.ensures.items
    ∙ ap label_of_sources c.as_slice.ensures.value
    ∙ sorted_label c.loop-edge.sources.items c.sort_unstable.new.self.items c.sort_unstable.ensures.permutation
    ∙ ap label_of_sources whole in
    subst (λ (ps : List (ℕ × ℕ)). OnOk c.push_runs.result (c.push_runs.new.pairs.items ≡ ps)) same c.push_runs.ensures
