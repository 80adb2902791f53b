use Rattle.std.proofs.Common.{◌≡◌, map, take}
use Rattle.gm_label.proofs.label.label_by_sorting.Given as goal

abbrev pub invariant-loop-edge : goal.invariant-loop-edge
invariant-loop-edge l = l.sources.items ≡ map (λ e. e.from) (take l.edge-index l.edges)
