use Rattle.std.proofs.Common.{◌≡◌, ◌-◌, ◌≤◌, ◌++◌, length, drop}
use Rattle.gm_label.specs.Labels.{label_of_sources}
use Rattle.gm_label.proofs.label.push_runs.Given as goal

-- the label so far and that of the sources that are left are that of all
abbrev pub invariant-loop-at : goal.invariant-loop-at
invariant-loop-at l = record {
  within : l.at ≤ length l.sources;
  joined : l.pairs.items ++ label_of_sources (drop l.at l.sources) ≡ l.initial.pairs.items ++ label_of_sources l.sources;
}

abbrev pub decreases-loop-at : goal.decreases-loop-at
decreases-loop-at l = length l.sources - l.at
