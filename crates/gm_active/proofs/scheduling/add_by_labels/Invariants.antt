use Rattle.std.proofs.Common.{◌≡◌, ◌-◌, ◌≤◌}
use Rattle.gm_label.specs.Catalogues.{sources_at}
use Rattle.gm_active.specs.Adding.{with_all, between, is_needed_for}
use Rattle.gm_active.proofs.scheduling.add_by_labels.Given as goal

abbrev pub invariant-loop-at : goal.invariant-loop-at
invariant-loop-at l = record {
  within : l.at ≤ l.chunks;
  added : l.into ≡ with_all l.initial.into (between 0 l.at (λ c. is_needed_for l.cat l.two_way l.active c (sources_at l.cat c)));
}

abbrev pub decreases-loop-at : goal.decreases-loop-at
decreases-loop-at l = l.chunks - l.at
