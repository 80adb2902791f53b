use Rattle.std.proofs.Common.{◌≡◌, length, drop}
use Rattle.gm_label.specs.Overlays.{added_at, AscendByChunk}
use Rattle.gm_active.specs.Needs.{has_source}
use Rattle.gm_active.specs.Adding.{with_all}
use Rattle.gm_active.proofs.scheduling.add_with_added.Given as goal

abbrev pub invariant-loop-overlay : goal.invariant-loop-overlay
invariant-loop-overlay l = record {
  long : length l.into ≡ length l.initial.into;
  ascend : AscendByChunk 0 (drop l.overlay-index l.overlays);
  added : with_all l.into (λ c. has_source (added_at (drop l.overlay-index l.overlays) c)) ≡ with_all l.initial.into (λ c. has_source (added_at l.overlays c));
}
