use Rattle.std.proofs.Common.{◌≡◌, length, drop}
use Rattle.gm_label.specs.Overlays.{added_at, AscendByChunk}
use Rattle.gm_active.specs.Bits.{is_in}
use Rattle.gm_active.specs.Needs.{is_column_active}
use Rattle.gm_active.specs.Adding.{with_all, is_needed_for}
use Rattle.gm_active.proofs.scheduling.add_by_overlays.Given as goal

abbrev pub invariant-loop-overlay : goal.invariant-loop-overlay
invariant-loop-overlay l = record {
  long : length l.into ≡ length l.initial.into;
  ascend : AscendByChunk 0 (drop l.overlay-index l.overlays);
  known : l.known.1 ≡ is_column_active l.cat.dimensions l.two_way (is_in l.active) l.known.0;
  added : with_all l.into (λ c. is_needed_for l.cat l.two_way l.active c (added_at (drop l.overlay-index l.overlays) c))
      ≡ with_all l.initial.into (λ c. is_needed_for l.cat l.two_way l.active c (added_at l.overlays c));
}
