use Rattle.std.proofs.Common.{◌≡◌, ℕ, ◌<◌, ◌≤◌, false, length, slice_index}
use Rattle.gm_kernel.specs.Activity.{activity_of, active_at}
use Rattle.gm_active.specs.Bits.{is_in}
use Rattle.gm_work.proofs.marks.mark_active.Given as goal

abbrev pub invariant-loop-vertex : goal.invariant-loop-vertex
invariant-loop-vertex g l = record {
  marked : (v : ℕ) → v < l.vertex → is_in l.active v ≡ active_at (activity_of (g.K.Kernel.job l.kernel)) l.first l.older l.values (λ u. slice_index l.degrees u) v;
  unmarked : (v : ℕ) → l.vertex ≤ v → is_in l.active v ≡ false;
  long : length l.active ≡ length l.values;
}
