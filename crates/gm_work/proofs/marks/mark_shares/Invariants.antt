use Rattle.std.proofs.Common.{◌≡◌, ◌==◌, ℕ, ◌<◌, ◌≤◌, false, not, length, slice_index}
use Rattle.gm_active.specs.Bits.{is_in}
use Rattle.gm_work.proofs.marks.mark_shares.Given as goal

abbrev pub invariant-loop-vertex : goal.invariant-loop-vertex
invariant-loop-vertex l = record {
  marked : (v : ℕ) → v < l.vertex → is_in l.active v ≡ not (slice_index l.shares v == 0);
  unmarked : (v : ℕ) → l.vertex ≤ v → is_in l.active v ≡ false;
  long : length l.active ≡ length l.shares;
}
