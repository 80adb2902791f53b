use Rattle.std.proofs.Common.{◌≡◌, ℕ, ◌<◌, get_or}
use Rattle.gm_work.proofs.kinds.carry.Given as goal

abbrev pub invariant-loop-vertex : goal.invariant-loop-vertex
invariant-loop-vertex g l = (v : ℕ) → v < l.vertex → get_or l.sums v 0 ≡ (g.K.Kernel.functions l.kernel).carried_value (get_or l.values v 0)
