use Rattle.std.proofs.Common.{◌≡◌, ℕ, ◌<◌}
use Rattle.std.specs.Prelude.{slice_index}
use Rattle.gm_kernel.specs.Kernels.{share_of}
use Rattle.gm_rank.proofs.passes.take_shares.Given as goal

abbrev pub invariant-loop-vertex : goal.invariant-loop-vertex
invariant-loop-vertex l = (u : ℕ) → u < l.vertex → slice_index l.shares u ≡ share_of (slice_index l.ranks u) (slice_index l.degrees u)
