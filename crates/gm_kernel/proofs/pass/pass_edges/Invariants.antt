use Rattle.std.proofs.Common.{◌≡◌, ℕ, drop}
use Rattle.std.specs.Prelude.{slice_index}
use Rattle.gm_kernel.specs.Runs.{joined_at}
use Rattle.gm_kernel.proofs.pass.pass_edges.Given as goal

-- the rest of the edges, joined into the sums so far, gives what all of them give from the start
abbrev pub invariant-loop-e : goal.invariant-loop-e
invariant-loop-e g l =
    let joined = joined_at (g.K.Kernel.functions l.kernel) (λ u. slice_index l.degrees u) l.values in
    (v : ℕ) → joined (drop l.e-index l.edges) v (slice_index l.sums v) ≡ joined l.edges v (slice_index l.initial.sums v)
