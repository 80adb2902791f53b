use Rattle.std.proofs.Common.{◌≡◌, ℕ, drop}
use Rattle.std.specs.Prelude.{slice_index}
use Rattle.gm_kernel.specs.Runs.{joined_at}
use Rattle.gm_rank.proofs.ShareLemmas.{sharing}
use Rattle.gm_rank.proofs.passes.pass_shares.Given as goal

-- the rest of the edges, joined into the sums so far, gives what all of them give from the start
abbrev pub invariant-loop-e : goal.invariant-loop-e
invariant-loop-e l =
    (v : ℕ) → joined_at sharing (λ _. 0) l.shares (drop l.e-index l.edges) v (slice_index l.sums v)
    ≡ joined_at sharing (λ _. 0) l.shares l.edges v (slice_index l.initial.sums v)
