use Rattle.std.proofs.Common.{◌≡◌, ℕ, ◌+◌, min, take}
use Rattle.std.specs.Prelude.{slice_index}
use Rattle.gm_base.specs.Graph.{out_degree}
use Rattle.gm_rank.specs.declared.passes.TheConstants.{MAX_DEGREE}
use Rattle.gm_rank.proofs.passes.count_pass.Given as goal

-- each degree has the edges so far counted into it
abbrev pub invariant-loop-e : goal.invariant-loop-e
invariant-loop-e l = (v : ℕ) → slice_index l.degrees v ≡ min (slice_index l.initial.degrees v + out_degree (take l.e-index l.edges) v) MAX_DEGREE
