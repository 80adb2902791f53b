-- The job that ranks vertices, and shares taken before a pass.
use Rattle.std.specs.Prelude.{◌≡◌, ℕ, List, slice_index}
use Rattle.gm_base.specs.declared.job.Spec.{Spec}
use Rattle.gm_base.specs.declared.job.Spec.TheVariants.{Rank as RankJob}
use Rattle.gm_kernel.specs.Kernels.{share_of}

-- a rank job; no number of rounds changes its kernel
abbrev pub rank_job : Spec
rank_job = RankJob 0

-- each vertex's entry is what each of its edges gives, by its rank and out-degree
abbrev pub AreShares : (ℕ → ℕ) → List ℕ → List ℕ → Type 0
AreShares degree_of ranks shares = (u : ℕ) → slice_index shares u ≡ share_of (slice_index ranks u) (degree_of u)
