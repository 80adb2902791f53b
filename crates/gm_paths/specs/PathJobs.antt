-- The jobs that look for paths from a source.
use Rattle.std.specs.Prelude.{ℕ, Bool, if◌then◌else◌}
use Rattle.gm_base.specs.declared.job.Spec.{Spec}
use Rattle.gm_base.specs.declared.job.Spec.TheVariants.{Bfs as BfsJob, Sssp as SsspJob}

-- a job that adds up the edges' weights, or one for each edge; no bound changes its kernel
abbrev pub path_job : Bool → ℕ → Spec
path_job weighted source = if weighted then SsspJob source 0 else BfsJob source 0
