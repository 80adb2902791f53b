-- What holds of each script over n vertices.
use Rattle.std.specs.Prelude.{ℕ, ◌<◌, ◌≤◌, List, length, All}
use Rattle.gm_base.specs.declared.job.Spec.{Spec}
use Rattle.gm_base.specs.declared.job.Spec.TheVariants.{Bfs, Sssp, Wcc, Rank}
use Rattle.gm_base.specs.declared.limits.TheConstants.{MAX_CHANGES}
use Rattle.gm_changes.specs.Changes.{ChangesWithin}
use Rattle.gm_jobs.specs.declared.limits.TheConstants.{MAX_JOBS}
use Rattle.gm_jobs.specs.declared.script.Line.{Line}
use Rattle.gm_jobs.specs.declared.script.Line.TheVariants.{Job, Update, Wait}
use Rattle.gm_jobs.specs.Scripts.{names_of, change_lines_of}

-- at least one, by its bound or by the rounds that a rank job makes
abbrev pub MakesSomeRound : Spec → Type 0
MakesSomeRound (Bfs source bound) = 1 ≤ bound
MakesSomeRound (Sssp source bound) = 1 ≤ bound
MakesSomeRound (Wcc bound) = 1 ≤ bound
MakesSomeRound (Rank rounds) = 1 ≤ rounds

-- the source, where there is one, is a vertex
abbrev pub HasSourceBelow : ℕ → Spec → Type 0
HasSourceBelow n (Bfs source bound) = source < n
HasSourceBelow n (Sssp source bound) = source < n
HasSourceBelow n (Wcc bound) = Unit {0}
HasSourceBelow n (Rank rounds) = Unit {0}

-- an entry of a script over n vertices
abbrev pub IsLineOver : ℕ → Line → Type 0
IsLineOver n (Job name spec own) = MakesSomeRound spec × HasSourceBelow n spec × All (ChangesWithin n) own
IsLineOver n (Update batch) = All (ChangesWithin n) batch
IsLineOver n (Wait visits) = Unit {0}

-- each entry is one over n vertices, and there are not too many jobs and changes
pub record IsScriptOver (n : ℕ) (entries : List Line) : Type 0 where
  pub lines : All (IsLineOver n) entries
  pub jobs : length (names_of entries) ≤ MAX_JOBS
  pub changes : change_lines_of entries ≤ MAX_CHANGES
