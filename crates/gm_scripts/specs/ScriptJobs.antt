-- The jobs of a script by their numbers, in file order: what each of them is, what it sees of a grid, and which copies of the chunks it takes.
use Rattle.std.specs.Prelude.{ℕ, ◌≤◌, List, [], length, slice_index_or}
use Rattle.gm_base.specs.declared.edge.Edge.{Edge}
use Rattle.gm_base.specs.declared.copies.Key.{Key}
use Rattle.gm_base.specs.declared.job.Spec.TheVariants.{Wcc}
use Rattle.gm_base.specs.declared.limits.TheConstants.{MAX_EDGES}
use Rattle.gm_base.specs.Dimensions.{AreDimensions}
use Rattle.gm_base.specs.Graph.{IsGraph}
use Rattle.gm_label.specs.Catalogues.{Catalogue, IsOver}
use Rattle.gm_label.specs.Overlays.{key_at}
use Rattle.gm_versions.specs.Snapshots.{Snapshot, overlays_of}
use Rattle.gm_versions.specs.Keys.{content_of_key}
use Rattle.gm_jobs.specs.declared.script.Line.{Line}
use Rattle.gm_jobs.specs.JobBounds.{IsScriptOver}
use Rattle.gm_jobs.specs.StatedJobs.{StatedJob, jobs_of, updates_of}

-- a grid's edges and their catalogue, and a script over the grid's vertices
pub record IsScriptOverGrid (cat : Catalogue) (edges : List Edge) (entries : List Line) : Type 0 where
  pub dimensions : AreDimensions cat.dimensions.n cat.dimensions.parts
  pub graph : IsGraph cat.dimensions.n edges
  pub few : length edges ≤ MAX_EDGES
  pub catalogue : IsOver cat edges
  pub script : IsScriptOver cat.dimensions.n entries

-- what stands for a number that no job has
abbrev pub no_job : StatedJob
no_job = record { number = 0; name = []; spec = Wcc 0; above = []; own = [] }

-- the job with this number
abbrev pub job_at : List Line → ℕ → StatedJob
job_at entries n = slice_index_or (jobs_of entries) n no_job

-- what a job sees: the updates above its line, and its own changes
abbrev pub snapshot_of : StatedJob → Snapshot
snapshot_of job = record { job = job.number; updates = job.above; own = job.own }

abbrev pub snapshot_at : List Line → ℕ → Snapshot
snapshot_at entries n = snapshot_of (job_at entries n)

-- the key that the job has of a chunk, as its overlays tell it
abbrev pub job_key : Catalogue → List Line → ℕ → ℕ → Key
job_key cat entries n c = key_at (overlays_of cat (snapshot_at entries n)) c

-- the edges that a key of one of the jobs stands for
abbrev pub content_in_script : Catalogue → List Edge → List Line → Key → List Edge
content_in_script cat edges entries key = content_of_key cat edges (updates_of entries) (snapshot_at entries) key
