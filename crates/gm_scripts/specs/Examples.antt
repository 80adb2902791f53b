-- A script over a small grid: a job that takes an edge away for itself, an update, and a job below it.
use Rattle.std.specs.Prelude.{ℕ, List, [], ◌∷◌, map, codes}
use Rattle.gm_base.specs.declared.edge.Edge.{Edge}
use Rattle.gm_base.specs.declared.copies.Tag.{Tag}
use Rattle.gm_base.specs.declared.job.Spec.TheVariants.{Bfs}
use Rattle.gm_base.specs.Examples.{path_with_shortcut}
use Rattle.gm_base.specs.Graph.{edge}
use Rattle.gm_label.specs.Catalogues.{chunk_numbers}
use Rattle.gm_changes.specs.declared.change.Change.TheVariants.{Add, Cut}
use Rattle.gm_versions.specs.Examples.{path_catalogue}
use Rattle.gm_versions.specs.Snapshots.{edges_of}
use Rattle.gm_jobs.specs.declared.script.Line.{Line}
use Rattle.gm_jobs.specs.declared.script.Line.TheVariants.{Job, Update}
use Rattle.gm_scripts.specs.ScriptJobs.{snapshot_at, job_key, content_in_script}

-- levels from vertex 0 twice: without the shortcut 0>2, and with an edge 0>3 that the update adds
abbrev pub two_jobs : List Line
two_jobs = Job (codes "walk") (Bfs 0 5) (Cut 0 2 ∷ []) ∷ Update (Add (edge 0 3 1) ∷ []) ∷ Job (codes "joined") (Bfs 0 5) [] ∷ []

-- over the path with a shortcut: all edges that a job sees ..
abbrev pub edges_on_path : ℕ → List Edge
edges_on_path n = edges_of path_with_shortcut (snapshot_at two_jobs n)

-- .. the tags of its keys of all chunks ..
abbrev pub tags_on_path : ℕ → List Tag
tags_on_path n = map (λ c. (job_key path_catalogue two_jobs n c).tag) (chunk_numbers path_catalogue)

-- .. and the edges that a tag stands for in a chunk
abbrev pub content_on_path : ℕ → Tag → List Edge
content_on_path c tag = content_in_script path_catalogue path_with_shortcut two_jobs (record { chunk = c; tag = tag })
