-- What a job sees of a grid's chunks is its view, cut into them.
use Rattle.std.specs.Prelude.{◌≡◌, ℕ, ◌<◌, ◌≤◌, List, length, flat_map, All}
use Rattle.std.specs.List.{list_any}
use Rattle.std.proofs.Common.{true, eqb, sym, subst, arith}
use Rattle.gm_base.specs.declared.edge.Edge.{Edge}
use Rattle.gm_base.specs.declared.job.Spec.{Spec}
use Rattle.gm_base.specs.declared.limits.TheConstants.{MAX_EDGES}
use Rattle.gm_base.specs.Dimensions.{AreDimensions}
use Rattle.gm_base.specs.Graph.{IsGraph}
use Rattle.gm_base.specs.GraphRules.{same_graph-symmetric}
use Rattle.gm_label.specs.Catalogues.{Catalogue, chunk_numbers, place_at, IsOver}
use Rattle.gm_changes.specs.ChangesRules.{edges_after-few}
use Rattle.gm_versions.specs.Snapshots.{Snapshot, IsSnapshotOver, changes_of, edges_of, content_of}
use Rattle.gm_versions.specs.ContentsRules.{edges_after-within, content-within}
use Rattle.gm_versions.specs.SnapshotsRules.{contents-view, content-in_block, content-listed, sources_under-overlays}
use Rattle.gm_work.specs.Views.{IsCutIntoChunks}
use Rattle.gm_work.specs.ViewsRules.{blocks-in_columns}
use Rattle.gm_jobs.specs.declared.script.Line.{Line}
use Rattle.gm_jobs.specs.StatedJobs.{jobs_of}
use Rattle.gm_scripts.specs.ScriptJobs.{IsScriptOverGrid, job_at, snapshot_at}
use Rattle.gm_scripts.specs.ScriptJobsRules.{sees_vertices}
use Rattle.gm_core.specs.SnapshotViews.{snapshot_view, job_view}

pub view_is_cut : (spec : Spec) (cat : Catalogue) (edges : List Edge) (s : Snapshot) → AreDimensions cat.dimensions.n cat.dimensions.parts → IsGraph cat.dimensions.n edges
    → length edges ≤ MAX_EDGES → IsOver cat edges → IsSnapshotOver cat.dimensions.n s → IsCutIntoChunks (snapshot_view spec cat edges s)
view_is_cut spec cat edges s dims graph few over changes =
    let added = edges_after-few (changes_of s) edges in
    let least = changes.few in
    record {
      dimensions = dims;
      few = omega (arith, few, added, least);
      graph = edges_after-within cat.dimensions.n (changes_of s) edges changes.ends graph;
      whole = same_graph-symmetric (flat_map (content_of cat edges s) (chunk_numbers cat)) (edges_of edges s) (contents-view cat edges s over dims changes.ends);
      ends = λ c. content-within cat edges (changes_of s) c graph changes.ends;
      sources = λ c. subst (λ (sources : List ℕ). All (λ e. list_any (λ u. eqb u e.from) sources ≡ true) (content_of cat edges s c))
          (sym (sources_under-overlays cat s c)) (content-listed cat edges s c over);
      columns = λ c. blocks-in_columns cat.dimensions (place_at cat c).block (content_of cat edges s c) dims (content-within cat edges (changes_of s) c graph changes.ends)
          (content-in_block cat edges s c over);
    }

pub job_is_cut : (cat : Catalogue) (edges : List Edge) (entries : List Line) (n : ℕ) → IsScriptOverGrid cat edges entries → n < length (jobs_of entries)
    → IsCutIntoChunks (job_view cat edges entries n)
job_is_cut cat edges entries n over within =
    view_is_cut (job_at entries n).spec cat edges (snapshot_at entries n) over.dimensions over.graph over.few over.catalogue
    (sees_vertices cat edges entries n over within)
