-- What a job that is run sees of a grid's file.
use Rattle.std.specs.Prelude.{◌≡◌, ℕ, List, Result}
use Rattle.gm_base.specs.declared.job.Spec.{Spec}
use Rattle.gm_outside.specs.States.{DepotState}
use Rattle.gm_grid.specs.GridBytes.{edges_in}
use Rattle.gm_label.specs.Catalogues.{Catalogue}
use Rattle.gm_work.specs.HeldJobs.{HeldJob}
use Rattle.gm_work.specs.Views.{JobView}
use Rattle.gm_private.specs.OwnChanges.{IsOwnOver, snapshot_in}
use Rattle.gm_versions.specs.Snapshots.{Snapshot, IsSnapshotOver, overlays_of}
use Rattle.gm_core.specs.SnapshotViews.{snapshot_view}
use Rattle.gm_job_run.specs.declared.job_run.End.{End}
use Rattle.gm_job_run.specs.declared.job_run.Stop.{Stop}
use Rattle.gm_job_run.specs.declared.view.View.{View}
use Rattle.gm_job_run.specs.JobRuns.{StaysUnderWay, EndsFor, Carries}

-- what the job sees, by the updates so far
abbrev pub seen_in : View → Snapshot
seen_in view = snapshot_in view.versions.now.batches view.own.now

-- a job over what the view shows of the edges that these bytes of its grid tell
abbrev pub shown_view : View → Spec → Catalogue → List ℕ → JobView
shown_view view spec cat bytes = snapshot_view spec cat (edges_in bytes) (seen_in view)

-- the view is of a grid with this catalogue
abbrev pub IsViewOf : Catalogue → View → Type 0
IsViewOf cat view = IsOwnOver cat view.versions.now view.own.now

-- a job that is held has the overlays of what it sees, and its changes are of the grid's vertices
pub record Sees (h : HeldJob) (seen : Snapshot) : Type 0 where
  pub overlays : h.overlays ≡ overlays_of h.catalogue seen
  pub over : IsSnapshotOver h.catalogue.dimensions.n seen

-- over what a view shows, a job stays under way
abbrev pub StaysIn : View → DepotState → DepotState → HeldJob → HeldJob → Type 0
StaysIn view old new before after = StaysUnderWay old new view.name.now (seen_in view) before after

-- .. ends so
abbrev pub EndsIn : View → DepotState → DepotState → HeldJob → HeldJob → End → Type 0
EndsIn view old new before after end = EndsFor old new view.name.now (seen_in view) before after end

-- .. and is carried_values on by a call
abbrev pub CarriesIn : {T : Type 0} → View → DepotState → DepotState → HeldJob → HeldJob → Result T Stop → Type 0
CarriesIn view old new before after result = Carries old new view.name.now (seen_in view) before after result
