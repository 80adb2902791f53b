-- A job from its admission on.
use Rattle.std.specs.Prelude.{◌≡◌, ℕ, ◌≤◌, List, [], ◌∷◌, ◌++◌, length, All, Result, Ok, Err, IfOk}
use Rattle.std.proofs.Common.{ap, ◌∙◌, subst, arith}
use Rattle.std.proofs.Math.Seq.{take-length}
use Rattle.std.proofs.lemmas.List.Elements.{All-tail}
use Rattle.gm_base.specs.declared.job.Spec.{Spec}
use Rattle.gm_outside.specs.States.{DepotState}
use Rattle.gm_grid.specs.GridBytes.{edges_in}
use Rattle.gm_kernel.specs.Runs.{most_rounds}
use Rattle.gm_label.specs.declared.chunk.Overlay.{Overlay}
use Rattle.gm_label.specs.Catalogues.{Catalogue}
use Rattle.gm_source.specs.Fetches.{TellsGrid}
use Rattle.gm_changes.specs.Changes.{ChangesWithin}
use Rattle.gm_versions.specs.declared.versions.Versions.{Versions}
use Rattle.gm_versions.specs.Kept.{IsOf}
use Rattle.gm_changes.specs.declared.change.Change.{Change}
use Rattle.gm_versions.specs.Contents.{all_changes}
use Rattle.gm_private.specs.OwnChanges.{IsOwnOver, OwnChanges, snapshot_in}
use Rattle.gm_work.specs.Views.{JobView, first_standing}
use Rattle.gm_work.specs.Weights.{run_weight, weight_left}
use Rattle.gm_work.specs.HeldJobs.{HeldJob, admitted_job}
use Rattle.gm_versions.specs.Snapshots.{IsSnapshotOver, Snapshot, overlays_of}
use Rattle.gm_scripts.specs.ScriptJobs.{snapshot_of}
use Rattle.gm_core.specs.SnapshotViews.{snapshot_view}
use Rattle.gm_job_run.specs.declared.script_run.Job.{Job}
use Rattle.gm_job_run.specs.JobLines.{job_below}
use Rattle.gm_job_run.specs.JobRuns.{WhereUnderWay, pass_reads}
use Rattle.gm_job_run.proofs.JobLemmas.{Begins, under_way-begins}

abbrev pub WeightBegins : Type 0
WeightBegins = (d : JobView) (weight : ℕ → ℕ) → 1 ≤ most_rounds d.context.spec → weight_left d weight (first_standing d) ≡ run_weight d weight

-- what holds after a call on a job that was just admitted_job, over a depot that tells the grid
pub where-admitted_job : (depot : DepotState) (name : List ℕ) (h : HeldJob) (number : ℕ) (spec : Spec) (cat : Catalogue) (overlays : List Overlay) (seen : Snapshot) (bytes : List ℕ)
    (Holds : JobView → (ℕ → ℕ) → ℕ → Type 0) → h ≡ admitted_job number spec cat overlays → overlays ≡ overlays_of cat seen → 1 ≤ most_rounds spec → Begins → WeightBegins
    → TellsGrid depot.files name cat bytes → WhereUnderWay depot name h seen Holds → Holds (snapshot_view spec cat (edges_in bytes) seen) (pass_reads cat) depot.reads
where-admitted_job depot name h number spec cat overlays seen bytes Holds is sees some begins weighs told holds =
    let seeing : h ≡ admitted_job number spec cat (overlays_of cat seen) = is ∙ ap (admitted_job number spec cat) sees in
    let d = snapshot_view spec cat (edges_in bytes) seen in
    subst (λ (k : HeldJob). WhereUnderWay depot name k seen Holds) seeing holds bytes depot.reads told
    (under_way-begins d (pass_reads cat) depot.reads some begins (weighs d (pass_reads cat) some))

pub ok_weaker : {X E : Type 0} (P Q : X → Type 0) (r : Result X E) → ((x : X) → P x → Q x) → IfOk r P → IfOk r Q
ok_weaker P Q (Ok x) each ok = each x ok
ok_weaker P Q (Err e) each ok = tt

-- behind other changes
All-behind : {X : Type 0} (P : X → Type 0) (xs ys : List X) → All P (xs ++ ys) → All P ys
All-behind P [] ys all = all
All-behind P (x ∷ xs) ys all = All-behind P xs ys (All-tail P x (xs ++ ys) all)

-- a job's own changes, below so many updates
abbrev pub own_of : Job → ℕ → OwnChanges
own_of job version = record { job = job.number; version = version; changes = job.own }

-- a job below all of these updates sees them all
pub sees_all : (versions : Versions) (job : Job) → snapshot_in versions.batches (own_of job (length versions.batches)) ≡ snapshot_of (job_below versions job)
sees_all versions job =
    ap (λ (updates : List (List Change)). record { job = job.number; updates = updates; own = job.own }) (take-length versions.batches)

pub own_over : (cat : Catalogue) (versions : Versions) (job : Job) → IsOf cat versions → IsSnapshotOver cat.dimensions.n (snapshot_of (job_below versions job))
    → IsOwnOver cat versions (own_of job (length versions.batches))
own_over cat versions job of over = record {
  versions = of;
  version = omega arith;
  ends = All-behind (ChangesWithin cat.dimensions.n) (all_changes versions.batches) job.own over.ends;
}
