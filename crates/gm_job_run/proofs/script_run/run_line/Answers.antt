use Rattle.std.specs.Prelude.{◌+◌, ◌≤◌}
use Rattle.std.specs.Arc.{arc_value}
use Rattle.std.proofs.Common.{◌≡◌, ℕ, List, length, sym, ap, ◌∙◌, subst}
use Rattle.gm_base.specs.declared.job.Spec.{Spec}
use Rattle.gm_outside.specs.States.{DepotState}
use Rattle.gm_grid.specs.GridBytes.{edges_in}
use Rattle.gm_label.specs.Catalogues.{Catalogue}
use Rattle.gm_source.specs.Fetches.{TellsGrid}
use Rattle.gm_versions.specs.declared.versions.Versions.{Versions}
use Rattle.gm_private.specs.OwnChanges.{IsOwnOver, OwnChanges, snapshot_in}
use Rattle.gm_work.specs.Weights.{run_weight}
use Rattle.gm_versions.specs.Snapshots.{IsSnapshotOver, Snapshot}
use Rattle.gm_core.specs.SnapshotViews.{snapshot_view}
use Rattle.gm_scripts.specs.ScriptJobs.{snapshot_of}
use Rattle.gm_job_run.specs.JobLines.{job_below}
use Rattle.gm_job_run.specs.JobRuns.{JobEnds, pass_reads}
use Rattle.gm_job_run.specs.declared.script_run.Job.{Job}
use Rattle.gm_job_run.proofs.Starting.{own_of, own_over, sees_all}
use Rattle.gm_job_run.proofs.script_run.run_line.Goals as goal

-- what the job sees, by its own changes and all of these updates
seen_here : (versions : Versions) (job : Job) (own : OwnChanges) (version : ℕ) → own ≡ own_of job version → version ≡ length versions.batches
    → snapshot_in versions.batches own ≡ snapshot_of (job_below versions job)
seen_here versions job own version is all =
    ap (snapshot_in versions.batches) (is ∙ ap (own_of job) all) ∙ sees_all versions job

few_by : (old new : DepotState) (name : List ℕ) (cat : Catalogue) (spec : Spec) (s t : Snapshot) → s ≡ t
    → ((bytes : List ℕ) → TellsGrid old.files name cat bytes → new.reads ≤ old.reads + run_weight (snapshot_view spec cat (edges_in bytes) s) (pass_reads cat))
    → (bytes : List ℕ) → TellsGrid old.files name cat bytes → new.reads ≤ old.reads + run_weight (snapshot_view spec cat (edges_in bytes) t) (pass_reads cat)
few_by old new name cat spec s t same few =
    subst (λ (seen : Snapshot). (bytes : List ℕ) → TellsGrid old.files name cat bytes
    → new.reads ≤ old.reads + run_weight (snapshot_view spec cat (edges_in bytes) seen) (pass_reads cat)) same few

pub run_job-requires-clause-view : goal.run_job-requires-clause-view
run_job-requires-clause-view g c =
    let versions = c.args.versions.now in
    let job = c.args.job in
    subst (IsOwnOver (arc_value c.args.cat) versions)
    (sym (c.new-own.ensures ∙ ap (own_of job) c.count-version.ensures.value))
    (own_over (arc_value c.args.cat) versions job c.requires.versions c.requires.over)

pub returns-in_err-outcome-clause-few : goal.returns-in_err-outcome-clause-few
returns-in_err-outcome-clause-few g c =
    few_by (g.D.Depot.state c.args.depot.now) (g.D.Depot.state c.run_job.new.depot) c.args.grid.now (arc_value c.args.cat) c.args.job.spec _ _
    (seen_here c.args.versions.now c.args.job c.new-own.result _ c.new-own.ensures c.count-version.ensures.value) c.run_job.ensures.few

pub returns-clause-few : goal.returns-clause-few
returns-clause-few g c =
    few_by (g.D.Depot.state c.args.depot.now) (g.D.Depot.state c.run_job.new.depot) c.args.grid.now (arc_value c.args.cat) c.args.job.spec _ _
    (seen_here c.args.versions.now c.args.job c.new-own.result _ c.new-own.ensures c.count-version.ensures.value) c.run_job.ensures.few

pub returns-clause-ends : goal.returns-clause-ends
returns-clause-ends g c =
    subst (λ (seen : Snapshot). (bytes : List ℕ) → TellsGrid (g.D.Depot.state c.args.depot.now).files c.args.grid.now (arc_value c.args.cat) bytes
    → JobEnds (snapshot_view c.args.job.spec (arc_value c.args.cat) (edges_in bytes) seen) (pass_reads (arc_value c.args.cat))
    (g.D.Depot.state c.args.depot.now) (g.D.Depot.state c.run_job.new.depot) c.in_ok-outcome.outcome)
    (seen_here c.args.versions.now c.args.job c.new-own.result _ c.new-own.ensures c.count-version.ensures.value) c.in_ok-outcome.ensures.ends

pub run_job-requires-clause-over : goal.run_job-requires-clause-over
run_job-requires-clause-over g c =
    subst (IsSnapshotOver (arc_value c.args.cat).dimensions.n)
    (sym (seen_here c.args.versions.now c.args.job c.new-own.result _ c.new-own.ensures c.count-version.ensures.value)) c.requires.over
