-- How a job that was run ends.
use Rattle.std.specs.Prelude.{◌≡◌, ℕ, ◌+◌, ◌≤◌, List, Some, None}
use Rattle.std.proofs.Common.{inr, sym, subst, arith}
use Rattle.gm_job_run.specs.declared.job_run.End.{End}
use Rattle.gm_job_run.specs.declared.job_run.End.TheVariants.{Done as DoneEnd, Bound as BoundEnd}
use Rattle.gm_base.specs.declared.job.Outcome.{Outcome}
use Rattle.gm_outside.specs.States.{DepotState}
use Rattle.gm_label.specs.Catalogues.{Catalogue}
use Rattle.gm_work.specs.Views.{JobView}
use Rattle.gm_work.specs.Weights.{run_weight}
use Rattle.gm_base.specs.declared.edge.Edge.{Edge}
use Rattle.gm_base.specs.declared.job.Spec.{Spec}
use Rattle.gm_versions.specs.Snapshots.{Snapshot}
use Rattle.gm_core.specs.SnapshotViews.{snapshot_view}
use Rattle.gm_job_run.specs.declared.job_run.Stop.{Stop}
use Rattle.gm_job_run.specs.declared.job_run.Stop.TheVariants.{Read, Changed, Memory}
use Rattle.gm_job_run.specs.JobRuns.{IsEnd, JobEnds, FaultsFor, StopFaults, StopsBy, outcome_of_end, outcome_of_stop}
use Rattle.gm_outside.specs.CausesRules.{counted_times-few}

pub turn_faults : (before now : ℕ) (values : List ℕ) (end : End) → now ≡ before → FaultsFor before now (outcome_of_end values end)
turn_faults before now values (DoneEnd rounds) same = same
turn_faults before now values (BoundEnd bound) same = same

-- reads of a whole run
pub end_few : (d : JobView) (reads_of : ℕ → ℕ) (first reads : ℕ) (outcome : Outcome) → IsEnd d reads_of first outcome reads → reads ≤ first + run_weight d reads_of
end_few d reads_of first reads outcome end = let few = counted_times-few (run_weight d reads_of) first in let is = end.1 in omega (arith, few, is)

same_some : (x y : Outcome) → Some x ≡ Some y → x ≡ y
same_some x y is = cc

pub stop_ends : (spec : Spec) (cat : Catalogue) (edges : List Edge) (seen : Snapshot) (reads_of : ℕ → ℕ) (old new : DepotState) (stop : Stop) (outcome : Outcome)
    → Some outcome ≡ outcome_of_stop cat stop → StopsBy (snapshot_view spec cat edges seen) old.calm stop → JobEnds (snapshot_view spec cat edges seen) reads_of old new outcome
stop_ends spec cat edges seen reads_of old new (Read chunk) outcome is stops = inr (record { chunk = chunk; is = same_some outcome _ is; needed = stops.0; not_calm = stops.1 })
stop_ends spec cat edges seen reads_of old new (Changed chunk) outcome is stops = absurd stops
stop_ends spec cat edges seen reads_of old new Memory outcome is stops = absurd cc

pub stop_faults : (cat : Catalogue) (before now : ℕ) (stop : Stop) (outcome : Outcome) → Some outcome ≡ outcome_of_stop cat stop → StopFaults before now stop
    → FaultsFor before now outcome
stop_faults cat before now (Read chunk) outcome is faults = subst (FaultsFor before now) (sym (same_some outcome _ is)) faults
stop_faults cat before now (Changed chunk) outcome is faults = subst (FaultsFor before now) (sym (same_some outcome _ is)) faults
stop_faults cat before now Memory outcome is faults = absurd cc

pub stop_wants : (cat : Catalogue) (before now : ℕ) (stop : Stop) → outcome_of_stop cat stop ≡ None → StopFaults before now stop → now ≡ before
stop_wants cat before now (Read chunk) none faults = absurd cc
stop_wants cat before now (Changed chunk) none faults = absurd cc
stop_wants cat before now Memory none faults = faults
