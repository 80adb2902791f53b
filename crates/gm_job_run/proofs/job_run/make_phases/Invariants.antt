use Rattle.gm_work.specs.JobStates.{phases_left}
use Rattle.gm_job_run.specs.SeenViews.{seen_in}
use Rattle.gm_job_run.proofs.Passing.{GoesOn}
use Rattle.gm_job_run.proofs.job_run.make_phases.Given as goal

abbrev pub invariant-loop-work : goal.invariant-loop-work
invariant-loop-work g l = GoesOn (g.D.Depot.state l.initial.depot) (g.D.Depot.state l.depot) l.view.name.now (seen_in l.view) l.initial.work l.work

abbrev pub decreases-loop-work : goal.decreases-loop-work
decreases-loop-work g l = phases_left l.work.spec l.work.state.phase
