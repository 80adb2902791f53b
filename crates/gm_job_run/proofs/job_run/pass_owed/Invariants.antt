use Rattle.std.specs.Prelude.{◌-◌}
use Rattle.gm_job_run.specs.SeenViews.{seen_in}
use Rattle.gm_job_run.proofs.Passing.{PassesSo}
use Rattle.gm_job_run.proofs.job_run.pass_owed.Given as goal

abbrev pub invariant-loop-chunk : goal.invariant-loop-chunk
invariant-loop-chunk g l = PassesSo (g.D.Depot.state l.initial.depot) (g.D.Depot.state l.depot) l.view.name.now (seen_in l.view) l.initial.work l.work l.from

abbrev pub decreases-loop-chunk : goal.decreases-loop-chunk
decreases-loop-chunk g l = l.chunks - l.from
