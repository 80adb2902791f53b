use Rattle.std.proofs.Common.{◌≡◌}
use Rattle.gm_work.specs.JobStates.{phases_left, turning_of}
use Rattle.gm_work.specs.HeldJobs.{context_in, IsSameJob}
use Rattle.gm_work.proofs.work.Work.turn.Given as goal

abbrev pub invariant-loop-self : goal.invariant-loop-self
invariant-loop-self l = record {
  job : IsSameJob l.initial.self l.self;
  so_far : turning_of (context_in l.initial.self) l.initial.self.state ≡ turning_of (context_in l.initial.self) l.self.state;
}

abbrev pub decreases-loop-self : goal.decreases-loop-self
decreases-loop-self l = phases_left l.self.spec l.self.state.phase
