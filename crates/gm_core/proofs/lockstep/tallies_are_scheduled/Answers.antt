use Rattle.gm_core.proofs.ScriptLaws.{case_of}
use Rattle.gm_core.proofs.lockstep.tallies_are_scheduled.Goals as goal

pub returns : goal.returns
returns c = record {
  visits = λ cat edges entries journal over legal closed. c.tallies_are_scheduled.ensures.visits (case_of c.works_are_lawful.ensures cat edges entries over) journal legal closed;
  schedule = λ cat edges entries journal schedule over planned end is. c.tallies_are_scheduled.ensures.schedule (case_of c.works_are_lawful.ensures cat edges entries over) journal schedule planned end is;
}
