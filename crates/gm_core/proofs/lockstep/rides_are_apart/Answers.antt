use Rattle.gm_core.proofs.ScriptLaws.{case_of}
use Rattle.gm_core.proofs.lockstep.rides_are_apart.Goals as goal

pub returns : goal.returns
returns c = record {
  all = λ cat edges entries journal over legal. c.rides_are_apart.ensures.all (case_of c.works_are_lawful.ensures cat edges entries over) journal legal;
  first = λ cat edges entries journal over legal. c.rides_are_apart.ensures.first (case_of c.works_are_lawful.ensures cat edges entries over) journal legal;
  one_a_visit = λ cat edges entries journal over legal. c.rides_are_apart.ensures.one_a_visit (case_of c.works_are_lawful.ensures cat edges entries over) journal legal;
}
