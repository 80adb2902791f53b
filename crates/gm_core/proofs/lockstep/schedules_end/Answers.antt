use Rattle.gm_core.proofs.ScriptLaws.{case_of}
use Rattle.gm_core.proofs.lockstep.schedules_end.Goals as goal

pub returns : goal.returns
returns c = record {
  over = λ cat edges entries misses over. c.schedules_end.ensures.over (case_of c.works_are_lawful.ensures cat edges entries over) misses;
  outcomes = λ cat edges entries misses schedule over is. c.schedules_end.ensures.outcomes (case_of c.works_are_lawful.ensures cat edges entries over) misses schedule is;
  most = λ cat edges entries misses over. c.schedules_end.ensures.most (case_of c.works_are_lawful.ensures cat edges entries over) misses;
}
