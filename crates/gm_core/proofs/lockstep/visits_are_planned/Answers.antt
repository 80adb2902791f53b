use Rattle.gm_core.proofs.ScriptLaws.{case_of}
use Rattle.gm_core.proofs.lockstep.visits_are_planned.Goals as goal

pub returns : goal.returns
returns c = record {
  visits = λ cat edges entries journal more over planned. c.visits_are_planned.ensures.visits (case_of c.works_are_lawful.ensures cat edges entries over) journal more planned;
  outcomes = λ cat edges entries journal more over planned. c.visits_are_planned.ensures.outcomes (case_of c.works_are_lawful.ensures cat edges entries over) journal more planned;
  end = λ cat edges entries journal more over planned at. c.visits_are_planned.ensures.end (case_of c.works_are_lawful.ensures cat edges entries over) journal more planned at;
}
