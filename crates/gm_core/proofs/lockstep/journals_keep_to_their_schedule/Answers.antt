use Rattle.gm_core.proofs.ScriptLaws.{case_of}
use Rattle.gm_core.proofs.lockstep.journals_keep_to_their_schedule.Goals as goal

pub returns : goal.returns
returns c = record {
  allowed = λ cat edges entries journal over planned. c.journals_keep_to_their_schedule.ensures.allowed (case_of c.works_are_lawful.ensures cat edges entries over) journal planned;
  visits = λ cat edges entries journal more schedule over planned from is. c.journals_keep_to_their_schedule.ensures.visits (case_of c.works_are_lawful.ensures cat edges entries over) journal more schedule planned from is;
  outcomes = λ cat edges entries journal more schedule over planned from is. c.journals_keep_to_their_schedule.ensures.outcomes (case_of c.works_are_lawful.ensures cat edges entries over) journal more schedule planned from is;
  end = λ cat edges entries journal more schedule over planned from end is. c.journals_keep_to_their_schedule.ensures.end (case_of c.works_are_lawful.ensures cat edges entries over) journal more schedule planned from end is;
}
