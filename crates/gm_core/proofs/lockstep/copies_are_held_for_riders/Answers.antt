use Rattle.gm_core.proofs.ScriptLaws.{case_of}
use Rattle.gm_core.proofs.lockstep.copies_are_held_for_riders.Goals as goal

pub returns : goal.returns
returns c = record {
  once = λ cat edges entries journal over legal. c.copies_are_held_for_riders.ensures.once (case_of c.works_are_lawful.ensures cat edges entries over) journal legal;
  riders = λ cat edges entries journal over legal. c.copies_are_held_for_riders.ensures.riders (case_of c.works_are_lawful.ensures cat edges entries over) journal legal;
}
