use Rattle.gm_core.proofs.ScriptLaws.{case_of}
use Rattle.gm_core.proofs.lockstep.visits_are_bounded.Goals as goal

pub returns : goal.returns
returns c cat edges entries journal over legal = c.visits_are_bounded.ensures (case_of c.works_are_lawful.ensures cat edges entries over) journal legal
