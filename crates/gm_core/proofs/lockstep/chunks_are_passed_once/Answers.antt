use Rattle.gm_core.proofs.ScriptLaws.{case_of}
use Rattle.gm_core.proofs.lockstep.chunks_are_passed_once.Goals as goal

pub returns : goal.returns
returns c cat edges entries journal job chunk over legal may = c.chunks_are_passed_once.ensures (case_of c.works_are_lawful.ensures cat edges entries over) journal job chunk legal may
