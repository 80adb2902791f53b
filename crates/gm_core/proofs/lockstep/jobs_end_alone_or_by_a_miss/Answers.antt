use Rattle.gm_core.proofs.ScriptLaws.{case_of}
use Rattle.gm_core.proofs.lockstep.jobs_end_alone_or_by_a_miss.Goals as goal

pub returns : goal.returns
returns c cat edges entries journal over legal = c.jobs_end_alone_or_by_a_miss.ensures (case_of c.works_are_lawful.ensures cat edges entries over) journal legal
