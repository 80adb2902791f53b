use Rattle.gm_core.proofs.ScriptLaws.{case_of}
use Rattle.gm_core.proofs.lockstep.jobs_are_midway_or_lone.Goals as goal

pub returns : goal.returns
returns c cat edges entries journal over legal = c.every_job_is_sound.ensures (case_of c.works_are_lawful.ensures cat edges entries over) journal legal
