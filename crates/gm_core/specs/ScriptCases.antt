-- A script over a grid, whose jobs keep the laws of lockstep.
use Rattle.std.specs.Prelude.{◌≡◌, List, length, refl}
use Rattle.gm_base.specs.declared.edge.Edge.{Edge}
use Rattle.gm_label.specs.Catalogues.{Catalogue}
use Rattle.gm_jobs.specs.declared.script.Line.{Line}
use Rattle.gm_jobs.specs.StatedJobs.{jobs_of}
use Rattle.gm_work.specs.JobStates.{JobState}
use Rattle.gm_machine.specs.JobWorks.{Laws}
use Rattle.gm_machine.specs.Setups.{Setup, setup_of}
use Rattle.gm_core.specs.ScriptWorks.{works_of, IsJobMidRound}

pub record ScriptCase : Type 0 where
  pub cat : Catalogue
  pub edges : List Edge
  pub entries : List Line
  pub lawful : Laws (works_of cat edges entries) (IsJobMidRound cat edges entries)

-- the machine of the script's jobs
abbrev pub script_setup : Catalogue → List Edge → List Line → Setup JobState
script_setup cat edges entries = setup_of (works_of cat edges entries) entries

pub jobs_are_many : (case : ScriptCase) → (works_of case.cat case.edges case.entries).jobs ≡ length (jobs_of case.entries)
unfolding works_of
jobs_are_many case = refl
