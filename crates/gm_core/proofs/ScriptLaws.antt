-- A script over a grid as the machine's laws take it.
use Rattle.std.specs.Prelude.{List}
use Rattle.gm_base.specs.declared.edge.Edge.{Edge}
use Rattle.gm_label.specs.Catalogues.{Catalogue}
use Rattle.gm_jobs.specs.declared.script.Line.{Line}
use Rattle.gm_machine.specs.JobWorks.{Laws}
use Rattle.gm_scripts.specs.ScriptJobs.{IsScriptOverGrid}
use Rattle.gm_core.specs.ScriptWorks.{works_of, IsJobMidRound}
use Rattle.gm_core.specs.ScriptCases.{ScriptCase}

-- by the law of all scripts over grids
abbrev pub case_of : ((cat : Catalogue) (edges : List Edge) (entries : List Line) → IsScriptOverGrid cat edges entries → Laws (works_of cat edges entries) (IsJobMidRound cat edges entries))
    → (cat : Catalogue) (edges : List Edge) (entries : List Line) → IsScriptOverGrid cat edges entries → ScriptCase
case_of law cat edges entries over = record { cat = cat; edges = edges; entries = entries; lawful = law cat edges entries over }
