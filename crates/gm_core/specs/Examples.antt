-- The work of two jobs of a script over a small grid.
use Rattle.std.specs.Prelude.{ℕ, [], ◌∷◌}
use Rattle.gm_base.specs.declared.job.Spec.TheVariants.{Bfs}
use Rattle.gm_base.specs.Examples.{path_with_shortcut}
use Rattle.gm_jobs.specs.declared.script.Line.{Line}
use Rattle.gm_jobs.specs.declared.script.Line.TheVariants.{Job}
use Rattle.gm_versions.specs.Examples.{path_catalogue}
use Rattle.gm_scripts.specs.Examples.{two_jobs}
use Rattle.gm_work.specs.JobStates.{JobState}
use Rattle.gm_machine.specs.JobWorks.{JobWorks}
use Rattle.gm_machine.specs.Setups.{Setup}
use Rattle.gm_core.specs.ScriptWorks.{works_of}
use Rattle.gm_core.specs.ScriptCases.{script_setup}

-- over the path with a shortcut
abbrev pub works_on_path : JobWorks JobState
works_on_path = works_of path_catalogue path_with_shortcut two_jobs

-- levels from vertex 0, alone and beside levels from vertex 1
abbrev pub levels : ℕ → ℕ → Line
levels name source = Job (name ∷ []) (Bfs source 5) []

abbrev pub one_bfs_on_path : Setup JobState
one_bfs_on_path = script_setup path_catalogue path_with_shortcut (levels 97 0 ∷ [])

abbrev pub two_bfs_on_path : Setup JobState
two_bfs_on_path = script_setup path_catalogue path_with_shortcut (levels 97 0 ∷ levels 98 1 ∷ [])
