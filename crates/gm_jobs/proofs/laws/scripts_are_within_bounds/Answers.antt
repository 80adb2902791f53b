use Rattle.gm_jobs.proofs.ScriptBounds.{script_below}
use Rattle.gm_jobs.proofs.laws.scripts_are_within_bounds.Goals as goal

pub returns : goal.returns
returns c = script_below
