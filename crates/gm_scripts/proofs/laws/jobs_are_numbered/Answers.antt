use Rattle.gm_scripts.specs.ScriptJobsRules.{numbered}
use Rattle.gm_scripts.proofs.laws.jobs_are_numbered.Goals as goal

pub returns : goal.returns
returns c = numbered
