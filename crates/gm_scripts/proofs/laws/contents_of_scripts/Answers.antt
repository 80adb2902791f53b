use Rattle.gm_scripts.specs.ScriptJobsRules.{content, joined, shared}
use Rattle.gm_scripts.proofs.laws.contents_of_scripts.Goals as goal

pub returns : goal.returns
returns c = record { joined = joined; content = content; shared = shared }
