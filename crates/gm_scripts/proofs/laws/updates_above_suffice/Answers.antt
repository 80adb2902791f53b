use Rattle.gm_scripts.specs.ScriptJobsRules.{updates_in_parts, taken}
use Rattle.gm_scripts.proofs.laws.updates_above_suffice.Goals as goal

pub returns : goal.returns
returns c = record { parts = updates_in_parts; taken = taken }
