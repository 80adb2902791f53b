use Rattle.gm_work.proofs.Weights.{turns}
use Rattle.gm_work.proofs.laws.weight_is_left.Goals as goal

-- src/laws.rt
pub returns-clause-turns : goal.returns-clause-turns
returns-clause-turns c = turns
