use Rattle.gm_base.specs.GraphRules.{out_degree-same}
use Rattle.gm_base.proofs.laws.out_degrees.Goals as goal

pub returns-clause-same : goal.returns-clause-same
returns-clause-same c = out_degree-same
