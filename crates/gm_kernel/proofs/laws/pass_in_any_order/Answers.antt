use Rattle.gm_kernel.specs.PassRules.{same_graph-permutation}
use Rattle.gm_kernel.proofs.laws.pass_in_any_order.Goals as goal

pub returns-clause-parts : goal.returns-clause-parts
returns-clause-parts c = same_graph-permutation
