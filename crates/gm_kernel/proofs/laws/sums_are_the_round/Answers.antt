use Rattle.gm_kernel.specs.RunsRules.{sums_are_round_of}
use Rattle.gm_kernel.proofs.laws.sums_are_the_round.Goals as goal

pub returns : goal.returns
returns c = sums_are_round_of
