use Rattle.gm_kernel.specs.KernelsRules.{laws_of, stays_within_top}
use Rattle.gm_kernel.proofs.laws.jobs_keep_the_laws.Goals as goal

pub returns-clause-laws : goal.returns-clause-laws
returns-clause-laws c = laws_of

pub returns-clause-within_top : goal.returns-clause-within_top
returns-clause-within_top c = stays_within_top
