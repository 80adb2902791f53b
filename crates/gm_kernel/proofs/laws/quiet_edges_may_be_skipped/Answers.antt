use Rattle.gm_kernel.specs.ActivityRules.{value_skipping_quiet, sums_skipping_quiet, next_values_skipping_quiet}
use Rattle.gm_kernel.proofs.laws.quiet_edges_may_be_skipped.Goals as goal

pub returns-clause-value : goal.returns-clause-value
returns-clause-value c = value_skipping_quiet

pub returns-clause-round : goal.returns-clause-round
returns-clause-round c kernel = sums_skipping_quiet kernel

pub returns-clause-job : goal.returns-clause-job
returns-clause-job c = next_values_skipping_quiet
