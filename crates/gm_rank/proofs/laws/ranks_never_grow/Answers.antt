use Rattle.gm_rank.proofs.Flow.{sum-values_after}
use Rattle.gm_rank.proofs.laws.ranks_never_grow.Goals as goal

pub returns : goal.returns
returns c n rounds round edges graph = sum-values_after n edges round graph
