use Rattle.gm_rank.proofs.Flow.{plain_sum}
use Rattle.gm_rank.proofs.laws.ranks_are_plain_sums.Goals as goal

pub returns : goal.returns
returns c n rounds round v edges small graph within = plain_sum n edges round v small graph within
