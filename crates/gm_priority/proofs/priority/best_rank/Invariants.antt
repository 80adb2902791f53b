use Rattle.gm_priority.specs.Priority.{IsBest}
use Rattle.gm_priority.proofs.priority.best_rank.Given as goal

abbrev pub invariant-loop-block : goal.invariant-loop-block
invariant-loop-block l = IsBest l.blocks l.needs l.block l.best.block l.best.rows l.best.fewest
