use Rattle.std.proofs.Common.{sym, arith}
use Rattle.gm_priority.proofs.Greatest.{picked, none_picked}
use Rattle.gm_priority.proofs.priority.pick.Goals as goal

pub returns-then-best-eq0 : goal.returns-then-best-eq0
returns-then-best-eq0 c =
    let best = c.best_rank-best.result in sym (none_picked c.args.blocks c.args.needs.now best.block best.rows best.fewest c.best_rank-best.ensures c.if-best-eq0.true)

pub returns-else-best-eq0 : goal.returns-else-best-eq0
returns-else-best-eq0 c =
    let best = c.best_rank-best.result in sym (picked c.args.blocks c.args.needs.now best.block best.rows best.fewest c.best_rank-best.ensures (omega arith))
