use Rattle.std.proofs.Common.{◌≡◌, ℕ, subst, arith}
use Rattle.gm_priority.specs.Priority.{IsBest}
use Rattle.gm_priority.proofs.Greatest.{best-step}
use Rattle.gm_priority.proofs.priority.best_rank.Goals as goal

pub loop-block-preserved : goal.loop-block-preserved
loop-block-preserved c =
    best-step c.args.blocks c.args.needs.now c.loop-block.block c.loop-block.best c.rank_of-rank.result c.better-best.result (omega arith) c.loop-block.invariant
    c.rank_of-rank.ensures.block c.rank_of-rank.ensures.rows c.rank_of-rank.ensures.fewest c.better-best.ensures.above c.better-best.ensures.not_above

pub returns : goal.returns
returns c =
    let all : c.loop-block.block ≡ c.args.blocks = omega (arith, c.loop-block.auto.block-end) in
    let best = c.loop-block.best in
    subst (λ (end : ℕ). IsBest c.args.blocks c.args.needs.now end best.block best.rows best.fewest) all c.loop-block.invariant
