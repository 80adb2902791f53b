use Rattle.std.proofs.Common.{arith, rules}
use Rattle.std.proofs.lemmas.Grind.{common_steps}
use Rattle.gm_outside.proofs.Written.{grew_by-more, grew_by-last, grew_by_prefix-take, grew_by_prefix-stop}
use Rattle.gm_outside.proofs.writing.write_piece.Goals as goal

pub returns-in_err-at-clause-err : goal.returns-in_err-at-clause-err
returns-in_err-at-clause-err g c =
    let stopped = grew_by_prefix-stop c.args.piece.now c.loop.at c.loop.invariant.grew c.in_err-at.ensures.err in
    search (rules, stopped)

pub returns-then-at-piece-clause-ok : goal.returns-then-at-piece-clause-ok
returns-then-at-piece-clause-ok g c =
    grew_by-last c.args.piece.now c.loop.at c.in_ok-at.field-0 c.if-at-piece.true c.loop.invariant.grew c.in_ok-at.ensures.ok

pub loop-preserved : goal.loop-preserved
loop-preserved g c = record {
  within = let within = c.in_ok-at.ensures.within in grind (arith, common_steps, within);
  grew = grew_by-more c.args.piece.now c.loop.at c.in_ok-at.field-0 c.loop.invariant.grew c.in_ok-at.ensures.ok;
}

pub returns-clause-err : goal.returns-clause-err
returns-clause-err g c = grew_by_prefix-take c.args.piece.now c.loop.at c.loop.invariant.grew
