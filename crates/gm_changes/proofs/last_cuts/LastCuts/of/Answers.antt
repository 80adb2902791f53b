use Rattle.std.proofs.Common.{List, take, sym, subst, arith}
use Rattle.std.proofs.lemmas.List.{take_more, take_all, length-take-le}
use Rattle.gm_changes.specs.declared.change.Change.{Change}
use Rattle.gm_changes.specs.LastCuts.{HasNoted}
use Rattle.gm_changes.proofs.Noting.{last_cuts}
use Rattle.gm_changes.proofs.last_cuts.LastCuts.of.Goals as goal

pub loop-place-preserved : goal.loop-place-preserved
loop-place-preserved c =
    let changes = c.args.changes.now in
    let place = c.loop-place.place in
    subst (λ (cs : List Change). HasNoted cs c.add.new.self) (sym (take_more changes place _ c.loop-place-test.true))
    (c.in_ok-add.ensures (take place changes) (length-take-le place changes (omega (arith, c.loop-place-test.true))) c.loop-place.invariant)

pub returns : goal.returns
returns c =
    let changes = c.args.changes.now in
    last_cuts changes c.loop-place.cuts
    (subst (λ (cs : List Change). HasNoted cs c.loop-place.cuts) (take_all c.loop-place.place changes c.loop-place-test.false) c.loop-place.invariant)
