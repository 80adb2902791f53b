use Rattle.std.proofs.Common.{List, [], take, sym, subst}
use Rattle.std.proofs.lemmas.List.{take_more}
use Rattle.gm_changes.specs.declared.change.Change.{Change}
use Rattle.gm_changes.specs.Sources.{TellsSources}
use Rattle.gm_changes.proofs.cut_sources.CutSources.of.Goals as goal

pub loop-change-preserved : goal.loop-change-preserved
loop-change-preserved c =
    let changes = c.args.changes.now in
    let at = c.loop-change.change-index in
    subst (λ (cs : List Change). TellsSources cs [] c.note.new.self) (sym (take_more changes at _ c.loop-change-test.true))
    (c.in_ok-note.ensures (take at changes) c.loop-change.invariant)
