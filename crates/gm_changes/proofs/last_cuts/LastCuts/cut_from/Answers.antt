use Rattle.std.proofs.Common.{◌∙◌}
use Rattle.gm_changes.proofs.Noting.{told_unmarked, told_marked}
use Rattle.gm_changes.proofs.last_cuts.LastCuts.cut_from.Goals as goal

pub returns-then-self-mark_of : goal.returns-then-self-mark_of
returns-then-self-mark_of c changes are =
    let e = c.args.e.now in
    c.is_placed_from.ensures ∙ told_marked c.args.self.now c.args.place e c.mark_of.result c.mark_of.ensures.value c.if-self-mark_of.true ∙ are c.args.place e

pub returns-else-self-mark_of : goal.returns-else-self-mark_of
returns-else-self-mark_of c changes are =
    let e = c.args.e.now in
    told_unmarked c.args.self.now c.args.place e c.mark_of.result c.mark_of.ensures.value c.if-self-mark_of.false ∙ are c.args.place e
