use Rattle.std.proofs.Common.{rules, not, sym, ◌∙◌}
use Rattle.std.proofs.lemmas.Bool.{eqb-true}
use Rattle.std.proofs.lemmas.Fn.{filter_same}
use Rattle.gm_base.specs.declared.edge.Edge.{Edge}
use Rattle.gm_changes.specs.Kept.{is_cut}
use Rattle.gm_changes.proofs.Noting.{none_noted}
use Rattle.gm_changes.proofs.applying.drop_cut.Goals as goal

pub returns-then-not-is_empty-clause-items : goal.returns-then-not-is_empty-clause-items
returns-then-not-is_empty-clause-items c changes are =
    filter_same _ (λ (e : Edge). not (is_cut changes e)) _ (λ e kept f' k. search (rules, are)) _ _ c.retain.ensures.filtered

pub returns-else-not-is_empty-clause-items : goal.returns-else-not-is_empty-clause-items
returns-else-not-is_empty-clause-items c changes are = none_noted changes c.args.cuts.now c.args.edges.now.items are (eqb-true _ 0 (sym c.is_empty.ensures ∙ c.if-not-is_empty.false))
