use Rattle.std.proofs.Common.{sym, subst}
use Rattle.gm_label.specs.Labels.{IsLabel}
use Rattle.gm_label.specs.LabelsRules.{label_of-is_label}
use Rattle.gm_label.proofs.label.Label.of.Goals as goal

pub invariant_of-result : goal.invariant_of-result
invariant_of-result c = subst IsLabel (sym c.in_ok-label_by_sorting.ensures) (label_of-is_label c.args.edges.now)
