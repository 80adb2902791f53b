use Rattle.std.proofs.Common.{sym, ◌∙◌}
use Rattle.std.specs.Arc.{arc_value}
use Rattle.gm_work.proofs.Admitting.{admitted_job-counting, admitted_job-round}
use Rattle.gm_work.proofs.work.Work.admit.Goals as goal
use Rattle.gm_work.proofs.work.Work.admit.Goals.{then-counts_degrees, else-counts_degrees}

pub returns : goal.returns
returns c =
    let a = c.args in
    elim c.if-counts_degrees.branch [
      | then-counts_degrees w ↦ w.work-is ∙ w.owe_counted.ensures
          ∙ admitted_job-counting a.job a.spec (arc_value a.cat) a.overlays _ (sym c.counts_degrees.ensures ∙ w.if-counts_degrees.true) c.in_ok-work.ensures
      | else-counts_degrees w ↦ w.work-is ∙ w.begin_round.ensures
          ∙ admitted_job-round a.job a.spec (arc_value a.cat) a.overlays _ (sym c.counts_degrees.ensures ∙ w.if-counts_degrees.false) c.in_ok-work.ensures
    ]
