use Rattle.std.proofs.Common.{not, ap, ◌∙◌}
use Rattle.gm_work.specs.JobStates.{owes_any}
use Rattle.gm_work.specs.HeldJobs.{HeldJob}
use Rattle.gm_work.proofs.Turning.{owes-between}
use Rattle.gm_work.proofs.work.Work.owes_none.Goals as goal

pub returns : goal.returns
returns c =
    c.is_empty.ensures.value ∙ ap not (owes-between c.self.inside.owed) ∙ ap (λ (h : HeldJob). not (owes_any h.state.owed)) c.self.view_is
