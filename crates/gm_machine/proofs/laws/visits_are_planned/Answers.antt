use Rattle.gm_machine.proofs.laws.visits_are_planned.Goals as goal
use Rattle.gm_machine.specs.Setups.{setup_of, IsMidwayEntry}
use Rattle.gm_machine.proofs.Instance.{entry_laws}
use Rattle.gm_machine.proofs.Planning as planning

pub returns-clause-visits : goal.returns-clause-visits
returns-clause-visits g c = λ case journal more ok.
    planning.visits_are_planned (IsMidwayEntry (g.J.LawfulJobs.IsMidway case)) (setup_of (g.J.LawfulJobs.works case) (g.J.LawfulJobs.script case))
    (entry_laws (g.J.LawfulJobs.works case) (g.J.LawfulJobs.script case) (g.J.LawfulJobs.IsMidway case) (g.J.LawfulJobs.many case) (g.J.LawfulJobs.lawful case)) journal ok more

pub returns-clause-outcomes : goal.returns-clause-outcomes
returns-clause-outcomes g c = λ case journal more ok.
    planning.outcomes_are_planned (IsMidwayEntry (g.J.LawfulJobs.IsMidway case)) (setup_of (g.J.LawfulJobs.works case) (g.J.LawfulJobs.script case))
    (entry_laws (g.J.LawfulJobs.works case) (g.J.LawfulJobs.script case) (g.J.LawfulJobs.IsMidway case) (g.J.LawfulJobs.many case) (g.J.LawfulJobs.lawful case)) journal ok more

pub returns-clause-end : goal.returns-clause-end
returns-clause-end g c = λ case journal more ok end.
    planning.end_is_planned (IsMidwayEntry (g.J.LawfulJobs.IsMidway case)) (setup_of (g.J.LawfulJobs.works case) (g.J.LawfulJobs.script case))
    (entry_laws (g.J.LawfulJobs.works case) (g.J.LawfulJobs.script case) (g.J.LawfulJobs.IsMidway case) (g.J.LawfulJobs.many case) (g.J.LawfulJobs.lawful case)) journal ok end.entries end.visits end.jobs more
