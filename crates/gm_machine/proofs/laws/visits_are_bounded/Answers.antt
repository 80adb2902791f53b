use Rattle.gm_machine.proofs.laws.visits_are_bounded.Goals as goal
use Rattle.gm_machine.proofs.Instance.{bounded_visits}

pub returns : goal.returns
returns g c = λ case journal ok.
    bounded_visits (g.J.LawfulJobs.works case) (g.J.LawfulJobs.script case) (g.J.LawfulJobs.IsMidway case)
    (g.J.LawfulJobs.many case) (g.J.LawfulJobs.lawful case) journal ok
