use Rattle.gm_machine.proofs.laws.jobs_end_alone_or_by_a_miss.Goals as goal
use Rattle.gm_machine.specs.Setups.{setup_of, IsMidwayEntry}
use Rattle.gm_machine.proofs.Instance.{entry_laws}
use Rattle.gm_machine.proofs.Scheduled.{ends_alone_or_missed}

pub returns : goal.returns
returns g c = λ case journal ok.
    ends_alone_or_missed (IsMidwayEntry (g.J.LawfulJobs.IsMidway case)) (setup_of (g.J.LawfulJobs.works case) (g.J.LawfulJobs.script case))
    (entry_laws (g.J.LawfulJobs.works case) (g.J.LawfulJobs.script case) (g.J.LawfulJobs.IsMidway case) (g.J.LawfulJobs.many case) (g.J.LawfulJobs.lawful case)) journal ok
