use Rattle.gm_machine.proofs.laws.chunks_are_passed_once.Goals as goal
use Rattle.gm_machine.specs.Setups.{setup_of, IsMidwayEntry}
use Rattle.gm_machine.proofs.Instance.{entry_laws}
use Rattle.gm_machine.proofs.Theorems.{passed_once}

pub returns : goal.returns
returns g c = λ case journal job chunk ok next.
    passed_once (IsMidwayEntry (g.J.LawfulJobs.IsMidway case)) (setup_of (g.J.LawfulJobs.works case) (g.J.LawfulJobs.script case))
    (entry_laws (g.J.LawfulJobs.works case) (g.J.LawfulJobs.script case) (g.J.LawfulJobs.IsMidway case) (g.J.LawfulJobs.many case) (g.J.LawfulJobs.lawful case)) journal job chunk ok next
