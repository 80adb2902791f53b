use Rattle.gm_machine.proofs.laws.copies_are_held_for_riders.Goals as goal
use Rattle.gm_machine.specs.Setups.{setup_of, IsMidwayEntry}
use Rattle.gm_machine.proofs.Instance.{entry_laws}
use Rattle.gm_machine.proofs.Theorems.{held_once, held_for_riders}

pub returns-clause-once : goal.returns-clause-once
returns-clause-once g c = λ case journal ok.
    held_once (IsMidwayEntry (g.J.LawfulJobs.IsMidway case)) (setup_of (g.J.LawfulJobs.works case) (g.J.LawfulJobs.script case))
    (entry_laws (g.J.LawfulJobs.works case) (g.J.LawfulJobs.script case) (g.J.LawfulJobs.IsMidway case) (g.J.LawfulJobs.many case) (g.J.LawfulJobs.lawful case)) journal ok

pub returns-clause-riders : goal.returns-clause-riders
returns-clause-riders g c = λ case journal ok.
    held_for_riders (IsMidwayEntry (g.J.LawfulJobs.IsMidway case)) (setup_of (g.J.LawfulJobs.works case) (g.J.LawfulJobs.script case))
    (entry_laws (g.J.LawfulJobs.works case) (g.J.LawfulJobs.script case) (g.J.LawfulJobs.IsMidway case) (g.J.LawfulJobs.many case) (g.J.LawfulJobs.lawful case)) journal ok
