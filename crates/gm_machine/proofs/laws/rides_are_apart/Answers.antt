use Rattle.gm_machine.proofs.laws.rides_are_apart.Goals as goal
use Rattle.gm_machine.specs.Setups.{setup_of, IsMidwayEntry}
use Rattle.gm_machine.proofs.Instance.{entry_laws, onward}
use Rattle.gm_machine.proofs.Riding.{none_twice, firsts_once, firsts_all}

pub returns-clause-all : goal.returns-clause-all
returns-clause-all g c = λ case journal ok.
    none_twice (IsMidwayEntry (g.J.LawfulJobs.IsMidway case)) (setup_of (g.J.LawfulJobs.works case) (g.J.LawfulJobs.script case))
    (entry_laws (g.J.LawfulJobs.works case) (g.J.LawfulJobs.script case) (g.J.LawfulJobs.IsMidway case) (g.J.LawfulJobs.many case) (g.J.LawfulJobs.lawful case)) (g.J.LawfulJobs.works case).phases_left
    (onward (g.J.LawfulJobs.works case) (g.J.LawfulJobs.script case) (g.J.LawfulJobs.IsMidway case) (g.J.LawfulJobs.many case) (g.J.LawfulJobs.lawful case)) journal ok

pub returns-clause-first : goal.returns-clause-first
returns-clause-first g c = λ case journal ok.
    firsts_once (IsMidwayEntry (g.J.LawfulJobs.IsMidway case)) (setup_of (g.J.LawfulJobs.works case) (g.J.LawfulJobs.script case))
    (entry_laws (g.J.LawfulJobs.works case) (g.J.LawfulJobs.script case) (g.J.LawfulJobs.IsMidway case) (g.J.LawfulJobs.many case) (g.J.LawfulJobs.lawful case)) (g.J.LawfulJobs.works case).phases_left
    (onward (g.J.LawfulJobs.works case) (g.J.LawfulJobs.script case) (g.J.LawfulJobs.IsMidway case) (g.J.LawfulJobs.many case) (g.J.LawfulJobs.lawful case)) journal ok

pub returns-clause-one_a_visit : goal.returns-clause-one_a_visit
returns-clause-one_a_visit g c = λ case journal ok.
    firsts_all (IsMidwayEntry (g.J.LawfulJobs.IsMidway case)) (setup_of (g.J.LawfulJobs.works case) (g.J.LawfulJobs.script case))
    (entry_laws (g.J.LawfulJobs.works case) (g.J.LawfulJobs.script case) (g.J.LawfulJobs.IsMidway case) (g.J.LawfulJobs.many case) (g.J.LawfulJobs.lawful case)) (g.J.LawfulJobs.works case).phases_left
    (onward (g.J.LawfulJobs.works case) (g.J.LawfulJobs.script case) (g.J.LawfulJobs.IsMidway case) (g.J.LawfulJobs.many case) (g.J.LawfulJobs.lawful case)) journal ok
