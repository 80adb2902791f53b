use Rattle.std.specs.Prelude.{◌*◌}
use Rattle.gm_machine.proofs.laws.tallies_are_scheduled.Goals as goal
use Rattle.gm_machine.specs.Setups.{setup_of, IsMidwayEntry}
use Rattle.gm_machine.proofs.Instance.{entry_laws, measured, few}
use Rattle.gm_machine.proofs.Soundness.{sound}
use Rattle.gm_machine.proofs.TallyLaws.{tally_closed}
use Rattle.gm_machine.proofs.Scheduled.{has_tally}

pub returns-clause-visits : goal.returns-clause-visits
returns-clause-visits g c = λ case journal ok closed.
    tally_closed (IsMidwayEntry (g.J.LawfulJobs.IsMidway case)) (setup_of (g.J.LawfulJobs.works case) (g.J.LawfulJobs.script case))
    (entry_laws (g.J.LawfulJobs.works case) (g.J.LawfulJobs.script case) (g.J.LawfulJobs.IsMidway case) (g.J.LawfulJobs.many case) (g.J.LawfulJobs.lawful case)) journal ok
    (sound (IsMidwayEntry (g.J.LawfulJobs.IsMidway case)) (setup_of (g.J.LawfulJobs.works case) (g.J.LawfulJobs.script case))
    (entry_laws (g.J.LawfulJobs.works case) (g.J.LawfulJobs.script case) (g.J.LawfulJobs.IsMidway case) (g.J.LawfulJobs.many case) (g.J.LawfulJobs.lawful case)) journal ok) closed

pub returns-clause-schedule : goal.returns-clause-schedule
returns-clause-schedule g c = λ case journal schedule ok end is.
    has_tally (IsMidwayEntry (g.J.LawfulJobs.IsMidway case)) (setup_of (g.J.LawfulJobs.works case) (g.J.LawfulJobs.script case))
    (entry_laws (g.J.LawfulJobs.works case) (g.J.LawfulJobs.script case) (g.J.LawfulJobs.IsMidway case) (g.J.LawfulJobs.many case) (g.J.LawfulJobs.lawful case))
    (λ n e. (g.J.LawfulJobs.works case).left n e.at) (λ n. (g.J.LawfulJobs.works case).phases n * (g.J.LawfulJobs.works case).chunks)
    (measured (g.J.LawfulJobs.works case) (g.J.LawfulJobs.script case) (g.J.LawfulJobs.IsMidway case) (g.J.LawfulJobs.many case) (g.J.LawfulJobs.lawful case))
    c.a_block_is_picked_where_rows_have_one.ensures.picked c.a_block_is_picked_where_rows_have_one.ensures.needed
    (few (g.J.LawfulJobs.works case) (g.J.LawfulJobs.script case) (g.J.LawfulJobs.IsMidway case) (g.J.LawfulJobs.many case) (g.J.LawfulJobs.lawful case))
    journal schedule ok end is
