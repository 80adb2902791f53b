use Rattle.std.specs.Prelude.{◌*◌}
use Rattle.gm_machine.proofs.laws.journals_keep_to_their_schedule.Goals as goal
use Rattle.gm_machine.specs.Setups.{setup_of, IsMidwayEntry}
use Rattle.gm_machine.proofs.Instance.{entry_laws, measured, few}
use Rattle.gm_machine.proofs.Scheduled.{has_schedule, has_visits, has_outcomes, has_only_visits}

pub returns-clause-allowed : goal.returns-clause-allowed
returns-clause-allowed g c = λ case journal ok.
    has_schedule (IsMidwayEntry (g.J.LawfulJobs.IsMidway case)) (setup_of (g.J.LawfulJobs.works case) (g.J.LawfulJobs.script case))
    (entry_laws (g.J.LawfulJobs.works case) (g.J.LawfulJobs.script case) (g.J.LawfulJobs.IsMidway case) (g.J.LawfulJobs.many case) (g.J.LawfulJobs.lawful case))
    (λ n e. (g.J.LawfulJobs.works case).left n e.at) (λ n. (g.J.LawfulJobs.works case).phases n * (g.J.LawfulJobs.works case).chunks)
    (measured (g.J.LawfulJobs.works case) (g.J.LawfulJobs.script case) (g.J.LawfulJobs.IsMidway case) (g.J.LawfulJobs.many case) (g.J.LawfulJobs.lawful case))
    c.a_block_is_picked_where_rows_have_one.ensures.picked c.a_block_is_picked_where_rows_have_one.ensures.needed
    (few (g.J.LawfulJobs.works case) (g.J.LawfulJobs.script case) (g.J.LawfulJobs.IsMidway case) (g.J.LawfulJobs.many case) (g.J.LawfulJobs.lawful case))
    journal ok

pub returns-clause-visits : goal.returns-clause-visits
returns-clause-visits g c = λ case journal more schedule ok from is.
    has_visits (IsMidwayEntry (g.J.LawfulJobs.IsMidway case)) (setup_of (g.J.LawfulJobs.works case) (g.J.LawfulJobs.script case))
    (entry_laws (g.J.LawfulJobs.works case) (g.J.LawfulJobs.script case) (g.J.LawfulJobs.IsMidway case) (g.J.LawfulJobs.many case) (g.J.LawfulJobs.lawful case))
    (λ n e. (g.J.LawfulJobs.works case).left n e.at) (λ n. (g.J.LawfulJobs.works case).phases n * (g.J.LawfulJobs.works case).chunks)
    (measured (g.J.LawfulJobs.works case) (g.J.LawfulJobs.script case) (g.J.LawfulJobs.IsMidway case) (g.J.LawfulJobs.many case) (g.J.LawfulJobs.lawful case))
    c.a_block_is_picked_where_rows_have_one.ensures.picked c.a_block_is_picked_where_rows_have_one.ensures.needed
    (few (g.J.LawfulJobs.works case) (g.J.LawfulJobs.script case) (g.J.LawfulJobs.IsMidway case) (g.J.LawfulJobs.many case) (g.J.LawfulJobs.lawful case))
    journal more schedule ok from is

pub returns-clause-outcomes : goal.returns-clause-outcomes
returns-clause-outcomes g c = λ case journal more schedule ok from is.
    has_outcomes (IsMidwayEntry (g.J.LawfulJobs.IsMidway case)) (setup_of (g.J.LawfulJobs.works case) (g.J.LawfulJobs.script case))
    (entry_laws (g.J.LawfulJobs.works case) (g.J.LawfulJobs.script case) (g.J.LawfulJobs.IsMidway case) (g.J.LawfulJobs.many case) (g.J.LawfulJobs.lawful case))
    (λ n e. (g.J.LawfulJobs.works case).left n e.at) (λ n. (g.J.LawfulJobs.works case).phases n * (g.J.LawfulJobs.works case).chunks)
    (measured (g.J.LawfulJobs.works case) (g.J.LawfulJobs.script case) (g.J.LawfulJobs.IsMidway case) (g.J.LawfulJobs.many case) (g.J.LawfulJobs.lawful case))
    c.a_block_is_picked_where_rows_have_one.ensures.picked c.a_block_is_picked_where_rows_have_one.ensures.needed
    (few (g.J.LawfulJobs.works case) (g.J.LawfulJobs.script case) (g.J.LawfulJobs.IsMidway case) (g.J.LawfulJobs.many case) (g.J.LawfulJobs.lawful case))
    journal more schedule ok from is

pub returns-clause-end : goal.returns-clause-end
returns-clause-end g c = λ case journal more schedule ok from end is.
    has_only_visits (IsMidwayEntry (g.J.LawfulJobs.IsMidway case)) (setup_of (g.J.LawfulJobs.works case) (g.J.LawfulJobs.script case))
    (entry_laws (g.J.LawfulJobs.works case) (g.J.LawfulJobs.script case) (g.J.LawfulJobs.IsMidway case) (g.J.LawfulJobs.many case) (g.J.LawfulJobs.lawful case))
    (λ n e. (g.J.LawfulJobs.works case).left n e.at) (λ n. (g.J.LawfulJobs.works case).phases n * (g.J.LawfulJobs.works case).chunks)
    (measured (g.J.LawfulJobs.works case) (g.J.LawfulJobs.script case) (g.J.LawfulJobs.IsMidway case) (g.J.LawfulJobs.many case) (g.J.LawfulJobs.lawful case))
    c.a_block_is_picked_where_rows_have_one.ensures.picked c.a_block_is_picked_where_rows_have_one.ensures.needed
    (few (g.J.LawfulJobs.works case) (g.J.LawfulJobs.script case) (g.J.LawfulJobs.IsMidway case) (g.J.LawfulJobs.many case) (g.J.LawfulJobs.lawful case))
    journal more schedule ok from end is
