use Rattle.std.specs.Prelude.{◌*◌}
use Rattle.gm_machine.proofs.laws.schedules_end.Goals as goal
use Rattle.gm_machine.specs.Setups.{setup_of, IsMidwayEntry}
use Rattle.gm_machine.proofs.Instance.{entry_laws, measured, few}
use Rattle.gm_machine.proofs.Ends.{most_visits_of}
use Rattle.gm_machine.proofs.Scheduled.{whole_is_over, outcomes_of_all}

pub returns-clause-over : goal.returns-clause-over
returns-clause-over g c = λ case misses.
    whole_is_over (IsMidwayEntry (g.J.LawfulJobs.IsMidway case)) (setup_of (g.J.LawfulJobs.works case) (g.J.LawfulJobs.script case))
    (entry_laws (g.J.LawfulJobs.works case) (g.J.LawfulJobs.script case) (g.J.LawfulJobs.IsMidway case) (g.J.LawfulJobs.many case) (g.J.LawfulJobs.lawful case))
    (λ n e. (g.J.LawfulJobs.works case).left n e.at) (λ n. (g.J.LawfulJobs.works case).phases n * (g.J.LawfulJobs.works case).chunks)
    (measured (g.J.LawfulJobs.works case) (g.J.LawfulJobs.script case) (g.J.LawfulJobs.IsMidway case) (g.J.LawfulJobs.many case) (g.J.LawfulJobs.lawful case))
    c.a_block_is_picked_where_rows_have_one.ensures.picked c.a_block_is_picked_where_rows_have_one.ensures.needed
    (few (g.J.LawfulJobs.works case) (g.J.LawfulJobs.script case) (g.J.LawfulJobs.IsMidway case) (g.J.LawfulJobs.many case) (g.J.LawfulJobs.lawful case))
    misses

pub returns-clause-outcomes : goal.returns-clause-outcomes
returns-clause-outcomes g c = λ case misses schedule is.
    outcomes_of_all (IsMidwayEntry (g.J.LawfulJobs.IsMidway case)) (setup_of (g.J.LawfulJobs.works case) (g.J.LawfulJobs.script case))
    (entry_laws (g.J.LawfulJobs.works case) (g.J.LawfulJobs.script case) (g.J.LawfulJobs.IsMidway case) (g.J.LawfulJobs.many case) (g.J.LawfulJobs.lawful case))
    (λ n e. (g.J.LawfulJobs.works case).left n e.at) (λ n. (g.J.LawfulJobs.works case).phases n * (g.J.LawfulJobs.works case).chunks)
    (measured (g.J.LawfulJobs.works case) (g.J.LawfulJobs.script case) (g.J.LawfulJobs.IsMidway case) (g.J.LawfulJobs.many case) (g.J.LawfulJobs.lawful case))
    c.a_block_is_picked_where_rows_have_one.ensures.picked c.a_block_is_picked_where_rows_have_one.ensures.needed
    (few (g.J.LawfulJobs.works case) (g.J.LawfulJobs.script case) (g.J.LawfulJobs.IsMidway case) (g.J.LawfulJobs.many case) (g.J.LawfulJobs.lawful case))
    misses schedule is

pub returns-clause-most : goal.returns-clause-most
returns-clause-most g c = λ case misses.
    most_visits_of (IsMidwayEntry (g.J.LawfulJobs.IsMidway case)) (setup_of (g.J.LawfulJobs.works case) (g.J.LawfulJobs.script case))
    (entry_laws (g.J.LawfulJobs.works case) (g.J.LawfulJobs.script case) (g.J.LawfulJobs.IsMidway case) (g.J.LawfulJobs.many case) (g.J.LawfulJobs.lawful case))
    (λ n e. (g.J.LawfulJobs.works case).left n e.at) (λ n. (g.J.LawfulJobs.works case).phases n * (g.J.LawfulJobs.works case).chunks)
    (measured (g.J.LawfulJobs.works case) (g.J.LawfulJobs.script case) (g.J.LawfulJobs.IsMidway case) (g.J.LawfulJobs.many case) (g.J.LawfulJobs.lawful case))
    c.a_block_is_picked_where_rows_have_one.ensures.picked c.a_block_is_picked_where_rows_have_one.ensures.needed
    (few (g.J.LawfulJobs.works case) (g.J.LawfulJobs.script case) (g.J.LawfulJobs.IsMidway case) (g.J.LawfulJobs.many case) (g.J.LawfulJobs.lawful case))
    misses
