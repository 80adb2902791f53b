use Rattle.std.proofs.Common.{sym, ◌∙◌}
use Rattle.std.proofs.lemmas.Result.{err_from_is_err_and}
use Rattle.gm_job_run.proofs.Passing.{carries-done, carries-stop}
use Rattle.gm_job_run.proofs.Turning.{phase_turned, turned-goes_on, turned-ends, fewer_phases}
use Rattle.gm_job_run.specs.SeenViews.{seen_in}
use Rattle.gm_job_run.proofs.job_run.make_phases.Goals as goal

pub returns-in_err-pass_owed-clause-carries : goal.returns-in_err-pass_owed-clause-carries
returns-in_err-pass_owed-clause-carries g c =
    let p = err_from_is_err_and c.from_residual.result c.from_residual.ensures.1 in
    rw p.1 (rw p.2 (carries-stop _ _ _ c.args.view.now.name.now (seen_in c.args.view.now) c.args.work.now c.loop-work.work _ _ c.loop-work.invariant c.in_err-pass_owed.ensures.carries))

pub returns-in-Some : goal.returns-in-Some
returns-in-Some g c =
    let passed = c.in_ok-pass_owed.ensures in
    let laws = c.catalogues_are_over_their_edges.ensures in
    let made = phase_turned _ _ _ c.args.view.now.name.now (seen_in c.args.view.now) c.args.work.now c.loop-work.work c.pass_owed.new.work c.turn.new.self _ c.turn.result c.requires.sees
    c.loop-work.invariant passed.carries (λ bytes first told way. passed.under_way bytes first told way) c.turn.ensures.job c.views_are_cut.ensures.view
    (record { over = laws.over; graph = laws.graph; few = laws.few; dimensions = laws.dimensions }) c.turns.ensures c.weight_is_left.ensures.turns c.turn.ensures.turned in
    record {
      ends = turned-ends _ _ c.args.view.now.name.now (seen_in c.args.view.now) c.args.work.now c.turn.new.self c.turn.result c.in-Some.end (sym c.end_of.ensures ∙ c.in-Some.is) made;
      carries = carries-done _ _ c.args.view.now.name.now (seen_in c.args.view.now) c.args.work.now c.turn.new.self _ made.same made.faults made.frame;
    }

pub loop-work-preserved : goal.loop-work-preserved
loop-work-preserved g c =
    let passed = c.in_ok-pass_owed.ensures in
    let laws = c.catalogues_are_over_their_edges.ensures in
    turned-goes_on _ _ c.args.view.now.name.now (seen_in c.args.view.now) c.args.work.now c.turn.new.self c.turn.result (sym c.end_of.ensures ∙ c.in_default.is)
    (phase_turned _ _ _ c.args.view.now.name.now (seen_in c.args.view.now) c.args.work.now c.loop-work.work c.pass_owed.new.work c.turn.new.self _ c.turn.result c.requires.sees
    c.loop-work.invariant passed.carries (λ bytes first told way. passed.under_way bytes first told way) c.turn.ensures.job c.views_are_cut.ensures.view
    (record { over = laws.over; graph = laws.graph; few = laws.few; dimensions = laws.dimensions }) c.turns.ensures c.weight_is_left.ensures.turns c.turn.ensures.turned)

pub loop-work-smaller : goal.loop-work-smaller
loop-work-smaller g c =
    fewer_phases c.loop-work.work c.pass_owed.new.work c.turn.new.self c.turn.result (sym c.end_of.ensures ∙ c.in_default.is) c.pass_owed.ensures.carries.same c.turn.ensures.job c.pass_owed.ensures.phase
    c.in_ok-pass_owed.ensures.none c.turns_end.ensures c.turn.ensures.turned
