use Rattle.std.proofs.Common.{length, ap, arith}
use Rattle.std.proofs.lemmas.Result.{err_from_is_err_and}
use Rattle.gm_label.specs.Catalogues.{Catalogue}
use Rattle.gm_job_run.proofs.Passing.{passes-next, carries-on, carries-done, carries-stop, none_owed, none_joined}
use Rattle.gm_job_run.specs.SeenViews.{seen_in}
use Rattle.gm_job_run.proofs.job_run.pass_owed.Goals as goal

pub returns-in_err-pass_chunk-clause-carries : goal.returns-in_err-pass_chunk-clause-carries
returns-in_err-pass_chunk-clause-carries g c =
    let p = err_from_is_err_and c.from_residual.result c.from_residual.ensures.1 in
    rw p.1 (rw p.2 (carries-stop _ _ _ c.args.view.now.name.now (seen_in c.args.view.now) c.args.work.now c.loop-chunk.work _ _ c.loop-chunk.invariant.on c.in_err-pass_chunk.ensures.carries))

pub loop-chunk-preserved : goal.loop-chunk-preserved
loop-chunk-preserved g c =
    let made = c.in_ok-pass_chunk.ensures in
    passes-next _ _ _ c.args.view.now.name.now (seen_in c.args.view.now) c.args.work.now c.loop-chunk.work c.pass_chunk.new.work c.loop-chunk.from c.chunks-chunks.result c.in-Some.chunk
    c.loop-chunk.invariant c.in-Some.ensures.some (carries-on _ _ c.args.view.now.name.now (seen_in c.args.view.now) c.loop-chunk.work c.pass_chunk.new.work _ made.carries (λ bytes first told way. made.under_way bytes first told way))
    made.phase made.less

pub returns-clause-none : goal.returns-clause-none
returns-clause-none g c =
    let owed = c.loop-chunk.work.state.owed in
    let chunks = c.chunks-chunks.result in
    let long = c.in_default.ensures.length in
    let all = c.chunks-chunks.ensures.value in
    let here = ap (λ (cat : Catalogue). length cat.places) c.catalogue.ensures in
    let there = ap (λ (cat : Catalogue). length cat.places) c.loop-chunk.invariant.on.same.catalogue in
    none_owed owed chunks (omega (arith, long, all, here, there)) (none_joined owed c.loop-chunk.from chunks c.loop-chunk.invariant.none c.in_default.ensures.none)

pub returns-clause-under_way : goal.returns-clause-under_way
returns-clause-under_way g c bytes first told way = c.loop-chunk.invariant.on.under_way bytes first told way

pub returns-clause-carries : goal.returns-clause-carries
returns-clause-carries g c =
    let on = c.loop-chunk.invariant.on in
    carries-done _ _ c.args.view.now.name.now (seen_in c.args.view.now) c.args.work.now c.loop-chunk.work _ on.same on.faults on.frame
