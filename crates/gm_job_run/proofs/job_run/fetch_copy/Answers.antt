use Rattle.std.proofs.lemmas.Result.{err_from_is_err_and}
use Rattle.gm_job_run.proofs.Copies.{copy_seen, copy_within, key_seen}
use Rattle.gm_job_run.proofs.job_run.fetch_copy.Goals as goal

pub returns-in_err-raw-clause-told_stop : goal.returns-in_err-raw-clause-told_stop
returns-in_err-raw-clause-told_stop g c bytes told =
    let p = err_from_is_err_and c.from_residual.result c.from_residual.ensures.1 in
    rw p.1 (rw p.2 (c.in_err-raw.ensures.told_stop bytes told))

pub into_copy-requires-clause-key : goal.into_copy-requires-clause-key
into_copy-requires-clause-key g c =
    key_seen c.args.cat.now c.args.view.now c.args.key c.in_ok-raw.raw.chunk c.requires.chunk c.requires.key c.in_ok-raw.ensures.fits.number

pub returns-in-Ok-clause-ends : goal.returns-in-Ok-clause-ends
returns-in-Ok-clause-ends g c =
    copy_within c.args.cat.now c.args.view.now c.args.key c.in_ok-raw.raw c.in-Ok.copy c.requires.over c.in_ok-raw.ensures.fits c.in-Ok.ensures

pub returns-in-Ok-clause-told : goal.returns-in-Ok-clause-told
returns-in-Ok-clause-told g c bytes told =
    copy_seen c.args.cat.now c.args.view.now c.args.key c.in_ok-raw.raw c.in-Ok.copy _ c.requires.key c.in_ok-raw.ensures.fits.number c.in-Ok.ensures
    (c.catalogues_are_over_their_edges.ensures.over bytes told.size c.args.cat.now told.catalogue) (c.in_ok-raw.ensures.told bytes told)
