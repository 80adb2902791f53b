use Rattle.gm_job_run.proofs.Stops.{told_stop}
use Rattle.gm_job_run.proofs.job_run.fetch_edges.Goals as goal

pub returns-in-Err-clause-told_stop : goal.returns-in-Err-clause-told_stop
returns-in-Err-clause-told_stop g c bytes told =
    rw c.stop_of.ensures (told_stop (g.D.Depot.state c.args.depot.now).calm c.args.chunk c.in-Err.error
    (λ is calm. c.in-Err.ensures.calm bytes calm told is) (λ found is. c.in-Err.ensures.unchanged bytes found told is))
