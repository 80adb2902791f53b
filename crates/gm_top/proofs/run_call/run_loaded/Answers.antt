use Rattle.std.specs.Prelude.{ℕ, List}
use Rattle.std.proofs.Common.{subst}
use Rattle.gm_grid.specs.GridBytes.{edges_in}
use Rattle.gm_label.specs.Catalogues.{Catalogue}
use Rattle.gm_source.specs.Fetches.{TellsGrid}
use Rattle.gm_source.specs.Openings.{ReadsUpTo}
use Rattle.gm_jobs.specs.StatedJobs.{jobs_of}
use Rattle.gm_job_run.specs.JobLines.{RunOver, runs_weight}
use Rattle.gm_top.proofs.run_call.run_loaded.Goals as goal

pub returns-clause-ends : goal.returns-clause-ends
returns-clause-ends g c =
    subst (λ (cat : Catalogue). (bytes : List ℕ) → TellsGrid (g.D.Depot.state c.args.depot.now).files c.args.name.now cat bytes
    → RunOver cat (edges_in bytes) (g.D.Depot.state c.args.depot.now) (g.D.Depot.state c.run_script.new.depot) (jobs_of c.args.script) c.in_ok-lines.lines.items)
    c.in-Ok.ensures.ok c.in_ok-lines.ensures.ends

pub returns-in_err-lines-clause-few : goal.returns-in_err-lines-clause-few
returns-in_err-lines-clause-few g c =
    subst (λ (cat : Catalogue). (bytes : List ℕ) → TellsGrid (g.D.Depot.state c.args.depot.now).files c.args.name.now cat bytes
    → ReadsUpTo (runs_weight cat (edges_in bytes) (jobs_of c.args.script)) (g.D.Depot.state c.args.depot.now) (g.D.Depot.state c.run_script.new.depot))
    c.in-Ok.ensures.ok c.run_script.ensures.few

pub returns-clause-few : goal.returns-clause-few
returns-clause-few g c =
    subst (λ (cat : Catalogue). (bytes : List ℕ) → TellsGrid (g.D.Depot.state c.args.depot.now).files c.args.name.now cat bytes
    → ReadsUpTo (runs_weight cat (edges_in bytes) (jobs_of c.args.script)) (g.D.Depot.state c.args.depot.now) (g.D.Depot.state c.run_script.new.depot))
    c.in-Ok.ensures.ok c.run_script.ensures.few
