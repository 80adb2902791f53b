use Rattle.std.proofs.Common.{arith, ◌+◌, List, Result, subst, ap, ◌∙◌}
use Rattle.std.proofs.lemmas.Result.{err_from_is_err_and}
use Rattle.gm_base.specs.Dimensions.{Dimensions}
use Rattle.gm_base.specs.declared.limits.TheConstants.{MAX_CHUNKS}
use Rattle.gm_label.specs.Catalogues.{Catalogue}
use Rattle.gm_jobs.specs.declared.script.Line.{Line}
use Rattle.gm_commands.specs.declared.failure.Failure.{Failure}
use Rattle.gm_words.specs.Commands.{run_said}
use Rattle.gm_commands.specs.Readings.{ReadsFiles}
use Rattle.gm_tools.specs.Grids.{grid_reading}
use Rattle.gm_top.specs.RunReadings.{jobs_reading}
use Rattle.gm_top.proofs.Loading.{loaded, not_loaded, not_opened, not_stopped, opened_more, stopped_at}
use Rattle.gm_top.proofs.run_call.load.Goals as goal

pub returns-in_err-script-clause-reads : goal.returns-in_err-script-clause-reads
returns-in_err-script-clause-reads g c =
    let p = err_from_is_err_and c.from_residual-in_err-script.result c.from_residual-in_err-script.ensures.1 in
    let command = run_said c.args.command.now in
    let first = subst (λ (r : Result Catalogue Failure). ReadsFiles 1 (2 + MAX_CHUNKS) (grid_reading command.grid command.chunk) (g.D.Depot.state c.args.depot.now) (g.D.Depot.state c.load_grid.new.depot) r) c.in_ok-cat.was c.load_grid.ensures.reads in
    let second = subst (λ (r : Result (List Line) Failure). ReadsFiles 1 1 (jobs_reading command c.n-n.result) (g.D.Depot.state c.load_grid.new.depot) (g.D.Depot.state c.load_script.new.depot) r) c.in_err-script.was c.load_script.ensures.reads in
    rw p.1 (rw p.2 (not_loaded (g.D.Depot.state c.args.depot.now) (g.D.Depot.state c.load_grid.new.depot) (g.D.Depot.state c.load_script.new.depot) command c.in_ok-cat.cat c.n-n.result _ c.grid_reads_back.ensures.shape
    (c.n-n.ensures.value ∙ ap (λ (d : Dimensions). d.n) c.shape.ensures) c.in_ok-cat.ensures.catalogue first second))

pub returns-clause-reads : goal.returns-clause-reads
returns-clause-reads g c =
    let command = run_said c.args.command.now in
    let first = subst (λ (r : Result Catalogue Failure). ReadsFiles 1 (2 + MAX_CHUNKS) (grid_reading command.grid command.chunk) (g.D.Depot.state c.args.depot.now) (g.D.Depot.state c.load_grid.new.depot) r) c.in_ok-cat.was c.load_grid.ensures.reads in
    let second = subst (λ (r : Result (List Line) Failure). ReadsFiles 1 1 (jobs_reading command c.n-n.result) (g.D.Depot.state c.load_grid.new.depot) (g.D.Depot.state c.load_script.new.depot) r) c.in_ok-script.was c.load_script.ensures.reads in
    loaded (g.D.Depot.state c.args.depot.now) (g.D.Depot.state c.load_grid.new.depot) (g.D.Depot.state c.load_script.new.depot) command c.in_ok-cat.cat c.n-n.result c.in_ok-script.script _ c.grid_reads_back.ensures.shape
    (c.n-n.ensures.value ∙ ap (λ (d : Dimensions). d.n) c.shape.ensures) c.in_ok-cat.ensures.catalogue first second

pub returns-in_err-cat-clause-stops : goal.returns-in_err-cat-clause-stops
returns-in_err-cat-clause-stops g c =
    let p = err_from_is_err_and c.from_residual.result c.from_residual.ensures.1 in
    rw p.1 (rw p.2 (stopped_at (run_said c.args.command.now) (g.D.Depot.state c.args.depot.now) (g.D.Depot.state c.load_grid.new.depot) _ c.in_err-cat.ensures.opens))

pub returns-in_err-script-clause-stops : goal.returns-in_err-script-clause-stops
returns-in_err-script-clause-stops g c =
    let p = err_from_is_err_and c.from_residual-in_err-script.result c.from_residual-in_err-script.ensures.1 in
    rw p.1 (rw p.2 (not_stopped (run_said c.args.command.now) (g.D.Depot.state c.args.depot.now) (g.D.Depot.state c.load_script.new.depot) _ c.in_ok-cat.ensures.reads.ok.0))

pub returns-clause-stops : goal.returns-clause-stops
returns-clause-stops g c =
    not_stopped (run_said c.args.command.now) (g.D.Depot.state c.args.depot.now) (g.D.Depot.state c.load_script.new.depot) 0 c.in_ok-cat.ensures.reads.ok.0

pub returns-in_err-script-clause-few : goal.returns-in_err-script-clause-few
returns-in_err-script-clause-few g c =
    opened_more (g.D.Depot.state c.args.depot.now).files (run_said c.args.command.now) (g.D.Depot.state c.args.depot.now) (g.D.Depot.state c.load_grid.new.depot) (g.D.Depot.state c.load_script.new.depot)
    c.in_ok-cat.ensures.opens.few c.load_script.ensures.frame.reads

pub returns-clause-few : goal.returns-clause-few
returns-clause-few g c =
    opened_more (g.D.Depot.state c.args.depot.now).files (run_said c.args.command.now) (g.D.Depot.state c.args.depot.now) (g.D.Depot.state c.load_grid.new.depot) (g.D.Depot.state c.load_script.new.depot)
    c.in_ok-cat.ensures.opens.few c.load_script.ensures.frame.reads

pub returns-in_err-cat-clause-few : goal.returns-in_err-cat-clause-few
returns-in_err-cat-clause-few g c =
    opened_more (g.D.Depot.state c.args.depot.now).files (run_said c.args.command.now) (g.D.Depot.state c.args.depot.now) (g.D.Depot.state c.load_grid.new.depot) (g.D.Depot.state c.load_grid.new.depot)
    c.in_err-cat.ensures.opens.few (omega arith)

pub returns-in_err-cat-clause-reads : goal.returns-in_err-cat-clause-reads
returns-in_err-cat-clause-reads g c =
    let p = err_from_is_err_and c.from_residual.result c.from_residual.ensures.1 in
    rw p.1 (rw p.2 (not_opened {X = Catalogue} {Y = Catalogue × List Line} (g.D.Depot.state c.args.depot.now) (g.D.Depot.state c.load_grid.new.depot) (run_said c.args.command.now) _
    c.in_err-cat.ensures.reads))
