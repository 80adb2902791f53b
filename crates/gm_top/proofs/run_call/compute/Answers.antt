use Rattle.std.specs.Prelude.{◌+◌, Result}
use Rattle.std.proofs.Common.{List, inl, subst, arith}
use Rattle.gm_base.specs.declared.limits.TheConstants.{MAX_CHUNKS}
use Rattle.gm_outside.specs.FramesRules.{only_reads-then}
use Rattle.gm_label.specs.Catalogues.{Catalogue}
use Rattle.gm_jobs.specs.declared.script.Line.{Line}
use Rattle.gm_jobs.specs.StatedJobs.{jobs_of}
use Rattle.gm_commands.specs.declared.failure.Failure.{Failure}
use Rattle.gm_words.specs.Commands.{run_said}
use Rattle.gm_commands.specs.Readings.{ReadsFiles}
use Rattle.gm_top.specs.RunReadings.{files_reading}
use Rattle.gm_top.proofs.Running.{Graphs, lines_reported}
use Rattle.gm_top.proofs.Counting.{reads_run-files, reads_run-ran, reads_run-matched}
use Rattle.gm_top.proofs.Loading.{files_failure, memory_failure}
use Rattle.std.proofs.Common.{◌∙◌}
use Rattle.std.proofs.lemmas.Result.{err_from_is_err_and}
use Rattle.gm_top.proofs.run_call.compute.Goals as goal

pub returns-clause-lines : goal.returns-clause-lines
returns-clause-lines g c =
    let command = run_said c.args.command.now in
    let files = subst (λ (r : Result (Catalogue × List Line) Failure). ReadsFiles 2 (3 + MAX_CHUNKS) (files_reading command) (g.D.Depot.state c.args.depot.now) (g.D.Depot.state c.load.new.depot) r) c.in_ok-cat.was c.load.ensures.reads in
    let graphs : Graphs = λ bytes size cat is. (c.catalogues_are_over_their_edges.ensures.graph bytes size cat is, (c.catalogues_are_over_their_edges.ensures.dimensions bytes size cat is).some_vertex) in
    lines_reported (g.D.Depot.state c.args.depot.now) (g.D.Depot.state c.load.new.depot) (g.D.Depot.state c.run_loaded.new.depot) command c.in_ok-cat.cat c.in_ok-cat.script c.run_loaded.result files c.in_ok-cat.ensures.read c.grid_reads_back.ensures.edges c.jobs_settle_by_round_n.ensures.bound c.snapshots_are_graphs.ensures graphs
    (c.jobs_see_vertices.ensures.vertices _ c.in_ok-cat.script c.in_ok-cat.ensures.over)
    c.in_ok-cat.ensures.states c.in_ok-cat.ensures.holds c.run_loaded.ensures.lines c.run_loaded.ensures.ends c.run_loaded.ensures.faults

pub returns-clause-reads : goal.returns-clause-reads
returns-clause-reads g c =
    let command = run_said c.args.command.now in
    let frame = c.in_ok-cat.ensures.frame in
    let ran = c.run_loaded.ensures.frame in
    reads_run-matched command (g.D.Depot.state c.args.depot.now) (g.D.Depot.state c.run_loaded.new.depot) c.run_loaded.result c.run_loaded.ensures.memory
    (reads_run-ran command (g.D.Depot.state c.args.depot.now) (g.D.Depot.state c.run_loaded.new.depot) 0 (g.D.Depot.state c.load.new.depot).reads (g.D.Depot.state c.load.new.depot).files c.in_ok-cat.cat (jobs_of c.in_ok-cat.script)
    c.grid_reads_back.ensures.edges frame.files c.in_ok-cat.ensures.read c.in_ok-cat.ensures.holds c.run_loaded.ensures.few
    ((3 + MAX_CHUNKS) + ran.0, only_reads-then 2 (3 + MAX_CHUNKS) 0 ran.0 _ _ _ frame ran.1) (inl (omega arith)) c.in_ok-cat.ensures.reads.ok.0)

pub returns-in_err-cat-clause-reads : goal.returns-in_err-cat-clause-reads
returns-in_err-cat-clause-reads g c =
    let p = err_from_is_err_and c.from_residual.result c.from_residual.ensures.1 in
    rw p.1 (rw p.2 (reads_run-files (run_said c.args.command.now) (g.D.Depot.state c.args.depot.now) (g.D.Depot.state c.load.new.depot) _
    c.load.ensures.reads.frame c.load.ensures.few c.in_err-cat.ensures.stops))

pub returns-in_err-cat-clause-err : goal.returns-in_err-cat-clause-err
returns-in_err-cat-clause-err g c =
    let p = err_from_is_err_and c.from_residual.result c.from_residual.ensures.1 in
    rw p.1 (rw p.2 (files_failure (run_said c.args.command.now) (g.D.Depot.state c.args.depot.now) (g.D.Depot.state c.load.new.depot) _ c.in_err-cat.ensures.reads.err))

pub returns-clause-err : goal.returns-clause-err
returns-clause-err g c =
    memory_failure (run_said c.args.command.now) (g.D.Depot.state c.args.depot.now) (g.D.Depot.state c.run_loaded.new.depot) c.run_loaded.result c.run_loaded.ensures.memory
    c.in_ok-cat.ensures.reads.ok.0 (c.run_loaded.ensures.frame.1.sizes ∙ c.in_ok-cat.ensures.frame.sizes)
