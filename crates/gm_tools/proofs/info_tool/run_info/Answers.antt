use Rattle.std.proofs.Common.{ℕ, ◌+◌, List, Result, Ok, Err, subst, ◌∙◌}
use Rattle.gm_base.specs.declared.limits.TheConstants.{MAX_CHUNKS}
use Rattle.gm_outside.specs.Frames.{Writes}
use Rattle.gm_label.specs.Catalogues.{Catalogue}
use Rattle.gm_commands.specs.declared.failure.Failure.{Failure}
use Rattle.gm_words.specs.Commands.{info_said}
use Rattle.gm_commands.specs.Endings.{outside}
use Rattle.gm_commands.specs.Readings.{ReadsFiles}
use Rattle.gm_tools.specs.Grids.{grid_reading}
use Rattle.gm_tools.proofs.Informing.{Counts, of_grid, informed, informed_partly}
use Rattle.gm_commands.specs.Failures.{status_of}
use Rattle.gm_tools.proofs.OpeningGrids.{opened_grid-then}
use Rattle.gm_tools.proofs.info_tool.run_info.Goals as goal

pub returns-in-Ok-clause-handles : goal.returns-in-Ok-clause-handles
returns-in-Ok-clause-handles g c =
    let command = info_said c.args.command.now in
    let cat = c.in_ok-cat.cat in
    let files = (g.D.Depot.state c.args.depot.now).files in
    let old = outside (g.D.Depot.state c.args.depot.now) (g.K.Sink.state c.args.out.now) in
    let new = outside (g.D.Depot.state c.load_grid.new.depot) (g.K.Sink.state c.write.new.self) in
    let read = subst (λ (r : Result Catalogue Failure). ReadsFiles 1 (2 + MAX_CHUNKS) (grid_reading command.grid command.chunk) (g.D.Depot.state c.args.depot.now) (g.D.Depot.state c.load_grid.new.depot) r) c.in_ok-cat.was c.load_grid.ensures.reads in
    let counts : Counts cat command.chunk = λ bytes is. c.catalogued_files_are_grids.ensures.edges bytes _ cat is in
    informed command old new cat c.count_edges.result read.ok.0
    (of_grid files command c.count_edges.result cat c.count_edges.ensures counts c.in_ok-cat.ensures.catalogue)
    read.ok.1 read.asked
    (subst (λ (text : List ℕ). Writes {T = Unit {0}} text (g.K.Sink.state c.args.out.now) (g.K.Sink.state c.write.new.self) (Ok (tt {0}))) (c.as_slice.ensures ∙ c.info_lines-output.ensures) c.in-Ok.ensures.writes)

pub returns-clause-handles : goal.returns-clause-handles
returns-clause-handles g c =
    let command = info_said c.args.command.now in
    let cat = c.in_ok-cat.cat in
    let files = (g.D.Depot.state c.args.depot.now).files in
    let old = outside (g.D.Depot.state c.args.depot.now) (g.K.Sink.state c.args.out.now) in
    let new = outside (g.D.Depot.state c.load_grid.new.depot) (g.K.Sink.state c.write.new.self) in
    let read = subst (λ (r : Result Catalogue Failure). ReadsFiles 1 (2 + MAX_CHUNKS) (grid_reading command.grid command.chunk) (g.D.Depot.state c.args.depot.now) (g.D.Depot.state c.load_grid.new.depot) r) c.in_ok-cat.was c.load_grid.ensures.reads in
    let counts : Counts cat command.chunk = λ bytes is. c.catalogued_files_are_grids.ensures.edges bytes _ cat is in
    rw c.by.ensures (informed_partly command old new cat c.count_edges.result _ read.ok.0
    (of_grid files command c.count_edges.result cat c.count_edges.ensures counts c.in_ok-cat.ensures.catalogue)
    read.ok.1 read.asked
    (subst (λ (text : List ℕ). Writes {T = Unit {0}} text (g.K.Sink.state c.args.out.now) (g.K.Sink.state c.write.new.self) (Err c.in-Err.trouble)) (c.as_slice.ensures ∙ c.info_lines-output.ensures) c.in-Err.ensures.writes))

pub returns-clause-reads : goal.returns-clause-reads
returns-clause-reads g c =
    opened_grid-then (g.D.Depot.state c.args.depot.now) (g.D.Depot.state c.load_grid.new.depot) c.args.command.now.grid.now c.args.command.now.chunk
    c.in_ok-cat.ensures.opens (status_of c.by.result)
