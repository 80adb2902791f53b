use Rattle.std.proofs.Common.{◌∙◌, rules, Err}
use Rattle.gm_outside.specs.Frames.{Writes}
use Rattle.gm_build.specs.Blocks.{HoldsGrid}
use Rattle.gm_words.specs.Commands.{build_said}
use Rattle.gm_commands.specs.Endings.{outside}
use Rattle.gm_commands.specs.Readings.{AreTaken}
use Rattle.gm_tools.specs.Builds.{AreEdges, build_contract, output_of}
use Rattle.gm_tools.proofs.Informing.{built_partly}
use Rattle.gm_commands.specs.Failures.{status_of}
use Rattle.gm_tools.proofs.Fronts.{matched_any, pieces_kept}
use Rattle.gm_tools.proofs.build_tool.run_build.Goals as goal

pub returns-clause-handles : goal.returns-clause-handles
returns-clause-handles g c =
    let command = build_said c.args.command.now in
    let edges = c.in_ok-edges.edges in
    let old = outside (g.D.Depot.state c.args.depot.now) (g.K.Sink.state c.args.out.now) in
    let new = outside (g.D.Depot.state c.build.new.depot) (g.K.Sink.state c.write.new.self) in
    let read = c.in_ok-edges.ensures.reads.ok in
    let made = c.in-Ok.ensures in
    let taken : AreTaken (build_contract command).reading old.depot.files = rw (← c.n.ensures.value) read.0 in
    let lists : AreEdges command old.depot.files edges = rw (← c.n.ensures.value) c.in_ok-edges.ensures.lists in
    let file : HoldsGrid old.depot new.depot command.grid command.shape edges =
    rw (← c.in_ok-edges.ensures.frame.files) made.ok in
    let written : Writes {T = Unit {0}} (output_of command edges) old.out new.out (Err c.in-Err-write.trouble) = search rules in
    rw c.by-in-Err-write.ensures (built_partly command old new edges c.in-Err-write.trouble taken lists
    (record { file = file; grid = made.grid; graph = made.graph }) (made.cause.kept (λ is. cc) ∙ read.1)
    (made.frame.sizes ∙ c.in_ok-edges.ensures.reads.asked) written)

pub returns-in_err-edges-clause-reads : goal.returns-in_err-edges-clause-reads
returns-in_err-edges-clause-reads g c =
    matched_any ((build_contract (build_said c.args.command.now)).Reads (g.D.Depot.state c.args.depot.now) (g.D.Depot.state c.list_edges.new.depot))
    c.from_residual.result (λ status. rw (← c.n.ensures.value) (c.list_edges.ensures.pieces status))

pub returns-in-Err-clause-reads : goal.returns-in-Err-clause-reads
returns-in-Err-clause-reads g c =
    rw (← c.n.ensures.value)
    (pieces_kept c.n.result c.args.command.now.edges.now (g.D.Depot.state c.args.depot.now) (g.D.Depot.state c.list_edges.new.depot)
    (g.D.Depot.state c.build.new.depot) (status_of c.by.result) c.build.ensures.frame.sizes c.build.ensures.frame.reads
    (c.list_edges.ensures.pieces (status_of c.by.result)))

pub returns-in-Ok-write-clause-reads : goal.returns-in-Ok-write-clause-reads
returns-in-Ok-write-clause-reads g c =
    rw (← c.n.ensures.value)
    (pieces_kept c.n.result c.args.command.now.edges.now (g.D.Depot.state c.args.depot.now) (g.D.Depot.state c.list_edges.new.depot)
    (g.D.Depot.state c.build.new.depot) 0 c.build.ensures.frame.sizes c.build.ensures.frame.reads
    (c.list_edges.ensures.pieces 0))

pub returns-clause-reads : goal.returns-clause-reads
returns-clause-reads g c =
    rw (← c.n.ensures.value)
    (pieces_kept c.n.result c.args.command.now.edges.now (g.D.Depot.state c.args.depot.now) (g.D.Depot.state c.list_edges.new.depot)
    (g.D.Depot.state c.build.new.depot) (status_of c.by-in-Err-write.result) c.build.ensures.frame.sizes c.build.ensures.frame.reads
    (c.list_edges.ensures.pieces (status_of c.by-in-Err-write.result)))
