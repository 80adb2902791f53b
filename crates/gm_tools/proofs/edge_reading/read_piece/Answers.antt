use Rattle.std.proofs.Common.{ℕ, ◌+◌, subst}
use Rattle.gm_tools.specs.EdgeReadings.{AreLinesTaken}
use Rattle.gm_tools.proofs.Fronts.{lines_on, refused_at_piece}
use Rattle.gm_tools.proofs.edge_reading.read_piece.Goals as goal

pub returns-in-Ok-feed-clause-lines : goal.returns-in-Ok-feed-clause-lines
returns-in-Ok-feed-clause-lines g c n size front =
    subst (λ (count : ℕ). AreLinesTaken n (g.D.Depot.state c.args.depot.now).files c.args.name.now (c.args.pos + count))
    c.read_at.auto.into
    (lines_on n size c.args.pos (g.D.Depot.state c.args.depot.now).files c.args.name.now c.read_at.new.into c.args.reader.now
    c.in-Ok.ensures.bytes c.in-Ok-feed.ensures.refused front)

pub returns-in-Err-feed-clause-err : goal.returns-in-Err-feed-clause-err
returns-in-Err-feed-clause-err g c n size front within =
    rw c.failure_of.ensures
    (refused_at_piece n size c.args.pos c.args.name.now c.read_at.new.into (g.D.Depot.state c.args.depot.now) (g.D.Depot.state c.read_at.new.self)
    c.in-Err-feed.error c.args.reader.now (c.in-Ok.ensures.cause.kept (λ is. cc)) c.in-Ok.ensures.frame.sizes c.in-Ok.ensures.bytes c.in-Err-feed.ensures.decides front)
