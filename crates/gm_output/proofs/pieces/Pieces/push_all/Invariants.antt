use Rattle.std.proofs.Common.{length}
use Rattle.gm_output.specs.PiecesRules.{IsFedUpTo}
use Rattle.gm_output.proofs.pieces.Pieces.push_all.Given as goal

abbrev pub invariant-loop-rest : goal.invariant-loop-rest
invariant-loop-rest g l = IsFedUpTo (g.K.Sink.state l.initial.sink) l.initial.self (g.K.Sink.state l.sink) l.self l.bytes l.rest

abbrev pub decreases-loop-rest : goal.decreases-loop-rest
decreases-loop-rest g l = length l.rest
