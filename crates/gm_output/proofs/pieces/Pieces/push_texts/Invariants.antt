use Rattle.std.proofs.Common.{drop}
use Rattle.gm_output.specs.Pieces.{texts_of}
use Rattle.gm_output.specs.PiecesRules.{IsFedUpTo}
use Rattle.gm_output.proofs.pieces.Pieces.push_texts.Given as goal

abbrev pub invariant-loop-text : goal.invariant-loop-text
invariant-loop-text g l = IsFedUpTo (g.K.Sink.state l.initial.sink) l.initial.self (g.K.Sink.state l.sink) l.self (texts_of l.texts) (texts_of (drop l.text-index l.texts))
