use Rattle.std.proofs.Common.{drop}
use Rattle.gm_report.specs.Report.{value_lines}
use Rattle.gm_output.specs.PiecesRules.{IsFedUpTo}
use Rattle.gm_report.proofs.report.push_values.Given as goal

abbrev pub invariant-loop-vertex : goal.invariant-loop-vertex
invariant-loop-vertex g l = IsFedUpTo (g.K.Sink.state l.initial.sink) l.initial.pieces (g.K.Sink.state l.sink) l.pieces (value_lines 0 l.values) (value_lines l.vertex (drop l.vertex l.values))
