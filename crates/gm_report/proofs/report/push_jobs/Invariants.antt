use Rattle.std.proofs.Common.{drop}
use Rattle.std.specs.List.{flat_map}
use Rattle.gm_report.specs.Report.{result_lines}
use Rattle.gm_output.specs.PiecesRules.{IsFedUpTo}
use Rattle.gm_report.proofs.report.push_jobs.Given as goal

abbrev pub invariant-loop-job : goal.invariant-loop-job
invariant-loop-job g l = IsFedUpTo (g.K.Sink.state l.initial.sink) l.initial.pieces (g.K.Sink.state l.sink) l.pieces (flat_map result_lines l.jobs) (flat_map result_lines (drop l.job-index l.jobs))
