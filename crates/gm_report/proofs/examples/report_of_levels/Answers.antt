use Rattle.std.proofs.Common.{refl}
use Rattle.std.specs.Fmt.{digits}
use Rattle.gm_report.specs.Report.{job_line, result_lines, report_text}
use Rattle.gm_report.proofs.examples.report_of_levels.Goals as goal

pub returns : goal.returns
unfolding digits job_line result_lines report_text
returns c = refl
