use Rattle.gm_report.specs.Report.{result_lines}
use Rattle.gm_output.specs.PiecesRules.{feeds-then}
use Rattle.gm_report.proofs.report.push_job.Goals as goal

pub returns : goal.returns
unfolding result_lines
returns g c =
    let first = c.in_ok-push.ensures.fed in
    let second = c.push_values.ensures in
    rw (← c.job_line-line.ensures.text, ← c.values_of.ensures, ← c.as_slice.ensures) (feeds-then _ _ _ _ _ _ _ _ _ _ first second)
