use Rattle.std.proofs.Common.{◌≡◌, ℕ, ◌<◌, List, ◌++◌, ◌+◌, ◌∙◌, length, ap, sym, drop, get_or, arith, drop-cons, add-one, refl, Err}
use Rattle.std.specs.List.{flat_map}
use Rattle.std.specs.Result.{result_err}
use Rattle.std.proofs.lemmas.List.{drop_all}
use Rattle.std.proofs.lemmas.Result.{err_from_is_err_and}
use Rattle.gm_base.specs.declared.job.JobLine.{JobLine}
use Rattle.gm_report.specs.Report.{result_lines, report_text}
use Rattle.gm_output.specs.PiecesRules.{fed-more, fed-refused, fed-all}
use Rattle.gm_report.proofs.report.push_jobs.Goals as goal

-- the next job's lines, and those behind it
jobs-next : (jobs : List JobLine) (i : ℕ) (job : JobLine) → i < length jobs → job ≡ get_or jobs i job
    → flat_map result_lines (drop i jobs) ≡ result_lines job ++ flat_map result_lines (drop (i + 1) jobs)
jobs-next jobs i job h is =
    ap (flat_map result_lines) (drop-cons jobs i job h)
    ∙ ap (λ (rest : List JobLine). result_lines (get_or jobs i job) ++ flat_map result_lines rest) (ap (λ k. drop k jobs) (sym (add-one i)))
    ∙ ap (λ (first : JobLine). result_lines first ++ flat_map result_lines (drop (i + 1) jobs)) (sym is)

pub loop-job-preserved : goal.loop-job-preserved
loop-job-preserved g c =
    fed-more _ _ _ _ _ _ _ _ _ _ _ (jobs-next c.args.jobs.now c.loop-job.job-index _ (omega arith) c.job-item.is) c.loop-job.invariant c.in_ok-push_job.ensures

pub returns-in_err-push_job : goal.returns-in_err-push_job
unfolding report_text
returns-in_err-push_job g c =
    let p = err_from_is_err_and c.from_residual.result c.from_residual.ensures.1 in
    fed-refused _ _ _ _ _ _ _ _ _ _ _ (Err _) _ refl (ap result_err (p.1 ∙ ap Err p.2))
    (jobs-next c.args.jobs.now c.loop-job.job-index _ (omega arith) c.job-item.is) c.loop-job.invariant c.in_err-push_job.ensures

pub returns : goal.returns
unfolding report_text
returns g c =
    fed-all _ _ _ _ _ _ (ap (flat_map result_lines) (drop_all c.loop-job.job-index c.args.jobs.now (omega arith))) c.loop-job.invariant
