use Rattle.gm_output.specs.PiecesRules.{feeds-finished}
use Rattle.gm_report.proofs.report.write.Goals as goal

pub returns : goal.returns
returns g c = feeds-finished _ _ _ _ _ _ _ _ c.new-pieces.ensures c.in_ok-push_jobs.ensures c.finish.ensures
