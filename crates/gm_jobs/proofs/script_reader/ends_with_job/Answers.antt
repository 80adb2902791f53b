use Rattle.std.proofs.Common.{◌∙◌}
use Rattle.gm_jobs.specs.Scripts.{is_job}
use Rattle.gm_jobs.proofs.Entries.{last_decides}
use Rattle.gm_jobs.proofs.script_reader.ends_with_job.Goals as goal

pub returns-in-Some : goal.returns-in-Some
returns-in-Some c = c.is_job.ensures ∙ last_decides is_job c.args.lines.now c.in-Some.entry.now c.in-Some.ensures.value
