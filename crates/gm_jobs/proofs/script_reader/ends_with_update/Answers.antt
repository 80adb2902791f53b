use Rattle.std.proofs.Common.{◌∙◌}
use Rattle.gm_jobs.specs.Scripts.{is_update}
use Rattle.gm_jobs.proofs.Entries.{last_decides}
use Rattle.gm_jobs.proofs.script_reader.ends_with_update.Goals as goal

pub returns-in-Some : goal.returns-in-Some
returns-in-Some c = c.is_update.ensures ∙ last_decides is_update c.args.lines.now c.in-Some.entry.now c.in-Some.ensures.value
