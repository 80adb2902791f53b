use Rattle.std.proofs.Common.{refl}
use Rattle.std.specs.Fmt.{digits}
use Rattle.gm_commands.specs.Failures.{text_of}
use Rattle.gm_commands.proofs.examples.error_lines_of_a_job_text.Goals as goal

pub returns-clause-line : goal.returns-clause-line
unfolding digits text_of
returns-clause-line c = refl
