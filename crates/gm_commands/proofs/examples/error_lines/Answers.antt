use Rattle.std.proofs.Common.{refl}
use Rattle.std.specs.Fmt.{digits}
use Rattle.gm_commands.specs.Failures.{text_of}
use Rattle.gm_commands.proofs.examples.error_lines.Goals as goal

pub returns-clause-bad_line : goal.returns-clause-bad_line
unfolding digits text_of
returns-clause-bad_line c = refl

pub returns-clause-size : goal.returns-clause-size
unfolding digits text_of
returns-clause-size c = refl

pub returns-clause-shape : goal.returns-clause-shape
unfolding digits text_of
returns-clause-shape c = refl
