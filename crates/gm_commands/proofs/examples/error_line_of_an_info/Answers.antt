use Rattle.std.proofs.Common.{refl}
use Rattle.std.specs.Fmt.{digits}
use Rattle.gm_commands.specs.Failures.{text_of}
use Rattle.gm_commands.proofs.examples.error_line_of_an_info.Goals as goal

pub returns : goal.returns
unfolding digits text_of
returns c = refl
