use Rattle.std.proofs.Common.{refl}
use Rattle.std.specs.Fmt.{digits}
use Rattle.gm_tools.specs.Builds.{output_text}
use Rattle.gm_tools.proofs.examples.output_of_a_build.Goals as goal

pub returns : goal.returns
unfolding digits output_text
returns c = refl
