use Rattle.std.proofs.Common.{refl}
use Rattle.std.specs.Fmt.{digits}
use Rattle.gm_tools.specs.Infos.{info_text}
use Rattle.gm_tools.proofs.examples.output_of_an_info.Goals as goal

pub returns : goal.returns
unfolding digits info_text
returns c = refl
