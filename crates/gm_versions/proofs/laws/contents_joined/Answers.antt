use Rattle.gm_versions.specs.ContentsRules.{contents-joined}
use Rattle.gm_versions.proofs.laws.contents_joined.Goals as goal

pub returns : goal.returns
returns c = contents-joined
