use Rattle.gm_versions.specs.ContentsRules.{content-placed}
use Rattle.gm_versions.proofs.laws.content_edges_are_placed.Goals as goal

pub returns : goal.returns
returns c = content-placed
