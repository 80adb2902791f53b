use Rattle.gm_label.specs.CataloguesRules.{catalogue-is_over}
use Rattle.gm_label.proofs.laws.catalogue_is_over_its_edges.Goals as goal

pub returns : goal.returns
returns c = catalogue-is_over
