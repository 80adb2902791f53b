use Rattle.gm_label.specs.CataloguesRules.{labelled_up_to-fresh, labelled_up_to-next}
use Rattle.gm_label.proofs.laws.labelled_chunk_by_chunk.Goals as goal

pub returns-clause-fresh : goal.returns-clause-fresh
returns-clause-fresh c = labelled_up_to-fresh

pub returns-clause-next : goal.returns-clause-next
returns-clause-next c = labelled_up_to-next
