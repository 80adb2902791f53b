use Rattle.std.proofs.Common.{List, map, take, nat_cmp, sym, subst}
use Rattle.std.specs.BTreeMap.{get}
use Rattle.gm_versions.specs.declared.history.AddedSource.{AddedSource}
use Rattle.gm_versions.specs.Histories.{HasFirstPlaces}
use Rattle.gm_versions.proofs.HistorySteps.{has-front}
use Rattle.gm_versions.proofs.history.History.has_added.Goals as goal

pub is_added-requires : goal.is_added-requires
is_added-requires c =
    let first = get nat_cmp c.self.inside.first_places in
    let count = c.count_added-count.result in
    let Front : List AddedSource → Type 0 = λ xs. HasFirstPlaces (map (λ (a : AddedSource). a.source) (take count xs)) first in
    subst Front (sym c.deref.ensures.value) (has-front c.self.inside.added.items first count c.self.invariant.places)
