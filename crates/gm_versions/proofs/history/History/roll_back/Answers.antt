use Rattle.std.proofs.Common.{List, ℕ, map, nat_cmp, sym, subst}
use Rattle.std.specs.BTreeMap.{get}
use Rattle.std.specs.List.Sorted.{IsNonDecreasingBy}
use Rattle.std.proofs.lemmas.List.Sorted.{IsNonDecreasingBy-take}
use Rattle.gm_versions.specs.declared.history.AddedSource.{AddedSource}
use Rattle.gm_versions.specs.Histories.{HasFirstPlaces}
use Rattle.gm_versions.proofs.HistorySteps.{has-front}
use Rattle.gm_versions.proofs.history.History.roll_back.Goals as goal

pub invariant_of-self : goal.invariant_of-self
invariant_of-self c =
    let updates = c.self.inside.updates.items in
    let added = c.self.inside.added.items in
    let first = get nat_cmp c.self.inside.first_places in
    let Ascend : List ℕ → Type 0 = λ xs. IsNonDecreasingBy (λ u. u) xs in
    let InOrder : List AddedSource → Type 0 = λ xs. IsNonDecreasingBy (λ a. a.update) xs in
    let Places : List AddedSource → Type 0 = λ xs. HasFirstPlaces (map (λ (a : AddedSource). a.source) xs) first in
    record {
      ascend = subst Ascend (sym c.truncate.ensures.items) (IsNonDecreasingBy-take (λ u. u) _ updates c.self.invariant.ascend);
      in_order = subst InOrder (sym c.truncate-2.ensures.items) (IsNonDecreasingBy-take (λ (a : AddedSource). a.update) _ added c.self.invariant.in_order);
      places = subst Places (sym c.truncate-2.ensures.items) (has-front added first _ c.self.invariant.places);
    }
