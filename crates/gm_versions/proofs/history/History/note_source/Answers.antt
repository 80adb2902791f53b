use Rattle.std.proofs.Common.{List, ℕ, ◌++◌, ◌∷◌, [], map, nat_cmp, sym, subst, ◌∙◌, ap}
use Rattle.std.proofs.lemmas.List.{map-append}
use Rattle.std.specs.BTreeMap.{get}
use Rattle.std.specs.List.Sorted.{IsNonDecreasingBy}
use Rattle.gm_versions.specs.declared.history.AddedSource.{AddedSource}
use Rattle.gm_versions.specs.Histories.{ChunkHistory, IsUpTo, HasFirstPlaces}
use Rattle.gm_versions.proofs.HistorySteps.{in_order-push}
use Rattle.gm_versions.proofs.history.History.note_source.Goals as goal

source : AddedSource → ℕ
source a = a.source

pub invariant_of-self-2 : goal.invariant_of-self-2
unfolding source
invariant_of-self-2 c =
    let added = c.self.inside.added.items in
    let more : List AddedSource = record { update = c.args.update; source = c.args.source } ∷ [] in
    let items = c.in_ok-push.ensures.items in
    let up_to = ap (λ (h : ChunkHistory). h.added) (subst (IsUpTo c.args.update) (sym c.self.view_is) c.requires) in
    let InOrder : List AddedSource → Type 0 = λ xs. IsNonDecreasingBy (λ a. a.update) xs in
    let Places : List ℕ → Type 0 = λ sources. HasFirstPlaces sources (get nat_cmp c.keep_place.new.first_places) in
    record {
      ascend = c.self.invariant.ascend;
      in_order = subst InOrder (sym items) (in_order-push c.args.update c.args.source added up_to c.self.invariant.in_order);
      places = subst Places (ap (λ (xs : List AddedSource). map source xs ++ c.args.source ∷ []) c.as_slice.ensures.value ∙ sym (map-append source added more) ∙ ap (map source) (sym items)) c.in_ok-keep_place.ensures.after;
    }
