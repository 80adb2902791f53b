use Rattle.std.proofs.Common.{◌∙◌, ℕ, eqb, map, nat_cmp, sym, ap, le-ltb, arith}
use Rattle.std.specs.BTreeMap.{get}
use Rattle.std.proofs.lemmas.List.{get_or-map, length-map}
use Rattle.gm_versions.specs.declared.history.AddedSource.{AddedSource}
use Rattle.gm_versions.proofs.HistorySteps.{believed, too_late, nowhere}
use Rattle.gm_versions.proofs.history.is_added.Goals as goal

source : AddedSource → ℕ
source a = a.source

pub returns-then-place-added : goal.returns-then-place-added
unfolding source
returns-then-place-added c =
    let added = c.args.added.now in
    let place = c.in-Some.field-0.now in
    let long = length-map added source in
    let within = c.if-place-added.true in
    ap (λ s. eqb s c.args.source) (sym (get_or-map source added place (record { update = 0; source = 0 }) 0 within))
    ∙ believed (map source added) (get nat_cmp c.args.first_places.now) c.args.source place c.requires (sym c.in-Some.ensures.value) (omega (arith, within, long))

pub returns-else-place-added : goal.returns-else-place-added
unfolding source
returns-else-place-added c =
    let added = c.args.added.now in
    let long = length-map added source in
    let late = c.if-place-added.false in
    le-ltb c.in-Some.field-0.now _ late
    ∙ too_late (map source added) (get nat_cmp c.args.first_places.now) c.args.source c.in-Some.field-0.now c.requires (sym c.in-Some.ensures.value) (omega (arith, late, long))

pub returns-in-None : goal.returns-in-None
unfolding source
returns-in-None c = nowhere (map source c.args.added.now) (get nat_cmp c.args.first_places.now) c.args.source c.requires (sym c.in-None.ensures.value)
