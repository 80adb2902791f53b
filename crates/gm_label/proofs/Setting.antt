-- A chunk is given its label.
use Rattle.std.proofs.Common.{◌≡◌, ℕ, ◌-◌, ◌<◌, ◌≤◌, List, [], length, get_or, set, sym, ap, ◌∙◌, subst, arith, Result, Ok, Err}
use Rattle.std.specs.Result.{OnOk, OnErr}
use Rattle.std.proofs.lemmas.List.{get_or_read}
use Rattle.gm_base.specs.Dimensions.{Dimensions}
use Rattle.gm_label.specs.declared.chunk.Place.{Place}
use Rattle.gm_label.specs.LabelsRules.{sources-le-edges}
use Rattle.gm_label.specs.Catalogues.{Catalogue, no_place, FitsChunk}
use Rattle.gm_label.specs.Stored.{LabelTable, AreLabelled}
use Rattle.gm_label.proofs.Labelled.{unlabelled-at, labelled-set}

-- the catalogue of these parts
abbrev pub known : Dimensions → List Place → LabelTable → Catalogue
known d places table = record { dimensions = d; places = places; labels = table.lists }

place_count : (places : List Place) (c : ℕ) (place : Place) → c < length places → place ≡ get_or places c place → place.count ≡ (get_or places c no_place).count
place_count places c place within is = ap (λ (p : Place). p.count) (get_or_read places c place within is no_place)

-- a chunk as it was read, of a catalogue of these parts
pub record IsRead (cat : Catalogue) (d : Dimensions) (places : List Place) (table : LabelTable) (c : ℕ) (place : Place) : Type 0 where
  pub seen : known d places table ≡ cat
  pub kept : AreLabelled d places table
  pub within : c < length cat.places
  pub read : place ≡ get_or places c place

within_places : (cat : Catalogue) (d : Dimensions) (places : List Place) (table : LabelTable) (c : ℕ) (place : Place) → IsRead cat d places table c place → c < length places
within_places cat d places table c place is = let same = ap (λ (v : Catalogue). length v.places) is.seen in let within = is.within in omega arith

fits_here : (cat : Catalogue) (d : Dimensions) (places : List Place) (table : LabelTable) (c : ℕ) (place : Place) (label : List (ℕ × ℕ))
    → IsRead cat d places table c place → FitsChunk cat c label → FitsChunk (known d places table) c label
fits_here cat d places table c place label is fits = subst (λ (v : Catalogue). FitsChunk v c label) (sym is.seen) fits

pub few_pairs : (cat : Catalogue) (d : Dimensions) (places : List Place) (table : LabelTable) (c : ℕ) (place : Place) (label : List (ℕ × ℕ))
    → IsRead cat d places table c place → FitsChunk cat c label → length label ≤ place.count
few_pairs cat d places table c place label is fits =
    let within = within_places cat d places table c place is in
    let here = fits_here cat d places table c place label is fits in
    let count = place_count places c place within is.read in
    let counted = here.counted in
    let few = sources-le-edges 0 label here.is_label in
    omega arith

pub room_left : (cat : Catalogue) (d : Dimensions) (places : List Place) (table : LabelTable) (c : ℕ) (place : Place)
    → IsRead cat d places table c place → get_or cat.labels c [] ≡ [] → place.count ≤ table.left
room_left cat d places table c place is fresh =
    let within = within_places cat d places table c place is in
    let fresh_here : get_or table.lists c [] ≡ [] = ap (λ (v : Catalogue). get_or v.labels c []) is.seen ∙ fresh in
    let count = place_count places c place within is.read in
    let room = unlabelled-at places table.lists c is.kept.labelled within fresh_here in
    let left = is.kept.left in
    omega arith

labelled_now : (cat : Catalogue) (d : Dimensions) (places : List Place) (table now : LabelTable) (c : ℕ) (place : Place) (label : List (ℕ × ℕ))
    → IsRead cat d places table c place → FitsChunk cat c label → get_or cat.labels c [] ≡ []
    → now ≡ record { lists = set table.lists c label; left = table.left - place.count } → AreLabelled d places now
labelled_now cat d places table now c place label is fits fresh now_is =
    let within = within_places cat d places table c place is in
    let here = fits_here cat d places table c place label is fits in
    let fresh_here : get_or table.lists c [] ≡ [] = ap (λ (v : Catalogue). get_or v.labels c []) is.seen ∙ fresh in
    let count = place_count places c place within is.read in
    let made = λ (n : ℕ). let t : LabelTable = record { lists = set table.lists c label; left = table.left - n } in t in
    labelled-set d places table.lists table.left now c label is.kept within fresh_here here.is_label here.counted here.in_rows (now_is ∙ ap made count)

-- whether it was set or refused
pub still_labelled : {E : Type 0} (result : Result (Unit {0}) E) (cat : Catalogue) (d : Dimensions) (places : List Place) (table now : LabelTable) (c : ℕ) (place : Place) (label : List (ℕ × ℕ))
    → IsRead cat d places table c place → FitsChunk cat c label → get_or cat.labels c [] ≡ []
    → OnOk result (now ≡ record { lists = set table.lists c label; left = table.left - place.count }) → OnErr result (now ≡ table) → AreLabelled d places now
still_labelled (Ok x) cat d places table now c place label is fits fresh set_is refused = labelled_now cat d places table now c place label is fits fresh set_is
still_labelled (Err e) cat d places table now c place label is fits fresh set_is refused = subst (AreLabelled d places) (sym refused) is.kept
