-- Places of sources, looked at before they are believed.
use Rattle.std.proofs.Common.{◌≡◌, ℕ, suc, ◌<◌, ◌≤◌, true, false, eqb, List, [], ◌∷◌, ◌++◌, length, map, take, get_or, Option, Some, None, IsSomeAnd, inl, inr, sym, ◌∙◌, refl, subst, arith, zero, ◌-◌, Bool, cond, ◌||◌, ◌&&◌, ltb, leb, All, append_assoc, append-nil, ap, ap₂}
use Rattle.std.proofs.lemmas.Bool.{cases_Bool, cases_lt, or_cases, both_ways, false_from_ne_true, eqb-true, eq-eqb, eqb-false, cond-true, cond-false, lt-ltb, le-ltb, le-leb, lt-leb, leb-true}
use Rattle.std.proofs.lemmas.List.{get_or-take, get_or_append_left, get_or_push, length-take, length_push, take-map, map-append}
use Rattle.std.proofs.lemmas.List.Folds.{list_any_at, list_any-append}
use Rattle.gm_changes.specs.Concerns.{lists, concerns, concerning_changes, sources_after_one}
use Rattle.gm_versions.specs.declared.history.AddedSource.{AddedSource}
use Rattle.gm_versions.specs.Histories.{HasFirstPlaces, ChunkHistory, last_of, updates_up_to, added_up_to, history_up_to, IsUpTo, sources_in, added_by, with_update, history_of, with_number, with_touch, with_change}
use Rattle.std.specs.List.{fold, filter, AllWithin}
use Rattle.std.specs.List.Sorted.{IsNonDecreasingBy}
use Rattle.std.proofs.lemmas.List.Elements.{filter-append, All-cons, All-nil, All-get_or}
use Rattle.std.proofs.lemmas.List.Sums.{length-filter, count_by-le-length}
use Rattle.std.proofs.lemmas.List.Sorted.{IsNonDecreasingBy-push}
use Rattle.gm_base.specs.Dimensions.{block_of}
use Rattle.gm_base.specs.Graph.{edge}
use Rattle.gm_changes.specs.declared.change.Change.{Change}
use Rattle.gm_changes.specs.declared.change.Change.TheVariants.{Add, Cut}
use Rattle.gm_label.specs.Catalogues.{Catalogue, sources_at}
use Rattle.gm_versions.specs.Contents.{site_at, changes_at, sources_at_after, added_sources, added_at_after, changes_up_to, is_some_change, update_changes_at, last_update}
use Rattle.gm_versions.specs.ContentsRules.{added-in_parts, last-le, lists-after}

record Found (sources : List ℕ) (source : ℕ) : Type 0 where
  place : ℕ
  within : place < length sources
  is : get_or sources place 0 ≡ source

where_found : (sources : List ℕ) (source : ℕ) → lists sources source ≡ true → Found sources source
where_found [] source h = absurd (cc)
where_found (s ∷ sources) source h =
    elim (or_cases (eqb s source) (lists sources source) h) as (λ _. Found (s ∷ sources) source) [
      | inl here ↦ record { place = 0; within = omega arith; is = eqb-true s source here }
      | inr later ↦ let rest = where_found sources source later in let within = rest.within in
          record { place = suc rest.place; within = omega arith; is = rest.is }
    ]

found : (sources : List ℕ) (source k : ℕ) → k < length sources → get_or sources k 0 ≡ source → lists sources source ≡ true
found sources source k within is = list_any_at (λ (s : ℕ). eqb s source) sources k 0 within (eq-eqb (get_or sources k 0) source is)

abbrev IsNoLater : List ℕ → ℕ → ℕ → Type 0
IsNoLater sources k i = (i ≤ k) × (get_or sources i 0 ≡ get_or sources k 0)

-- what is told of a listed source
told : (sources : List ℕ) (first : ℕ → Option ℕ) (source : ℕ) (o : Option ℕ) → HasFirstPlaces sources first → first source ≡ o → (at : Found sources source)
    → IsSomeAnd o (IsNoLater sources at.place)
told sources first source o has is at =
    subst (λ (o : Option ℕ). IsSomeAnd o (IsNoLater sources at.place)) is
    (subst (λ (s : ℕ). IsSomeAnd (first s) (IsNoLater sources at.place)) at.is (has at.place at.within))

pub believed : (sources : List ℕ) (first : ℕ → Option ℕ) (source place : ℕ) → HasFirstPlaces sources first
    → first source ≡ Some place → place < length sources → eqb (get_or sources place 0) source ≡ lists sources source
believed sources first source place has is within =
    elim (cases_Bool (eqb (get_or sources place 0) source)) as (λ _. eqb (get_or sources place 0) source ≡ lists sources source) [
      | inl here ↦ here ∙ sym (found sources source place within (eqb-true (get_or sources place 0) source here))
      | inr other ↦ other ∙ sym (false_from_ne_true _ (λ some.
          let at = where_found sources source some in
          let known = told sources first source (Some place) has is at in
          eqb-false (get_or sources place 0) source other (known.1 ∙ at.is)))
    ]

pub too_late : (sources : List ℕ) (first : ℕ → Option ℕ) (source place : ℕ) → HasFirstPlaces sources first
    → first source ≡ Some place → length sources ≤ place → false ≡ lists sources source
too_late sources first source place has is late =
    sym (false_from_ne_true _ (λ some.
    let at = where_found sources source some in
    let known = told sources first source (Some place) has is at in
    let low = known.0 in let within = at.within in omega arith))

pub nowhere : (sources : List ℕ) (first : ℕ → Option ℕ) (source : ℕ) → HasFirstPlaces sources first → first source ≡ None → false ≡ lists sources source
nowhere sources first source has is =
    sym (false_from_ne_true _ (λ some. told sources first source None has is (where_found sources source some)))

IsSomeAnd-map : (o : Option ℕ) (P Q : ℕ → Type 0) → ((i : ℕ) → P i → Q i) → IsSomeAnd o P → IsSomeAnd o Q
IsSomeAnd-map None P Q each h = h
IsSomeAnd-map (Some i) P Q each h = each i h

-- fewer sources
pub has-take : (sources : List ℕ) (first : ℕ → Option ℕ) (n : ℕ) → HasFirstPlaces sources first → HasFirstPlaces (take n sources) first
has-take sources first n has k within =
    let long = length-take n sources in
    let low : k < n = omega arith in
    let here = get_or-take n sources k 0 low in
    subst (λ (s : ℕ). IsSomeAnd (first s) (λ i. (i ≤ k) × (get_or (take n sources) i 0 ≡ s))) (sym here)
    (IsSomeAnd-map (first (get_or sources k 0)) (IsNoLater sources k) (λ i. (i ≤ k) × (get_or (take n sources) i 0 ≡ get_or sources k 0))
    (λ i h. let no_later = h.0 in (no_later, get_or-take n sources i 0 (omega arith) ∙ h.1)) (has k (omega arith)))

-- .. with the updates that added them
pub has-front : (added : List AddedSource) (first : ℕ → Option ℕ) (n : ℕ) → HasFirstPlaces (map (λ (a : AddedSource). a.source) added) first
    → HasFirstPlaces (map (λ (a : AddedSource). a.source) (take n added)) first
has-front added first n has =
    let P : List ℕ → Type 0 = λ sources. HasFirstPlaces sources first in
    subst P (take-map (λ (a : AddedSource). a.source) n added) (has-take (map (λ (a : AddedSource). a.source) added) first n has)

-- places of other sources stay
pub has-others : (sources : List ℕ) (first next : ℕ → Option ℕ) (source : ℕ) → HasFirstPlaces sources first → lists sources source ≡ false
    → ((s : ℕ) → (s ≡ source → ⊥) → next s ≡ first s) → HasFirstPlaces sources next
has-others sources first next source has unknown others k within =
    let apart : get_or sources k 0 ≡ source → ⊥ = λ same. both_ways _ unknown (found sources source k within same) in
    subst (λ (o : Option ℕ). IsSomeAnd o (IsNoLater sources k)) (sym (others (get_or sources k 0) apart)) (has k within)

-- one source more: it has a place, its own or an earlier one
has-more : (sources : List ℕ) (first : ℕ → Option ℕ) (source : ℕ) → HasFirstPlaces sources first
    → IsSomeAnd (first source) (λ i. (i ≤ length sources) × (get_or (sources ++ source ∷ []) i 0 ≡ source)) → HasFirstPlaces (sources ++ source ∷ []) first
has-more sources first source has last k within =
    let more = sources ++ source ∷ [] in
    let long = length_push sources source in
    elim (cases_lt k (length sources)) as (λ _. IsSomeAnd (first (get_or more k 0)) (IsNoLater more k)) [
      | inl before ↦
          let same = get_or_append_left sources (source ∷ []) 0 k before in
          subst (λ (s : ℕ). IsSomeAnd (first s) (λ i. (i ≤ k) × (get_or more i 0 ≡ s))) (sym same)
          (IsSomeAnd-map (first (get_or sources k 0)) (IsNoLater sources k) (λ i. (i ≤ k) × (get_or more i 0 ≡ get_or sources k 0))
          (λ i h. let no_later = h.0 in (no_later, get_or_append_left sources (source ∷ []) 0 i (omega arith) ∙ h.1)) (has k before))
      | inr behind ↦
          let at : k ≡ length sources = omega arith in
          let same : get_or more k 0 ≡ source = get_or_push sources source 0 k (sym at) in
          subst (λ (s : ℕ). IsSomeAnd (first s) (λ i. (i ≤ k) × (get_or more i 0 ≡ s))) (sym same)
          (IsSomeAnd-map (first source) (λ i. (i ≤ length sources) × (get_or more i 0 ≡ source)) (λ i. (i ≤ k) × (get_or more i 0 ≡ source))
          (λ i h. let no_later = h.0 in (omega arith, h.1)) last)
    ]

pub has-known : (sources : List ℕ) (first : ℕ → Option ℕ) (source : ℕ) → HasFirstPlaces sources first → lists sources source ≡ true
    → HasFirstPlaces (sources ++ source ∷ []) first
has-known sources first source has listed =
    let at = where_found sources source listed in
    let within = at.within in
    has-more sources first source has
    (IsSomeAnd-map (first source) (IsNoLater sources at.place) (λ i. (i ≤ length sources) × (get_or (sources ++ source ∷ []) i 0 ≡ source))
    (λ i h. let no_later = h.0 in (omega arith, get_or_append_left sources (source ∷ []) 0 i (omega arith) ∙ h.1 ∙ at.is))
    (told sources first source (first source) has refl at))

pub has-new : (sources : List ℕ) (next : ℕ → Option ℕ) (source : ℕ) → HasFirstPlaces sources next → next source ≡ Some (length sources)
    → HasFirstPlaces (sources ++ source ∷ []) next
has-new sources next source has is =
    has-more sources next source has
    (subst (λ (o : Option ℕ). IsSomeAnd o (λ i. (i ≤ length sources) × (get_or (sources ++ source ∷ []) i 0 ≡ source))) (sym is)
    (omega arith, get_or_push sources source 0 (length sources) refl))

-- ---- A chunk's history, update by update and change by change

-- ---- tests that pass a front

module _ {X : Type 0} (p : X → Bool) where
  -- what passes is the front, where it comes first
  pub taken-filter : (xs : List X) (n : ℕ) → AllWithin (λ x. p x ≡ true) xs 0 n → AllWithin (λ x. p x ≡ false) xs n (length xs) → take n xs ≡ filter p xs
  taken-filter [] zero front behind = refl
  taken-filter [] (suc n) front behind = refl
  taken-filter (x ∷ xs) zero front behind =
      let later = taken-filter xs 0 (λ k d low high. absurd (omega arith)) (λ k d low high. behind (suc k) d (omega arith) (omega arith)) in
      later ∙ sym (cond-false (p x) (x ∷ filter p xs) (filter p xs) (behind 0 x (omega arith) (omega arith)))
  taken-filter (x ∷ xs) (suc n) front behind =
      let later = taken-filter xs n (λ k d low high. front (suc k) d (omega arith) (omega arith)) (λ k d low high. behind (suc k) d (omega arith) (omega arith)) in
      ap (λ ys. x ∷ ys) later ∙ sym (cond-true (p x) (x ∷ filter p xs) (filter p xs) (front 0 x (omega arith) (omega arith)))

  pub filter-again : (xs : List X) → filter p (filter p xs) ≡ filter p xs
  filter-again [] = refl
  filter-again (x ∷ xs) =
      let rest = filter p xs in
      let at : (b : Bool) → p x ≡ b → filter p (cond b (x ∷ rest) rest) ≡ cond b (x ∷ rest) rest = elim [
        | true ↦ λ h. cond-true (p x) (x ∷ filter p rest) (filter p rest) h ∙ ap (λ ys. x ∷ ys) (filter-again xs)
        | false ↦ λ h. filter-again xs
      ] in
      at (p x) refl

  -- where all that there is passes
  pub passes-all : (xs : List X) → filter p xs ≡ xs → All (λ x. p x ≡ true) xs
  passes-all [] is = All-nil (λ x. p x ≡ true)
  passes-all (x ∷ xs) is =
      let short = length-filter p xs in
      let few = count_by-le-length p xs in
      let at : (b : Bool) → p x ≡ b → cond b (x ∷ filter p xs) (filter p xs) ≡ x ∷ xs → All (λ x. p x ≡ true) (x ∷ xs) = elim [
        | true ↦ λ h same. All-cons (λ x. p x ≡ true) x xs h (passes-all xs (cc))
        | false ↦ λ h same. let long = ap length same in absurd (omega (arith, short, few, long))
      ] in
      at (p x) refl is

-- ---- one update more

last_of-push : (updates : List ℕ) (number : ℕ) → last_of (updates ++ number ∷ []) ≡ number
last_of-push updates number =
    get_or_push updates number 0 (length (updates ++ number ∷ []) - 1) (omega (arith, length_push updates number))

map-source : (number : ℕ) (sources : List ℕ) → map (λ (a : AddedSource). a.source) (added_by number sources) ≡ sources
map-source number [] = refl
map-source number (s ∷ sources) = ap (λ ss. s ∷ ss) (map-source number sources)

pub sources-with : (number : ℕ) (sources : List ℕ) (h : ChunkHistory)
    → map (λ (a : AddedSource). a.source) (h.added ++ added_by number sources) ≡ sources_in h ++ sources
sources-with number sources h =
    map-append (λ (a : AddedSource). a.source) h.added (added_by number sources) ∙ ap (λ ss. sources_in h ++ ss) (map-source number sources)

-- the last update and the sources that a history adds
pub history-last : (cat : Catalogue) (c : ℕ) (updates : List (List Change)) (version : ℕ)
    → last_of (history_of cat c updates version).updates ≡ last_update cat updates c version
history-last cat c updates zero = refl
history-last cat c updates (suc version) =
    let h = history_of cat c updates version in
    let at : (b : Bool) → last_of (cond b (h.updates ++ suc version ∷ []) h.updates) ≡ cond b (suc version) (last_update cat updates c version) = elim [
      | true ↦ last_of-push h.updates (suc version)
      | false ↦ history-last cat c updates version
    ] in
    at (is_some_change (update_changes_at cat updates c version))

pub history-added : (cat : Catalogue) (c : ℕ) (updates : List (List Change)) (version : ℕ)
    → sources_in (history_of cat c updates version) ≡ added_at_after cat c (changes_up_to updates version)
history-added cat c updates zero = refl
history-added cat c updates (suc version) =
    let next = update_changes_at cat updates c version in
    sources-with (suc version) (added_sources next) (history_of cat c updates version)
    ∙ ap (λ (ss : List ℕ). ss ++ added_sources next) (history-added cat c updates version)
    ∙ sym (added-in_parts cat c (changes_up_to updates version) (get_or updates version []))

-- ---- change by change

-- whether a change concerns a chunk is told by what the chunk's sources list
pub concerns-same : (cat : Catalogue) (c : ℕ) (xs ys : List ℕ) (change : Change) → ((u : ℕ) → lists xs u ≡ lists ys u)
    → concerns cat.dimensions (site_at cat c) xs change ≡ concerns cat.dimensions (site_at cat c) ys change
concerns-same cat c xs ys (Add e) same = refl
concerns-same cat c xs ys (Cut from to) same = ap (λ (b : Bool). eqb (block_of cat.dimensions (edge from to 0)) (site_at cat c).block && b) (same from)

or-moved : (q a : Bool) → (q || a) ≡ (a || (q || false))
or-moved true true = refl
or-moved true false = refl
or-moved false true = refl
or-moved false false = refl

-- one change more leaves what is kept and what is known listing the same sources
sources-grown : (known sources : List ℕ) (change : Change) → ((u : ℕ) → lists sources u ≡ lists known u)
    → (u : ℕ) → lists (sources_after_one change sources) u ≡ lists (known ++ added_sources (change ∷ [])) u
sources-grown known sources (Cut from to) same u = same u ∙ ap (λ (ss : List ℕ). lists ss u) (sym (append-nil known))
sources-grown known sources (Add e) same u =
    ap (λ (b : Bool). eqb e.from u || b) (same u) ∙ or-moved (eqb e.from u) (lists known u) ∙ sym (list_any-append (λ (s : ℕ). eqb s u) known (e.from ∷ []))

-- changes that concern the chunk, one after the other
touched : ℕ → ChunkHistory → Change → ChunkHistory
touched number h change = with_touch number (added_sources (change ∷ [])) h

changes-touched : (cat : Catalogue) (c number : ℕ) (h : ChunkHistory) (batch : List Change) (sources : List ℕ)
    → ((u : ℕ) → lists sources u ≡ lists (sources_at cat c ++ sources_in h) u)
    → fold (with_change cat c number) h batch ≡ fold (touched number) h (concerning_changes cat.dimensions (site_at cat c) sources batch)
unfolding touched
changes-touched cat c number h [] sources same = refl
changes-touched cat c number h (x ∷ batch) sources same =
    let d = cat.dimensions in
    let site = site_at cat c in
    let known = sources_at cat c ++ sources_in h in
    let next = touched number h x in
    let at : (b : Bool) → fold (with_change cat c number) (cond b next h) batch
    ≡ fold (touched number) h (cond b (x ∷ concerning_changes d site (sources_after_one x sources) batch) (concerning_changes d site sources batch)) = elim [
      | true ↦
          changes-touched cat c number next batch (sources_after_one x sources) (λ u.
          sources-grown known sources x same u
          ∙ ap (λ (ss : List ℕ). lists ss u) (append_assoc (sources_at cat c) (sources_in h) (added_sources (x ∷ []))
          ∙ ap (λ (ss : List ℕ). sources_at cat c ++ ss) (sym (sources-with number (added_sources (x ∷ [])) h))))
      | false ↦ changes-touched cat c number h batch sources same
    ] in
    ap (λ (b : Bool). fold (with_change cat c number) (cond b next h) batch) (concerns-same cat c known sources x (λ u. sym (same u)))
    ∙ at (concerns d site sources x)

pub number-again : (number : ℕ) (updates : List ℕ) → number ≤ last_of updates → with_number number updates ≡ updates
number-again number updates again = cond-false (ltb (last_of updates) number) _ _ (le-ltb (last_of updates) number again)

added_sources-cons : (x : Change) (xs : List Change) → added_sources (x ∷ xs) ≡ added_sources (x ∷ []) ++ added_sources xs
added_sources-cons (Add e) xs = refl
added_sources-cons (Cut from to) xs = refl

added-touched : (number : ℕ) (h : ChunkHistory) (xs : List Change) → (fold (touched number) h xs).added ≡ h.added ++ added_by number (added_sources xs)
unfolding touched
added-touched number h [] = sym (append-nil h.added)
added-touched number h (x ∷ xs) =
    let first = added_by number (added_sources (x ∷ [])) in
    added-touched number (touched number h x) xs
    ∙ append_assoc h.added first (added_by number (added_sources xs))
    ∙ ap (λ (xs : List AddedSource). h.added ++ xs) (sym (map-append _ (added_sources (x ∷ [])) (added_sources xs)) ∙ ap (added_by number) (sym (added_sources-cons x xs)))

updates-again : (number : ℕ) (h : ChunkHistory) (xs : List Change) → number ≤ last_of h.updates → (fold (touched number) h xs).updates ≡ h.updates
unfolding touched
updates-again number h [] again = refl
updates-again number h (x ∷ xs) again =
    let same = number-again number h.updates again in
    let last = ap last_of same in
    updates-again number (touched number h x) xs (omega (arith, again, last)) ∙ same

updates-touched : (number : ℕ) (h : ChunkHistory) (xs : List Change) → last_of h.updates < number
    → (fold (touched number) h xs).updates ≡ cond (is_some_change xs) (h.updates ++ number ∷ []) h.updates
unfolding touched
updates-touched number h [] later = refl
updates-touched number h (x ∷ xs) later =
    let first : with_number number h.updates ≡ h.updates ++ number ∷ [] = cond-true (ltb (last_of h.updates) number) _ _ (lt-ltb (last_of h.updates) number later) in
    let last = ap last_of first ∙ last_of-push h.updates number in
    updates-again number (touched number h x) xs (omega (arith, last)) ∙ first

-- the sources that a chunk has by then
pub history-lists : (cat : Catalogue) (c : ℕ) (updates : List (List Change)) (version u : ℕ)
    → lists (sources_at_after cat c (changes_up_to updates version)) u ≡ lists (sources_at cat c ++ sources_in (history_of cat c updates version)) u
history-lists cat c updates version u =
    let seen = changes_up_to updates version in
    lists-after (changes_at cat c seen) (sources_at cat c) u
    ∙ ap (λ (ss : List ℕ). lists (sources_at cat c) u || lists ss u) (sym (history-added cat c updates version))
    ∙ sym (list_any-append (λ (s : ℕ). eqb s u) (sources_at cat c) (sources_in (history_of cat c updates version)))

-- the changes of the next update
pub history-noted : (cat : Catalogue) (c : ℕ) (updates : List (List Change)) (version : ℕ) (batch : List Change)
    → fold (with_change cat c (suc version)) (history_of cat c updates version) batch
    ≡ with_update (suc version) (concerning_changes cat.dimensions (site_at cat c) (sources_at_after cat c (changes_up_to updates version)) batch) (history_of cat c updates version)
history-noted cat c updates version batch =
    let h = history_of cat c updates version in
    let sources = sources_at_after cat c (changes_up_to updates version) in
    let next = concerning_changes cat.dimensions (site_at cat c) sources batch in
    let last = history-last cat c updates version in
    let low = last-le cat updates c version in
    let made = λ (us : List ℕ) (xs : List AddedSource). let now : ChunkHistory = record { updates = us; added = xs } in now in
    changes-touched cat c (suc version) h batch sources (history-lists cat c updates version)
    ∙ ap₂ made (updates-touched (suc version) h next (omega (arith, last, low))) (added-touched (suc version) h next)

-- ---- a history at an earlier version

filter-added : (version number : ℕ) (sources : List ℕ) → added_up_to version (added_by number sources) ≡ cond (leb number version) (added_by number sources) []
filter-added version number [] =
    let none : List AddedSource = [] in
    let at : (b : Bool) → none ≡ cond b none none = elim [ true ↦ refl | false ↦ refl ] in at (leb number version)
filter-added version number (s ∷ sources) =
    let first : AddedSource = record { update = number; source = s } in
    let rest = added_by number sources in
    let at : (b : Bool) → cond b (first ∷ cond b rest []) (cond b rest []) ≡ cond b (first ∷ rest) [] = elim [ true ↦ refl | false ↦ refl ] in
    ap (λ (xs : List AddedSource). cond (leb number version) (first ∷ xs) xs) (filter-added version number sources) ∙ at (leb number version)

added-up_to : (version number : ℕ) (sources : List ℕ) (added : List AddedSource)
    → added_up_to version (added ++ added_by number sources) ≡ added_up_to version added ++ cond (leb number version) (added_by number sources) []
added-up_to version number sources added =
    filter-append (λ (a : AddedSource). leb a.update version) added (added_by number sources) ∙ ap (λ (xs : List AddedSource). added_up_to version added ++ xs) (filter-added version number sources)

updates-up_to : (version number : ℕ) (b : Bool) (updates : List ℕ)
    → updates_up_to version (cond b (updates ++ number ∷ []) updates)
    ≡ cond b (updates_up_to version updates ++ cond (leb number version) (number ∷ []) []) (updates_up_to version updates)
updates-up_to version number true updates = filter-append (λ (u : ℕ). leb u version) updates (number ∷ [])
updates-up_to version number false updates = refl

-- where an update's number and its sources go, the version before doesn't see them
pub up_to-before : (version number : ℕ) (b : Bool) (sources : List ℕ) (h : ChunkHistory) → version < number
    → history_up_to version (record { updates = cond b (h.updates ++ number ∷ []) h.updates; added = h.added ++ added_by number sources }) ≡ history_up_to version h
up_to-before version number b sources h later =
    let made = λ (us : List ℕ) (xs : List AddedSource). let now : ChunkHistory = record { updates = us; added = xs } in now in
    let past : leb number version ≡ false = lt-leb number version later in
    let at : (b : Bool) → cond b (updates_up_to version h.updates ++ []) (updates_up_to version h.updates) ≡ updates_up_to version h.updates = elim [
      | true ↦ append-nil (updates_up_to version h.updates)
      | false ↦ refl
    ] in
    ap₂ made
    (updates-up_to version number b h.updates ∙ ap (λ (p : Bool). cond b (updates_up_to version h.updates ++ cond p (number ∷ []) []) (updates_up_to version h.updates)) past ∙ at b)
    (added-up_to version number sources h.added ∙ ap (λ (p : Bool). added_up_to version h.added ++ cond p (added_by number sources) []) past ∙ append-nil (added_up_to version h.added))

-- and a version that isn't before it sees all
pub up_to-within : (version number : ℕ) (b : Bool) (sources : List ℕ) (h : ChunkHistory) → number ≤ version → IsUpTo version h
    → IsUpTo version (record { updates = cond b (h.updates ++ number ∷ []) h.updates; added = h.added ++ added_by number sources })
up_to-within version number b sources h within up_to =
    let made = λ (us : List ℕ) (xs : List AddedSource). let now : ChunkHistory = record { updates = us; added = xs } in now in
    let seen : leb number version ≡ true = le-leb number version within in
    let us : updates_up_to version h.updates ≡ h.updates = ap (λ (h : ChunkHistory). h.updates) up_to in
    let added : added_up_to version h.added ≡ h.added = ap (λ (h : ChunkHistory). h.added) up_to in
    ap₂ made
    (updates-up_to version number b h.updates ∙ ap (λ (p : Bool). cond b (updates_up_to version h.updates ++ cond p (number ∷ []) []) (updates_up_to version h.updates)) seen
    ∙ ap (λ (xs : List ℕ). cond b (xs ++ number ∷ []) xs) us)
    (added-up_to version number sources h.added ∙ ap (λ (p : Bool). added_up_to version h.added ++ cond p (added_by number sources) []) seen
    ∙ ap (λ (xs : List AddedSource). xs ++ added_by number sources) added)

pub history-now : (cat : Catalogue) (c : ℕ) (updates : List (List Change)) (version count : ℕ) → count ≤ version → IsUpTo version (history_of cat c updates count)
history-now cat c updates version zero small = refl
history-now cat c updates version (suc count) small =
    let next = update_changes_at cat updates c count in
    up_to-within version (suc count) (is_some_change next) (added_sources next) (history_of cat c updates count) small
    (history-now cat c updates version count (omega (arith, small)))

pub history-up_to : (cat : Catalogue) (c : ℕ) (updates : List (List Change)) (version count : ℕ) → version ≤ count
    → history_up_to version (history_of cat c updates count) ≡ history_of cat c updates version
history-up_to cat c updates version zero small =
    let same : version ≡ 0 = omega (arith, small) in sym (ap (history_of cat c updates) same)
history-up_to cat c updates version (suc count) small =
    let next = update_changes_at cat updates c count in
    elim (cases_lt version (suc count)) as (λ _. history_up_to version (history_of cat c updates (suc count)) ≡ history_of cat c updates version) [
      | inl less ↦
          up_to-before version (suc count) (is_some_change next) (added_sources next) (history_of cat c updates count) less
          ∙ history-up_to cat c updates version count (omega (arith, less))
      | inr not_less ↦
          let same : suc count ≡ version = omega (arith, small, not_less) in
          history-now cat c updates version (suc count) (omega (arith, same)) ∙ ap (history_of cat c updates) same
    ]

-- ---- one touch more

-- a history up to a version is none more
pub up_to-again : (version : ℕ) (h : ChunkHistory) → IsUpTo version (history_up_to version h)
up_to-again version h =
    let made = λ (us : List ℕ) (xs : List AddedSource). let now : ChunkHistory = record { updates = us; added = xs } in now in
    ap₂ made (filter-again (λ (u : ℕ). leb u version) h.updates) (filter-again (λ (a : AddedSource). leb a.update version) h.added)

-- the last update of a history up to a version is no later
pub last-within : (version : ℕ) (h : ChunkHistory) → IsUpTo version h → last_of h.updates ≤ version
last-within version h up_to =
    let all = passes-all (λ (u : ℕ). leb u version) h.updates (ap (λ (h : ChunkHistory). h.updates) up_to) in
    let at : (us : List ℕ) → All (λ u. leb u version ≡ true) us → last_of us ≤ version = elim [
      | [] ↦ λ all. omega arith
      | (u ∷ us) ↦ λ all. leb-true (last_of (u ∷ us)) version (All-get_or (λ u. leb u version ≡ true) (u ∷ us) (length (u ∷ us) - 1) 0 (omega arith) all)
    ] in
    at h.updates all

-- one source more of an update behind which nothing stands
pub in_order-push : (update source : ℕ) (added : List AddedSource) → added_up_to update added ≡ added → IsNonDecreasingBy (λ (a : AddedSource). a.update) added
    → IsNonDecreasingBy (λ (a : AddedSource). a.update) (added ++ record { update = update; source = source } ∷ [])
in_order-push update source added up_to order =
    let Low = λ (a : AddedSource). leb a.update update ≡ true in
    let all = passes-all (λ (a : AddedSource). leb a.update update) added up_to in
    IsNonDecreasingBy-push (λ (a : AddedSource). a.update) added _ order (λ d some.
    leb-true _ update (All-get_or Low added (length added - 1) d (omega (arith, some)) all))
