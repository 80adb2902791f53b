-- Last cuts with one more change noted.
use Rattle.std.proofs.Common.{◌≡◌, ℕ, ◌<◌, Bool, true, false, ◌&&◌, ◌||◌, cond, not, eqb, List, [], ◌∷◌, ◌++◌, length, take, drop, slice_index_or, slice_set, inl, inr, sym, ap, ◌∙◌, refl, arith, ◌+◌, subst}
use Rattle.std.specs.Prelude.{Option, Some, None}
use Rattle.std.specs.declared.cmp.Ordering.{Ordering}
use Rattle.std.specs.declared.cmp.Ordering.TheVariants.{Less, Equal, Greater}
use Rattle.std.specs.Ordering.{is_eq, ordering_then, nat_cmp}
use Rattle.std.specs.BTreeMap.{BTreeMap, get, is_at, btree_map_len}
use Rattle.std.specs.Map.{lookup}
use Rattle.std.proofs.lemmas.Bool.{cases_lt, le-leb, lt-leb, true≢false, false_from_ne_true, and_parts, eqb-true, or_parts, or_from, and_right, or_left, or_right, eq-eqb}
use Rattle.std.proofs.lemmas.List.{length-append, drop-append-le, drop_all, take-append-drop, get_or-set_same, get_or-set_other, length-set, append_assoc, take_more, drop_more}
use Rattle.std.proofs.lemmas.List.Folds.{list_any-append}
use Rattle.gm_base.specs.declared.edge.Edge.{Edge}
use Rattle.gm_changes.specs.declared.change.Change.{Change}
use Rattle.gm_changes.specs.declared.change.Change.TheVariants.{Add, Cut}
use Rattle.gm_changes.specs.declared.last_cuts.LastCuts.{LastCuts}
use Rattle.gm_changes.specs.Changes.{is_between}
use Rattle.gm_changes.specs.Kept.{cuts_edge, is_cut, uncut_edges}
use Rattle.gm_changes.specs.LastCuts.{ends_cmp, is_from, mark_of, tells_cut, HasNoted, AreLastCuts}
use Rattle.std.specs.List.{filter, list_any}
use Rattle.gm_base.specs.Dimensions.{Dimensions, block_of}
use Rattle.gm_base.specs.Graph.{edge}
use Rattle.gm_changes.specs.declared.cut_sources.CutSources.{CutSources}
use Rattle.gm_changes.specs.Concerns.{Site, lists, may_concern, concerning_changes, takes_adds_of, sources_after_one, sources_after}
use Rattle.gm_changes.specs.ConcernsRules.{sources-parts}
use Rattle.gm_changes.specs.Sources.{listed_changes, cuts_from, TellsSources}

pub equal_numbers : (x y : ℕ) → is_eq (nat_cmp x y) ≡ eqb y x
equal_numbers x y = grind arith

equal_ends : (from to : ℕ) (e : Edge) → is_at (ends_cmp (from, to)) (e.from, e.to) ≡ is_between from to e
equal_ends from to e =
    let at : (a b : Ordering) → is_eq (ordering_then a b) ≡ (is_eq a && is_eq b) = elim [ Less ↦ λ b. refl | Equal ↦ λ b. refl | Greater ↦ λ b. refl ] in
    at (nat_cmp from e.from) (nat_cmp to e.to)
    ∙ ap (λ x. x && is_eq (nat_cmp to e.to)) (equal_numbers from e.from)
    ∙ ap (λ x. eqb e.from from && x) (equal_numbers to e.to)

pub or-none : (a : Bool) → a ≡ (a || false)
or-none true = refl
or-none false = refl

or-all : (a : Bool) → true ≡ (a || true)
or-all true = refl
or-all false = refl

-- what cuts nothing cuts nothing from a place on
cut_from_none : (changes : List Change) (place : ℕ) (e : Edge) → is_cut changes e ≡ false → is_cut (drop place changes) e ≡ false
cut_from_none changes place e none =
    let parts : (is_cut (take place changes) e || is_cut (drop place changes) e) ≡ false =
    sym (list_any-append (cuts_edge e) (take place changes) (drop place changes)) ∙ ap (λ cs. is_cut cs e) (take-append-drop place changes) ∙ none in
    (or_parts (is_cut (take place changes) e) (is_cut (drop place changes) e) parts).1

-- an added edge changes no last cut
added_places : (changes : List Change) (x : Edge) (cuts : LastCuts) → HasNoted changes cuts
    → (place : ℕ) (e : Edge) → is_from place (get ends_cmp cuts.places (e.from, e.to)) ≡ is_cut (drop place (changes ++ Add x ∷ [])) e
added_places changes x cuts are place e =
    are.places place e ∙ elim (cases_lt (length changes) place) as (λ _. is_cut (drop place changes) e ≡ is_cut (drop place (changes ++ Add x ∷ [])) e) [
      | inl past ↦
          ap (λ cs. is_cut cs e) (drop_all place changes (omega arith))
          ∙ sym (ap (λ cs. is_cut cs e) (drop_all place (changes ++ Add x ∷ []) (omega (arith, length-append changes (Add x ∷ [])))))
      | inr within ↦
          or-none (is_cut (drop place changes) e)
          ∙ sym (ap (λ cs. is_cut cs e) (drop-append-le place changes (Add x ∷ []) within) ∙ list_any-append (cuts_edge e) (drop place changes) (Add x ∷ []))
    ]

pub noted_add : (changes : List Change) (x : Edge) (cuts : LastCuts) → HasNoted changes cuts → HasNoted (changes ++ Add x ∷ []) cuts
noted_add changes x cuts are = record {
  places = added_places changes x cuts are;
  long = are.long;
  marks = λ e unmarked. list_any-append (cuts_edge e) changes (Add x ∷ []) ∙ ap (λ b. b || false) (are.marks e unmarked);
}

-- a cut is the last one of its ends
cut_places : (changes : List Change) (from to : ℕ) (cuts : LastCuts) (new : BTreeMap (ℕ × ℕ) ℕ) → HasNoted changes cuts
    → ((ends : ℕ × ℕ) → get ends_cmp new ends ≡ cond (is_at (ends_cmp (from, to)) ends) (Some (length changes)) (get ends_cmp cuts.places ends))
    → (place : ℕ) (e : Edge) → is_from place (get ends_cmp new (e.from, e.to)) ≡ is_cut (drop place (changes ++ Cut from to ∷ [])) e
cut_places changes from to cuts new are updated place e =
    let cut = Cut from to ∷ [] in
    let before : Option ℕ = get ends_cmp cuts.places (e.from, e.to) in
    let last = Some (length changes) in
    let now : get ends_cmp new (e.from, e.to) ≡ cond (is_between from to e) last before =
    updated (e.from, e.to) ∙ ap (λ b. cond b last before) (equal_ends from to e) in
    ap (is_from place) now ∙ elim (cases_lt (length changes) place) as (λ _. is_from place (cond (is_between from to e) last before) ≡ is_cut (drop place (changes ++ cut)) e) [
      | inl past ↦
          let none : is_from place before ≡ false = are.places place e ∙ ap (λ cs. is_cut cs e) (drop_all place changes (omega arith)) in
          let at : (b : Bool) → is_from place (cond b last before) ≡ false = elim [ true ↦ lt-leb place (length changes) past | false ↦ none ] in
          at (is_between from to e) ∙ sym (ap (λ cs. is_cut cs e) (drop_all place (changes ++ cut) (omega (arith, length-append changes cut))))
      | inr within ↦
          let at : (b : Bool) → is_from place (cond b last before) ≡ (is_cut (drop place changes) e || (b || false)) = elim [
            | true ↦ le-leb place (length changes) within ∙ or-all (is_cut (drop place changes) e)
            | false ↦ are.places place e ∙ or-none (is_cut (drop place changes) e)
          ] in
          at (is_between from to e)
          ∙ sym (ap (λ cs. is_cut cs e) (drop-append-le place changes cut within) ∙ list_any-append (cuts_edge e) (drop place changes) cut)
    ]

-- its ends have its mark
cut_marks : (changes : List Change) (from to : ℕ) (cuts : LastCuts) → HasNoted changes cuts → mark_of from to < length cuts.marks
    → (e : Edge) → slice_index_or (slice_set cuts.marks (mark_of from to) true) (mark_of e.from e.to) false ≡ false → is_cut (changes ++ Cut from to ∷ []) e ≡ false
cut_marks changes from to cuts are within e unmarked =
    let marks = cuts.marks in
    let at = mark_of from to in
    let here = mark_of e.from e.to in
    let apart : here ≡ at → ⊥ =
    λ same. true≢false (sym (get_or-set_same marks at true false within) ∙ ap (λ m. slice_index_or (slice_set marks at true) m false) (sym same) ∙ unmarked) in
    let before : is_cut changes e ≡ false = are.marks e (sym (get_or-set_other marks at here true false apart) ∙ unmarked) in
    let other : is_between from to e ≡ false =
    false_from_ne_true (is_between from to e) (λ h.
    let ends = and_parts (eqb e.from from) (eqb e.to to) h in
    apart (ap (λ n. mark_of n e.to) (eqb-true e.from from ends.0) ∙ ap (mark_of from) (eqb-true e.to to ends.1))) in
    list_any-append (cuts_edge e) changes (Cut from to ∷ []) ∙ or_from (is_cut changes e) (is_between from to e || false) before (or_from (is_between from to e) false other refl)

pub noted_cut : (changes : List Change) (from to : ℕ) (cuts : LastCuts) (new : BTreeMap (ℕ × ℕ) ℕ) → HasNoted changes cuts → mark_of from to < length cuts.marks
    → ((ends : ℕ × ℕ) → get ends_cmp new ends ≡ cond (is_at (ends_cmp (from, to)) ends) (Some (length changes)) (get ends_cmp cuts.places ends))
    → HasNoted (changes ++ Cut from to ∷ []) (record { places = new; marks = slice_set cuts.marks (mark_of from to) true })
noted_cut changes from to cuts new are within updated = record {
  places = cut_places changes from to cuts new are updated;
  long = length-set cuts.marks (mark_of from to) true ∙ are.long;
  marks = cut_marks changes from to cuts are within;
}

-- what is noted tells the last cuts
pub last_cuts : (changes : List Change) (cuts : LastCuts) → HasNoted changes cuts → AreLastCuts changes cuts
last_cuts changes cuts noted place e =
    let at = is_from place (get ends_cmp cuts.places (e.from, e.to)) in
    let tells : (m : Bool) → slice_index_or cuts.marks (mark_of e.from e.to) false ≡ m → (m && at) ≡ is_cut (drop place changes) e = elim [
      | true ↦ λ marked. noted.places place e
      | false ↦ λ unmarked. sym (cut_from_none changes place e (noted.marks e unmarked))
    ] in
    tells (slice_index_or cuts.marks (mark_of e.from e.to) false) refl

-- what is told of an edge by its mark, and then by the last place of its ends
pub told_unmarked : (cuts : LastCuts) (place : ℕ) (e : Edge) (mark : ℕ) → mark ≡ mark_of e.from e.to → slice_index_or cuts.marks mark false ≡ false
    → slice_index_or cuts.marks mark false ≡ tells_cut cuts place e
told_unmarked cuts place e mark its unmarked =
    unmarked ∙ sym (ap (λ m. m && is_from place (get ends_cmp cuts.places (e.from, e.to))) (ap (λ at. slice_index_or cuts.marks at false) (sym its) ∙ unmarked))

pub told_marked : (cuts : LastCuts) (place : ℕ) (e : Edge) (mark : ℕ) → mark ≡ mark_of e.from e.to → slice_index_or cuts.marks mark false ≡ true
    → is_from place (get ends_cmp cuts.places (e.from, e.to)) ≡ tells_cut cuts place e
told_marked cuts place e mark its marked =
    sym (ap (λ m. m && is_from place (get ends_cmp cuts.places (e.from, e.to))) (ap (λ at. slice_index_or cuts.marks at false) (sym its) ∙ marked))

nothing_at : {K X : Type 0} (test : K → Bool) (entries : List (K × X)) → length entries ≡ 0 → lookup test entries ≡ None
nothing_at test [] none = refl
nothing_at test (entry ∷ entries) none = absurd (omega arith)

-- without last cuts every edge is left
pub none_noted : (changes : List Change) (cuts : LastCuts) (edges : List Edge) → AreLastCuts changes cuts → btree_map_len cuts.places ≡ 0
    → edges ≡ uncut_edges changes edges
none_noted changes cuts [] are none = refl
none_noted changes cuts (e ∷ edges) are none =
    let left = uncut_edges changes edges in
    let marked = slice_index_or cuts.marks (mark_of e.from e.to) false in
    let unset : is_from 0 (get ends_cmp cuts.places (e.from, e.to)) ≡ false = ap (is_from 0) (nothing_at (is_at (ends_cmp (e.from, e.to))) cuts.places.entries none) in
    let stays : is_cut changes e ≡ false = sym (are 0 e) ∙ and_right marked _ unset in
    ap (λ rest. e ∷ rest) (none_noted changes cuts edges are none) ∙ sym (ap (λ b. cond (not b) (e ∷ left) left) stays)

-- ---- The sources of cuts, and the changes that concern a chunk by its sources

-- an added edge asks for no source
pub asked_add : (changes : List Change) (x : Edge) (told : CutSources) → TellsSources changes [] told → TellsSources (changes ++ Add x ∷ []) [] told
asked_add changes x told tells u =
    tells u ∙ ap (λ b. cond b (Some false) None) (or-none (list_any (cuts_from u) changes) ∙ sym (list_any-append (cuts_from u) changes (Add x ∷ [])))

-- a cut asks for its source
pub asked_cut : (changes : List Change) (from to : ℕ) (old new : BTreeMap ℕ Bool) → TellsSources changes [] (record { listed = old })
    → ((u : ℕ) → get nat_cmp new u ≡ cond (is_at (nat_cmp from) u) (Some false) (get nat_cmp old u))
    → TellsSources (changes ++ Cut from to ∷ []) [] (record { listed = new })
asked_cut changes from to old new tells updated u =
    let before = list_any (cuts_from u) changes in
    let at : (a b : Bool) → cond b (Some false) (cond a (Some false) None) ≡ cond (a || (b || false)) (Some false) None = elim [
      | true ↦ elim [ true ↦ refl | false ↦ refl ]
      | false ↦ elim [ true ↦ refl | false ↦ refl ]
    ] in
    updated u
    ∙ ap (λ b. cond b (Some false) (get nat_cmp old u)) (equal_numbers from u)
    ∙ ap (λ o. cond (eqb u from) (Some false) o) (tells u)
    ∙ at before (eqb u from)
    ∙ ap (λ b. cond b (Some false) None) (sym (list_any-append (cuts_from u) changes (Cut from to ∷ [])))

-- one source more, in front or at the end
pub one_source_more : (changes : List Change) (sources : List ℕ) (source : ℕ) (told : CutSources) → TellsSources changes (source ∷ sources) told
    → TellsSources changes (sources ++ source ∷ []) told
one_source_more changes sources source told tells u =
    let turn : (a b : Bool) → (a || b) ≡ (b || (a || false)) = elim [
      | true ↦ elim [ true ↦ refl | false ↦ refl ]
      | false ↦ elim [ true ↦ refl | false ↦ refl ]
    ] in
    let same : lists (source ∷ sources) u ≡ lists (sources ++ source ∷ []) u =
    turn (eqb source u) (lists sources u) ∙ sym (list_any-append (λ s. eqb s u) sources (source ∷ [])) in
    tells u ∙ ap (λ b. cond (list_any (cuts_from u) changes) (Some b) None) same

-- a cut's source is one that is asked for
pub asked_for : (changes rest : List Change) (place from to : ℕ) → drop place changes ≡ Cut from to ∷ rest → list_any (cuts_from from) changes ≡ true
asked_for changes rest place from to is =
    let asks = cuts_from from in
    let here : list_any asks (drop place changes) ≡ true = ap (list_any asks) is ∙ or_left (eqb from from) (list_any asks rest) (eq-eqb from from refl) in
    ap (list_any asks) (sym (take-append-drop place changes))
    ∙ list_any-append asks (take place changes) (drop place changes)
    ∙ or_right (list_any asks (take place changes)) (list_any asks (drop place changes)) here

-- what is left, where the next change is taken or not
pub taken_next : (sources : List ℕ) (from to : ℕ) (kept rest : List Change) → lists sources from ≡ true
    → (kept ++ Cut from to ∷ []) ++ listed_changes sources rest ≡ kept ++ listed_changes sources (Cut from to ∷ rest)
taken_next sources from to kept rest listed =
    let left = listed_changes sources rest in
    append_assoc kept (Cut from to ∷ []) left ∙ ap (λ b. kept ++ cond b (Cut from to ∷ left) left) (sym listed)

pub left_next : (sources : List ℕ) (from to : ℕ) (kept rest : List Change) → lists sources from ≡ false
    → kept ++ listed_changes sources rest ≡ kept ++ listed_changes sources (Cut from to ∷ rest)
left_next sources from to kept rest unlisted =
    let left = listed_changes sources rest in
    ap (λ b. kept ++ cond b (Cut from to ∷ left) left) (sym unlisted)

-- the sources with one change more
sources_next : (near : List Change) (sources : List ℕ) (at : ℕ) (d : Change) → at < length near
    → sources_after (take (at + 1) near) sources ≡ sources_after_one (slice_index_or near at d) (sources_after (take at near) sources)
sources_next near sources at d within =
    ap (λ cs. sources_after cs sources) (take_more near at d within) ∙ sources-parts (take at near) (slice_index_or near at d ∷ []) sources

pub told_next : (near : List Change) (sources : List ℕ) (at : ℕ) (d : Change) (told : CutSources) → at < length near
    → TellsSources near (sources_after_one (slice_index_or near at d) (sources_after (take at near) sources)) told
    → TellsSources near (sources_after (take (at + 1) near) sources) told
told_next near sources at d told within tells = subst (λ (us : List ℕ). TellsSources near us told) (sym (sources_next near sources at d within)) tells

pub joined_next : (near : List Change) (sources : List ℕ) (at : ℕ) (d : Change) (kept new : List Change) → at < length near
    → new ++ listed_changes (sources_after_one (slice_index_or near at d) (sources_after (take at near) sources)) (drop (at + 1) near)
    ≡ kept ++ listed_changes (sources_after (take at near) sources) (slice_index_or near at d ∷ drop (at + 1) near)
    → kept ++ listed_changes (sources_after (take at near) sources) (drop at near) ≡ listed_changes sources near
    → new ++ listed_changes (sources_after (take (at + 1) near) sources) (drop (at + 1) near) ≡ listed_changes sources near
joined_next near sources at d kept new within step joined =
    let now = sources_after (take at near) sources in
    ap (λ us. new ++ listed_changes us (drop (at + 1) near)) (sources_next near sources at d within)
    ∙ step
    ∙ ap (λ cs. kept ++ listed_changes now cs) (sym (drop_more near at d within))
    ∙ joined

-- what concerns a chunk is found by its block, and then by its sources
pub by_block_and_sources : (d : Dimensions) (site : Site) (sources : List ℕ) (changes : List Change)
    → listed_changes sources (filter (may_concern d site) changes) ≡ concerning_changes d site sources changes
by_block_and_sources d site sources [] = refl
by_block_and_sources d site sources (Add e ∷ changes) =
    let near = filter (may_concern d site) changes in
    let at : (b : Bool) → listed_changes sources (cond b (Add e ∷ near) near)
    ≡ cond b (Add e ∷ concerning_changes d site (e.from ∷ sources) changes) (concerning_changes d site sources changes) = elim [
      | true ↦ ap (λ cs. Add e ∷ cs) (by_block_and_sources d site (e.from ∷ sources) changes)
      | false ↦ by_block_and_sources d site sources changes
    ] in
    at (takes_adds_of (block_of d e) site)
by_block_and_sources d site sources (Cut from to ∷ changes) =
    let near = filter (may_concern d site) changes in
    let rest = concerning_changes d site sources changes in
    let here = lists sources from in
    let ih = by_block_and_sources d site sources changes in
    let at : (b : Bool) → listed_changes sources (cond b (Cut from to ∷ near) near) ≡ cond (b && here) (Cut from to ∷ rest) rest = elim [
      | true ↦ ap (λ cs. cond here (Cut from to ∷ cs) cs) ih
      | false ↦ ih
    ] in
    at (eqb (block_of d (edge from to 0)) site.block)
