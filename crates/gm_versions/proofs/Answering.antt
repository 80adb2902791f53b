-- The changes of the updates that concern a chunk.
use Rattle.std.proofs.Common.{◌≡◌, ℕ, zero, suc, ◌+◌, ◌-◌, ◌<◌, ◌≤◌, Bool, true, false, cond, List, [], ◌∷◌, ◌++◌, length, drop, get_or, append_assoc, append-nil, All, sym, ap, ◌∙◌, refl, arith, inl, inr, subst, not, eqb, nat_cmp, Option, Some, None}
use Rattle.std.specs.List.{filter, flat_map, fold}
use Rattle.std.proofs.lemmas.List.{at_drop_more, get_or_append_left, get_or_push, length_push}
use Rattle.std.proofs.lemmas.List.Elements.{filter-append, All-nil, All-push, All-weaker, All-from_recursion, recursion_from_All, All-same, All-append}
use Rattle.std.proofs.lemmas.List.Concat.{flat_map-append}
use Rattle.gm_changes.specs.declared.change.Change.{Change}
use Rattle.gm_label.specs.Catalogues.{Catalogue, sources_at, base_at, IsOver}
use Rattle.gm_versions.specs.Contents.{changes_near, is_some_change, update_changes_at, site_at, changes_at, sources_at_after, next_changes_at, content_after, changes_up_to, last_update, added_at_after, all_changes}
use Rattle.gm_versions.specs.ContentsRules.{update_at, changes-taken, concerning_changes-near, base-placed, none_is, no_update, concerning_changes-up_to_last, all-taken, last-all_taken}
use Rattle.gm_versions.specs.Histories.{history_of, ChunkHistory, last_of, updates_up_to, history_up_to, IsUpTo, sources_in, with_update, with_change, no_history, overlay_in, overlays_in}
use Rattle.std.proofs.lemmas.Bool.{cases_lt, eq-eqb, ne_eqb}
use Rattle.gm_base.specs.declared.edge.Edge.{Edge}
use Rattle.gm_base.specs.declared.copies.Key.{Key}
use Rattle.gm_base.specs.declared.copies.Tag.{Tag}
use Rattle.gm_base.specs.declared.copies.Tag.TheVariants.{Update, Own}
use Rattle.gm_changes.specs.Changes.{ChangesWithin, edges_after}
use Rattle.gm_changes.specs.Concerns.{lists, concerns, may_concern, IsPlaced}
use Rattle.gm_changes.specs.ConcernsRules.{left_out_by_block}
use Rattle.gm_versions.specs.declared.histories.Histories.{Histories}
use Rattle.gm_versions.specs.declared.versions.Versions.{Versions}
use Rattle.gm_versions.specs.Snapshots.{Snapshot, version_of, changes_of, added_sources_of, is_changed, overlay_of, overlays_of}
use Rattle.gm_versions.specs.Keys.{content_of_key, changes_of_tag, IsUpdateUpTo, IsVersionKey, update_of}
use Rattle.std.proofs.Math.Seq.{take-append_seam}
use Rattle.gm_versions.specs.Kept.{history_in, AreUpTo, IsLogged, IsKeptBefore, AreNotedFor, IsOf, AreSame}
use Rattle.gm_versions.proofs.HistorySteps.{concerns-same, history-up_to, history-now, history-last, history-lists, history-noted, history-added}
use Rattle.std.specs.Option.{unwrap_or}
use Rattle.std.specs.BTreeMap.{get, IsOrdered}
use Rattle.gm_label.specs.declared.chunk.Overlay.{Overlay}
use Rattle.gm_versions.specs.WalksRules.{told_of, told_in, told-filtered}

-- the changes of updates by their numbers, counted from 1
abbrev pub batches_of : List (List Change) → List ℕ → List Change
batches_of updates numbers = flat_map (λ number. update_at updates (number - 1)) numbers

batches-push : (updates : List (List Change)) (numbers : List ℕ) (version : ℕ) → batches_of updates (numbers ++ suc version ∷ []) ≡ batches_of updates numbers ++ update_at updates version
batches-push updates numbers version =
    let before : suc version - 1 ≡ version = omega arith in
    flat_map-append (λ number. update_at updates (number - 1)) numbers (suc version ∷ [])
    ∙ ap (λ (k : ℕ). batches_of updates numbers ++ (update_at updates k ++ [])) before
    ∙ ap (λ (cs : List Change). batches_of updates numbers ++ cs) (append-nil (update_at updates version))

-- a chunk's history tells which updates these are
pub near-history : (cat : Catalogue) (updates : List (List Change)) (c version : ℕ)
    → batches_of updates (history_of cat c updates version).updates ≡ changes_near cat updates c version
near-history cat updates c zero = refl
near-history cat updates c (suc version) =
    let h = history_of cat c updates version in
    let batch = update_at updates version in
    let at : (b : Bool) → batches_of updates (cond b (h.updates ++ suc version ∷ []) h.updates)
    ≡ cond b (batches_of updates h.updates ++ batch) (batches_of updates h.updates) = elim [ true ↦ batches-push updates h.updates version | false ↦ refl ] in
    let some = is_some_change (update_changes_at cat updates c version) in
    at some ∙ ap (λ (cs : List Change). cond some (cs ++ batch) cs) (near-history cat updates c version)

-- one update more is gathered
pub gathered-next : (keeps : Change → Bool) (updates : List (List Change)) (numbers : List ℕ) (k number : ℕ) (start into more : List Change) → k < length numbers
    → number ≡ get_or numbers k 0 → more ≡ into ++ filter keeps (update_at updates (number - 1))
    → into ++ filter keeps (batches_of updates (drop k numbers)) ≡ start ++ filter keeps (batches_of updates numbers)
    → more ++ filter keeps (batches_of updates (drop (k + 1) numbers)) ≡ start ++ filter keeps (batches_of updates numbers)
gathered-next keeps updates numbers k number start into more within at is sofar =
    let kept = λ (ns : List ℕ). filter keeps (batches_of updates ns) in
    let rest = drop (k + 1) numbers in
    let batch = λ (n : ℕ). filter keeps (update_at updates (n - 1)) in
    ap (λ (cs : List Change). cs ++ kept rest) (is ∙ ap (λ (n : ℕ). into ++ batch n) at)
    ∙ append_assoc into (batch (get_or numbers k 0)) (kept rest)
    ∙ ap (λ (cs : List Change). into ++ cs) (sym (filter-append keeps (update_at updates (get_or numbers k 0 - 1)) (batches_of updates rest)) ∙ sym (at_drop_more kept numbers k 0 within))
    ∙ sofar

-- the updates that concern a chunk, up to a version
pub numbers_within : (cat : Catalogue) (updates : List (List Change)) (c version : ℕ)
    → All (λ number. (1 ≤ number) × (number ≤ version)) (history_of cat c updates version).updates
numbers_within cat updates c zero = All-nil (λ number. (1 ≤ number) × (number ≤ 0))
numbers_within cat updates c (suc version) =
    let Fits = λ (number : ℕ). (1 ≤ number) × (number ≤ suc version) in
    let h = history_of cat c updates version in
    let before = All-weaker (λ number. (1 ≤ number) × (number ≤ version)) Fits (λ number fits. let small = fits.1 in (fits.0, omega (arith, small))) h.updates (numbers_within cat updates c version) in
    let at : (b : Bool) → All Fits (cond b (h.updates ++ suc version ∷ []) h.updates) = elim [
      | true ↦ All-push Fits h.updates (suc version) before (omega arith, omega arith)
      | false ↦ before
    ] in
    at (is_some_change (update_changes_at cat updates c version))

-- ---- What the histories answer for a version, and what the next update does to them

-- a chunk's history at a version
pub at_version : (cat : Catalogue) (versions : Versions) (version c : ℕ) → IsOf cat versions → version ≤ length versions.batches → c < length cat.places
    → history_up_to version (history_in versions.histories c) ≡ history_of cat c versions.batches version
at_version cat versions version c is small within =
    ap (history_up_to version) (is.each c within) ∙ history-up_to cat c versions.batches version (length versions.batches) small

pub last-answered : (cat : Catalogue) (versions : Versions) (version c : ℕ) → IsOf cat versions → version ≤ length versions.batches → c < length cat.places
    → last_of (updates_up_to version (history_in versions.histories c).updates) ≡ last_update cat versions.batches c version
last-answered cat versions version c is small within =
    ap (λ (h : ChunkHistory). last_of h.updates) (at_version cat versions version c is small within) ∙ history-last cat c versions.batches version

pub source-answered : (cat : Catalogue) (versions : Versions) (version c source : ℕ) → IsOf cat versions → version ≤ length versions.batches → c < length cat.places
    → lists (sources_at cat c ++ sources_in (history_up_to version (history_in versions.histories c))) source
    ≡ lists (sources_at_after cat c (changes_up_to versions.batches version)) source
source-answered cat versions version c source is small within =
    ap (λ (h : ChunkHistory). lists (sources_at cat c ++ sources_in h) source) (at_version cat versions version c is small within)
    ∙ sym (history-lists cat c versions.batches version source)

pub concerns-answered : (cat : Catalogue) (versions : Versions) (version c : ℕ) (change : Change) → IsOf cat versions → version ≤ length versions.batches → c < length cat.places
    → concerns cat.dimensions (site_at cat c) (sources_at cat c ++ sources_in (history_up_to version (history_in versions.histories c))) change
    ≡ concerns cat.dimensions (site_at cat c) (sources_at_after cat c (changes_up_to versions.batches version)) change
concerns-answered cat versions version c change is small within =
    concerns-same cat c (sources_at cat c ++ sources_in (history_up_to version (history_in versions.histories c))) _ change
    (λ u. source-answered cat versions version c u is small within)

-- later updates leave the changes before them as they are
changes-before : (updates more : List (List Change)) (version : ℕ) → version ≤ length updates → changes_up_to (updates ++ more) version ≡ changes_up_to updates version
changes-before updates more version small =
    sym (changes-taken (updates ++ more) (length updates) version small) ∙ ap (λ (us : List (List Change)). changes_up_to us version) (take-append_seam updates more)

history-before : (cat : Catalogue) (c : ℕ) (updates more : List (List Change)) (version : ℕ) → version ≤ length updates
    → history_of cat c (updates ++ more) version ≡ history_of cat c updates version
history-before cat c updates more zero small = refl
history-before cat c updates more (suc version) small =
    ap (λ (h : ChunkHistory). with_update (suc version) (next_changes_at cat c (changes_up_to (updates ++ more) version) (update_at (updates ++ more) version)) h) (history-before cat c updates more version (omega arith))
    ∙ ap (λ (cs : List Change). with_update (suc version) (next_changes_at cat c cs (update_at (updates ++ more) version)) (history_of cat c updates version)) (changes-before updates more version (omega arith))
    ∙ ap (λ (batch : List Change). with_update (suc version) (next_changes_at cat c (changes_up_to updates version) batch) (history_of cat c updates version)) (get_or_append_left updates more [] version (omega arith))

history-next : (cat : Catalogue) (c : ℕ) (updates : List (List Change)) (batch : List Change)
    → fold (with_change cat c (length updates + 1)) (history_of cat c updates (length updates)) batch ≡ history_of cat c (updates ++ batch ∷ []) (length (updates ++ batch ∷ []))
history-next cat c updates batch =
    let n = length updates in
    let more = updates ++ batch ∷ [] in
    let next : n + 1 ≡ suc n = omega arith in
    let long : suc n ≡ length more = omega (arith, length_push updates batch) in
    let newest : update_at more n ≡ batch = get_or_push updates batch [] n refl in
    let made = λ (before new : List Change) (h : ChunkHistory). with_update (suc n) (next_changes_at cat c before new) h in
    ap (λ (k : ℕ). fold (with_change cat c k) (history_of cat c updates n) batch) next
    ∙ history-noted cat c updates n batch
    ∙ sym (ap (λ (h : ChunkHistory). made (changes_up_to more n) (update_at more n) h) (history-before cat c updates (batch ∷ []) n (omega arith))
    ∙ ap (λ (cs : List Change). made cs (update_at more n) (history_of cat c updates n)) (changes-before updates (batch ∷ []) n (omega arith))
    ∙ ap (λ (b : List Change). made (changes_up_to updates n) b (history_of cat c updates n)) newest)
    ∙ ap (history_of cat c more) long

-- the ends of a further update's changes are vertices too
ends-next : (n : ℕ) (updates more : List (List Change)) (batch : List Change) → more ≡ updates ++ batch ∷ []
    → ((version : ℕ) → version ≤ length updates → All (ChangesWithin n) (changes_up_to updates version)) → All (ChangesWithin n) batch
    → (version : ℕ) → version ≤ length more → All (ChangesWithin n) (changes_up_to more version)
ends-next n updates more batch is ends last version small =
    let In = ChangesWithin n in
    let long = length_push updates batch in
    let longer = ap length is in
    let now = updates ++ batch ∷ [] in
    let P : List (List Change) → Type 0 = λ us. All In (changes_up_to us version) in
    let there : P now = elim (cases_lt (length updates) version) as (λ _. P now) [
      | inr within ↦ All-same In (changes_up_to now version) (changes_up_to updates version) (changes-before updates (batch ∷ []) version within) (ends version within)
      | inl behind ↦
          let at : version ≡ suc (length updates) = omega arith in
          let newest : update_at now (length updates) ≡ batch = get_or_push updates batch [] (length updates) refl in
          let whole : changes_up_to now version ≡ changes_up_to updates (length updates) ++ batch =
          ap (changes_up_to now) at
          ∙ ap (λ (cs : List Change). cs ++ update_at now (length updates)) (changes-before updates (batch ∷ []) (length updates) (omega arith))
          ∙ ap (λ (b : List Change). changes_up_to updates (length updates) ++ b) newest in
          All-same In (changes_up_to now version) (changes_up_to updates (length updates) ++ batch) whole
          (All-append In (changes_up_to updates (length updates)) batch (ends (length updates) (omega arith)) last)
    ] in
    subst P (sym is) there

-- an update that was noted is kept
pub kept-next : (cat : Catalogue) (old new : Versions) (noted : Histories) (batch : List Change) → IsOf cat old → AreNotedFor cat (length old.batches + 1) batch old.histories noted
    → All (ChangesWithin cat.dimensions.n) batch
    → ((q : ℕ) → history_in new.histories q ≡ history_in noted q) → new.batches ≡ old.batches ++ batch ∷ [] → IsOf cat new
kept-next cat old new noted batch is are within_n closed more = record {
  each = λ c within.
      closed c ∙ are.each c within
      ∙ ap (λ (h : ChunkHistory). fold (with_change cat c (length old.batches + 1)) h batch) (is.each c within)
      ∙ history-next cat c old.batches batch
      ∙ ap (λ (updates : List (List Change)). history_of cat c updates (length updates)) (sym more);
  beyond = λ c past. closed c ∙ are.beyond c past ∙ is.beyond c past;
  ends = ends-next cat.dimensions.n old.batches new.batches batch more is.ends within_n;
}

-- nothing in the histories is later than the last update
pub nothing-later : (cat : Catalogue) (versions : Versions) (version : ℕ) → IsOf cat versions → length versions.batches ≤ version → AreUpTo version versions.histories
nothing-later cat versions version is small q =
    let n = length versions.batches in
    elim (cases_lt q (length cat.places)) as (λ _. IsUpTo version (history_in versions.histories q)) [
      | inl within ↦ ap (history_up_to version) (is.each q within) ∙ history-now cat q versions.batches version n small ∙ sym (is.each q within)
      | inr past ↦ ap (history_up_to version) (is.beyond q past) ∙ sym (is.beyond q past)
    ]

-- an update that was refused leaves nothing
pub kept-undone : (cat : Catalogue) (old new : Versions) (noted : Histories) (version : ℕ) → version ≡ length old.batches → IsOf cat old
    → IsKeptBefore (length old.batches + 1) old.histories noted
    → (IsLogged version noted → (q : ℕ) → history_in new.histories q ≡ history_up_to version (history_in noted q)) → new.batches ≡ old.batches → AreSame old new
kept-undone cat old new noted version at is kept undone same =
    let later : version < length old.batches + 1 = omega arith in
    let all = nothing-later cat old version is (omega arith) in
    let logged : IsLogged version noted = kept.logged version later (λ q. inr (all q)) in
    record { updates = same; histories = λ q. undone logged q ∙ kept.before q version later ∙ all q }

-- what stays the same is of the same grid
pub same-of : (cat : Catalogue) (old new : Versions) → AreSame old new → IsOf cat old → IsOf cat new
same-of cat old new same is = record {
  each = λ c within. same.histories c ∙ is.each c within ∙ ap (λ (updates : List (List Change)). history_of cat c updates (length updates)) (sym same.updates);
  beyond = λ c past. same.histories c ∙ is.beyond c past;
  ends = subst (λ (updates : List (List Change)). (v : ℕ) → v ≤ length updates → All (ChangesWithin cat.dimensions.n) (changes_up_to updates v)) (sym same.updates) is.ends;
}

tag-changes : (updates : List (List Change)) (snapshot_of : ℕ → Snapshot) (count : ℕ) (tag : Tag) → IsUpdateUpTo count tag
    → changes_up_to updates (update_of tag) ≡ changes_of_tag updates snapshot_of tag
tag-changes updates snapshot_of count (Update t) small = refl
tag-changes updates snapshot_of count (Own job) small = absurd small

-- the updates up to a version that concern a chunk
pub numbers-answered : (cat : Catalogue) (versions : Versions) (version c : ℕ) → IsOf cat versions → version ≤ length versions.batches → c < length cat.places
    → updates_up_to version (history_in versions.histories c).updates ≡ (history_of cat c versions.batches version).updates
numbers-answered cat versions version c is small within = ap (λ (h : ChunkHistory). h.updates) (at_version cat versions version c is small within)

-- their changes, as far as they may concern the chunk, make the chunk's edges those of the version
pub copied-placed : (cat : Catalogue) (updates : List (List Change)) (version c : ℕ) (raw : List Edge) → All (IsPlaced cat.dimensions (site_at cat c) (sources_at cat c)) raw
    → edges_after (filter (may_concern cat.dimensions (site_at cat c)) (changes_near cat updates c version)) raw
    ≡ edges_after (changes_at cat c (changes_up_to updates version)) raw
copied-placed cat updates version c raw placed =
    let d = cat.dimensions in
    let site = site_at cat c in
    sym (left_out_by_block d site (sources_at cat c) (changes_near cat updates c version) raw (recursion_from_All (IsPlaced d site (sources_at cat c)) raw placed))
    ∙ ap (λ (cs : List Change). edges_after cs raw) (concerning_changes-near cat updates c version)

pub copied-content : (cat : Catalogue) (updates : List (List Change)) (key : Key) (c : ℕ) (raw edges : List Edge) (snapshot_of : ℕ → Snapshot)
    → IsVersionKey (length updates) c key → IsOver cat edges → raw ≡ base_at cat edges c
    → edges_after (filter (may_concern cat.dimensions (site_at cat c)) (changes_near cat updates c (update_of key.tag))) raw
    ≡ content_of_key cat edges updates snapshot_of key
copied-content cat updates key c raw edges snapshot_of names over base =
    let Placed = IsPlaced cat.dimensions (site_at cat c) (sources_at cat c) in
    let placed : All Placed raw =
    subst (λ (xs : List Edge). All Placed xs) (sym base) (All-from_recursion Placed (base_at cat edges c) (base-placed cat edges over c)) in
    copied-placed cat updates (update_of key.tag) c raw placed
    ∙ ap (edges_after (changes_at cat c (changes_up_to updates (update_of key.tag)))) base
    ∙ ap (λ (cs : List Change). content_after cat edges cs c) (tag-changes updates snapshot_of (length updates) key.tag names.update)
    ∙ ap (content_after cat edges (changes_of_tag updates snapshot_of key.tag)) (sym names.chunk)

pub ruleset updates_kept = (source-answered, concerns-answered, nothing-later, kept-next, kept-undone, same-of)

-- ---- The overlays of a map's entries, which ascend by chunk, are those of all chunks

told-entries : (version : ℕ) (entries : List (ℕ × ChunkHistory)) → overlays_in version entries ≡ told_in (overlay_in version) entries
told-entries version [] = refl
told-entries version (e ∷ entries) = ap (λ (os : List Overlay). overlay_in version e.0 e.1 ++ os) (told-entries version entries)

-- of a chunk without a history nothing is told
told-history : (version c : ℕ) (h : Option ChunkHistory) → told_of (overlay_in version) c h ≡ overlay_in version c (unwrap_or h no_history)
told-history version c None = refl
told-history version c (Some h) = refl

unchanged-last : (cat : Catalogue) (updates : List (List Change)) (c version : ℕ)
    → eqb (last_update cat updates c version) 0 ≡ not (is_some_change (changes_at cat c (changes_up_to updates version)))
unchanged-last cat updates c version =
    let seen = changes_at cat c (changes_up_to updates version) in
    let last = last_update cat updates c version in
    let at : (b : Bool) → is_some_change seen ≡ b → eqb last 0 ≡ not b = elim [
      | true ↦ λ some. ne_eqb last 0 (λ zero_.
          let none : seen ≡ [] = sym (concerning_changes-up_to_last cat updates c version) ∙ ap (λ (t : ℕ). changes_at cat c (changes_up_to updates t)) zero_ in
          let contrary : false ≡ true = sym (ap is_some_change none) ∙ some in absurd (cc))
      | false ↦ λ none. eq-eqb last 0 (no_update cat updates c version (none_is seen none))
    ] in
    at (is_some_change seen) refl

-- a history at a version tells the overlay of its chunk
history-overlay : (cat : Catalogue) (updates : List (List Change)) (version c : ℕ) (h : ChunkHistory) → version ≤ length updates → history_up_to version h ≡ history_of cat c updates version
    → overlay_in version c h ≡ cond (is_changed cat (version_of updates version) c) (overlay_of cat (version_of updates version) c ∷ []) []
history-overlay cat updates version c h small is =
    let now = history_of cat c updates version in
    let last = last_update cat updates c version in
    let changes = changes_up_to updates version in
    let overlay = λ (t : ℕ) (added : List ℕ). let o : Overlay = record { key = record { chunk = c; tag = Update t }; added = added } in o in
    let s = version_of updates version in
    let seen : changes_of s ≡ changes = append-nil (all_changes s.updates) ∙ all-taken updates version small in
    let turned : (b : Bool) (os : List Overlay) → cond (not b) [] os ≡ cond b os [] = elim [ true ↦ λ os. refl | false ↦ λ os. refl ] in
    ap (λ (n : ChunkHistory). cond (eqb (last_of n.updates) 0) [] (overlay (last_of n.updates) (sources_in n) ∷ [])) is
    ∙ ap (λ (t : ℕ). cond (eqb t 0) [] (overlay t (sources_in now) ∷ [])) (history-last cat c updates version)
    ∙ ap (λ (added : List ℕ). cond (eqb last 0) [] (overlay last added ∷ [])) (history-added cat c updates version)
    ∙ ap (λ (b : Bool). cond b [] (overlay last (added_at_after cat c changes) ∷ [])) (unchanged-last cat updates c version)
    ∙ turned (is_some_change (changes_at cat c changes)) (overlay last (added_at_after cat c changes) ∷ [])
    ∙ ap (λ (cs : List Change). cond (is_some_change (changes_at cat c cs)) (overlay last (added_at_after cat c cs) ∷ []) []) (sym seen)
    ∙ ap (λ (t : ℕ). cond (is_changed cat s c) (overlay t (added_sources_of cat s c) ∷ []) []) (sym (last-all_taken cat updates c version small))

pub overlays-answered : (cat : Catalogue) (versions : Versions) (version : ℕ) → IsOf cat versions → version ≤ length versions.batches → IsOrdered nat_cmp versions.histories.by_chunk
    → overlays_in version versions.histories.by_chunk.entries ≡ overlays_of cat (version_of versions.batches version)
overlays-answered cat versions version is small ordered =
    let entries = versions.histories.by_chunk.entries in
    let s = version_of versions.batches version in
    told-entries version entries
    ∙ told-filtered (overlay_in version) (length cat.places) entries (overlay_of cat s) (is_changed cat s) ordered
    (λ c within.
    told-history version c (get nat_cmp versions.histories.by_chunk c)
    ∙ history-overlay cat versions.batches version c (history_in versions.histories c) small (at_version cat versions version c is small within))
    (λ c past. told-history version c (get nat_cmp versions.histories.by_chunk c) ∙ ap (overlay_in version c) (is.beyond c past))
