-- What proofs need of snapshots: what keys stand for, and what overlays tell when they are looked up by a chunk.
use Rattle.std.proofs.Common.{◌≡◌, ℕ, zero, suc, ◌+◌, ◌<◌, ◌≤◌, Bool, true, false, cond, ◌||◌, eqb, List, [], ◌∷◌, ◌++◌, map, length, All, sym, ap, ◌∙◌, refl, subst, arith, inl, inr}
use Rattle.std.specs.List.{list_any, filter, flat_map, range_with_len, AllByRecursion}
use Rattle.std.proofs.lemmas.Bool.{cases_lt, eqb-true, eq-eqb, ne_eqb, or_left, or_right}
use Rattle.std.proofs.lemmas.List.Elements.{All-from_recursion, recursion_from_All, All-weaker}
use Rattle.std.proofs.lemmas.List.Folds.{list_any-append}
use Rattle.gm_base.specs.declared.edge.Edge.{Edge}
use Rattle.gm_base.specs.declared.copies.Key.{Key}
use Rattle.gm_base.specs.declared.copies.Tag.TheVariants.{Update, Own}
use Rattle.gm_base.specs.Dimensions.{AreDimensions, block_of}
use Rattle.gm_base.specs.Graph.{IsSameGraph}
use Rattle.gm_base.specs.GraphRules.{count_of}
use Rattle.gm_changes.specs.declared.change.Change.{Change}
use Rattle.gm_changes.specs.declared.change.Change.TheVariants.{Add, Cut}
use Rattle.gm_changes.specs.Changes.{ChangesWithin, edges_after}
use Rattle.gm_changes.specs.Concerns.{lists, IsPlaced}
use Rattle.gm_label.specs.declared.chunk.Overlay.{Overlay}
use Rattle.gm_label.specs.Catalogues.{Catalogue, place_at, sources_at, base_at, chunk_numbers, IsOver}
use Rattle.gm_label.specs.Overlays.{added_at, key_at, sources_under, AscendByChunk, AreOverlays}
use Rattle.gm_versions.specs.Contents.{site_at, changes_at, sources_at_after, next_changes_at, added_sources, content_after, changes_up_to, all_changes, is_some_change, last_update}
use Rattle.gm_versions.specs.Snapshots.{Snapshot, changes_of, edges_of, content_of, added_sources_of, sources_of, key_of, is_changed, overlay_of, overlays_of}
use Rattle.gm_versions.specs.Keys.{changes_of_tag, content_of_key, IsTakenFrom, IsVersionKey}
use Rattle.gm_versions.specs.ContentsRules.{all-taken, edges_after-within, some-concerning_changes, added-in_parts, in_parts, none_is, last-le, last-concerns, none-later, content-up_to_last, content-same_update, content-placed, content-past, content-within, contents-joined, changes_at-within, changes-taken, lists-after, append-none, added-past, no_update, without_second}

-- a job's key of a chunk stands for all changes that the job sees
pub content-of_key : (cat : Catalogue) (edges : List Edge) (updates : List (List Change)) (snapshot_of : ℕ → Snapshot) (s : Snapshot) (c : ℕ)
    → IsTakenFrom updates snapshot_of s → content_of_key cat edges updates snapshot_of (key_of cat s c) ≡ content_of cat edges s c
content-of_key cat edges updates snapshot_of s c taken =
    let before = all_changes s.updates in
    let some = is_some_change (next_changes_at cat c before s.own) in
    let last = last_update cat s.updates c (length s.updates) in
    let content = λ (changes : List Change). content_after cat edges changes c in
    let same : changes_up_to updates last ≡ changes_up_to s.updates last =
    sym (changes-taken updates (length s.updates) last (last-le cat s.updates c (length s.updates)))
    ∙ ap (λ (us : List (List Change)). changes_up_to us last) taken.above in
    let at : (b : Bool) → some ≡ b → content (changes_of_tag updates snapshot_of (cond b (Own s.job) (Update last))) ≡ content (before ++ s.own) = elim [
      | true ↦ λ so. ap (λ (seen : Snapshot). content (changes_of seen)) taken.numbered
      | false ↦ λ none.
          ap content same ∙ content-up_to_last cat edges s.updates c (length s.updates)
          ∙ ap (λ (cs : List Change). edges_after cs (base_at cat edges c)) (sym (without_second cat c before s.own none))
    ] in
    at some refl

pub content-same_key : (cat : Catalogue) (edges : List Edge) (updates : List (List Change)) (snapshot_of : ℕ → Snapshot) (s t : Snapshot) (c : ℕ)
    → IsTakenFrom updates snapshot_of s → IsTakenFrom updates snapshot_of t → key_of cat s c ≡ key_of cat t c
    → content_of cat edges s c ≡ content_of cat edges t c
content-same_key cat edges updates snapshot_of s t c of_s of_t same =
    sym (content-of_key cat edges updates snapshot_of s c of_s)
    ∙ ap (content_of_key cat edges updates snapshot_of) same
    ∙ content-of_key cat edges updates snapshot_of t c of_t

-- where nothing that a job sees concerns a chunk, its key is the grid's own
key-unchanged : (cat : Catalogue) (s : Snapshot) (c : ℕ) → is_changed cat s c ≡ false → key_of cat s c ≡ record { chunk = c; tag = Update 0 }
key-unchanged cat s c unchanged =
    let before = all_changes s.updates in
    let parts = append-none (changes_at cat c before) _ (sym (in_parts cat c before s.own) ∙ none_is _ unchanged) in
    ap (λ (cs : List Change). record { chunk = c; tag = cond (is_some_change cs) (Own s.job) (Update (last_update cat s.updates c (length s.updates))) }) parts.1
    ∙ ap (λ (t : ℕ). record { chunk = c; tag = Update t }) (no_update cat s.updates c (length s.updates) parts.0)

-- a job without changes of its own sees the keys of its version
pub key-of_version : (cat : Catalogue) (updates : List (List Change)) (job count c : ℕ) → length updates ≤ count
    → IsVersionKey count c (key_of cat (record { job = job; updates = updates; own = [] }) c)
key-of_version cat updates job count c small =
    let low = last-le cat updates c (length updates) in record { chunk = refl; update = omega (arith, small, low) }

module _ {A : Type 0} (value : Overlay → A) where
  -- what an overlay of a chunk tells, or else this
  abbrev pub found_at : A → List Overlay → ℕ → A
  found_at other [] c = other
  found_at other (overlay ∷ overlays) c = cond (eqb overlay.key.chunk c) (value overlay) (found_at other overlays c)

  -- looked up among the overlays of those chunks that pass a test
  pub found-filtered : (overlay_at : ℕ → Overlay) (is_one : ℕ → Bool) (other : A) (c : ℕ) (cs : List ℕ) → ((k : ℕ) → (overlay_at k).key.chunk ≡ k)
      → found_at other (map overlay_at (filter is_one cs)) c ≡ cond (list_any (λ k. eqb k c) cs) (cond (is_one c) (value (overlay_at c)) other) other
  found-filtered overlay_at is_one other c [] numbered = refl
  found-filtered overlay_at is_one other c (k ∷ cs) numbered =
      let rest = map overlay_at (filter is_one cs) in
      let later = found-filtered overlay_at is_one other c cs numbered in
      let told = list_any (λ k. eqb k c) cs in
      let here = λ (n : ℕ). cond (is_one n) (value (overlay_at n)) other in
      let first : (b : Bool) → eqb k c ≡ b → is_one k ≡ true → cond b (value (overlay_at k)) (found_at other rest c) ≡ cond (b || told) (here c) other = elim [
        | true ↦ λ is one.
            sym (ap (λ (p : Bool). cond p (value (overlay_at k)) other) one) ∙ ap here (eqb-true k c is)
        | false ↦ λ is one. later
      ] in
      let passed : (b t : Bool) → eqb k c ≡ b → is_one k ≡ false → cond t (here c) other ≡ cond (b || t) (here c) other = elim [
        | true ↦ λ t is none.
            let nothing : here c ≡ other = ap (λ (p : Bool). cond p (value (overlay_at c)) other) (ap is_one (sym (eqb-true k c is)) ∙ none) in
            let either : (t : Bool) → cond t (here c) other ≡ here c = elim [ true ↦ refl | false ↦ sym nothing ] in either t
        | false ↦ λ t is none. refl
      ] in
      let goal-at = λ (p : Bool). found_at other (map overlay_at (cond p (k ∷ filter is_one cs) (filter is_one cs))) c ≡ cond (eqb k c || told) (here c) other in
      let at : (p : Bool) → is_one k ≡ p → goal-at p = elim [
        | true ↦ λ h. ap (λ (n : ℕ). cond (eqb n c) (value (overlay_at k)) (found_at other rest c)) (numbered k) ∙ first (eqb k c) refl h
        | false ↦ λ h. later ∙ passed (eqb k c) told refl h
      ] in
      at (is_one k) refl

  -- where a chunk that doesn't pass tells the same as none
  found-all : (overlay_at : ℕ → Overlay) (is_one : ℕ → Bool) (other : A) (c : ℕ) (cs : List ℕ) → ((k : ℕ) → (overlay_at k).key.chunk ≡ k)
      → (is_one c ≡ false → value (overlay_at c) ≡ other)
      → found_at other (map overlay_at (filter is_one cs)) c ≡ cond (list_any (λ k. eqb k c) cs) (value (overlay_at c)) other
  found-all overlay_at is_one other c cs numbered same =
      let at : (p : Bool) → is_one c ≡ p → cond p (value (overlay_at c)) other ≡ value (overlay_at c) = elim [ true ↦ λ one. refl | false ↦ λ none. sym (same none) ] in
      found-filtered overlay_at is_one other c cs numbered
      ∙ ap (λ (v : A). cond (list_any (λ k. eqb k c) cs) v other) (at (is_one c) refl)

key_at-found : (overlays : List Overlay) (c : ℕ) → key_at overlays c ≡ found_at (λ (o : Overlay). o.key) (record { chunk = c; tag = Update 0 }) overlays c
key_at-found [] c = refl
key_at-found (o ∷ overlays) c = ap (cond (eqb o.key.chunk c) o.key) (key_at-found overlays c)

added_at-found : (overlays : List Overlay) (c : ℕ) → added_at overlays c ≡ found_at (λ (o : Overlay). o.added) [] overlays c
added_at-found [] c = refl
added_at-found (o ∷ overlays) c = ap (cond (eqb o.key.chunk c) o.added) (added_at-found overlays c)

pub is_number-from : (low n c : ℕ) → low ≤ c → c < low + n → list_any (λ k. eqb k c) (range_with_len low n) ≡ true
is_number-from low zero c above below = absurd (omega arith)
is_number-from low (suc n) c above below =
    elim (cases_lt low c) as (λ _. list_any (λ k. eqb k c) (range_with_len low (suc n)) ≡ true) [
      | inl later ↦ or_right (eqb low c) _ (is_number-from (low + 1) n c (omega arith) (omega arith))
      | inr here ↦ or_left (eqb low c) _ (eq-eqb low c (omega arith))
    ]

pub is_number-past : (low n c : ℕ) → low + n ≤ c → list_any (λ k. eqb k c) (range_with_len low n) ≡ false
is_number-past low zero c past = refl
is_number-past low (suc n) c past =
    ap (λ (b : Bool). b || list_any (λ k. eqb k c) (range_with_len (low + 1) n)) (ne_eqb low c (λ same. omega arith))
    ∙ is_number-past (low + 1) n c (omega arith)

-- the key that the overlays give, of a chunk and of a number that no chunk has
pub key_at-overlays : (cat : Catalogue) (s : Snapshot) (c : ℕ) → c < length cat.places → key_at (overlays_of cat s) c ≡ key_of cat s c
key_at-overlays cat s c within =
    key_at-found (overlays_of cat s) c
    ∙ found-all (λ (o : Overlay). o.key) (overlay_of cat s) (is_changed cat s) (record { chunk = c; tag = Update 0 }) c (chunk_numbers cat) (λ k. refl) (key-unchanged cat s c)
    ∙ ap (λ (b : Bool). cond b (key_of cat s c) (record { chunk = c; tag = Update 0 })) (is_number-from 0 (length cat.places) c (omega arith) (omega arith))

key_at-past : (cat : Catalogue) (s : Snapshot) (c : ℕ) → length cat.places ≤ c → key_at (overlays_of cat s) c ≡ record { chunk = c; tag = Update 0 }
key_at-past cat s c past =
    key_at-found (overlays_of cat s) c
    ∙ found-all (λ (o : Overlay). o.key) (overlay_of cat s) (is_changed cat s) (record { chunk = c; tag = Update 0 }) c (chunk_numbers cat) (λ k. refl) (key-unchanged cat s c)
    ∙ ap (λ (b : Bool). cond b (key_of cat s c) (record { chunk = c; tag = Update 0 })) (is_number-past 0 (length cat.places) c (omega arith))

-- what it stands for is what the job sees
pub content-looked_up : (cat : Catalogue) (edges : List Edge) (updates : List (List Change)) (snapshot_of : ℕ → Snapshot) (s : Snapshot) (c : ℕ)
    → IsTakenFrom updates snapshot_of s → content_of_key cat edges updates snapshot_of (key_at (overlays_of cat s) c) ≡ content_of cat edges s c
content-looked_up cat edges updates snapshot_of s c taken =
    elim (cases_lt c (length cat.places)) as (λ _. content_of_key cat edges updates snapshot_of (key_at (overlays_of cat s) c) ≡ content_of cat edges s c) [
      | inl within ↦ ap (content_of_key cat edges updates snapshot_of) (key_at-overlays cat s c within) ∙ content-of_key cat edges updates snapshot_of s c taken
      | inr past ↦
          ap (content_of_key cat edges updates snapshot_of) (key_at-past cat s c past)
          ∙ content-past cat edges [] c past ∙ sym (content-past cat edges (changes_of s) c past)
    ]

-- and the sources that they add
pub added_at-overlays : (cat : Catalogue) (s : Snapshot) (c : ℕ) → added_at (overlays_of cat s) c ≡ added_sources_of cat s c
added_at-overlays cat s c =
    let at = λ (b : Bool). cond b (added_sources_of cat s c) [] in
    let here : at (list_any (λ k. eqb k c) (chunk_numbers cat)) ≡ added_sources_of cat s c =
    elim (cases_lt c (length cat.places)) as (λ _. at (list_any (λ k. eqb k c) (chunk_numbers cat)) ≡ added_sources_of cat s c) [
      | inl within ↦ ap at (is_number-from 0 (length cat.places) c (omega arith) (omega arith))
      | inr past ↦ ap at (is_number-past 0 (length cat.places) c (omega arith)) ∙ sym (added-past cat c (changes_of s) past)
    ] in
    added_at-found (overlays_of cat s) c
    ∙ found-all (λ (o : Overlay). o.added) (overlay_of cat s) (is_changed cat s) [] c (chunk_numbers cat) (λ k. refl) (λ unchanged. ap added_sources (none_is _ unchanged))
    ∙ here

pub sources_under-overlays : (cat : Catalogue) (s : Snapshot) (c : ℕ) → sources_under cat (overlays_of cat s) c ≡ sources_of cat s c
sources_under-overlays cat s c = ap (λ (added : List ℕ). sources_at cat c ++ added) (added_at-overlays cat s c)

pub ascend-lower : (low high : ℕ) (overlays : List Overlay) → low ≤ high → AscendByChunk high overlays → AscendByChunk low overlays
ascend-lower low high [] order ascend = tt
ascend-lower low high (o ∷ overlays) order ascend = let first = ascend.0 in (omega arith, ascend.1)

overlays-ascend : (overlay_at : ℕ → Overlay) (is_one : ℕ → Bool) (low n : ℕ) → ((k : ℕ) → (overlay_at k).key.chunk ≡ k)
    → AscendByChunk low (map overlay_at (filter is_one (range_with_len low n)))
overlays-ascend overlay_at is_one low zero numbered = tt
overlays-ascend overlay_at is_one low (suc n) numbered =
    let cs = filter is_one (range_with_len (low + 1) n) in
    let later = overlays-ascend overlay_at is_one (low + 1) n numbered in
    let at : (b : Bool) → AscendByChunk low (map overlay_at (cond b (low ∷ cs) cs)) = elim [
      | true ↦ let here = numbered low in
          (omega arith, subst (λ (k : ℕ). AscendByChunk (k + 1) (map overlay_at cs)) (sym here) later)
      | false ↦ ascend-lower low (low + 1) (map overlay_at cs) (omega arith) later
    ] in
    at (is_one low)

overlays-all : (P : Overlay → Type 0) (overlay_at : ℕ → Overlay) (is_one : ℕ → Bool) (low n : ℕ) → ((k : ℕ) → low ≤ k → k < low + n → P (overlay_at k))
    → AllByRecursion P (map overlay_at (filter is_one (range_with_len low n)))
overlays-all P overlay_at is_one low zero each = tt
overlays-all P overlay_at is_one low (suc n) each =
    let cs = filter is_one (range_with_len (low + 1) n) in
    let later = overlays-all P overlay_at is_one (low + 1) n (λ k above below. each k (omega arith) (omega arith)) in
    let at : (b : Bool) → AllByRecursion P (map overlay_at (cond b (low ∷ cs) cs)) = elim [
      | true ↦ (each low (omega arith) (omega arith), later)
      | false ↦ later
    ] in
    at (is_one low)

sources-within : (n : ℕ) (changes : List Change) → AllByRecursion (ChangesWithin n) changes → AllByRecursion (λ s. s < n) (added_sources changes)
sources-within n [] ends = tt
sources-within n (Add e ∷ changes) ends = (ends.0.0, sources-within n changes ends.1)
sources-within n (Cut from to ∷ changes) ends = sources-within n changes ends.1

-- each is an overlay of a chunk, with vertices as sources
pub overlays-are : (cat : Catalogue) (s : Snapshot) → All (ChangesWithin cat.dimensions.n) (changes_of s) → AreOverlays cat (overlays_of cat s)
overlays-are cat s ends =
    let n = cat.dimensions.n in
    record {
      ascend = overlays-ascend (overlay_of cat s) (is_changed cat s) 0 (length cat.places) (λ k. refl);
      chunks = All-from_recursion _ _ (overlays-all (λ o. o.key.chunk < length cat.places) (overlay_of cat s) (is_changed cat s) 0 (length cat.places) (λ k above below. omega arith));
      sources = All-from_recursion _ _ (overlays-all (λ o. All (λ u. u < n) o.added) (overlay_of cat s) (is_changed cat s) 0 (length cat.places)
          (λ k above below. All-from_recursion (λ u. u < n) (added_sources_of cat s k)
          (sources-within n (changes_at cat k (changes_of s)) (recursion_from_All (ChangesWithin n) (changes_at cat k (changes_of s)) (changes_at-within cat k n (changes_of s) ends)))));
    }

-- what a job sees of all chunks is its view
pub contents-view : (cat : Catalogue) (edges : List Edge) (s : Snapshot) → IsOver cat edges → AreDimensions cat.dimensions.n cat.dimensions.parts
    → All (ChangesWithin cat.dimensions.n) (changes_of s) → IsSameGraph (flat_map (content_of cat edges s) (chunk_numbers cat)) (edges_of edges s)
contents-view cat edges s over dims ends = contents-joined cat edges (changes_of s) over dims ends

-- where each chunk's content is that of a key
pub contents-keyed : (key_at : ℕ → Key) (cat : Catalogue) (edges : List Edge) (updates : List (List Change)) (snapshot_of : ℕ → Snapshot) (s : Snapshot)
    → ((c : ℕ) → content_of_key cat edges updates snapshot_of (key_at c) ≡ content_of cat edges s c)
    → IsSameGraph (flat_map (content_of cat edges s) (chunk_numbers cat)) (edges_of edges s)
    → IsSameGraph (flat_map (λ c. content_of_key cat edges updates snapshot_of (key_at c)) (chunk_numbers cat)) (edges_of edges s)
contents-keyed key_at cat edges updates snapshot_of s same joined e =
    let keyed : (λ c. content_of_key cat edges updates snapshot_of (key_at c)) ≡ content_of cat edges s = λ i. λ c. same c i in
    ap (λ (f : ℕ → List Edge). count_of e (flat_map f (chunk_numbers cat))) keyed ∙ joined e

-- a content lies in the chunk's block ..
pub content-in_block : (cat : Catalogue) (edges : List Edge) (s : Snapshot) (c : ℕ) → IsOver cat edges
    → All (λ e. block_of cat.dimensions e ≡ (place_at cat c).block) (content_of cat edges s c)
content-in_block cat edges s c over =
    All-weaker (IsPlaced cat.dimensions (site_at cat c) (sources_at_after cat c (changes_of s))) (λ e. block_of cat.dimensions e ≡ (place_at cat c).block)
    (λ e placed. placed.in_block) (content_of cat edges s c) (content-placed cat edges (changes_of s) c over)

-- .. and has its sources among those that the job sees
pub content-listed : (cat : Catalogue) (edges : List Edge) (s : Snapshot) (c : ℕ) → IsOver cat edges
    → All (λ e. list_any (λ u. eqb u e.from) (sources_of cat s c) ≡ true) (content_of cat edges s c)
content-listed cat edges s c over =
    let seen = changes_of s in
    let under : (u : ℕ) → list_any (λ k. eqb k u) (sources_of cat s c) ≡ lists (sources_at_after cat c seen) u =
    λ u. list_any-append (λ k. eqb k u) (sources_at cat c) (added_sources_of cat s c) ∙ sym (lists-after (changes_at cat c seen) (sources_at cat c) u) in
    All-weaker (IsPlaced cat.dimensions (site_at cat c) (sources_at_after cat c seen)) (λ e. list_any (λ u. eqb u e.from) (sources_of cat s c) ≡ true)
    (λ e place. under e.from ∙ place.listed) (content_of cat edges s c) (content-placed cat edges seen c over)

-- keys, contents and overlays
pub ruleset snapshots = (some-concerning_changes, added-in_parts, key-of_version, last-le, last-concerns, none-later, content-up_to_last, content-of_key, content-same_update, content-same_key, content-looked_up, key_at-overlays, added_at-overlays, sources_under-overlays, content-in_block, content-within, content-past, lists-after, contents-joined, content-placed, contents-view, content-listed, overlays-are, all-taken, edges_after-within, content-past)
