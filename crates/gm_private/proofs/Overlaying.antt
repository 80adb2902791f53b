-- What is kept of all chunks, after a version and own changes, are the job's overlays.
use Rattle.std.proofs.Common.{◌≡◌, ℕ, ◌<◌, ◌≤◌, Bool, cond, eqb, List, [], ◌∷◌, ◌++◌, length, Option, Some, None, append-nil, sym, ap, ◌∙◌, refl, arith}
use Rattle.std.specs.List.{fold, list_any}
use Rattle.std.specs.Ordering.{nat_cmp}
use Rattle.std.specs.BTreeMap.{IsOrdered}
use Rattle.gm_base.specs.declared.copies.Tag.{Tag}
use Rattle.gm_base.specs.declared.copies.Tag.TheVariants.{Update, Own}
use Rattle.gm_changes.specs.declared.change.Change.{Change}
use Rattle.gm_label.specs.declared.chunk.Overlay.{Overlay}
use Rattle.gm_label.specs.Catalogues.{Catalogue, chunk_numbers}
use Rattle.gm_versions.specs.Contents.{changes_at, next_changes_at, added_sources, changes_up_to, all_changes, is_some_change, last_update}
use Rattle.gm_versions.specs.Snapshots.{Snapshot, version_of, is_changed, overlay_of, overlays_of}
use Rattle.gm_versions.specs.ContentsRules.{in_parts, added-in_parts, all-taken}
use Rattle.gm_private.specs.OwnChanges.{OwnChanges, snapshot_in}
use Rattle.gm_versions.specs.SnapshotsRules.{found_at, found-filtered, is_number-from, is_number-past}
use Rattle.gm_versions.specs.WalksRules.{told_of, told_in, told-filtered}
use Rattle.gm_private.specs.declared.seen_chunks.SeenChunk.{SeenChunk}
use Rattle.gm_private.specs.declared.seen_chunks.SeenChunks.{SeenChunks}
use Rattle.gm_private.specs.SeenChunks.{AreNoted, seen_at, seen_of, overlay_with, seen_among, after_own}
use Rattle.gm_private.proofs.Sources.{added_of, own_after, fold-own}

-- what overlays tell of a chunk that they have
found-among : (overlays : List Overlay) (c : ℕ) → seen_among overlays c ≡ found_at (λ (o : Overlay). Some (seen_of o)) None overlays c
found-among [] c = refl
found-among (o ∷ overlays) c = ap (cond (eqb o.key.chunk c) (Some (seen_of o))) (found-among overlays c)

-- .. of a snapshot's: the chunk's own, where a change concerns the chunk
seen_in_overlays : (cat : Catalogue) (s : Snapshot) (c : ℕ)
    → seen_among (overlays_of cat s) c
    ≡ cond (list_any (λ k. eqb k c) (chunk_numbers cat)) (cond (is_changed cat s c) (Some (seen_of (overlay_of cat s c))) None) None
seen_in_overlays cat s c =
    found-among (overlays_of cat s) c
    ∙ found-filtered (λ (o : Overlay). Some (seen_of o)) (overlay_of cat s) (is_changed cat s) None c (chunk_numbers cat) (λ k. refl)

pub version_seen : (cat : Catalogue) (s : Snapshot) (c : ℕ) → c < length cat.places
    → seen_among (overlays_of cat s) c ≡ cond (is_changed cat s c) (Some (seen_of (overlay_of cat s c))) None
version_seen cat s c within =
    seen_in_overlays cat s c
    ∙ ap (λ (b : Bool). cond b (cond (is_changed cat s c) (Some (seen_of (overlay_of cat s c))) None) None) (is_number-from 0 (length cat.places) c (omega arith) (omega arith))

pub version_past : (cat : Catalogue) (s : Snapshot) (c : ℕ) → length cat.places ≤ c → seen_among (overlays_of cat s) c ≡ None
version_past cat s c past =
    seen_in_overlays cat s c
    ∙ ap (λ (b : Bool). cond b (cond (is_changed cat s c) (Some (seen_of (overlay_of cat s c))) None) None) (is_number-past 0 (length cat.places) c (omega arith))

abbrev pub one_overlay : ℕ → SeenChunk → List Overlay
one_overlay c seen = overlay_with c seen ∷ []

abbrev kept_of : ℕ → List Change → Option SeenChunk
kept_of last before = cond (is_some_change before) (Some (record { tag = Update last; added = added_sources before })) None

-- by those of the updates' and of the own changes that concern the chunk
told_by : (c job last : ℕ) (before next : List Change)
    → told_of one_overlay c (cond (is_some_change next) (Some (record { tag = Own job; added = added_of (kept_of last before) ++ added_sources next })) (kept_of last before))
    ≡ cond (is_some_change (before ++ next)) (record { key = record { chunk = c; tag = cond (is_some_change next) (Own job) (Update last) }; added = added_sources before ++ added_sources next } ∷ []) []
told_by c job last [] [] = refl
told_by c job last [] (n ∷ next) = refl
told_by c job last (b ∷ before) [] =
    ap (λ (added : List ℕ). let o : Overlay = record { key = record { chunk = c; tag = Update last }; added = added } in o ∷ []) (sym (append-nil (added_sources (b ∷ before))))
told_by c job last (b ∷ before) (n ∷ next) = refl

-- after own changes a chunk's overlay is the job's
pub own_told : (cat : Catalogue) (updates : List (List Change)) (own : OwnChanges) (c : ℕ) → own.version ≤ length updates → c < length cat.places
    → let s = snapshot_in updates own in
    told_of one_overlay c (fold (after_own cat updates own c) (seen_among (overlays_of cat (version_of updates own.version)) c) own.changes)
    ≡ cond (is_changed cat s c) (overlay_of cat s c ∷ []) []
own_told cat updates own c few within =
    let s = snapshot_in updates own in
    let before = all_changes s.updates in
    let next = next_changes_at cat c before own.changes in
    let last = last_update cat s.updates c (length s.updates) in
    let kept = λ (cs : List Change). kept_of last (changes_at cat c cs) in
    let start : seen_among (overlays_of cat (version_of updates own.version)) c ≡ kept_of last (changes_at cat c before) =
    version_seen cat (version_of updates own.version) c within ∙ ap kept (append-nil before) in
    let tag : Tag = cond (is_some_change next) (Own own.job) (Update last) in
    let one = λ (added : List ℕ). let o : Overlay = record { key = record { chunk = c; tag = tag }; added = added } in o ∷ [] in
    let own_of = λ (b : List Change). own_after cat c own.job b (kept_of last (changes_at cat c before)) own.changes in
    ap (told_of one_overlay c) (fold-own cat updates own c _ own.changes ∙ ap (λ (seen : Option SeenChunk). own_after cat c own.job (changes_up_to updates own.version) seen own.changes) start
    ∙ ap own_of (sym (all-taken updates own.version few)))
    ∙ told_by c own.job last (changes_at cat c before) next
    ∙ ap (λ (cs : List Change). cond (is_some_change cs) (one (added_sources (changes_at cat c before) ++ added_sources next)) []) (sym (in_parts cat c before own.changes))
    ∙ ap (λ (added : List ℕ). cond (is_changed cat s c) (one added) []) (sym (added-in_parts cat c before own.changes))

-- the overlays of all chunks
pub overlays_made : (cat : Catalogue) (updates : List (List Change)) (own : OwnChanges) (start seen : SeenChunks) → IsOrdered nat_cmp seen.chunks
    → own.version ≤ length updates → ((c : ℕ) → seen_at start c ≡ seen_among (overlays_of cat (version_of updates own.version)) c)
    → AreNoted cat updates own own.changes start seen → told_in one_overlay seen.chunks.entries ≡ overlays_of cat (snapshot_in updates own)
overlays_made cat updates own start seen ordered few begun noted =
    let s = snapshot_in updates own in
    told-filtered one_overlay (length cat.places) seen.chunks.entries (overlay_of cat s) (is_changed cat s) ordered
    (λ c within.
    ap (told_of one_overlay c) (noted.each c within ∙ ap (λ (before : Option SeenChunk). fold (after_own cat updates own c) before own.changes) (begun c))
    ∙ own_told cat updates own c few within)
    (λ c past. ap (told_of one_overlay c) (noted.beyond c past ∙ begun c ∙ version_past cat (version_of updates own.version) c past))
