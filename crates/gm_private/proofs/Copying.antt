-- A job's copies.
use Rattle.std.proofs.Common.{◌≡◌, ℕ, ◌≤◌, Bool, true, false, cond, List, ◌++◌, length, take, All, sym, ap, ◌∙◌, refl, subst, arith}
use Rattle.std.specs.List.{filter}
use Rattle.std.proofs.lemmas.List.{length-take-le}
use Rattle.std.proofs.lemmas.List.Elements.{recursion_from_All, All-from_recursion}
use Rattle.gm_base.specs.declared.copies.ChunkCopy.{ChunkCopy}
use Rattle.gm_base.specs.declared.edge.Edge.{Edge}
use Rattle.gm_base.specs.declared.copies.Key.{Key}
use Rattle.gm_base.specs.declared.copies.Tag.TheVariants.{Update, Own}
use Rattle.gm_changes.specs.declared.change.Change.{Change}
use Rattle.gm_changes.specs.Changes.{edges_after}
use Rattle.gm_changes.specs.Concerns.{may_concern, IsPlaced}
use Rattle.gm_changes.specs.ConcernsRules.{left_out_by_block}
use Rattle.gm_label.specs.Catalogues.{Catalogue, sources_at, base_at}
use Rattle.gm_versions.specs.declared.versions.Versions.{Versions}
use Rattle.gm_versions.specs.Kept.{IsCopy}
use Rattle.gm_versions.specs.Contents.{site_at, changes_at, next_changes_at, changes_up_to, all_changes, changes_near, is_some_change, last_update}
use Rattle.gm_versions.specs.Snapshots.{Snapshot, changes_of, key_of}
use Rattle.gm_versions.specs.Keys.{IsTakenFrom, IsVersionKey, content_of_key, update_of}
use Rattle.gm_versions.specs.ContentsRules.{all-taken, base-placed, changes-taken, concerning_changes-near, concerning_changes-same_before, concerning_changes-up_to_last, without_second, last-le}
use Rattle.gm_versions.specs.SnapshotsRules.{content-of_key}
use Rattle.gm_private.specs.OwnChanges.{OwnChanges, IsSnapshotCopy, snapshot_in}

-- a key that isn't the job's own is of the last update that concerns the chunk, and no own change does
record IsShared (cat : Catalogue) (s : Snapshot) (c : ℕ) (key : Key) : Type 0 where
  is : key ≡ record { chunk = c; tag = Update (last_update cat s.updates c (length s.updates)) }
  none : is_some_change (next_changes_at cat c (all_changes s.updates) s.own) ≡ false

shared : (cat : Catalogue) (s : Snapshot) (c t : ℕ) (key : Key) → key ≡ key_of cat s c → key.tag ≡ Update t → IsShared cat s c key
shared cat s c t key is tag =
    let some = is_some_change (next_changes_at cat c (all_changes s.updates) s.own) in
    let last = last_update cat s.updates c (length s.updates) in
    let at : (b : Bool) → some ≡ b → key ≡ record { chunk = c; tag = cond b (Own s.job) (Update last) } → IsShared cat s c key = elim [
      | true ↦ λ so own. let other : Own s.job ≡ Update t = sym (ap (λ (k : Key). k.tag) own) ∙ tag in absurd (cc)
      | false ↦ λ none of. record { is = of; none = none }
    ] in
    at some refl is

pub version_key : (cat : Catalogue) (updates : List (List Change)) (own : OwnChanges) (c t : ℕ) (key : Key) → key ≡ key_of cat (snapshot_in updates own) c
    → key.tag ≡ Update t → own.version ≤ length updates → IsVersionKey (length updates) c key
version_key cat updates own c t key is tag few =
    let s = snapshot_in updates own in
    let last = last-le cat s.updates c (length s.updates) in
    let long = length-take-le own.version updates few in
    subst (IsVersionKey (length updates) c) (sym (shared cat s c t key is tag).is) (record { chunk = refl; update = omega (arith, few, last, long) })

taken : (updates : List (List Change)) (own : OwnChanges) → own.version ≤ length updates → IsTakenFrom updates (λ _. snapshot_in updates own) (snapshot_in updates own)
taken updates own few = record { numbered = refl; above = ap (λ n. take n updates) (length-take-le own.version updates few) }

-- the copy of such a key is what the job sees
pub version_copy : (cat : Catalogue) (versions : Versions) (own : OwnChanges) (c t : ℕ) (edges : List Edge) (key : Key) (copy : ChunkCopy)
    → own.version ≤ length versions.batches → key ≡ key_of cat (snapshot_in versions.batches own) c → key.tag ≡ Update t
    → IsCopy cat versions c edges key copy → IsSnapshotCopy cat (snapshot_in versions.batches own) c edges key copy
version_copy cat versions own c t edges key copy few is tag made =
    let updates = versions.batches in
    let s = snapshot_in updates own in
    let of = shared cat s c t key is tag in
    let last = last_update cat s.updates c (length s.updates) in
    let small = last-le cat s.updates c (length s.updates) in
    let long = length-take-le own.version updates few in
    let same : changes_at cat c (changes_up_to updates (update_of key.tag)) ≡ changes_at cat c (changes_of s) =
    ap (λ (k : Key). changes_at cat c (changes_up_to updates (update_of k.tag))) of.is
    ∙ ap (changes_at cat c) (sym (changes-taken updates own.version last (omega (arith, small, long))))
    ∙ concerning_changes-up_to_last cat s.updates c (length s.updates)
    ∙ sym (without_second cat c (all_changes s.updates) s.own of.none) in
    record {
      of_key = made.of_key;
      changed = λ placed. made.changed placed ∙ ap (λ (cs : List Change). edges_after cs edges) same;
      content = λ grid over base.
          made.content grid (λ _. s) over base ∙ ap (content_of_key cat grid updates (λ _. s)) is ∙ content-of_key cat grid updates (λ _. s) s c (taken updates own few);
    }

-- the changes near the chunk and the job's own make the edges that the job sees
own_placed : (cat : Catalogue) (updates : List (List Change)) (own : OwnChanges) (c : ℕ) (edges : List Edge) → own.version ≤ length updates
    → All (IsPlaced cat.dimensions (site_at cat c) (sources_at cat c)) edges
    → edges_after (filter (may_concern cat.dimensions (site_at cat c)) (changes_near cat updates c own.version ++ own.changes)) edges
    ≡ edges_after (changes_at cat c (changes_of (snapshot_in updates own))) edges
own_placed cat updates own c edges few placed =
    let d = cat.dimensions in
    let site = site_at cat c in
    let near = changes_near cat updates c own.version in
    sym (left_out_by_block d site (sources_at cat c) (near ++ own.changes) edges (recursion_from_All (IsPlaced d site (sources_at cat c)) edges placed))
    ∙ ap (λ (cs : List Change). edges_after cs edges)
    (concerning_changes-same_before cat c near (changes_up_to updates own.version) own.changes (concerning_changes-near cat updates c own.version)
    ∙ ap (λ (cs : List Change). changes_at cat c (cs ++ own.changes)) (sym (all-taken updates own.version few)))

-- the copy of the job's own key
pub own_copy : (cat : Catalogue) (updates : List (List Change)) (own : OwnChanges) (c : ℕ) (edges made : List Edge) (key : Key) → own.version ≤ length updates
    → made ≡ edges_after (filter (may_concern cat.dimensions (site_at cat c)) (changes_near cat updates c own.version ++ own.changes)) edges
    → IsSnapshotCopy cat (snapshot_in updates own) c edges key (record { key = key; edges = made })
own_copy cat updates own c edges made key few changed = record {
  of_key = refl;
  changed = λ placed. changed ∙ own_placed cat updates own c edges few placed;
  content = λ grid over base.
      let Placed = IsPlaced cat.dimensions (site_at cat c) (sources_at cat c) in
      let placed : All Placed edges =
      subst (λ (xs : List Edge). All Placed xs) (sym base) (All-from_recursion Placed (base_at cat grid c) (base-placed cat grid over c)) in
      changed ∙ own_placed cat updates own c edges few placed ∙ ap (edges_after (changes_at cat c (changes_of (snapshot_in updates own)))) base;
}
