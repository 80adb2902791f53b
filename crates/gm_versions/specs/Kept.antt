-- What the histories of chunks stand for.
use Rattle.std.specs.Prelude.{◌≡◌, ℕ, ◌<◌, ◌≤◌, ◌==◌, ◌⊎◌, true, List, length, fold, unwrap_or, All}
use Rattle.std.specs.List.{list_any}
use Rattle.std.specs.Ordering.{nat_cmp}
use Rattle.std.specs.BTreeMap.{get}
use Rattle.gm_base.specs.declared.edge.Edge.{Edge}
use Rattle.gm_base.specs.declared.copies.Key.{Key}
use Rattle.gm_base.specs.declared.copies.ChunkCopy.{ChunkCopy}
use Rattle.gm_changes.specs.declared.change.Change.{Change}
use Rattle.gm_changes.specs.Changes.{ChangesWithin, edges_after}
use Rattle.gm_changes.specs.Concerns.{IsPlaced}
use Rattle.gm_label.specs.Catalogues.{Catalogue, sources_at, base_at, IsOver}
use Rattle.gm_versions.specs.declared.histories.Histories.{Histories}
use Rattle.gm_versions.specs.declared.versions.Versions.{Versions}
use Rattle.gm_versions.specs.Contents.{site_at, changes_at, changes_up_to}
use Rattle.gm_versions.specs.Snapshots.{Snapshot}
use Rattle.gm_versions.specs.Keys.{content_of_key, update_of}
use Rattle.gm_versions.specs.Histories.{ChunkHistory, no_history, last_of, history_up_to, IsUpTo, history_of, with_change}

-- a chunk's history
abbrev pub history_in : Histories → ℕ → ChunkHistory
history_in h c = unwrap_or (get nat_cmp h.by_chunk c) no_history

-- nothing in them is later than this version
abbrev pub AreUpTo : ℕ → Histories → Type 0
AreUpTo version h = (q : ℕ) → IsUpTo version (history_in h q)

-- each chunk that an update after this version concerns is in the undo log
abbrev pub IsLogged : ℕ → Histories → Type 0
IsLogged version h = (q : ℕ) → (list_any (λ c. c == q) h.undo_log.items ≡ true) ⊎ IsUpTo version (history_in h q)

-- a chunk is in the undo log, or the update concerned it before
abbrev pub IsLoggedAt : ℕ → ℕ → Histories → Type 0
IsLoggedAt number chunk h = (list_any (λ c. c == chunk) h.undo_log.items ≡ true) ⊎ (number ≤ last_of (history_in h chunk).updates)

-- what was there before an update is as it was, nothing is later than the update, and what it did can be taken back
pub record IsKeptBefore (number : ℕ) (old new : Histories) : Type 0 where
  pub before : (q version : ℕ) → version < number → history_up_to version (history_in new q) ≡ history_up_to version (history_in old q)
  pub up_to : AreUpTo number new
  pub logged : (version : ℕ) → version < number → IsLogged version old → IsLogged version new

-- one change more of an update was noted for each chunk that it concerns
pub record IsNotedFor (cat : Catalogue) (number : ℕ) (change : Change) (old new : Histories) : Type 0 where
  pub each : (q : ℕ) → q < length cat.places → history_in new q ≡ with_change cat q number (history_in old q) change
  pub beyond : (q : ℕ) → length cat.places ≤ q → history_in new q ≡ history_in old q

-- and all changes of an update
pub record AreNotedFor (cat : Catalogue) (number : ℕ) (batch : List Change) (old new : Histories) : Type 0 where
  pub each : (q : ℕ) → q < length cat.places → history_in new q ≡ fold (with_change cat q number) (history_in old q) batch
  pub beyond : (q : ℕ) → length cat.places ≤ q → history_in new q ≡ history_in old q

-- over this catalogue the histories are those of the updates, and the ends of their changes are vertices
pub record IsOf (cat : Catalogue) (versions : Versions) : Type 0 where
  pub each : (c : ℕ) → c < length cat.places → history_in versions.histories c ≡ history_of cat c versions.batches (length versions.batches)
  pub beyond : (c : ℕ) → length cat.places ≤ c → history_in versions.histories c ≡ no_history
  pub ends : (version : ℕ) → version ≤ length versions.batches → All (ChangesWithin cat.dimensions.n) (changes_up_to versions.batches version)

-- the same updates and the same histories: over whatever catalogue they were those of the updates, they still are
pub record AreSame (old new : Versions) : Type 0 where
  pub updates : new.batches ≡ old.batches
  pub histories : (c : ℕ) → history_in new.histories c ≡ history_in old.histories c

-- a key's copy of a chunk. Of edges that are placed in the chunk it has what the changes that concern the chunk make of them; of the
-- chunk's edges in the grid it has the content
pub record IsCopy (cat : Catalogue) (versions : Versions) (c : ℕ) (edges : List Edge) (key : Key) (copy : ChunkCopy) : Type 0 where
  pub of_key : copy.key ≡ key
  pub changed : All (IsPlaced cat.dimensions (site_at cat c) (sources_at cat c)) edges
      → copy.edges ≡ edges_after (changes_at cat c (changes_up_to versions.batches (update_of key.tag))) edges
  pub content : (grid : List Edge) (snapshot_of : ℕ → Snapshot) → IsOver cat grid → edges ≡ base_at cat grid c
      → copy.edges ≡ content_of_key cat grid versions.batches snapshot_of key
