-- What keys stand for, where several jobs see a grid with the same updates.
use Rattle.std.specs.Prelude.{◌≡◌, ℕ, ◌≤◌, List, length, take}
use Rattle.gm_base.specs.declared.edge.Edge.{Edge}
use Rattle.gm_base.specs.declared.copies.Key.{Key}
use Rattle.gm_base.specs.declared.copies.Tag.{Tag}
use Rattle.gm_base.specs.declared.copies.Tag.TheVariants.{Update, Own}
use Rattle.gm_changes.specs.declared.change.Change.{Change}
use Rattle.gm_label.specs.Catalogues.{Catalogue}
use Rattle.gm_versions.specs.Contents.{content_after, changes_up_to}
use Rattle.gm_versions.specs.Snapshots.{Snapshot, changes_of}

-- the changes that a tag stands for: the updates up to one, or what the job with this number sees
abbrev pub changes_of_tag : List (List Change) → (ℕ → Snapshot) → Tag → List Change
changes_of_tag updates snapshot_of (Update t) = changes_up_to updates t
changes_of_tag updates snapshot_of (Own job) = changes_of (snapshot_of job)

-- the edges that a key stands for
abbrev pub content_of_key : Catalogue → List Edge → List (List Change) → (ℕ → Snapshot) → Key → List Edge
content_of_key cat edges updates snapshot_of key = content_after cat edges (changes_of_tag updates snapshot_of key.tag) key.chunk

-- a job's snapshot, by its number, has the first of these updates
pub record IsTakenFrom (updates : List (List Change)) (snapshot_of : ℕ → Snapshot) (s : Snapshot) : Type 0 where
  pub numbered : snapshot_of s.job ≡ s
  pub above : take (length s.updates) updates ≡ s.updates

-- a tag that stands for one of so many updates, or for the grid itself
abbrev pub IsUpdateUpTo : ℕ → Tag → Type 0
IsUpdateUpTo count (Update t) = t ≤ count
IsUpdateUpTo count (Own job) = ⊥

-- a key of this chunk with such a tag
pub record IsVersionKey (count c : ℕ) (key : Key) : Type 0 where
  pub chunk : key.chunk ≡ c
  pub update : IsUpdateUpTo count key.tag

-- the number of its update
abbrev pub update_of : Tag → ℕ
update_of (Update t) = t
update_of (Own job) = 0
