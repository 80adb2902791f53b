-- What the calls of a job's own changes are given, and what its copies are.
use Rattle.std.specs.Prelude.{◌≡◌, ℕ, ◌≤◌, List, length, take, All}
use Rattle.gm_base.specs.declared.copies.ChunkCopy.{ChunkCopy}
use Rattle.gm_base.specs.declared.edge.Edge.{Edge}
use Rattle.gm_base.specs.declared.copies.Key.{Key}
use Rattle.gm_changes.specs.declared.change.Change.{Change}
use Rattle.gm_changes.specs.Changes.{ChangesWithin, edges_after}
use Rattle.gm_changes.specs.Concerns.{IsPlaced}
use Rattle.gm_label.specs.Catalogues.{Catalogue, sources_at, base_at, IsOver}
use Rattle.gm_versions.specs.declared.versions.Versions.{Versions}
use Rattle.gm_versions.specs.Kept.{IsOf}
use Rattle.gm_versions.specs.Contents.{site_at, changes_at}
use Rattle.gm_versions.specs.Snapshots.{Snapshot, changes_of, content_of}

-- a job's number, how many updates stand above its line, and the changes that it makes to its own view
pub record OwnChanges : Type 0 where
  pub job : ℕ
  pub version : ℕ
  pub changes : List Change

-- what the job sees, by the updates so far
abbrev pub snapshot_in : List (List Change) → OwnChanges → Snapshot
snapshot_in updates own = record { job = own.job; updates = take own.version updates; own = own.changes }

-- the updates are those over a grid with this catalogue, the job sees no more of them than there are, and its own changes are of the grid's vertices
pub record IsOwnOver (cat : Catalogue) (kept : Versions) (own : OwnChanges) : Type 0 where
  pub versions : IsOf cat kept
  pub version : own.version ≤ length kept.batches
  pub ends : All (ChangesWithin cat.dimensions.n) own.changes

-- The copy of a chunk that a job sees. Of edges that are placed in the chunk it has what all changes that the job sees make of them; of the
-- chunk's edges in the grid it has the chunk's content as the job sees it.
pub record IsSnapshotCopy (cat : Catalogue) (s : Snapshot) (c : ℕ) (edges : List Edge) (key : Key) (copy : ChunkCopy) : Type 0 where
  pub of_key : copy.key ≡ key
  pub changed : All (IsPlaced cat.dimensions (site_at cat c) (sources_at cat c)) edges
      → copy.edges ≡ edges_after (changes_at cat c (changes_of s)) edges
  pub content : (grid : List Edge) → IsOver cat grid → edges ≡ base_at cat grid c → copy.edges ≡ content_of cat grid s c
