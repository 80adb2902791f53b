-- What a job sees of a grid that changes.
use Rattle.std.specs.Prelude.{ℕ, ◌≤◌, Bool, if◌then◌else◌, List, [], ◌++◌, length, map, take, All}
use Rattle.std.specs.List.{filter}
use Rattle.gm_base.specs.declared.limits.TheConstants.{MAX_CHANGES}
use Rattle.gm_base.specs.declared.edge.Edge.{Edge}
use Rattle.gm_base.specs.declared.copies.Key.{Key}
use Rattle.gm_base.specs.declared.copies.Tag.{Tag}
use Rattle.gm_base.specs.declared.copies.Tag.TheVariants.{Update, Own}
use Rattle.gm_changes.specs.declared.change.Change.{Change}
use Rattle.gm_changes.specs.Changes.{ChangesWithin, edges_after}
use Rattle.gm_label.specs.declared.chunk.Overlay.{Overlay}
use Rattle.gm_label.specs.Catalogues.{Catalogue, sources_at, chunk_numbers}
use Rattle.gm_versions.specs.Contents.{changes_at, next_changes_at, content_after, added_at_after, all_changes, is_some_change, last_update}

-- the updates above a job's line, and the changes that the job makes to its own view. Its keys carry its number
pub record Snapshot : Type 0 where
  pub job : ℕ
  pub updates : List (List Change)
  pub own : List Change

-- what every job sees behind so many updates that has no changes of its own
abbrev pub version_of : List (List Change) → ℕ → Snapshot
version_of updates version = record { job = 0; updates = take version updates; own = [] }

-- all changes that it has: those of the updates, and then the job's own
abbrev pub changes_of : Snapshot → List Change
changes_of s = all_changes s.updates ++ s.own

-- the graph that the job sees
abbrev pub edges_of : List Edge → Snapshot → List Edge
edges_of edges s = edges_after (changes_of s) edges

-- a chunk's edges and sources as the job sees them
abbrev pub content_of : Catalogue → List Edge → Snapshot → ℕ → List Edge
content_of cat edges s c = content_after cat edges (changes_of s) c

abbrev pub added_sources_of : Catalogue → Snapshot → ℕ → List ℕ
added_sources_of cat s c = added_at_after cat c (changes_of s)

abbrev pub sources_of : Catalogue → Snapshot → ℕ → List ℕ
sources_of cat s c = sources_at cat c ++ added_sources_of cat s c

-- the job's own tag, where an own change concerns the chunk, else the last update that does
abbrev pub tag_of : Catalogue → Snapshot → ℕ → Tag
tag_of cat s c =
    if is_some_change (next_changes_at cat c (all_changes s.updates) s.own)
    then Own s.job
    else Update (last_update cat s.updates c (length s.updates))

abbrev pub key_of : Catalogue → Snapshot → ℕ → Key
key_of cat s c = record { chunk = c; tag = tag_of cat s c }

-- whether some change concerns a chunk
abbrev pub is_changed : Catalogue → Snapshot → ℕ → Bool
is_changed cat s c = is_some_change (changes_at cat c (changes_of s))

abbrev pub overlay_of : Catalogue → Snapshot → ℕ → Overlay
overlay_of cat s c = record { key = key_of cat s c; added = added_sources_of cat s c }

-- the keys and added sources of the changed chunks, ascending
abbrev pub overlays_of : Catalogue → Snapshot → List Overlay
overlays_of cat s = map (overlay_of cat s) (filter (is_changed cat s) (chunk_numbers cat))

-- its changes are among n vertices, and few
pub record IsSnapshotOver (n : ℕ) (s : Snapshot) : Type 0 where
  pub ends : All (ChangesWithin n) (changes_of s)
  pub few : length (changes_of s) ≤ MAX_CHANGES
