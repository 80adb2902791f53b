-- What is kept of a chunk: the updates that concern it, and the sources of the edges that they added there.
use Rattle.std.specs.Prelude.{◌≡◌, ℕ, zero, suc, ◌-◌, ◌<◌, ◌≤◌, ◌==◌, nat_le, nat_lt, if◌then◌else◌, List, [], ◌∷◌, ◌++◌, length, map, slice_index, Option, IsSomeAnd}
use Rattle.std.specs.List.{filter}
use Rattle.std.specs.List.Sorted.{IsNonDecreasingBy}
use Rattle.gm_base.specs.declared.copies.Tag.TheVariants.{Update}
use Rattle.gm_changes.specs.declared.change.Change.{Change}
use Rattle.gm_changes.specs.Concerns.{concerns}
use Rattle.gm_label.specs.declared.chunk.Overlay.{Overlay}
use Rattle.gm_label.specs.Catalogues.{Catalogue, sources_at}
use Rattle.gm_versions.specs.declared.history.AddedSource.{AddedSource}
use Rattle.gm_versions.specs.Contents.{site_at, added_sources, is_some_change, update_changes_at}

-- the updates that concern a chunk, ascending, and the sources that they added to it, in order
pub record ChunkHistory : Type 0 where
  pub updates : List ℕ
  pub added : List AddedSource

abbrev pub no_history : ChunkHistory
no_history = record { updates = []; added = [] }

-- the last update, and 0 where there is none
abbrev pub last_of : List ℕ → ℕ
last_of updates = slice_index updates (length updates - 1)

abbrev pub sources_in : ChunkHistory → List ℕ
sources_in h = map (λ a. a.source) h.added

-- the history as it was at a version
abbrev pub updates_up_to : ℕ → List ℕ → List ℕ
updates_up_to version updates = filter (λ update. nat_le update version) updates

abbrev pub added_up_to : ℕ → List AddedSource → List AddedSource
added_up_to version added = filter (λ a. nat_le a.update version) added

abbrev pub history_up_to : ℕ → ChunkHistory → ChunkHistory
history_up_to version h = record { updates = updates_up_to version h.updates; added = added_up_to version h.added }

-- nothing in it is later than this version
abbrev pub IsUpTo : ℕ → ChunkHistory → Type 0
IsUpTo version h = history_up_to version h ≡ h

-- these sources, added by this update
abbrev pub added_by : ℕ → List ℕ → List AddedSource
added_by number sources = map (λ source. record { update = number; source = source }) sources

-- one update more, of which these changes concern the chunk
abbrev pub with_update : ℕ → List Change → ChunkHistory → ChunkHistory
with_update number changes h = record {
  updates = if is_some_change changes then h.updates ++ number ∷ [] else h.updates;
  added = h.added ++ added_by number (added_sources changes);
}

-- a chunk's history after so many updates
abbrev pub history_of : Catalogue → ℕ → List (List Change) → ℕ → ChunkHistory
history_of cat c updates zero = no_history
history_of cat c updates (suc version) =
    with_update (suc version) (update_changes_at cat updates c version) (history_of cat c updates version)

-- one change more of an update, which adds these sources
abbrev pub with_number : ℕ → List ℕ → List ℕ
with_number number updates = if nat_lt (last_of updates) number then updates ++ number ∷ [] else updates

abbrev pub with_touch : ℕ → List ℕ → ChunkHistory → ChunkHistory
with_touch number sources h = record { updates = with_number number h.updates; added = h.added ++ added_by number sources }

-- a chunk's history after one change more
abbrev pub with_change : Catalogue → ℕ → ℕ → ChunkHistory → Change → ChunkHistory
with_change cat c number h change =
    if concerns cat.dimensions (site_at cat c) (sources_at cat c ++ sources_in h) change
    then with_touch number (added_sources (change ∷ [])) h
    else h

-- where a source stands in a list, a place no later than it tells one
abbrev pub HasFirstPlaces : List ℕ → (ℕ → Option ℕ) → Type 0
HasFirstPlaces sources first = (k : ℕ) → k < length sources
    → IsSomeAnd (first (slice_index sources k)) (λ i. (i ≤ k) × (slice_index sources i ≡ slice_index sources k))

-- updates come in order, and the first places of sources are known
pub record IsHistory (updates : List ℕ) (added : List AddedSource) (first : ℕ → Option ℕ) : Type 0 where
  pub ascend : IsNonDecreasingBy (λ update. update) updates
  pub in_order : IsNonDecreasingBy (λ a. a.update) added
  pub places : HasFirstPlaces (map (λ a. a.source) added) first

-- what a version sees of a chunk with this history: nothing, where no update up to the version concerns the chunk
abbrev pub overlay_in : ℕ → ℕ → ChunkHistory → List Overlay
overlay_in version c h =
    let last = last_of (updates_up_to version h.updates) in
    if last == 0 then []
    else record { key = record { chunk = c; tag = Update last }; added = sources_in (history_up_to version h) } ∷ []

-- and of all chunks
abbrev pub overlays_in : ℕ → List (ℕ × ChunkHistory) → List Overlay
overlays_in version [] = []
overlays_in version (entry ∷ entries) = overlay_in version entry.0 entry.1 ++ overlays_in version entries
