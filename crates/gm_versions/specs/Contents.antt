-- A grid's chunks after changes: which changes concern a chunk, and what they make of its edges and sources.
use Rattle.std.specs.Prelude.{ℕ, zero, suc, Bool, true, false, if◌then◌else◌, List, [], ◌∷◌, ◌++◌, length, slice_index_or}
use Rattle.gm_base.specs.declared.edge.Edge.{Edge}
use Rattle.gm_changes.specs.declared.change.Change.{Change}
use Rattle.gm_changes.specs.declared.change.Change.TheVariants.{Add, Cut}
use Rattle.gm_changes.specs.Changes.{edges_after}
use Rattle.gm_changes.specs.Concerns.{Site, concerns, possible_changes, sources_after, concerning_changes}
use Rattle.gm_label.specs.Catalogues.{Catalogue, place_at, sources_at, base_at}

-- where a chunk stands
abbrev pub site_at : Catalogue → ℕ → Site
site_at cat c = record { block = (place_at cat c).block; is_last = (place_at cat c).is_last }

-- those of the changes that concern a chunk
abbrev pub changes_at : Catalogue → ℕ → List Change → List Change
changes_at cat c changes = concerning_changes cat.dimensions (site_at cat c) (sources_at cat c) changes

-- a chunk's sources after changes: none is ever taken away, so they bound those of its edges
abbrev pub sources_at_after : Catalogue → ℕ → List Change → List ℕ
sources_at_after cat c changes = sources_after (changes_at cat c changes) (sources_at cat c)

-- those of further changes that concern the chunk
abbrev pub next_changes_at : Catalogue → ℕ → List Change → List Change → List Change
next_changes_at cat c before next = concerning_changes cat.dimensions (site_at cat c) (sources_at_after cat c before) next

-- whether a change that comes next concerns the chunk
abbrev pub concerns_next : Catalogue → ℕ → List Change → Change → Bool
concerns_next cat c before change = concerns cat.dimensions (site_at cat c) (sources_at_after cat c before) change

-- those of the changes that may concern the chunk, whatever its sources are
abbrev pub possible_changes_at : Catalogue → ℕ → List Change → List Change
possible_changes_at cat c changes = possible_changes cat.dimensions (site_at cat c) changes

-- a chunk's edges after changes
abbrev pub content_after : Catalogue → List Edge → List Change → ℕ → List Edge
content_after cat edges changes c = edges_after (changes_at cat c changes) (base_at cat edges c)

-- the sources of the edges that these changes add
abbrev pub added_sources : List Change → List ℕ
added_sources [] = []
added_sources (Add e ∷ changes) = e.from ∷ added_sources changes
added_sources (Cut from to ∷ changes) = added_sources changes

-- the sources that changes add to a chunk
abbrev pub added_at_after : Catalogue → ℕ → List Change → List ℕ
added_at_after cat c changes = added_sources (changes_at cat c changes)

-- the changes of so many updates, in order
abbrev pub changes_up_to : List (List Change) → ℕ → List Change
changes_up_to updates zero = []
changes_up_to updates (suc version) = changes_up_to updates version ++ slice_index_or updates version []

-- the changes of all updates
abbrev pub all_changes : List (List Change) → List Change
all_changes updates = changes_up_to updates (length updates)

abbrev pub is_some_change : List Change → Bool
is_some_change [] = false
is_some_change (change ∷ changes) = true

-- the changes of the update behind so many that concern a chunk
abbrev pub update_changes_at : Catalogue → List (List Change) → ℕ → ℕ → List Change
update_changes_at cat updates c version =
    next_changes_at cat c (changes_up_to updates version) (slice_index_or updates version [])

-- the last update up to a version that concerns the chunk, and 0 where none does
abbrev pub last_update : Catalogue → List (List Change) → ℕ → ℕ → ℕ
last_update cat updates c zero = 0
last_update cat updates c (suc version) =
    if is_some_change (update_changes_at cat updates c version) then suc version else last_update cat updates c version

-- the changes of those updates up to a version that concern the chunk
abbrev pub changes_near : Catalogue → List (List Change) → ℕ → ℕ → List Change
changes_near cat updates c zero = []
changes_near cat updates c (suc version) =
    if is_some_change (update_changes_at cat updates c version)
    then changes_near cat updates c version ++ slice_index_or updates version []
    else changes_near cat updates c version
