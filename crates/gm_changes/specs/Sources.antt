-- Changes that may concern a chunk, by its sources: which of them do.
use Rattle.std.specs.Prelude.{◌≡◌, ℕ, Bool, false, ◌==◌, if◌then◌else◌, Some, None, List, [], ◌∷◌}
use Rattle.std.specs.List.{list_any}
use Rattle.std.specs.Ordering.{nat_cmp}
use Rattle.std.specs.BTreeMap.{get}
use Rattle.gm_changes.specs.declared.change.Change.{Change}
use Rattle.gm_changes.specs.declared.change.Change.TheVariants.{Add, Cut}
use Rattle.gm_changes.specs.declared.cut_sources.CutSources.{CutSources}
use Rattle.gm_changes.specs.Concerns.{lists}

-- all added edges, and the cuts whose source the chunk has by then
abbrev pub listed_changes : List ℕ → List Change → List Change
listed_changes sources [] = []
listed_changes sources (Add e ∷ changes) = Add e ∷ listed_changes (e.from ∷ sources) changes
listed_changes sources (Cut from to ∷ changes) =
    if lists sources from then Cut from to ∷ listed_changes sources changes else listed_changes sources changes

-- whether a change cuts edges from this vertex
abbrev pub cuts_from : ℕ → Change → Bool
cuts_from u (Add e) = false
cuts_from u (Cut from to) = u == from

-- the sources of these cuts, each with whether it is one of these sources
abbrev pub TellsSources : List Change → List ℕ → CutSources → Type 0
TellsSources changes sources told =
    (u : ℕ) → get nat_cmp told.listed u ≡ (if list_any (cuts_from u) changes then Some (lists sources u) else None)
