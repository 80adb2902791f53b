-- Where chunks of a small grid stand.
use Rattle.std.specs.Prelude.{ℕ, true, false, List, [], ◌∷◌}
use Rattle.gm_base.specs.Dimensions.{Dimensions}
use Rattle.gm_base.specs.Graph.{edge}
use Rattle.gm_changes.specs.declared.change.Change.{Change}
use Rattle.gm_changes.specs.declared.change.Change.TheVariants.{Add, Cut}
use Rattle.gm_changes.specs.Concerns.{Site, concerning_changes}

-- four vertices in two ranges of two
abbrev pub two_ranges : Dimensions
two_ranges = record { n = 4; parts = 2 }

-- the last chunk of a block, and one before it
abbrev pub last_of : ℕ → Site
last_of block = record { block = block; is_last = true }

abbrev pub earlier_of : ℕ → Site
earlier_of block = record { block = block; is_last = false }

-- which changes concern a chunk at such a site that has these sources
abbrev pub for_last : ℕ → List ℕ → List Change → List Change
for_last block sources changes = concerning_changes two_ranges (last_of block) sources changes

abbrev pub for_earlier : ℕ → List ℕ → List Change → List Change
for_earlier block sources changes = concerning_changes two_ranges (earlier_of block) sources changes

-- an edge is added, cut, and added again
abbrev pub added_twice : List Change
added_twice = Add (edge 3 0 1) ∷ Cut 3 0 ∷ Add (edge 3 0 2) ∷ []
