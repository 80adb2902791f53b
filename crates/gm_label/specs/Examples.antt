-- Small grids whose chunks and labels were worked out by hand.
use Rattle.std.specs.Prelude.{ℕ, Bool, List, [], ◌∷◌}
use Rattle.gm_base.specs.Dimensions.{Dimensions}
use Rattle.gm_label.specs.declared.chunk.Place.{Place}

-- a chunk by its block, its first edge and its number of edges, and whether it is its block's last
abbrev pub place : ℕ → ℕ → ℕ → Bool → Place
place block first count is_last = record { block = block; first = first; count = count; is_last = is_last }

-- four vertices in two ranges: a path with a shortcut has so many edges in each of the four blocks
abbrev pub two_ranges : Dimensions
two_ranges = record { n = 4; parts = 2 }

abbrev pub path_counts : List ℕ
path_counts = 1 ∷ 2 ∷ 0 ∷ 1 ∷ []

-- five vertices in four ranges of two: the third has one vertex, and the last none
abbrev pub four_ranges : Dimensions
four_ranges = record { n = 5; parts = 4 }
