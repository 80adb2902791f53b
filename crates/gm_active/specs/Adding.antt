-- How the needed chunks come together: those that are needed for their labels, and those that are needed for added sources.
use Rattle.std.specs.Prelude.{◌≡◌, ℕ, Bool, ◌&&◌, ◌||◌, nat_le, nat_lt, List, map, length}
use Rattle.std.specs.List.{range_with_len}
use Rattle.gm_label.specs.Catalogues.{Catalogue, place_at}
use Rattle.gm_active.specs.Bits.{is_in}
use Rattle.gm_active.specs.Needs.{is_needed}

-- a mark for each vertex and one for each chunk
pub record AreMarksOver (cat : Catalogue) (active owed : List Bool) : Type 0 where
  pub vertices : length active ≡ cat.dimensions.n
  pub chunks : length owed ≡ length cat.places

-- a set, and the numbers below its limit that pass a test
unfoldable pub with_all : List Bool → (ℕ → Bool) → List Bool
with_all marks test = map (λ k. is_in marks k || test k) (range_with_len 0 (length marks))

-- a test of the numbers from here on and below the end
abbrev pub between : ℕ → ℕ → (ℕ → Bool) → ℕ → Bool
between from end test k = nat_le from k && nat_lt k end && test k

-- whether a chunk with these sources is needed where these vertices are active
abbrev pub is_needed_for : Catalogue → Bool → List Bool → ℕ → List ℕ → Bool
is_needed_for cat is_two_way active c sources = is_needed cat.dimensions is_two_way (is_in active) (place_at cat c).block sources
