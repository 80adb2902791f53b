-- The size of a grid: how many vertices it has, and into how many ranges they are cut.
use Rattle.std.specs.Prelude.{ℕ, ◌+◌, ◌-◌, ◌*◌, ◌/◌, ◌≤◌, Bool, ◌&&◌, nat_le}
use Rattle.gm_base.specs.declared.edge.Edge.{Edge}
use Rattle.gm_base.specs.declared.limits.TheConstants.{MAX_VERTICES, MAX_PARTS}

pub record Dimensions : Type 0 where
  pub n : ℕ
  pub parts : ℕ

-- some vertices and ranges, not too many of either, and no more ranges than vertices
pub record AreDimensions (n parts : ℕ) : Type 0 where
  pub some_vertex : 1 ≤ n
  pub vertices : n ≤ MAX_VERTICES
  pub some_range : 1 ≤ parts
  pub ranges : parts ≤ MAX_PARTS
  pub no_more_ranges : parts ≤ n

-- the same as a test
abbrev pub are_dimensions : ℕ → ℕ → Bool
are_dimensions n parts = nat_le 1 n && nat_le n MAX_VERTICES && nat_le 1 parts && nat_le parts MAX_PARTS && nat_le parts n

-- how many vertices a range has: n / parts, rounded up. Ranges at the end may be shorter or empty
abbrev pub width_of : Dimensions → ℕ
width_of d = (d.n + (d.parts - 1)) / d.parts

-- the range of a vertex
abbrev pub range_of : Dimensions → ℕ → ℕ
range_of d v = v / width_of d

-- the block of an edge: row by row, the row is the source's range and the column the destination's
abbrev pub block_of : Dimensions → Edge → ℕ
block_of d e = range_of d e.from * d.parts + range_of d e.to
