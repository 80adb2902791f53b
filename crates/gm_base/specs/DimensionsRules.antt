-- What proofs need of the size of a grid: the ranges hold every vertex, and the blocks every edge.
use Rattle.std.specs.Prelude.{ℕ, ◌+◌, ◌-◌, ◌*◌, ◌<◌}
use Rattle.std.proofs.Common.{arith}
use Rattle.std.proofs.Math.Nat.{lt-div-mul-add, div-lt_iff_lt-mul, le-div_iff_mul-le}
use Rattle.std.proofs.lemmas.Nat.{mul-add-lt}
use Rattle.gm_base.specs.declared.edge.Edge.{Edge}
use Rattle.gm_base.specs.Dimensions.{Dimensions, AreDimensions, width_of, range_of, block_of}
use Rattle.gm_base.specs.Graph.{HasEndsBelow}

-- a range has a vertex
pub width_above : (d : Dimensions) → AreDimensions d.n d.parts → 0 < width_of d
width_above d dims =
    let some : 0 < d.parts = dims.some_range in
    (le-div_iff_mul-le {k = d.parts} {x = 1} {y = d.n + (d.parts - 1)} some).1 (omega (arith, dims.some_vertex))

pub range_below : (d : Dimensions) (v : ℕ) → AreDimensions d.n d.parts → v < d.n → range_of d v < d.parts
range_below d v dims below =
    let some : 0 < d.parts = dims.some_range in
    let wide = width_above d dims in
    let cover : d.n + (d.parts - 1) < width_of d * d.parts + d.parts = lt-div-mul-add some in
    (div-lt_iff_lt-mul {k = width_of d} {x = v} {y = d.parts} wide).1 (omega arith)

pub block_below : (d : Dimensions) (e : Edge) → AreDimensions d.n d.parts → HasEndsBelow d.n e → block_of d e < d.parts * d.parts
block_below d e dims ends = mul-add-lt (range_of d e.from) d.parts (range_of d e.to) d.parts (range_below d e.from dims ends.0) (range_below d e.to dims ends.1)
