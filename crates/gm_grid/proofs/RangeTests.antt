-- A block as a range of sources and a range of destinations.
use Rattle.std.proofs.Common.{◌≡◌, ℕ, ◌+◌, ◌*◌, ◌/◌, ◌%◌, ◌<◌, ◌≤◌, min, ◌&&◌, leb, ltb, sym, ◌∙◌, arith}
use Rattle.std.proofs.Math.Nat.{div-eq_of_lt-le, div-mul-le_self, lt-div-mul-add, div-add-mod', mod-lt}
use Rattle.std.proofs.lemmas.Nat.{same_from_place}
use Rattle.std.proofs.lemmas.Bool.{and_parts, and_from, ltb-true, lt-ltb, leb-true, le-leb, eqb-true, eq-eqb}
use Rattle.std.proofs.lemmas.Bool.Decides.{same_from_decides}
use Rattle.gm_base.specs.declared.edge.Edge.{Edge}
use Rattle.gm_base.specs.Dimensions.{Dimensions, AreDimensions, width_of, range_of, block_of}
use Rattle.gm_base.specs.DimensionsRules.{width_above, range_below}
use Rattle.gm_grid.specs.Format.{is_in_block}

-- v is one of the width numbers from r * width on, below n
in_width : (n width r v : ℕ) → 0 < width → min (r * width) n ≤ v → v < min ((r + 1) * width) n → (v < n) × (v / width ≡ r)
in_width n width r v some low high =
    (omega arith, div-eq_of_lt-le width (omega arith) (omega arith))

from_width : (n width r v : ℕ) → 0 < width → v < n → v / width ≡ r → (min (r * width) n ≤ v) × (v < min ((r + 1) * width) n)
from_width n width r v some below is =
    let low : v / width * width ≤ v = div-mul-le_self v width in
    let high : v < v / width * width + width = lt-div-mul-add some in
    let low_r : r * width ≤ v = rw is at low in
    let high_r : v < r * width + width = rw is at high in
    (omega arith, omega arith)

-- an edge that lies in this block
record Lies (d : Dimensions) (block : ℕ) (e : Edge) : Type 0 where
  source : e.from < d.n
  destination : e.to < d.n
  place : block_of d e ≡ block

module _ (d : Dimensions) (block : ℕ) (e : Edge) (fs es fd ed : ℕ) (dims : AreDimensions d.n d.parts)
    (is_fs : fs ≡ min (block / d.parts * width_of d) d.n) (is_es : es ≡ min ((block / d.parts + 1) * width_of d) d.n)
    (is_fd : fd ≡ min (block % d.parts * width_of d) d.n) (is_ed : ed ≡ min ((block % d.parts + 1) * width_of d) d.n) where
  whole : block / d.parts * d.parts + block % d.parts ≡ block
  whole = div-add-mod' block d.parts

  lies_from_ranges : fs ≤ e.from → e.from < es → fd ≤ e.to → e.to < ed → Lies d block e
  lies_from_ranges a b c f =
      let row = in_width d.n (width_of d) (block / d.parts) e.from (width_above d dims) (rw is_fs at a) (rw is_es at b) in
      let column = in_width d.n (width_of d) (block % d.parts) e.to (width_above d dims) (rw is_fd at c) (rw is_ed at f) in
      record { source = row.0; destination = column.0; place = rw (row.1, column.1) whole }

  ranges_from_lies : Lies d block e → (fs ≤ e.from) × (e.from < es) × (fd ≤ e.to) × (e.to < ed)
  ranges_from_lies lies =
      let narrow : range_of d e.to < d.parts = range_below d e.to dims lies.destination in
      let one = same_from_place (range_of d e.from) (range_of d e.to) (block / d.parts) (block % d.parts) d.parts narrow (mod-lt block dims.some_range) (lies.place ∙ sym whole) in
      let row = from_width d.n (width_of d) (block / d.parts) e.from (width_above d dims) lies.source one.0 in
      let column = from_width d.n (width_of d) (block % d.parts) e.to (width_above d dims) lies.destination one.1 in
      (rw is_fs row.0, rw is_es row.1, rw is_fd column.0, rw is_ed column.1)

  -- the ranges hold what lies in the block
  pub same_test : (leb fs e.from && ltb e.from es && leb fd e.to && ltb e.to ed) ≡ is_in_block d block e
  same_test =
      same_from_decides {P = Lies d block e} _ _ (
        (λ t.
            let p = and_parts _ _ t in
            let q = and_parts _ _ p.0 in
            let r = and_parts _ _ q.0 in
            lies_from_ranges (leb-true fs e.from r.0) (ltb-true e.from es r.1) (leb-true fd e.to q.1) (ltb-true e.to ed p.1)),
        (λ lies.
            let x = ranges_from_lies lies in
            and_from _ _ (and_from _ _ (and_from _ _ (le-leb fs e.from x.0) (lt-ltb e.from es x.1)) (le-leb fd e.to x.2)) (lt-ltb e.to ed x.3)),
      ) (
        (λ t.
            let p = and_parts _ _ t in
            let q = and_parts _ _ p.0 in
            record { source = ltb-true e.from d.n q.0; destination = ltb-true e.to d.n q.1; place = eqb-true _ block p.1 }),
        (λ lies. and_from _ _ (and_from _ _ (lt-ltb e.from d.n lies.source) (lt-ltb e.to d.n lies.destination)) (eq-eqb _ block lies.place)),
      )
