-- Where each pair of ends is cut last.
use Rattle.std.specs.Prelude.{◌≡◌, ℕ, ◌+◌, ◌%◌, Bool, false, ◌&&◌, nat_le, Option, Some, None, List, length, drop, slice_index_or}
use Rattle.std.specs.declared.cmp.Ordering.{Ordering}
use Rattle.std.specs.Ordering.{ordering_then, nat_cmp}
use Rattle.std.specs.BTreeMap.{get}
use Rattle.gm_base.specs.declared.edge.Edge.{Edge}
use Rattle.gm_changes.specs.declared.change.Change.{Change}
use Rattle.gm_changes.specs.declared.last_cuts.TheConstants.{MARKS}
use Rattle.gm_changes.specs.declared.last_cuts.LastCuts.{LastCuts}
use Rattle.gm_changes.specs.Kept.{is_cut}

-- ends in order of their sources, then of their destinations
abbrev pub ends_cmp : ℕ × ℕ → ℕ × ℕ → Ordering
ends_cmp x y = ordering_then (nat_cmp x.0 y.0) (nat_cmp x.1 y.1)

-- whether a place is there, and is this one or a later one
abbrev pub is_from : ℕ → Option ℕ → Bool
is_from place None = false
is_from place (Some last) = nat_le place last

-- the mark of a pair of ends
abbrev pub mark_of : ℕ → ℕ → ℕ
mark_of from to = (from + to) % MARKS

-- whether an edge is marked, and its ends are cut at a place or later
abbrev pub tells_cut : LastCuts → ℕ → Edge → Bool
tells_cut cuts place e =
    slice_index_or cuts.marks (mark_of e.from e.to) false && is_from place (get ends_cmp cuts.places (e.from, e.to))

-- it tells of an edge exactly where a change from the place on cuts it
abbrev pub AreLastCuts : List Change → LastCuts → Type 0
AreLastCuts changes cuts = (place : ℕ) (e : Edge) → tells_cut cuts place e ≡ is_cut (drop place changes) e

-- the ends that are cut have their places, and whatever is cut is marked
pub record HasNoted (changes : List Change) (cuts : LastCuts) : Type 0 where
  pub places : (place : ℕ) (e : Edge) → is_from place (get ends_cmp cuts.places (e.from, e.to)) ≡ is_cut (drop place changes) e
  pub long : length cuts.marks ≡ MARKS
  pub marks : (e : Edge) → slice_index_or cuts.marks (mark_of e.from e.to) false ≡ false → is_cut changes e ≡ false
