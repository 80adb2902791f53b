use Rattle.std.proofs.Common.{◌≡◌, ℕ, ◌<◌, ◌≤◌, ltb, cond, length}
use Rattle.gm_versions.specs.Histories.{with_change}
use Rattle.gm_versions.specs.Kept.{history_in, IsKeptBefore}
use Rattle.gm_versions.proofs.histories.Histories.note_change.Given as goal

-- the change was noted for the chunks before this one, and the others are as they were
abbrev pub invariant-loop-chunk : goal.invariant-loop-chunk
invariant-loop-chunk l = record {
  noted : (q : ℕ) → q < length l.cat.places
      → history_in l.self q ≡ cond (ltb q l.chunk) (with_change l.cat q l.number (history_in l.initial.self q) l.change) (history_in l.initial.self q);
  beyond : (q : ℕ) → length l.cat.places ≤ q → history_in l.self q ≡ history_in l.initial.self q;
  kept : IsKeptBefore l.number l.initial.self l.self;
}
