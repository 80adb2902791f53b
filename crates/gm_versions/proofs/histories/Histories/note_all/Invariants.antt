use Rattle.std.proofs.Common.{◌≡◌, ℕ, ◌<◌, ◌≤◌, length, drop}
use Rattle.std.specs.List.{fold}
use Rattle.gm_versions.specs.Histories.{with_change}
use Rattle.gm_versions.specs.Kept.{history_in, IsKeptBefore}
use Rattle.gm_versions.proofs.histories.Histories.note_all.Given as goal

-- what is left of the changes leads to where all of them lead
abbrev pub invariant-loop-change : goal.invariant-loop-change
invariant-loop-change l = record {
  noted : (q : ℕ) → q < length l.cat.places
      → fold (with_change l.cat q l.number) (history_in l.self q) (drop l.change-index l.batch) ≡ fold (with_change l.cat q l.number) (history_in l.initial.self q) l.batch;
  beyond : (q : ℕ) → length l.cat.places ≤ q → history_in l.self q ≡ history_in l.initial.self q;
  kept : IsKeptBefore l.number l.initial.self l.self;
}
