use Rattle.std.proofs.Common.{◌≡◌, ◌+◌, ◌≤◌, drop, count_by}
use Rattle.gm_changes.specs.Kept.{is_add}
use Rattle.gm_changes.proofs.applying.count_adds.Given as goal

-- the added edges so far and those that are left
abbrev pub invariant-loop-change : goal.invariant-loop-change
invariant-loop-change l = record {
  few : l.count ≤ l.change-index;
  all : l.count + count_by is_add (drop l.change-index l.changes) ≡ count_by is_add l.changes;
}
