use Rattle.std.proofs.Common.{◌≡◌, ◌+◌, ◌≤◌, ◌++◌, drop, count_by}
use Rattle.std.specs.Vec.{vec_len, vec_capacity}
use Rattle.gm_changes.specs.Kept.{kept_adds, is_add}
use Rattle.gm_changes.proofs.applying.push_kept.Given as goal

-- there is room for what is left, and with what it adds the edges are all that were wanted
abbrev pub invariant-loop-place : goal.invariant-loop-place
invariant-loop-place l = record {
  room : vec_len l.edges + count_by is_add (drop l.place l.changes) ≤ vec_capacity l.edges;
  joined : l.edges.items ++ kept_adds (drop l.place l.changes) ≡ l.initial.edges.items ++ kept_adds l.changes;
}
