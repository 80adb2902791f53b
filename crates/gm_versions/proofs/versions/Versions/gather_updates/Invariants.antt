use Rattle.std.proofs.Common.{◌≡◌, ◌≤◌, ◌++◌, drop, take, vec_len}
use Rattle.gm_versions.specs.Contents.{possible_changes_at}
use Rattle.gm_versions.proofs.Answering.{batches_of}
use Rattle.gm_versions.proofs.versions.Versions.gather_updates.Given as goal

-- what is in the list, and what is left to gather
abbrev pub invariant-loop-update : goal.invariant-loop-update
invariant-loop-update l = record {
  added : l.into.items ++ possible_changes_at l.cat l.chunk (batches_of l.self.batches (drop l.update-index l.update-items))
      ≡ l.initial.into.items ++ possible_changes_at l.cat l.chunk (batches_of l.self.batches l.update-items);
  front : take (vec_len l.initial.into) l.into.items ≡ l.initial.into.items;
  long : vec_len l.initial.into ≤ vec_len l.into;
}
