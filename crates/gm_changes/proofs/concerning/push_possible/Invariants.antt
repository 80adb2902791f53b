use Rattle.std.proofs.Common.{◌≡◌, ◌≤◌, ◌++◌, drop, take, vec_len}
use Rattle.gm_changes.specs.Concerns.{site_of, possible_changes}
use Rattle.gm_changes.proofs.concerning.push_possible.Given as goal

-- the list so far and what the changes that are left add to it
abbrev pub invariant-loop-change : goal.invariant-loop-change
invariant-loop-change l =
    let here = possible_changes l.shape (site_of l.block l.last) in
    record {
      added : l.into.items ++ here (drop l.change-index l.changes) ≡ l.initial.into.items ++ here l.changes;
      front : take (vec_len l.initial.into) l.into.items ≡ l.initial.into.items;
      long : vec_len l.initial.into ≤ vec_len l.into;
    }
