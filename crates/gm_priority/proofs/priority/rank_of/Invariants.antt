use Rattle.std.proofs.Common.{◌≡◌, ◌+◌, ◌≤◌, drop}
use Rattle.gm_priority.specs.Priority.{rows_with, fewest_with}
use Rattle.gm_priority.proofs.priority.rank_of.Given as goal

-- the rest of the rows, from what is so far, gives what all of them give
abbrev pub invariant-loop-row : goal.invariant-loop-row
invariant-loop-row l = record {
  same : l.rank.block ≡ l.fn.block;
  few : l.rank.rows ≤ l.row-index;
  rows : l.rank.rows + rows_with (drop l.row-index l.needs) l.fn.block ≡ rows_with l.needs l.fn.block;
  fewest : fewest_with l.rank.fewest (drop l.row-index l.needs) l.fn.block ≡ fewest_with l.fn.blocks l.needs l.fn.block;
}
