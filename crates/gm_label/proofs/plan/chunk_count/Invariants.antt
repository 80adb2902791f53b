use Rattle.std.proofs.Common.{◌≡◌, ◌+◌, ◌≤◌, take, sum}
use Rattle.gm_base.specs.ChunkCounts.{chunk_count}
use Rattle.gm_label.proofs.plan.chunk_count.Given as goal

abbrev pub invariant-loop-count : goal.invariant-loop-count
invariant-loop-count l = record {
  chunks : l.chunks ≡ chunk_count l.chunk_size (take l.count-index l.counts);
  few : l.chunks ≤ l.count-index + sum (take l.count-index l.counts);
}
