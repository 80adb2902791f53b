use Rattle.std.proofs.Common.{◌≡◌, ◌+◌, ◌++◌, length, drop, sum}
use Rattle.gm_label.specs.Chunks.{chunks_from, chunks_of}
use Rattle.gm_label.specs.Stored.{firsts_from}
use Rattle.gm_label.proofs.plan.cut_blocks.Given as goal

-- the chunks so far and those of the blocks that are left are all chunks
abbrev pub invariant-loop-block : goal.invariant-loop-block
invariant-loop-block l = record {
  places : l.places.items ++ chunks_from l.chunk_size l.block l.at (drop l.block l.counts) ≡ chunks_of l.chunk_size l.counts;
  firsts : l.firsts.items ++ firsts_from l.chunk_size (length l.places.items) (drop l.block l.counts) ≡ firsts_from l.chunk_size 0 l.counts;
  edges : l.at + sum (drop l.block l.counts) ≡ sum l.counts;
}
