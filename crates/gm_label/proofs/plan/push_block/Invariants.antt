use Rattle.std.proofs.Common.{◌≡◌, ◌+◌, ◌-◌, ◌*◌, ◌++◌}
use Rattle.gm_label.specs.Chunks.{cut_rest, chunks_of_block}
use Rattle.gm_label.proofs.plan.push_block.Given as goal

-- the chunks so far and those that are left are those of the block
abbrev pub invariant-loop-full : goal.invariant-loop-full
invariant-loop-full l = record {
  joined : l.places.items ++ cut_rest l.chunk_size l.block l.at l.rest (l.before - l.full) ≡ l.initial.places.items ++ chunks_of_block l.chunk_size l.block l.first l.count;
  at : l.at ≡ l.first + l.chunk_size * l.full;
}
