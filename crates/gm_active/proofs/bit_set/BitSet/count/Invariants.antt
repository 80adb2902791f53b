use Rattle.std.proofs.Common.{◌≡◌, ◌*◌}
use Rattle.gm_active.proofs.Counting.{marked_below}
use Rattle.gm_active.proofs.bit_set.BitSet.count.Given as goal

abbrev pub invariant-loop-word : goal.invariant-loop-word
invariant-loop-word l = l.count ≡ marked_below l.word-items (64 * l.word-index)
