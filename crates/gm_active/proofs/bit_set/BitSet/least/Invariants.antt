use Rattle.std.proofs.Common.{◌*◌}
use Rattle.gm_active.specs.Bits.{NoneBetween}
use Rattle.gm_active.specs.Words.{has_mark}
use Rattle.gm_active.proofs.bit_set.BitSet.least.Given as goal

abbrev pub invariant-loop-at : goal.invariant-loop-at
invariant-loop-at l = NoneBetween (has_mark l.self-inside.words.items) l.from (64 * l.at)
