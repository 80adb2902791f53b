use Rattle.std.proofs.Common.{◌≤◌, length, take}
use Rattle.gm_outside.specs.Growth.{GrewBy}
use Rattle.gm_outside.proofs.writing.write_piece.Given as goal

abbrev pub invariant-loop : goal.invariant-loop
invariant-loop g l = record {
  within : l.at ≤ length l.piece;
  grew : GrewBy (g.W.Write.contents l.initial.writer) (g.W.Write.contents l.writer) (take l.at l.piece);
}
