use Rattle.std.proofs.Common.{arith}
use Rattle.std.proofs.lemmas.Result.{err_from_is_err_and}
use Rattle.gm_edges.proofs.RefusedReaders.{refused_at}
use Rattle.gm_edges.proofs.scanner.Scanner.read.Goals as goal

-- the line that ends here is refused, and so is the piece
pub returns-in_err-add_line : goal.returns-in_err-add_line
returns-in_err-add_line c =
    let answer = err_from_is_err_and c.from_residual.result c.from_residual.ensures.1 in
    rw (answer.1, answer.2, ← c.loop-byte.invariant)
    (refused_at c.in_err-add_line.field-0.0 _ _ c.loop-byte.byte-index (omega arith) c.if-byte-eq10.true (rw c.meaning.ensures at c.in_err-add_line.ensures))
