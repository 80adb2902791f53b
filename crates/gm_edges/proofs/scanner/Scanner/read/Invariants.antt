use Rattle.std.proofs.Common.{◌≡◌, Ok, drop}
use Rattle.gm_edges.specs.ReaderStates.{after_bytes}
use Rattle.gm_edges.proofs.scanner.Scanner.read.Given as goal

-- the rest of the piece, read from here, leads where the whole piece does
abbrev pub invariant-loop-byte : goal.invariant-loop-byte
invariant-loop-byte l =
    after_bytes (Ok (record l.self { line = l.line })) (drop l.byte-index l.piece) ≡ after_bytes (Ok l.fn.self) l.piece
