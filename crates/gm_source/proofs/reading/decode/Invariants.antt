use Rattle.std.proofs.Common.{map}
use Rattle.gm_grid.specs.Format.{is_within}
use Rattle.gm_grid.specs.GridBytes.{edge_of_bytes}
use Rattle.gm_source.proofs.Decoding.{DecodesUpTo}
use Rattle.gm_source.proofs.reading.decode.Given as goal

abbrev pub invariant-loop-bytes : goal.invariant-loop-bytes
invariant-loop-bytes l = DecodesUpTo (is_within l.ranges) (map edge_of_bytes l.bytes) l.edges.items l.bytes-index
