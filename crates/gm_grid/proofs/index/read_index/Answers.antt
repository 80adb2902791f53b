use Rattle.std.proofs.Common.{rules, length, ap, arith}
use Rattle.std.proofs.lemmas.List.{length-map}
use Rattle.byteorder.specs.Endian.{little_number}
use Rattle.gm_grid.proofs.index.read_index.Goals as goal

pub invariant_of-result : goal.invariant_of-result
invariant_of-result c = (
  search rules,
  search rules,
  omega (arith, ap length c.in_ok-counts.ensures, length-map c.as_chunks.result.0.now (little_number 8)),
)
