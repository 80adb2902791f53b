use Rattle.std.proofs.Common.{rules}
use Rattle.gm_grid.proofs.FieldBytes.{edge_bytes-edge_of_bytes}
use Rattle.gm_grid.proofs.fields.read_edge.Goals as goal

pub returns-clause-bytes : goal.returns-clause-bytes
returns-clause-bytes c = edge_bytes-edge_of_bytes _ c.args.bytes.now c.told-bytes c.fits-bytes (search rules)
