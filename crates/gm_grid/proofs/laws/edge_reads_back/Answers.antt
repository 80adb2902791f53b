use Rattle.gm_grid.proofs.GridReadings.{edge_of_bytes-edge_bytes}
use Rattle.gm_grid.proofs.laws.edge_reads_back.Goals as goal

pub returns : goal.returns
returns c e from to weight = edge_of_bytes-edge_bytes e (from, to, weight)
