use Rattle.std.proofs.Common.{arith}
use Rattle.gm_grid.proofs.GridReadings.{reads-IsGrid}
use Rattle.gm_grid.proofs.laws.grid_reads_back.Goals as goal

pub returns-clause-shape : goal.returns-clause-shape
returns-clause-shape c bytes n parts blocks grid = (reads-IsGrid bytes n parts blocks grid).shape

pub returns-clause-counts : goal.returns-clause-counts
returns-clause-counts c bytes n parts blocks grid = (reads-IsGrid bytes n parts blocks grid).counts

pub returns-clause-edges : goal.returns-clause-edges
returns-clause-edges c bytes n parts blocks grid = (reads-IsGrid bytes n parts blocks grid).edges

pub returns-clause-size : goal.returns-clause-size
returns-clause-size c bytes n parts blocks grid = let reads = reads-IsGrid bytes n parts blocks grid in omega (arith, grid.count, reads.size)
