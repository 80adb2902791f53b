use Rattle.gm_grid.proofs.GridReadings.{AreBytes-from_All, grid_refusal-IsGrid, IsGrid-from_chunked}
use Rattle.gm_grid.proofs.laws.refused_where_no_grid.Goals as goal

pub returns-clause-accepted : goal.returns-clause-accepted
returns-clause-accepted c chunk_size bytes all none = IsGrid-from_chunked chunk_size bytes (AreBytes-from_All bytes all) none

pub returns-clause-grid : goal.returns-clause-grid
returns-clause-grid c = grid_refusal-IsGrid
