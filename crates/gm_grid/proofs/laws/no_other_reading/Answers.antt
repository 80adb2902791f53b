use Rattle.gm_grid.proofs.GridReadings.{same_from_IsGrid}
use Rattle.gm_grid.proofs.laws.no_other_reading.Goals as goal

pub returns : goal.returns
returns c = same_from_IsGrid
