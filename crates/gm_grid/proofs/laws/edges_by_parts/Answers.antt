use Rattle.std.proofs.Common.{◌≡◌, ◌+◌, arith}
use Rattle.gm_grid.specs.GridBytesRules.{edges_in-part, edges_of_bytes-append, placed_edges-part}
use Rattle.gm_grid.proofs.laws.edges_by_parts.Goals as goal

pub returns-clause-part : goal.returns-clause-part
returns-clause-part c = edges_in-part

pub returns-clause-joined : goal.returns-clause-joined
returns-clause-joined c = edges_of_bytes-append

pub returns-clause-placed : goal.returns-clause-placed
returns-clause-placed c counts edges block place count whole within fits =
    let e : 0 + block ≡ block = omega arith in rw e at (placed_edges-part 0 counts edges block place count whole within fits)
