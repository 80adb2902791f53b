use Rattle.std.proofs.Common.{rules}
use Rattle.gm_outside.specs.Changes.{with_file, with_appended}
use Rattle.gm_fakes.proofs.drift_depot.DriftDepotDepot.TheImpl.Goals as goal

pub create-tells : goal.create-tells
unfolding with_file
create-tells x c = search rules

pub append-tells : goal.append-tells
unfolding with_appended
append-tells x c = search rules
