use Rattle.std.proofs.Common.{refl}
use Rattle.gm_top.proofs.here.run_here.Goals as goal

pub returns : goal.returns
returns c = record { call = _; keeps = c.program-depot.ensures; status_is = refl }
