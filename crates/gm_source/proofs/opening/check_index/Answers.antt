use Rattle.gm_grid.specs.GridBytes.{counts_of_index}
use Rattle.gm_source.proofs.Heads.{refused_index}
use Rattle.gm_source.proofs.opening.check_index.Goals as goal

pub returns-in-Err-clause-refused : goal.returns-in-Err-clause-refused
returns-in-Err-clause-refused c =
    refused_index c.args.size (counts_of_index c.args.bytes.now) c.read_index.result c.in-Err.error c.in-Err.is c.read_index.ensures.refused
