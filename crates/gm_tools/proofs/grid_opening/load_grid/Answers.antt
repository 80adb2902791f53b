use Rattle.gm_tools.proofs.OpeningGrids.{not_opened}
use Rattle.gm_tools.proofs.grid_opening.load_grid.Goals as goal

pub returns-in-Err-clause-reads : goal.returns-in-Err-clause-reads
returns-in-Err-clause-reads g c =
    rw c.failure_of_opening.ensures
    (not_opened (g.D.Depot.state c.args.depot.now) (g.D.Depot.state c.open_grid.new.depot) c.args.name.now c.args.chunk_size c.in-Err.error
    c.in-Err.ensures.opens c.in-Err.ensures.file)
