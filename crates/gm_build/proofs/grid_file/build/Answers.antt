use Rattle.std.proofs.Common.{rules, ◌≡◌, [], Err, sym, ◌∙◌}
use Rattle.gm_build.proofs.Made.{there_now}
use Rattle.gm_build.proofs.grid_file.build.Goals as goal

pub returns-in_err-append-clause-calm : goal.returns-in_err-append-clause-calm
returns-in_err-append-clause-calm g c calm failed =
    let same : c.from_residual-in_err-append.result ≡ Err c.in_err-append.field-0.0 = search rules in
    there_now (g.D.Depot.state c.args.depot.now).files (g.D.Depot.state c.create.new.self).files c.args.name.now [] _ c.in_ok-create.ensures.ok
    (g.met.D.Depot.calm_tells c.args.depot.now calm)
    (c.in_err-append.ensures.calm (c.in_ok-create.ensures.frame.calm ∙ calm)) (sym same ∙ failed)

pub returns-clause-graph : goal.returns-clause-graph
returns-clause-graph g c = rw c.as_slice.ensures at c.in_ok-file.ensures.graph
