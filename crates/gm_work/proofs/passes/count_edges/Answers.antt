use Rattle.std.proofs.Common.{◌+◌, min, get_or}
use Rattle.std.proofs.lemmas.List.FromFn.{fill_by_all}
use Rattle.gm_rank.specs.declared.passes.TheConstants.{MAX_DEGREE}
use Rattle.gm_base.specs.Graph.{out_degree}
use Rattle.gm_work.proofs.passes.count_edges.Goals as goal

pub returns : goal.returns
returns c =
    fill_by_all (λ u. min (get_or c.args.degrees.now u 0 + out_degree c.args.edges.now u) MAX_DEGREE) _ _ 0
    c.count_pass.ensures.length (λ u within. c.count_pass.ensures.counted u)
