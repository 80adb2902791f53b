use Rattle.std.proofs.Common.{List, sym, ◌∙◌, arith}
use Rattle.std.specs.Prelude.{slice_index}
use Rattle.std.proofs.lemmas.List.{at_drop_all}
use Rattle.gm_base.specs.declared.edge.Edge.{Edge}
use Rattle.gm_kernel.specs.Runs.{joined_at}
use Rattle.gm_rank.proofs.ShareLemmas.{sharing, joined_shares}
use Rattle.gm_rank.proofs.passes.pass_shares.Goals as goal

pub returns-clause-joined : goal.returns-clause-joined
returns-clause-joined c degree_of values are v =
    let edges = c.args.edges.now in
    let shares = c.args.shares.now in
    let sums = λ (left : List Edge). joined_at sharing (λ _. 0) shares left v (slice_index c.loop-e.sums v) in
    sym (at_drop_all sums edges c.loop-e.e-index (omega arith)) ∙ c.loop-e.invariant v
    ∙ joined_shares degree_of values shares edges v (slice_index c.args.sums.now v) are
