use Rattle.std.proofs.Common.{◌≡◌, true, ap, ◌∙◌}
use Rattle.gm_work.specs.JobStates.{counts_degrees}
use Rattle.gm_work.proofs.Passing.{joined-each}
use Rattle.gm_work.proofs.passes.join_gifts.Goals as goal

pub returns-in-Bfs : goal.returns-in-Bfs
returns-in-Bfs c = joined-each c.args.spec _ _ _ _ _ _ _ c.in-Bfs.is (c.pass_edges.ensures.length ∙ c.requires.sums) c.pass_edges.ensures.joined

pub returns-in-Sssp : goal.returns-in-Sssp
returns-in-Sssp c = joined-each c.args.spec _ _ _ _ _ _ _ c.in-Sssp.is (c.pass_edges-in-Sssp.ensures.length ∙ c.requires.sums) c.pass_edges-in-Sssp.ensures.joined

pub returns-in-Wcc : goal.returns-in-Wcc
returns-in-Wcc c = joined-each c.args.spec _ _ _ _ _ _ _ c.in-Wcc.is (c.pass_edges-in-Wcc.ensures.length ∙ c.requires.sums) c.pass_edges-in-Wcc.ensures.joined

pub returns-in-Rank : goal.returns-in-Rank
returns-in-Rank c =
    let counts : counts_degrees c.args.spec ≡ true = ap counts_degrees c.in-Rank.is in
    joined-each c.args.spec _ _ _ _ _ _ _ c.in-Rank.is (c.pass_shares.ensures.length ∙ c.requires.sums)
    (c.pass_shares.ensures.joined _ c.args.values.now (c.requires.shares counts).1)
