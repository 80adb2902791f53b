use Rattle.std.proofs.Common.{◌∙◌}
use Rattle.gm_label.proofs.Ranges.{next_places, next_firsts, next_edges}
use Rattle.gm_label.proofs.plan.cut_blocks.Goals as goal

pub loop-block-preserved : goal.loop-block-preserved
loop-block-preserved c =
    let counts = c.args.counts.now in
    record {
      places = next_places c.args.chunk_size c.loop-block.block c.loop-block.at counts _ _ _ c.loop-block-test.true c.in_ok-push_block.ensures c.loop-block.invariant.places;
      firsts = next_firsts c.args.chunk_size c.loop-block.block c.loop-block.at c.len.result counts c.loop-block.firsts.items c.push.new.self.items _
          c.loop-block.places.items c.push_block.new.places.items c.loop-block-test.true c.in_ok-push_block.ensures
          (c.len.ensures ∙ c.loop-block.places.ok.0) c.in_ok-push.ensures.items c.loop-block.invariant.firsts;
      edges = next_edges c.loop-block.block c.loop-block.at counts _ c.loop-block-test.true c.loop-block.invariant.edges;
    }
