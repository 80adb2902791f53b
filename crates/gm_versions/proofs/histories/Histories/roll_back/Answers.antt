use Rattle.std.proofs.Common.{◌∙◌}
use Rattle.gm_versions.proofs.Noting.{logged-forgotten, before-forgotten}
use Rattle.gm_versions.proofs.histories.Histories.roll_back.Goals as goal

pub loop-chunk-preserved : goal.loop-chunk-preserved
loop-chunk-preserved c = record {
  before = λ q.
      before-forgotten c.args.version c.in-Some.chunk c.loop-chunk.self c.roll_back_at.new.self c.roll_back_at.ensures.at q
      ∙ c.loop-chunk.invariant.before q;
  logged = λ logged.
      logged-forgotten c.args.version c.in-Some.chunk c.pop.new.self.items c.loop-chunk.self c.roll_back_at.new.self c.in-Some.ensures.items c.roll_back_at.ensures.undo_log
      c.roll_back_at.ensures.at (c.loop-chunk.invariant.logged logged);
}
