use Rattle.std.proofs.Common.{◌∙◌}
use Rattle.gm_versions.specs.Kept.{history_in}
use Rattle.gm_versions.proofs.Noting.{batch_walked, kept-then}
use Rattle.gm_versions.proofs.histories.Histories.note_all.Goals as goal

pub loop-change-preserved : goal.loop-change-preserved
loop-change-preserved c =
    record {
      noted = λ q within.
          batch_walked c.args.cat.now q c.args.number c.loop-change.change-index c.args.batch.now _ _ (history_in c.loop-change.self q) (history_in c.note_change.new.self q)
          c.loop-change-test.true (c.in_ok-note_change.ensures.ok.each q within) (c.loop-change.invariant.noted q within);
      beyond = λ q past. c.in_ok-note_change.ensures.ok.beyond q past ∙ c.loop-change.invariant.beyond q past;
      kept = kept-then c.args.number c.args.self.now c.loop-change.self c.note_change.new.self c.loop-change.invariant.kept c.note_change.ensures.kept;
    }

pub returns-in_err-note_change-clause-kept : goal.returns-in_err-note_change-clause-kept
returns-in_err-note_change-clause-kept c =
    kept-then c.args.number c.args.self.now c.loop-change.self c.note_change.new.self c.loop-change.invariant.kept c.note_change.ensures.kept
