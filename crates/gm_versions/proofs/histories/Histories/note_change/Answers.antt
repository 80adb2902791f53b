use Rattle.std.proofs.Common.{◌≡◌, ◌<◌, false, length, eqb, ◌∙◌, arith}
use Rattle.std.proofs.lemmas.Bool.{cond-false, ne_eqb}
use Rattle.gm_versions.specs.Kept.{history_in}
use Rattle.gm_versions.specs.Histories.{with_change}
use Rattle.gm_versions.specs.WalksRules.{walked}
use Rattle.gm_versions.proofs.Noting.{kept-then}
use Rattle.gm_versions.proofs.histories.Histories.note_change.Goals as goal

pub returns-in_err-note_at-clause-kept : goal.returns-in_err-note_at-clause-kept
returns-in_err-note_at-clause-kept c =
    kept-then c.args.number c.args.self.now c.loop-chunk.self c.note_at.new.self c.loop-chunk.invariant.kept c.note_at.ensures.kept

pub loop-chunk-preserved : goal.loop-chunk-preserved
loop-chunk-preserved c =
    let reach = c.reach-reached.ensures.within in
    let within : c.loop-chunk.chunk < length c.args.cat.now.places = omega (arith, reach, c.loop-chunk-test.true) in
    record {
      noted = λ q here.
          walked (λ q h. with_change c.args.cat.now q c.args.number h c.args.change)
          (history_in c.args.self.now) (history_in c.loop-chunk.self) (history_in c.note_at.new.self)
          c.loop-chunk.chunk q (c.loop-chunk.invariant.noted q here) (c.in_ok-note_at.ensures.ok q);
      beyond = λ q past.
          let apart : eqb q c.loop-chunk.chunk ≡ false = ne_eqb q c.loop-chunk.chunk (λ same. omega arith) in
          c.in_ok-note_at.ensures.ok q ∙ cond-false (eqb q c.loop-chunk.chunk) _ _ apart ∙ c.loop-chunk.invariant.beyond q past;
      kept = kept-then c.args.number c.args.self.now c.loop-chunk.self c.note_at.new.self c.loop-chunk.invariant.kept c.note_at.ensures.kept;
    }
