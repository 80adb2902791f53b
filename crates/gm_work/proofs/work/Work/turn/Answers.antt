use Rattle.std.proofs.Common.{◌≡◌, ◌<◌, false, ap, sym, ◌∙◌, arith}
use Rattle.std.proofs.lemmas.Bool.{not-true}
use Rattle.gm_kernel.specs.Runs.{most_rounds}
use Rattle.gm_work.specs.JobStates.{JobContext, owes_any, phase_end_of}
use Rattle.gm_work.specs.HeldJobs.{context_in}
use Rattle.gm_work.specs.Stored.{round_of_phase}
use Rattle.gm_work.specs.ViewsRules.{same_job-then}
use Rattle.gm_work.proofs.Turning.{context_in-same, turning_of-goes}
use Rattle.gm_work.proofs.work.Work.turn.Goals as goal

pub loop-self-preserved : goal.loop-self-preserved
loop-self-preserved c =
    let begun = c.args.self.now in
    let now = c.loop-self.self in
    let kept = c.loop-self.invariant in
    let ended = c.end_phase.ensures in
    let same = context_in-same begun now kept.job in
    let none : owes_any now.state.owed ≡ false = not-true _ (sym c.owes_none.ensures ∙ c.loop-self-test.true) in
    let within : round_of_phase now.state.phase < most_rounds begun.spec =
    let some = ended.some_round in let rounds = ap most_rounds kept.job.spec in omega arith in
    record {
      job = same_job-then begun now c.end_phase.new.self kept.job ended.job;
      so_far = kept.so_far
          ∙ turning_of-goes (context_in begun) now.state c.end_phase.new.self.state none within
          (ap (λ (k : JobContext). phase_end_of k now.state) (sym same) ∙ c.in-Owes.ensures.ended);
    }
