use Rattle.std.specs.Prelude.{List}
use Rattle.std.proofs.Common.{ap, ◌∙◌, subst}
use Rattle.gm_base.specs.declared.job.JobLine.{JobLine}
use Rattle.gm_outside.specs.Growth.{GrewBy}
use Rattle.gm_report.specs.Report.{report_text}
use Rattle.gm_top.specs.RunReports.{status_after}
use Rattle.std.specs.Prelude.{Err}
use Rattle.gm_outside.specs.Frames.{Writes}
use Rattle.gm_words.specs.Commands.{run_said}
use Rattle.gm_commands.specs.Endings.{outside}
use Rattle.gm_top.proofs.Counting.{reads_run-unwritten, reported_partly}
use Rattle.gm_top.proofs.run_call.run.Goals as goal

pub returns-in-Ok-clause-handles : goal.returns-in-Ok-clause-handles
returns-in-Ok-clause-handles g c = record {
  taken = c.in_ok-lines.ensures.taken;
  performs = record {
    report = record {
      lines = c.in_ok-lines.lines.items;
      reported = c.in_ok-lines.ensures.lines;
      written = subst (λ (lines : List JobLine). GrewBy (g.K.Sink.state c.args.out.now).written (g.K.Sink.state c.write.new.out).written (report_text lines)) c.deref.ensures.value c.in-Ok.ensures.ok;
    };
    status_is = c.status_after.ensures.value ∙ ap status_after c.deref-in-Ok.ensures.value;
  };
  asked = c.in_ok-lines.ensures.asked;
  served = (tt, c.in-Ok.ensures.causes.fault.kept (λ is. cc));
  cause = tt;
  leaves = tt;
}

pub returns-clause-handles : goal.returns-clause-handles
returns-clause-handles g c =
    let command = run_said c.args.command.now in
    let old = outside (g.D.Depot.state c.args.depot.now) (g.K.Sink.state c.args.out.now) in
    let new = outside (g.D.Depot.state c.compute.new.depot) (g.K.Sink.state c.write.new.out) in
    rw c.by.ensures (reported_partly command old new c.in_ok-lines.lines.items c.in-Err.trouble
    c.in_ok-lines.ensures.taken c.in_ok-lines.ensures.asked c.in_ok-lines.ensures.lines
    (subst (λ (lines : List JobLine). Writes {T = Unit {0}} (report_text lines) (g.K.Sink.state c.args.out.now) (g.K.Sink.state c.write.new.out) (Err c.in-Err.trouble)) c.deref.ensures.value c.in-Err.ensures))

pub returns-clause-reads : goal.returns-clause-reads
returns-clause-reads g c =
    rw c.by.ensures (reads_run-unwritten (run_said c.args.command.now) (g.D.Depot.state c.args.depot.now) (g.D.Depot.state c.compute.new.depot) c.in-Err.trouble c.in_ok-lines.ensures.reads)
