use Rattle.gm_words.specs.Commands.{build_said}
use Rattle.gm_commands.specs.Endings.{outside}
use Rattle.gm_tools.specs.ToolsRules.{build-keeps_others}
use Rattle.gm_top.proofs.top_call.perform.Goals as goal

pub returns-in-Run-clause-handles : goal.returns-in-Run-clause-handles
returns-in-Run-clause-handles g c = rw c.in-Run.is c.run.ensures.handles

pub returns-in-Run-clause-reads : goal.returns-in-Run-clause-reads
returns-in-Run-clause-reads g c = rw c.in-Run.is c.run.ensures.reads

pub returns-in-Info-clause-handles : goal.returns-in-Info-clause-handles
returns-in-Info-clause-handles g c = rw c.in-Info.is c.run_info.ensures.handles

pub returns-in-Info-clause-reads : goal.returns-in-Info-clause-reads
returns-in-Info-clause-reads g c = rw c.in-Info.is c.run_info.ensures.reads

pub returns-in-Build-clause-reads : goal.returns-in-Build-clause-reads
returns-in-Build-clause-reads g c =
    rw c.in-Build.is c.run_build.ensures.reads

pub returns-in-Build-clause-files : goal.returns-in-Build-clause-files
returns-in-Build-clause-files g c =
    rw c.in-Build.is (build-keeps_others (build_said c.in-Build.command)
    (outside (g.D.Depot.state c.args.depot.now) (g.K.Sink.state c.args.out.now))
    (outside (g.D.Depot.state c.run_build.new.depot) (g.K.Sink.state c.run_build.new.out)) c.run_build.result c.run_build.ensures.handles)
