use Rattle.std.proofs.Common.{refl}
use Rattle.gm_jobs.proofs.Tallies.{tallied_change}
use Rattle.gm_jobs.proofs.script_reader.ScriptReader.take_change.Goals as goal

pub returns-clause-tallied : goal.returns-clause-tallied
returns-clause-tallied c = tallied_change c.args.self.now _ c.args.change c.requires.place c.in_ok-change_last.ensures refl refl refl c.requires.tallied
