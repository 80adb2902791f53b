use Rattle.std.proofs.Common.{refl}
use Rattle.gm_jobs.proofs.Tallies.{tallied_update}
use Rattle.gm_jobs.proofs.script_reader.ScriptReader.take_update.Goals as goal

pub returns-clause-tallied : goal.returns-clause-tallied
returns-clause-tallied c = tallied_update c.args.self.now _ (rw c.new-batch.ensures at c.in_ok-push.ensures.items) refl refl refl c.requires.tallied
