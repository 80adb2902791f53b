use Rattle.std.proofs.Common.{refl}
use Rattle.gm_jobs.proofs.Tallies.{tallied_wait}
use Rattle.gm_jobs.proofs.script_reader.ScriptReader.take_wait.Goals as goal

pub returns-clause-tallied : goal.returns-clause-tallied
returns-clause-tallied c = tallied_wait c.args.self.now _ c.in_ok-visits.visits c.in_ok-push.ensures.items refl refl refl c.requires.tallied
