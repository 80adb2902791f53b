use Rattle.gm_jobs.proofs.Entries.{below_job, below_update}
use Rattle.gm_jobs.proofs.script_reader.ScriptReader.take_words.Goals as goal

pub take_change-requires-clause-place : goal.take_change-requires-clause-place
take_change-requires-clause-place c = below_job c.args.self.now.lines.items (rw c.in-Mutate.is at c.requires.place)

pub take_change-requires-in-Add-clause-place : goal.take_change-requires-in-Add-clause-place
take_change-requires-in-Add-clause-place c = below_update c.args.self.now.lines.items (rw c.in-Add.is at c.requires.place)

pub take_change-requires-in-Del-clause-place : goal.take_change-requires-in-Del-clause-place
take_change-requires-in-Del-clause-place c = below_update c.args.self.now.lines.items (rw c.in-Del.is at c.requires.place)
