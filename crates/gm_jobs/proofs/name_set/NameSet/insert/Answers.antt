use Rattle.gm_jobs.proofs.TakenNames.{one_name_more}
use Rattle.gm_jobs.proofs.name_set.NameSet.insert.Goals as goal

pub returns-clause-names : goal.returns-clause-names
returns-clause-names c names has = one_name_more names c.args.name c.args.self.now (record { names = c.insert.new.self }) has c.in_ok-added.ensures.updates
