use Rattle.std.proofs.Common.{refl}
use Rattle.std.proofs.lemmas.Result.{err_from_is_err_and}
use Rattle.gm_jobs.specs.LineErrors.{reason_of}
use Rattle.gm_jobs.specs.Scripts.{names_of}
use Rattle.gm_jobs.proofs.Tallies.{tallied_job, name_refused}
use Rattle.gm_jobs.proofs.script_reader.ScriptReader.take_job.Goals as goal

pub returns-in_err-name-clause-answer : goal.returns-in_err-name-clause-answer
returns-in_err-name-clause-answer c =
    let above = c.args.self.now.lines.items in
    let error = err_from_is_err_and c.from_residual-in_err-name.result c.from_residual-in_err-name.ensures.1 in
    let refused = c.in_err-name.ensures.answer (names_of above) c.requires.tallied.names in
    rw (error.1, error.2)
    (name_refused c.args.n above c.args.words c.in_ok-next.field-0.now c.next.new.self (reason_of c.in_err-name.field-0.0) c.in_ok-next.ensures refused)

pub returns-clause-tallied : goal.returns-clause-tallied
returns-clause-tallied c =
    let has = c.in_ok-name.ensures.names (names_of c.args.self.now.lines.items) c.requires.tallied.names in
    tallied_job c.args.self.now _ c.in_ok-name.name c.in_ok-spec.spec (rw c.new-own.ensures at c.in_ok-push.ensures.items) has refl refl c.requires.tallied
