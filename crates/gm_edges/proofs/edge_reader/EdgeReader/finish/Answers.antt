use Rattle.std.proofs.Common.{rules, ◌≡◌, Ok, Err}
use Rattle.std.proofs.lemmas.Result.{err_from_is_err_and, IfOk-weaker}
use Rattle.gm_edges.specs.EdgeErrors.{IsUnlessMemory}
use Rattle.gm_edges.specs.ReaderStates.{edges_at_end}
use Rattle.gm_edges.proofs.ListedGraphs.{IsListed}
use Rattle.gm_edges.proofs.ReaderAnswers.{reads_refusal, reads_all, listed_answer}
use Rattle.gm_edges.proofs.edge_reader.EdgeReader.finish.Goals as goal

pub returns-in_err-self-clause-answer : goal.returns-in_err-self-clause-answer
returns-in_err-self-clause-answer c n text read =
    let refused : c.args.self ≡ Err c.in_err-self.field-0.0 = cc in
    let answer = err_from_is_err_and c.from_residual.result c.from_residual.ensures.1 in
    rw (answer.1, answer.2) (reads_refusal n text c.in_err-self.field-0.0 (rw refused at read))

pub returns-clause-answer : goal.returns-clause-answer
returns-clause-answer c n text read =
    let began : c.args.self ≡ Ok c.in_ok-self.field-0 = cc in
    let answer : IsUnlessMemory c.finish.result (edges_at_end c.in_ok-self.field-0) = search rules in
    reads_all n text c.in_ok-self.field-0 c.finish.result (rw began at read) answer

pub returns-clause-graph : goal.returns-clause-graph
returns-clause-graph c n text read =
    IfOk-weaker c.finish.result _ _ (λ edges (listed : IsListed n edges). listed.graph)
    (listed_answer n text c.finish.result (returns-clause-answer c n text read))

pub returns-clause-few : goal.returns-clause-few
returns-clause-few c n text read =
    IfOk-weaker c.finish.result _ _ (λ edges (listed : IsListed n edges). listed.few)
    (listed_answer n text c.finish.result (returns-clause-answer c n text read))
