use Rattle.std.proofs.Common.{◌≡◌, ℕ, ◌<◌, List, ◌++◌, ◌+◌, ◌∙◌, length, ap, sym, drop, get_or, arith, drop-cons, add-one, refl, Err}
use Rattle.std.specs.Result.{result_err}
use Rattle.std.proofs.lemmas.List.{drop_all}
use Rattle.std.proofs.lemmas.Result.{err_from_is_err_and}
use Rattle.gm_report.specs.Report.{value_line, value_lines}
use Rattle.gm_output.specs.PiecesRules.{fed-none, fed-more, fed-refused, fed-all}
use Rattle.gm_report.proofs.report.push_values.Goals as goal

-- the next line, and those behind it
value_lines-next : (values : List ℕ) (i : ℕ) (line : List ℕ) → i < length values → line ≡ value_line (i, get_or values i 0)
    → value_lines i (drop i values) ≡ line ++ value_lines (i + 1) (drop (i + 1) values)
value_lines-next values i line h is =
    ap (value_lines i) (drop-cons values i 0 h)
    ∙ ap (λ (rest : List ℕ). value_line (i, get_or values i 0) ++ value_lines (i + 1) rest) (ap (λ k. drop k values) (sym (add-one i)))
    ∙ ap (λ (front : List ℕ). front ++ value_lines (i + 1) (drop (i + 1) values)) (sym is)

pub loop-vertex-init : goal.loop-vertex-init
loop-vertex-init g c = fed-none _ _ _

pub loop-vertex-preserved : goal.loop-vertex-preserved
loop-vertex-preserved g c =
    fed-more _ _ _ _ _ _ _ _ _ _ _
    (value_lines-next c.args.values.now c.loop-vertex.vertex c.as_slice.result.now (omega arith) (c.as_slice.ensures ∙ c.value_line-line.ensures.text))
    c.loop-vertex.invariant c.in_ok-push.ensures.fed

pub returns-in_err-push : goal.returns-in_err-push
returns-in_err-push g c =
    let p = err_from_is_err_and c.from_residual.result c.from_residual.ensures.1 in
    fed-refused _ _ _ _ _ _ _ _ _ _ _ (Err _) _ refl (ap result_err (p.1 ∙ ap Err p.2))
    (value_lines-next c.args.values.now c.loop-vertex.vertex c.as_slice.result.now (omega arith) (c.as_slice.ensures ∙ c.value_line-line.ensures.text))
    c.loop-vertex.invariant c.in_err-push.ensures.fed

pub returns : goal.returns
returns g c =
    fed-all _ _ _ _ _ _ (ap (value_lines c.loop-vertex.vertex) (drop_all c.loop-vertex.vertex c.args.values.now (omega arith))) c.loop-vertex.invariant
