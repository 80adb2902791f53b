use Rattle.std.proofs.Common.{◌≡◌, ℕ, ◌<◌, List, ◌++◌, ◌+◌, ◌∙◌, length, ap, sym, refl, drop, get_or, arith, drop-cons, add-one, Err}
use Rattle.std.specs.Borrow.{Bor}
use Rattle.std.specs.Result.{result_err}
use Rattle.std.proofs.lemmas.List.{drop_all}
use Rattle.std.proofs.lemmas.Result.{err_from_is_err_and}
use Rattle.gm_output.specs.Pieces.{texts_of}
use Rattle.gm_output.specs.PiecesRules.{fed-more, fed-refused, fed-all}
use Rattle.gm_output.proofs.pieces.Pieces.push_texts.Goals as goal

-- the next text, and those behind it
texts-next : (texts : List (Bor (List ℕ))) (i : ℕ) (text : Bor (List ℕ)) → i < length texts
    → texts_of (drop i texts) ≡ (get_or texts i text).now ++ texts_of (drop (i + 1) texts)
texts-next texts i text h =
    ap texts_of (drop-cons texts i text h)
    ∙ ap (λ (rest : List (Bor (List ℕ))). (get_or texts i text).now ++ texts_of rest) (ap (λ k. drop k texts) (sym (add-one i)))

pub loop-text-preserved : goal.loop-text-preserved
loop-text-preserved g c =
    fed-more _ _ _ _ _ _ _ _ _ _ _ (texts-next c.args.texts.now c.loop-text.text-index _ (omega arith)) c.loop-text.invariant c.in_ok-push_all.ensures.fed

pub returns-in_err-push_all : goal.returns-in_err-push_all
returns-in_err-push_all g c =
    let p = err_from_is_err_and c.from_residual.result c.from_residual.ensures.1 in
    fed-refused _ _ _ _ _ _ _ _ _ _ _ (Err _) _ refl (ap result_err (p.1 ∙ ap Err p.2))
    (texts-next c.args.texts.now c.loop-text.text-index _ (omega arith)) c.loop-text.invariant c.in_err-push_all.ensures.fed

pub returns : goal.returns
returns g c = fed-all _ _ _ _ _ _ (ap texts_of (drop_all c.loop-text.text-index c.args.texts.now (omega arith))) c.loop-text.invariant
