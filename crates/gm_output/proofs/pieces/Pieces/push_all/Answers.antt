use Rattle.std.proofs.Common.{◌≡◌, List, ℕ, ◌++◌, ◌∙◌, sym, ap, refl, take, drop, Err}
use Rattle.std.specs.Result.{result_err}
use Rattle.std.proofs.lemmas.List.{take-append-drop}
use Rattle.std.proofs.lemmas.Result.{err_from_is_err_and}
use Rattle.gm_output.specs.declared.pieces.TheConstants.{PIECE}
use Rattle.gm_output.specs.PiecesRules.{fed-more, fed-refused, fed-last}
use Rattle.gm_output.proofs.pieces.Pieces.push_all.Goals as goal

-- a list that was split at this place
parts_of : (n : ℕ) (whole front back : List ℕ) → front ≡ take n whole → back ≡ drop n whole → whole ≡ front ++ back
parts_of n whole front back a b = sym (take-append-drop n whole) ∙ (λ i. sym a i ++ sym b i)

pub loop-rest-preserved : goal.loop-rest-preserved
loop-rest-preserved g c =
    fed-more _ _ _ _ _ _ _ _ _ _ _ (parts_of PIECE _ _ _ c.split_at.ensures.front c.split_at.ensures.back) c.loop-rest.invariant c.in_ok-push.ensures.fed

pub returns-in_err-push-clause-fed : goal.returns-in_err-push-clause-fed
returns-in_err-push-clause-fed g c =
    let p = err_from_is_err_and c.from_residual.result c.from_residual.ensures.1 in
    fed-refused _ _ _ _ _ _ _ _ _ _ _ (Err _) _ refl (ap result_err (p.1 ∙ ap Err p.2))
    (parts_of PIECE _ _ _ c.split_at.ensures.front c.split_at.ensures.back) c.loop-rest.invariant c.in_err-push.ensures.fed

pub returns-clause-fed : goal.returns-clause-fed
returns-clause-fed g c = fed-last _ _ _ _ _ _ _ _ _ c.loop-rest.invariant c.push-2.ensures.fed
