use Rattle.std.proofs.Common.{◌≡◌, true, false, List, [], ◌∷◌, ◌++◌, sym, ap, subst, ◌∙◌}
use Rattle.gm_changes.specs.declared.change.Change.{Change}
use Rattle.gm_changes.specs.declared.change.Change.TheVariants.{Cut}
use Rattle.gm_changes.specs.Concerns.{lists, sources_after_one}
use Rattle.gm_changes.specs.Sources.{listed_changes, TellsSources}
use Rattle.gm_changes.proofs.Noting.{asked_for, taken_next, left_next}
use Rattle.gm_changes.proofs.concerning.keep_if_listed.Goals as goal

pub returns-in_ok-push-in-Add-clause-told : goal.returns-in_ok-push-in-Add-clause-told
returns-in_ok-push-in-Add-clause-told c changes sources tells =
    subst (λ (change : Change). TellsSources changes (sources_after_one change sources) c.add.new.self) (sym c.in-Add.is) (c.add.ensures changes sources tells)

pub returns-in_ok-push-in-Cut-clause-kept : goal.returns-in_ok-push-in-Cut-clause-kept
returns-in_ok-push-in-Cut-clause-kept c changes rest place sources tells is =
    let from = c.in-Cut.from in
    let to = c.in-Cut.to in
    let kept = c.args.kept.now in
    let new = c.push-then-has.new.self in
    let asked = asked_for changes rest place from to (is ∙ ap (λ (change : Change). change ∷ rest) c.in-Cut.is) in
    let listed : lists sources from ≡ true = sym (c.has.ensures changes sources tells asked) ∙ c.if-has.true in
    let pushed : new ≡ kept ++ Cut from to ∷ [] = c.in_ok-push-in-Cut.ensures.ok ∙ ap (λ (change : Change). kept ++ change ∷ []) c.in-Cut.is in
    subst (λ (change : Change). new ++ listed_changes (sources_after_one change sources) rest ≡ kept ++ listed_changes sources (change ∷ rest)) (sym c.in-Cut.is)
    (ap (λ (list : List Change). list ++ listed_changes sources rest) pushed ∙ taken_next sources from to kept rest listed)

pub returns-else-has-clause-kept : goal.returns-else-has-clause-kept
returns-else-has-clause-kept c changes rest place sources tells is =
    let from = c.in-Cut.from in
    let to = c.in-Cut.to in
    let kept = c.args.kept.now in
    let asked = asked_for changes rest place from to (is ∙ ap (λ (change : Change). change ∷ rest) c.in-Cut.is) in
    let unlisted : lists sources from ≡ false = sym (c.has.ensures changes sources tells asked) ∙ c.if-has.false in
    subst (λ (change : Change). kept ++ listed_changes (sources_after_one change sources) rest ≡ kept ++ listed_changes sources (change ∷ rest)) (sym c.in-Cut.is)
    (left_next sources from to kept rest unlisted)
