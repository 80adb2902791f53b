use Rattle.std.proofs.Common.{◌≡◌, ℕ, Some, false, map, nat_cmp, sym, ap, ◌∙◌, arith}
use Rattle.std.proofs.lemmas.Grind.{common_steps}
use Rattle.std.proofs.lemmas.List.{length-map}
use Rattle.std.specs.BTreeMap.{get, is_at}
use Rattle.gm_versions.specs.declared.history.AddedSource.{AddedSource}
use Rattle.gm_versions.proofs.HistorySteps.{has-others, has-new, has-known}
use Rattle.gm_versions.proofs.history.keep_place.Goals as goal

source : AddedSource → ℕ
source a = a.source

is_at_other : (u source : ℕ) → (u ≡ source → ⊥) → is_at (nat_cmp u) source ≡ false
is_at_other u source apart = grind (arith, common_steps)

pub returns-in_ok-insert-clause-before : goal.returns-in_ok-insert-clause-before
unfolding source
returns-in_ok-insert-clause-before c =
    has-others (map source c.args.added.now) (get nat_cmp c.args.first_places.now) (get nat_cmp c.insert.new.self) c.args.source c.requires
    (sym c.is_added.ensures ∙ c.if-not-is_added.true) (λ s apart. c.in_ok-insert.ensures.updates.2 s (is_at_other c.args.source s (λ same. apart (sym same))))

pub returns-in_ok-insert-clause-after : goal.returns-in_ok-insert-clause-after
unfolding source
returns-in_ok-insert-clause-after c =
    has-new (map source c.args.added.now) (get nat_cmp c.insert.new.self) c.args.source (returns-in_ok-insert-clause-before c)
    (c.in_ok-insert.ensures.updates.1 ∙ ap Some (sym (length-map c.args.added.now source)))

pub returns-else-not-is_added-clause-after : goal.returns-else-not-is_added-clause-after
unfolding source
returns-else-not-is_added-clause-after c =
    has-known (map source c.args.added.now) (get nat_cmp c.args.first_places.now) c.args.source c.requires (sym c.is_added.ensures ∙ c.if-not-is_added.false)
