use Rattle.std.proofs.Common.{◌≡◌, ℕ, false, List, Bool, length, replicate, sym, subst, ap, ◌∙◌}
use Rattle.std.proofs.lemmas.List.{with_items_is}
use Rattle.std.specs.Vec.{with_items}
use Rattle.gm_active.specs.Words.{marks_of, AreWords}
use Rattle.gm_active.proofs.Marks.{length-marks_of, none_are_words, marks_of_none}
use Rattle.gm_active.proofs.bit_set.BitSet.clear.Goals as goal

all_zero : (c : goal.After-self-1) → (with_items c.self.inside.words c.fill.new.self).items ≡ replicate (length c.self.inside.words.items) 0
all_zero c =
    let words = c.self.inside.words in
    let filled : c.fill.new.self ≡ replicate (length words.items) 0 = c.fill.ensures.after (λ y same. same) ∙ ap (λ (ws : List ℕ). replicate (length ws) 0) c.as_mut_slice.ensures.value in
    with_items_is words c.fill.new.self (c.fill.ensures.len ∙ ap (λ (ws : List ℕ). length ws) c.as_mut_slice.ensures.value ∙ sym words.ok.0) ∙ filled

pub invariant_of-self : goal.invariant_of-self
invariant_of-self c =
    subst (λ (words : List ℕ). AreWords c.self.inside.limit words) (sym (all_zero c)) (none_are_words c.self.inside.limit (length c.self.inside.words.items) c.self.invariant.few c.self.invariant.room)

pub returns : goal.returns
returns c =
    ap (marks_of c.self.inside.limit) (all_zero c) ∙ marks_of_none c.self.inside.limit (length c.self.inside.words.items)
    ∙ ap (λ (n : ℕ). replicate n false) (sym (length-marks_of c.self.inside.limit c.self.inside.words.items) ∙ ap (λ (marks : List Bool). length marks) c.self.view_is)
