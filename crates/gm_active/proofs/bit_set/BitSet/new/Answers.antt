use Rattle.std.proofs.Common.{◌≡◌, ℕ, ◌+◌, ◌*◌, ◌/◌, ◌%◌, ◌≤◌, min, List, replicate, sym, subst, ap, ◌∙◌, arith}
use Rattle.gm_active.specs.Words.{marks_of, AreWords}
use Rattle.gm_active.proofs.Marks.{none_are_words, marks_of_none}
use Rattle.gm_active.proofs.bit_set.BitSet.new.Goals as goal

room : (n : ℕ) → n ≤ 64 * (n / 64 + min 1 (n % 64))
room n = omega arith

pub invariant_of-result : goal.invariant_of-result
invariant_of-result c =
    let all : c.in_ok-words.words.items ≡ replicate c.div_ceil.result 0 = c.in_ok-words.ensures.items_if_clones_equal (λ y same. same) in
    subst (λ (words : List ℕ). AreWords c.args.limit words) (sym all) (none_are_words c.args.limit c.div_ceil.result c.ranges.limit.fits (rw c.div_ceil.ensures (room c.args.limit)))

pub returns : goal.returns
returns c =
    let all : c.in_ok-words.words.items ≡ replicate c.div_ceil.result 0 = c.in_ok-words.ensures.items_if_clones_equal (λ y same. same) in
    ap (marks_of c.args.limit) all ∙ marks_of_none c.args.limit c.div_ceil.result
