use Rattle.std.proofs.Common.{◌≡◌, ℕ, ◌+◌, ◌*◌, ◌≤◌, List, Bool, length, get_or, sym, subst, ap, ◌∙◌, arith}
use Rattle.std.specs.Int.RustNames.{count_ones}
use Rattle.gm_active.specs.Bits.{members_of}
use Rattle.gm_active.specs.Words.{marks_of, AreWords}
use Rattle.gm_active.proofs.Counting.{marked_below, marked_below_next_word, marked_below-le, marked_below_all, members_of_marks}
use Rattle.gm_active.proofs.bit_set.BitSet.count.Goals as goal

all_counted : (n m : ℕ) (words : List ℕ) (marks : List Bool) → AreWords n words → marks_of n words ≡ marks → length words ≤ m → marked_below words (64 * m) ≡ members_of marks
all_counted n m words marks are view all =
    marked_below_all n (64 * m) words are (let room = are.room in omega arith) ∙ sym (members_of_marks n words) ∙ ap members_of view

pub overflow_add-count : goal.overflow_add-count
overflow_add-count c =
    let words = c.deref-word-items.result.now in
    let next = marked_below_next_word words c.loop-word.word-index (c.type_inv.word-items c.loop-word.word-index).fits in
    let few : marked_below words (64 * (c.loop-word.word-index + 1)) ≤ c.self.inside.limit =
    marked_below-le c.self.inside.limit (64 * (c.loop-word.word-index + 1)) words (subst (λ (ws : List ℕ). AreWords c.self.inside.limit ws) (sym c.deref-word-items.ensures.value) c.self.invariant) in
    let limit = c.self.invariant.few in
    let so_far = c.loop-word.invariant in
    record { fits = omega arith }

pub loop-word-preserved : goal.loop-word-preserved
loop-word-preserved c =
    let words = c.deref-word-items.result.now in
    ap (λ (n : ℕ). n + count_ones (get_or words c.loop-word.word-index 0)) c.loop-word.invariant
    ∙ sym (marked_below_next_word words c.loop-word.word-index (c.type_inv.word-items c.loop-word.word-index).fits)

pub returns : goal.returns
returns c =
    let words = c.self.inside.words.items in
    let read = c.deref-word-items.ensures.value in
    c.loop-word.invariant ∙ ap (λ (ws : List ℕ). marked_below ws (64 * c.loop-word.word-index)) read
    ∙ all_counted c.self.inside.limit c.loop-word.word-index words c.args.self.now c.self.invariant c.self.view_is (subst (λ (ws : List ℕ). length ws ≤ c.loop-word.word-index) read c.loop-word-test.false)
