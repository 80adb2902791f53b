use Rattle.std.proofs.Common.{◌≡◌, ℕ, ◌/◌, ◌%◌, ◌<◌, Bool, List, eqb, length, get_or, sym, ap, ◌∙◌}
use Rattle.std.specs.Int.{bit_at}
use Rattle.std.proofs.lemmas.List.{get_or_default}
use Rattle.gm_active.specs.Bits.{is_in}
use Rattle.gm_active.specs.Words.{has_mark, marks_of, AreWords}
use Rattle.gm_active.proofs.Marks.{mark_below, slot_within, marks_at}
use Rattle.gm_active.proofs.bit_set.BitSet.has.Goals as goal

value : (n v word : ℕ) (words : List ℕ) (marks : List Bool) → AreWords n words → marks_of n words ≡ marks → v / 64 < length words
    → word ≡ get_or words (v / 64) word → eqb (bit_at word (v % 64)) 1 ≡ is_in marks v
unfolding has_mark
value n v word words marks are view within is =
    ap (λ (w : ℕ). eqb (bit_at w (v % 64)) 1) (is ∙ get_or_default words (v / 64) word 0 within) ∙ sym (marks_at n words v are) ∙ ap (λ (xs : List Bool). is_in xs v) view

pub index-requires : goal.index-requires
index-requires c =
    let inside = c.self.inside in
    rw inside.words.ok.0 (slot_within inside.limit c.args.number inside.words.items c.self.invariant (mark_below inside.limit c.args.number inside.words.items c.args.self.now c.self.view_is c.requires))

pub returns : goal.returns
returns c =
    let inside = c.self.inside in
    let within = slot_within inside.limit c.args.number inside.words.items c.self.invariant (mark_below inside.limit c.args.number inside.words.items c.args.self.now c.self.view_is c.requires) in
    c.has_bit.ensures ∙ value inside.limit c.args.number c.index.result.now inside.words.items c.args.self.now c.self.invariant c.self.view_is within c.index.ensures
