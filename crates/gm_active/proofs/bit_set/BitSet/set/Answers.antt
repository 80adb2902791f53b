use Rattle.std.proofs.Common.{◌≡◌, ◌≢◌, ℕ, ◌/◌, ◌%◌, ◌<◌, List, Bool, eqb, length, get_or, ap, ◌∙◌}
use Rattle.std.proofs.Math.ListN.{set}
use Rattle.std.proofs.lemmas.List.{get_or_default}
use Rattle.std.specs.Int.{bit_at}
use Rattle.gm_active.proofs.Marks.{IsWithBit, mark_below, slot_within, set_are_words, marks_after_set}
use Rattle.gm_active.proofs.bit_set.BitSet.set.Goals as goal

with_bit : (words : List ℕ) (v was word : ℕ) (b : Bool) → v / 64 < length words → was ≡ get_or words (v / 64) was → eqb (bit_at word (v % 64)) 1 ≡ b
    → ((i : ℕ) → i < 64 → i ≢ v % 64 → bit_at word i ≡ bit_at was i) → IsWithBit words v word b
with_bit words v was word b within is here others = record {
  here = here;
  others = λ i small other. others i small other ∙ ap (λ (w : ℕ). bit_at w i) (is ∙ get_or_default words (v / 64) was 0 within);
}

pub index-requires : goal.index-requires
index-requires c =
    let inside = c.self.inside in
    rw inside.words.ok.0 (slot_within inside.limit c.args.number inside.words.items c.self.invariant (mark_below inside.limit c.args.number inside.words.items c.args.self.now c.self.view_is c.requires))

pub index_mut-requires : goal.index_mut-requires
index_mut-requires c =
    let inside = c.self.inside in
    rw inside.words.ok.0 (slot_within inside.limit c.args.number inside.words.items c.self.invariant (mark_below inside.limit c.args.number inside.words.items c.args.self.now c.self.view_is c.requires))

pub invariant_of-self : goal.invariant_of-self
invariant_of-self c =
    let inside = c.self.inside in
    let below = mark_below inside.limit c.args.number inside.words.items c.args.self.now c.self.view_is c.requires in
    let within = slot_within inside.limit c.args.number inside.words.items c.self.invariant below in
    set_are_words inside.limit c.args.number inside.words.items c.with_bit.result c.args.is_member c.self.invariant below
    (with_bit inside.words.items c.args.number c.index.result.now c.with_bit.result c.args.is_member within c.index.ensures c.with_bit.ensures.here c.with_bit.ensures.others)

pub returns : goal.returns
returns c =
    let inside = c.self.inside in
    let below = mark_below inside.limit c.args.number inside.words.items c.args.self.now c.self.view_is c.requires in
    let within = slot_within inside.limit c.args.number inside.words.items c.self.invariant below in
    marks_after_set inside.limit c.args.number inside.words.items c.with_bit.result c.args.is_member c.self.invariant below
    (with_bit inside.words.items c.args.number c.index.result.now c.with_bit.result c.args.is_member within c.index.ensures c.with_bit.ensures.here c.with_bit.ensures.others)
    ∙ ap (λ (marks : List Bool). set marks c.args.number c.args.is_member) c.self.view_is
