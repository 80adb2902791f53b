use Rattle.std.proofs.Common.{ℕ, eqb, ap, ◌∙◌, sym, w64}
use Rattle.std.proofs.lemmas.Nat.Bits.{bit_at_set_same, bit_at_set_other, bit_at_clear_same, bit_at_clear_other}
use Rattle.gm_active.proofs.word.with_bit.Goals as goal

pub returns-then-is_set-clause-here : goal.returns-then-is_set-clause-here
returns-then-is_set-clause-here c = ap (λ (bit : ℕ). eqb bit 1) (bit_at_set_same w64 c.args.word c.args.at c.requires) ∙ sym c.if-is_set.true

pub returns-then-is_set-clause-others : goal.returns-then-is_set-clause-others
returns-then-is_set-clause-others c = λ i small. bit_at_set_other w64 c.args.word c.args.at c.requires i

pub returns-else-is_set-clause-here : goal.returns-else-is_set-clause-here
returns-else-is_set-clause-here c = ap (λ (bit : ℕ). eqb bit 1) (bit_at_clear_same w64 c.args.word c.args.at c.requires) ∙ sym c.if-is_set.false

pub returns-else-is_set-clause-others : goal.returns-else-is_set-clause-others
returns-else-is_set-clause-others c = bit_at_clear_other w64 c.args.word c.args.at c.requires
