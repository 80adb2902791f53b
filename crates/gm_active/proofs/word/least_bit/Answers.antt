use Rattle.std.proofs.Common.{ℕ, ap, ◌∙◌, arith}
use Rattle.std.specs.Int.{bit_at}
use Rattle.std.proofs.lemmas.Nat.Bits.{bit_at-zero}
use Rattle.gm_active.proofs.Bits.{none_from, least_from}
use Rattle.gm_active.proofs.word.least_bit.Goals as goal

pub returns-then-rest-eq0-clause-none : goal.returns-then-rest-eq0-clause-none
returns-then-rest-eq0-clause-none c = λ i le below. none_from c.args.word c.args.from c.if-rest-eq0.true i le

pub returns-else-rest-eq0-clause-within : goal.returns-else-rest-eq0-clause-within
returns-else-rest-eq0-clause-within c =
    let least = least_from c.args.word c.args.from c.ranges.word.fits c.requires (omega arith) in
    (least.low, least.high)

pub returns-else-rest-eq0-clause-here : goal.returns-else-rest-eq0-clause-here
returns-else-rest-eq0-clause-here c = (least_from c.args.word c.args.from c.ranges.word.fits c.requires (omega arith)).here

pub returns-else-rest-eq0-clause-before : goal.returns-else-rest-eq0-clause-before
returns-else-rest-eq0-clause-before c = (least_from c.args.word c.args.from c.ranges.word.fits c.requires (omega arith)).before

pub returns-then-word-eq0-clause-none : goal.returns-then-word-eq0-clause-none
returns-then-word-eq0-clause-none c = λ i le below. ap (λ (w : ℕ). bit_at w i) c.if-word-eq0.true ∙ bit_at-zero i
