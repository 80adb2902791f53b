use Rattle.std.proofs.Common.{length, ap, arith}
use Rattle.std.proofs.lemmas.Fmt.{length-decimal-le}
use Rattle.gm_base.proofs.numbers.digits.Goals as goal

-- 2^64 is below 10^20
pub returns-clause-short : goal.returns-clause-short
returns-clause-short c = λ small. omega (arith, ap length c.format.ensures.text, length-decimal-le 20 c.args.value (omega arith) (omega arith) small)
