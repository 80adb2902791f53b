-- Counts that rise so many times, and then so many times more.
use Rattle.std.specs.Prelude.{◌≡◌, ℕ, zero, suc, ◌+◌, ◌≤◌}
use Rattle.std.proofs.Common.{ap, ◌∙◌, arith}
use Rattle.gm_outside.specs.Causes.{counted, counted_times}

pub counted_times-add : (first second count : ℕ) → counted_times (first + second) count ≡ counted_times second (counted_times first count)
counted_times-add first zero count = ap (λ (n : ℕ). counted_times n count) (omega arith)
counted_times-add first (suc second) count =
    let next : first + suc second ≡ suc (first + second) = omega arith in
    ap (λ (n : ℕ). counted_times n count) next ∙ ap counted (counted_times-add first second count)

pub counted_times-few : (times count : ℕ) → counted_times times count ≤ count + times
counted_times-few zero count = omega arith
counted_times-few (suc times) count = let rest = counted_times-few times count in omega (arith, rest)
