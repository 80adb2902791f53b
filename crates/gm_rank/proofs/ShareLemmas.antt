-- A share by its reduced fraction, and a pass of shares that were taken before.
use Rattle.std.proofs.Common.{◌≡◌, ℕ, ◌+◌, ◌*◌, ◌/◌, ◌%◌, ◌<◌, List, sym, ap, ◌∙◌, arith}
use Rattle.std.proofs.Math.Nat.{div-div-eq-div-mul, mul-div_cancel_left, mul-add-div, div-add-mod}
use Rattle.gm_base.specs.declared.edge.Edge.{Edge}
use Rattle.gm_kernel.specs.Kernels.{Kernel, kernel_of, share_of}
use Rattle.gm_kernel.specs.Runs.{joined_at}
use Rattle.gm_kernel.specs.PassRules.{joined_at-gifts}
use Rattle.gm_rank.specs.Ranks.{rank_job, AreShares}

-- 85 / 100 is 17 / 20
reduced : (x d : ℕ) → (85 * x) / (100 * d) ≡ (17 * x) / (20 * d)
reduced x d =
    let below : 100 * d ≡ 5 * (20 * d) = omega arith in
    let above : 85 * x ≡ 5 * (17 * x) = omega arith in
    ap (λ n. (85 * x) / n) below ∙ sym (div-div-eq-div-mul (85 * x) 5 (20 * d)) ∙ ap (λ n. (n / 5) / (20 * d)) above
    ∙ ap (λ n. n / (20 * d)) (mul-div_cancel_left (17 * x) {n = 5} (omega arith))

pub share_reduced : (x d : ℕ) → 0 < d → share_of x d ≡ (17 * x) / (20 * d)
share_reduced x d some = let e = reduced x d in grind (arith, e)

-- multiplied after the division
pub divided_first : (x d : ℕ) → 0 < d → 17 * (x / d) + (17 * (x % d)) / d ≡ (17 * x) / d
divided_first x d some =
    let parts = div-add-mod x d in
    let whole : d * (17 * (x / d)) + 17 * (x % d) ≡ 17 * x = omega (arith, parts) in
    sym (mul-add-div some (17 * (x / d)) (17 * (x % d))) ∙ ap (λ n. n / d) whole

-- the kernel of ranks over shares: an edge gives its source's as it is
abbrev pub sharing : Kernel
sharing = record (kernel_of rank_job) { gift_along = λ x degree weight. x }

pub joined_shares : (degree_of : ℕ → ℕ) (values shares : List ℕ) (edges : List Edge) (v sum : ℕ) → AreShares degree_of values shares
    → joined_at sharing (λ _. 0) shares edges v sum ≡ joined_at (kernel_of rank_job) degree_of values edges v sum
joined_shares degree_of values shares edges v sum are =
    sym (joined_at-gifts (kernel_of rank_job) (λ x degree weight. x) degree_of (λ _. 0) values shares edges v sum (λ giver weight. sym (are giver)))
