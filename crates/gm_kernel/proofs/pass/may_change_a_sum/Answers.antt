use Rattle.std.proofs.Common.{◌≡◌, ℕ, ◌≤◌, sym, subst, ◌∙◌, rules, tests, arith}
use Rattle.gm_base.specs.declared.limits.TheConstants.{TOP}
use Rattle.gm_base.specs.declared.job.Spec.{Spec}
use Rattle.gm_base.specs.declared.job.Spec.TheVariants.{Bfs, Sssp, Wcc, Rank}
use Rattle.gm_kernel.specs.Kernels.{Kernel, kernel_of}
use Rattle.gm_kernel.proofs.pass.may_change_a_sum.Goals as goal

-- what leaves the greatest sum as it is leaves every sum
leaves_every_sum : (spec : Spec) (gift sum : ℕ) → sum ≤ TOP → (kernel_of spec).join_values TOP gift ≡ TOP → (kernel_of spec).join_values sum gift ≡ sum
leaves_every_sum (Bfs source bound) gift sum small leaves = omega arith
leaves_every_sum (Sssp source bound) gift sum small leaves = omega arith
leaves_every_sum (Wcc bound) gift sum small leaves = omega arith
leaves_every_sum (Rank rounds) gift sum small leaves = absurd (omega arith)

pub returns : goal.returns
returns g c = λ none sum small.
    let is = g.met.K.Kernel.is_of_its_job c.args.kernel.now in
    let same : c.join.result ≡ TOP = search (rules, tests) in
    subst (λ (k : Kernel). k.join_values sum c.args.gift ≡ sum) (sym is)
    (leaves_every_sum (g.K.Kernel.job c.args.kernel.now) c.args.gift sum small (subst (λ (k : Kernel). k.join_values TOP c.args.gift ≡ TOP) is (sym c.join.ensures ∙ same)))
