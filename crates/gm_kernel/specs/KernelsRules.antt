-- The kernels of all jobs keep the laws of kernels.
use Rattle.std.specs.Prelude.{◌≡◌, ℕ, zero, suc, ◌+◌, ◌*◌, ◌/◌, ◌<◌, ◌≤◌, min, cond, ◌==◌, Bool, true, false, refl}
use Rattle.std.proofs.Common.{ap, ◌∙◌, rules, tests, arith}
use Rattle.std.proofs.Math.Nat.{div-le_of_le-mul}
use Rattle.std.proofs.lemmas.Bool.{ne_eqb, cond-false}
use Rattle.gm_base.specs.declared.limits.TheConstants.{TOP}
use Rattle.gm_base.specs.declared.job.Spec.{Spec}
use Rattle.gm_base.specs.declared.job.Spec.TheVariants.{Bfs, Sssp, Wcc, Rank}
use Rattle.gm_base.specs.GraphRules.{JoinLaws}
use Rattle.gm_kernel.specs.declared.kernel.TheConstants.{MAX_RANK}
use Rattle.gm_kernel.specs.Kernels.{kernel_of, least_kernel, from_source, sum_to_top, share_of}
use Rattle.gm_kernel.specs.Activity.{activity_of, is_active_by_value, has_share}
use Rattle.gm_kernel.specs.KernelLaws.{KernelLaws, StaysWithinTop}

least_inactive : (gift : ℕ → ℕ → ℕ) → ((weight : ℕ) → gift TOP weight ≡ TOP)
    → (first : Bool) (older old weight rest receiver : ℕ)
    → receiver ≤ TOP
    → (first ≡ false → receiver ≡ min rest (gift older weight))
    → is_active_by_value first older old ≡ false
    → min receiver (gift old weight) ≡ receiver
least_inactive gift gives_top true older old weight rest receiver small in_it quiet =
    let is_top : old ≡ TOP = search (rules, tests) in
    let e : gift old weight ≡ TOP = ap (λ x. gift x weight) is_top ∙ gives_top weight in
    omega arith
least_inactive gift gives_top false older old weight rest receiver small in_it quiet =
    let is_same : old ≡ older = search (rules, tests) in
    let e : gift old weight ≡ gift older weight = ap (λ x. gift x weight) is_same in
    let had : receiver ≡ min rest (gift older weight) = in_it refl in
    omega arith

-- a kernel that keeps the least value keeps the laws where an unreached vertex gives nothing
least_laws : (initial : ℕ → ℕ) (gift : ℕ → ℕ → ℕ) (two_way : Bool) → ((weight : ℕ) → gift TOP weight ≡ TOP)
    → KernelLaws (least_kernel initial gift two_way) (λ first older old degree. is_active_by_value first older old)
least_laws initial gift two_way gives_top = record {
  joins = record { commutes = λ a b. omega arith; associates = λ a b c. omega arith };
  inactive_gives_nothing = λ first older old degree. least_inactive gift gives_top first older old;
}

no_share_no_gift : (rank degree : ℕ) → has_share rank degree ≡ false → min (150000000 + share_of rank degree) MAX_RANK ≡ 150000000
no_share_no_gift rank degree quiet =
    let nothing : share_of rank degree ≡ 0 = search (rules, tests) in
    omega arith

-- the kernel of every job and the job's test of activity keep the laws
pub laws_of : (spec : Spec) → KernelLaws (kernel_of spec) (activity_of spec)
laws_of (Bfs source bound) = least_laws (from_source source) (λ x weight. sum_to_top x 1) false (λ weight. omega arith)
laws_of (Sssp source bound) = least_laws (from_source source) (λ x weight. sum_to_top x weight) false (λ weight. omega arith)
laws_of (Wcc bound) = least_laws (λ v. v) (λ x weight. x) true (λ weight. refl)
laws_of (Rank rounds) = record {
  joins = record { commutes = λ a b. omega arith; associates = λ a b c. omega arith };
  inactive_gives_nothing = λ first older old degree weight rest receiver small in_it quiet. no_share_no_gift old degree quiet;
}

-- the gifts of every job may be joined in any order
pub joins_of : (spec : Spec) → JoinLaws (kernel_of spec).join_values
joins_of spec = (laws_of spec).joins

pub from_source-le : (source v : ℕ) → from_source source v ≤ TOP
from_source-le source v =
    let goal_at = λ (b : Bool). cond b 0 TOP ≤ TOP in
    let at : (b : Bool) → goal_at b = elim [ true ↦ omega arith | false ↦ omega arith ] in
    at (v == source)

share_of-le : (rank degree : ℕ) → share_of rank degree ≤ rank
share_of-le rank zero = omega arith
share_of-le rank (suc degree) =
    let share = (85 * rank) / (100 * suc degree) in
    let is : share_of rank (suc degree) ≡ share = cond-false (suc degree == 0) 0 share (ne_eqb (suc degree) 0 (λ same. omega arith)) in
    let less : share ≤ rank = div-le_of_le-mul (100 * suc degree) {m = 85 * rank} {n = rank} (omega arith) in
    omega arith

least_stays : (initial : ℕ → ℕ) (gift : ℕ → ℕ → ℕ) (two_way : Bool) (n : ℕ)
    → ((v : ℕ) → v < n → initial v ≤ TOP) → ((x weight : ℕ) → x ≤ TOP → gift x weight ≤ TOP) → StaysWithinTop (least_kernel initial gift two_way) n
least_stays initial gift two_way n begins gives = record {
  begins = begins;
  carries = λ x h. h;
  gives = λ x degree. gives x;
  joins = λ a b h g. omega arith;
}

-- no value of a job of any kind is above TOP
pub stays_within_top : (spec : Spec) (n : ℕ) → n ≤ TOP → StaysWithinTop (kernel_of spec) n
stays_within_top (Bfs source bound) n few =
    least_stays (from_source source) (λ x weight. sum_to_top x 1) false n (λ v h. from_source-le source v) (λ x weight h. omega arith)
stays_within_top (Sssp source bound) n few =
    least_stays (from_source source) (λ x weight. sum_to_top x weight) false n (λ v h. from_source-le source v) (λ x weight h. omega arith)
stays_within_top (Wcc bound) n few = least_stays (λ v. v) (λ x weight. x) true n (λ v h. omega arith) (λ x weight h. h)
stays_within_top (Rank rounds) n few = record {
  begins = λ v h. omega arith;
  carries = λ x h. omega arith;
  gives = λ x degree weight h. let less = share_of-le x degree in omega arith;
  joins = λ a b h g. omega arith;
}
