-- What every kernel keeps.
use Rattle.std.specs.Prelude.{◌≡◌, ℕ, ◌<◌, ◌≤◌, Bool, false}
use Rattle.gm_base.specs.declared.limits.TheConstants.{TOP}
use Rattle.gm_base.specs.GraphRules.{JoinLaws}
use Rattle.gm_kernel.specs.Kernels.{Kernel}

-- a gift from an inactive vertex changes nothing in the round. The receiver's value is a value of the type, and after the first round
-- it has in it what the same edge gave in the round before
abbrev pub InactiveGivesNothing : (kernel : Kernel) (is_active : Bool → ℕ → ℕ → ℕ → Bool) → Type 0
InactiveGivesNothing kernel is_active = (first : Bool) (older old degree weight rest receiver : ℕ)
    → receiver ≤ TOP
    → (first ≡ false → receiver ≡ kernel.join_values rest (kernel.gift_along older degree weight))
    → is_active first older old degree ≡ false
    → kernel.join_values (kernel.carried_value receiver) (kernel.gift_along old degree weight) ≡ kernel.carried_value receiver

-- a kernel and its test of activity: gifts may be joined in any order, and those of inactive vertices left out
pub record KernelLaws (kernel : Kernel) (is_active : Bool → ℕ → ℕ → ℕ → Bool) : Type 0 where
  pub joins : JoinLaws kernel.join_values
  pub inactive_gives_nothing : InactiveGivesNothing kernel is_active

-- n vertices begin with values that aren't above TOP, and of values that aren't above TOP the kernel makes none that is
pub record StaysWithinTop (kernel : Kernel) (n : ℕ) : Type 0 where
  pub begins : (v : ℕ) → v < n → kernel.initial_value v ≤ TOP
  pub carries : (x : ℕ) → x ≤ TOP → kernel.carried_value x ≤ TOP
  pub gives : (x degree weight : ℕ) → x ≤ TOP → kernel.gift_along x degree weight ≤ TOP
  pub joins : (a b : ℕ) → a ≤ TOP → b ≤ TOP → kernel.join_values a b ≤ TOP

-- with these out-degrees each vertex gives what it gives with those: they are the same, or the kernel doesn't look at them
abbrev pub GivesTheSame : Kernel → (ℕ → ℕ) → (ℕ → ℕ) → Type 0
GivesTheSame kernel these those = (u x weight : ℕ) → kernel.gift_along x (these u) weight ≡ kernel.gift_along x (those u) weight
