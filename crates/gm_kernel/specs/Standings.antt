-- Where a job stands among the phases of its lone run, and what a turn makes of it.
use Rattle.std.specs.Prelude.{ℕ, List, ◌∷◌}
use Rattle.gm_base.specs.declared.job.Outcome.{Outcome}
use Rattle.gm_kernel.specs.declared.phase.Phase.{Phase}

-- where a job stands: its phase, and the chunks that it has passed in it, the last one first
pub record Standing : Type 0 where
  pub phase : Phase
  pub passed : List ℕ

-- one chunk more
abbrev pub with_passed : Standing → ℕ → Standing
with_passed s c = record s { passed = c ∷ s.passed }

-- what the end of a phase makes of a job, seen by some state of it: it goes on, or it ends
pub data Turning (State : Type 0) : Type 0 where
  Goes : State → Turning State
  Ends : Outcome → Turning State

-- a job that goes on is turned again
abbrev pub then_turning : {State : Type 0} → (State → Turning State) → Turning State → Turning State
then_turning again (Goes s) = again s
then_turning again (Ends outcome) = Ends outcome
