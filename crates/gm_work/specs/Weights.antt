-- What a job's passes weigh, where each chunk has a weight: how many passes there are, or how many of them read the file.
use Rattle.std.specs.Prelude.{◌≡◌, ℕ, zero, suc, ◌+◌, ◌-◌, Bool, if◌then◌else◌, List, [], ◌∷◌}
use Rattle.gm_base.specs.declared.job.Outcome.{Outcome}
use Rattle.gm_base.specs.declared.job.Outcome.TheVariants.{Done, Rounds, Read, Changed, Memory}
use Rattle.gm_kernel.specs.Runs.{lone_run}
use Rattle.gm_kernel.specs.declared.phase.Phase.{Phase}
use Rattle.gm_kernel.specs.declared.phase.Phase.TheVariants.{Counting, Round}
use Rattle.gm_kernel.specs.Standings.{Standing, Turning}
use Rattle.gm_kernel.specs.Standings.Turning.{Goes, Ends}
use Rattle.gm_work.specs.JobStates.{counts_degrees}
use Rattle.gm_work.specs.Views.{JobView, needed_in, owed_at}

-- the weights of the marked chunks, counted from this one on
abbrev pub weigh_from : (ℕ → ℕ) → ℕ → List Bool → ℕ
weigh_from weight c [] = 0
weigh_from weight c (marked ∷ others) = (if marked then weight c else 0) + weigh_from weight (c + 1) others

abbrev pub weigh : (ℕ → ℕ) → List Bool → ℕ
weigh weight marks = weigh_from weight 0 marks

-- how many rounds a run makes
abbrev pub rounds_of : Outcome → ℕ
rounds_of (Done rounds values) = rounds
rounds_of (Rounds bound) = bound
rounds_of (Read block chunk) = 0
rounds_of (Changed block chunk) = 0
rounds_of Memory = 0

abbrev pub run_rounds : JobView → ℕ
run_rounds d = rounds_of (lone_run d.context.spec d.context.dimensions.n d.edges)

-- the needed chunks of so many rounds, from this one on
abbrev pub rounds_weight : JobView → (ℕ → ℕ) → ℕ → ℕ → ℕ
rounds_weight d weight r zero = 0
rounds_weight d weight r (suc more) = weigh weight (needed_in d (Round r)) + rounds_weight d weight (r + 1) more

-- those of all phases of the lone run
abbrev pub run_weight : JobView → (ℕ → ℕ) → ℕ
run_weight d weight =
    (if counts_degrees d.context.spec then weigh weight (needed_in d (Counting 0)) else 0) + rounds_weight d weight 0 (run_rounds d)

-- those of the phases behind this one
abbrev pub later_weight : JobView → (ℕ → ℕ) → Phase → ℕ
later_weight d weight (Counting r) = rounds_weight d weight r (run_rounds d - r)
later_weight d weight (Round r) = rounds_weight d weight (r + 1) (run_rounds d - (r + 1))

-- what is still to be passed where a job stands
abbrev pub weight_left : JobView → (ℕ → ℕ) → Standing → ℕ
weight_left d weight s = weigh weight (owed_at d s) + later_weight d weight s.phase

-- after a turn from where so much was to be passed, the same is; nothing was, where the job ended
abbrev pub IsLeftBy : JobView → (ℕ → ℕ) → ℕ → Turning Standing → Type 0
IsLeftBy d weight left (Goes s) = weight_left d weight s ≡ left
IsLeftBy d weight left (Ends outcome) = left ≡ 0
