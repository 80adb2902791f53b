-- A turn leads to where the job stood, or to a later phase with nothing passed in it.
use Rattle.std.specs.Prelude.{◌≡◌, ℕ, zero, suc, ◌+◌, ◌<◌, ◌≤◌, if◌then◌else◌, [], refl}
use Rattle.std.proofs.Common.{eqb, inl, inr, ap, ◌∙◌, arith}
use Rattle.gm_kernel.specs.Runs.{most_rounds, is_done_after, lone_run}
use Rattle.gm_kernel.specs.declared.phase.Phase.{Phase}
use Rattle.gm_kernel.specs.declared.phase.Phase.TheVariants.{Counting, Round}
use Rattle.gm_kernel.specs.Standings.{Standing, Turning, then_turning}
use Rattle.gm_kernel.specs.Standings.Turning.{Goes, Ends}
use Rattle.gm_work.specs.JobStates.{owes_any, phases_left}
use Rattle.gm_work.specs.Views.{JobView, owed_at, next_phase, turn_within, turn_at, LeadsOn}
use Rattle.gm_work.proofs.Lists.{by_test}

-- a later phase, and what a turn from there leads to
later_on : (d : JobView) (s next : Standing) (t : Turning Standing) → next.passed ≡ []
    → phases_left d.context.spec next.phase < phases_left d.context.spec s.phase → LeadsOn d next t → LeadsOn d s t
later_on d s next (Ends outcome) none less leads = tt
later_on d s next (Goes t) none less (inl same) =
    let phases : phases_left d.context.spec t.phase ≡ phases_left d.context.spec next.phase = ap (λ (x : Standing). phases_left d.context.spec x.phase) same in
    inr (ap (λ (x : Standing). x.passed) same ∙ none, omega (arith, less, phases))
later_on d s next (Goes t) none less (inr later) = let further = later.1 in inr (later.0, omega (arith, less, further))

phase_leads : (more : ℕ) (d : JobView) (s : Standing) (phase : Phase) → suc more ≤ phases_left d.context.spec phase → phase ≡ s.phase
    → ((next : Standing) → more ≤ phases_left d.context.spec next.phase → LeadsOn d next (turn_within more d next))
    → LeadsOn d s (then_turning (turn_within more d) (next_phase d phase))
phase_leads more d s (Counting r) left here again =
    let next : Standing = record { phase = Round r; passed = [] } in
    let before : phases_left d.context.spec (Counting r) ≡ phases_left d.context.spec s.phase = ap (phases_left d.context.spec) here in
    later_on d s next (turn_within more d next) refl (omega (arith, before)) (again next (omega (arith, left)))
phase_leads more d s (Round r) left here again =
    let next : Standing = record { phase = Round (r + 1); passed = [] } in
    let over : Turning Standing = Ends (lone_run d.context.spec d.context.dimensions.n d.edges) in
    let before : phases_left d.context.spec (Round r) ≡ phases_left d.context.spec s.phase = ap (phases_left d.context.spec) here in
    by_test (is_done_after d.context.spec d.context.dimensions.n d.edges (r + 1))
    (λ b. LeadsOn d s (then_turning (turn_within more d) (if b then over else if eqb (r + 1) (most_rounds d.context.spec) then over else Goes next)))
    (λ _. tt)
    (λ _. by_test (eqb (r + 1) (most_rounds d.context.spec))
    (λ b. LeadsOn d s (then_turning (turn_within more d) (if b then over else Goes next)))
    (λ _. tt)
    (λ _. later_on d s next (turn_within more d next) refl (omega (arith, before, left)) (again next (omega (arith, left)))))

leads_within : (fuel : ℕ) (d : JobView) (s : Standing) → fuel ≤ phases_left d.context.spec s.phase → LeadsOn d s (turn_within fuel d s)
leads_within zero d s few = inl refl
leads_within (suc more) d s few =
    by_test (owes_any (owed_at d s))
    (λ b. LeadsOn d s (if b then Goes s else then_turning (turn_within more d) (next_phase d s.phase)))
    (λ _. inl refl)
    (λ _. phase_leads more d s s.phase few refl (leads_within more d))

pub leads_on : (d : JobView) (s : Standing) → LeadsOn d s (turn_at d s)
leads_on d s = leads_within (phases_left d.context.spec s.phase) d s (omega arith)
