-- Phases ended one after the other are a turn.
use Rattle.std.proofs.Common.{◌≡◌, ℕ, suc, ◌+◌, ◌-◌, ◌<◌, Bool, true, false, ◌||◌, eqb, map, length, cond, List, [], ◌∷◌, refl, ap, sym, ◌∙◌, arith}
use Rattle.std.specs.List.{list_any, range_with_len}
use Rattle.std.proofs.lemmas.List.FromFn.{fill_by_all}
use Rattle.std.proofs.lemmas.Bool.{cond-false}
use Rattle.gm_base.specs.declared.job.Outcome.TheVariants.{Done, Rounds}
use Rattle.gm_kernel.specs.Runs.{most_rounds}
use Rattle.gm_kernel.specs.Standings.{Turning}
use Rattle.gm_active.specs.Bits.{is_in, any_between}
use Rattle.gm_kernel.specs.declared.phase.Phase.{Phase}
use Rattle.gm_kernel.specs.declared.phase.Phase.TheVariants.{Counting, Round}
use Rattle.gm_work.specs.JobStates.{JobContext, JobState, owes_any, phases_left, phase_end_of, phase_end_in, is_done_by, turning_of, turning_within}
use Rattle.gm_kernel.specs.Standings.Turning.{Goes, Ends}
use Rattle.gm_work.specs.HeldJobs.{HeldJob, context_in, context_of, IsSameJob}
use Rattle.gm_work.specs.Steps.{with_next_round}
use Rattle.gm_work.specs.Stored.{round_of_phase}

list_any-map : (f : ℕ → Bool) (ns : List ℕ) → list_any (λ o. o) (map f ns) ≡ list_any f ns
list_any-map f [] = refl
list_any-map f (n ∷ ns) = ap (λ b. f n || b) (list_any-map f ns)

-- some chunk is owed where one of all chunks is
pub owes-between : (owed : List Bool) → any_between (is_in owed) 0 (length owed) ≡ owes_any owed
owes-between owed =
    let all : length owed - 0 ≡ length owed = omega arith in
    let by_number : owed ≡ map (is_in owed) (range_with_len 0 (length owed)) = fill_by_all (is_in owed) owed (length owed) false refl (λ k h. refl) in
    ap (λ n. list_any (is_in owed) (range_with_len 0 n)) all
    ∙ sym (ap (list_any (λ o. o)) by_number ∙ list_any-map (is_in owed) (range_with_len 0 (length owed)))

-- what a turn goes on with after a phase's end
abbrev after : ℕ → JobContext → Turning JobState → Turning JobState
after more k t = elim t as (λ _. Turning JobState) [ Goes next ↦ turning_within more k next | Ends outcome ↦ Ends outcome ]

-- what becomes of a job that owes nothing
turning_of-next : (k : JobContext) (e : JobState) (more : ℕ) → owes_any e.owed ≡ false → phases_left k.spec e.phase ≡ suc more
    → turning_of k e ≡ after more k (phase_end_of k e)
turning_of-next k e more none left =
    ap (λ (n : ℕ). turning_within n k e) left ∙ cond-false (owes_any e.owed) (Goes e) (after more k (phase_end_of k e)) none

-- the phase in which a job goes on
abbrev phase_of : Turning JobState → Phase
phase_of (Goes e) = e.phase
phase_of (Ends outcome) = Counting 0

-- the end of a round, by its two tests
abbrev round_ended : JobContext → JobState → ℕ → Bool → Bool → Turning JobState
round_ended k e r done last =
    cond done (Ends (Done (r + 1) e.sums)) (cond last (Ends (Rounds (r + 1))) (Goes (with_next_round k (r + 1) e)))

fewer-in-round : (k : JobContext) (e next : JobState) (r : ℕ) (done last : Bool) → r < most_rounds k.spec → round_ended k e r done last ≡ Goes next
    → most_rounds k.spec - r ≡ suc (phases_left k.spec next.phase)
fewer-in-round k e next r true last within goes = absurd (cc)
fewer-in-round k e next r false true within goes = absurd (cc)
fewer-in-round k e next r false false within goes =
    let phase : Round (r + 1) ≡ next.phase = ap phase_of goes in
    let left : most_rounds k.spec - (r + 1) ≡ phases_left k.spec next.phase = ap (phases_left k.spec) phase in
    omega arith

fewer-in : (p : Phase) (k : JobContext) (e next : JobState) → round_of_phase p < most_rounds k.spec → phase_end_in p k e ≡ Goes next
    → phases_left k.spec p ≡ suc (phases_left k.spec next.phase)
fewer-in (Counting r) k e next within goes =
    let phase : Round r ≡ next.phase = ap phase_of goes in
    let left : most_rounds k.spec - r ≡ phases_left k.spec next.phase = ap (phases_left k.spec) phase in
    omega arith
fewer-in (Round r) k e next within goes =
    fewer-in-round k e next r (is_done_by k.spec (r + 1) e.values e.sums) (eqb (r + 1) (most_rounds k.spec)) within goes

-- a phase fewer is left where the job goes on
fewer-left : (k : JobContext) (e next : JobState) → round_of_phase e.phase < most_rounds k.spec → phase_end_of k e ≡ Goes next
    → phases_left k.spec e.phase ≡ suc (phases_left k.spec next.phase)
fewer-left k e next within goes = fewer-in e.phase k e next within goes

-- a job that goes on turns as it does from its next phase
pub turning_of-goes : (k : JobContext) (e next : JobState) → owes_any e.owed ≡ false → round_of_phase e.phase < most_rounds k.spec → phase_end_of k e ≡ Goes next
    → turning_of k e ≡ turning_of k next
turning_of-goes k e next none within goes =
    turning_of-next k e (phases_left k.spec next.phase) none (fewer-left k e next within goes)
    ∙ ap (after (phases_left k.spec next.phase) k) goes

pub context_in-same : (a b : HeldJob) → IsSameJob a b → context_in b ≡ context_in a
context_in-same a b same =
    ap (λ s. context_of s b.catalogue b.overlays) same.spec
    ∙ ap (λ c. context_of a.spec c b.overlays) same.catalogue
    ∙ ap (λ o. context_of a.spec a.catalogue o) same.overlays
