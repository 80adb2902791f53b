-- A turn leads to the middle of a later phase, or to the end of the lone run.
use Rattle.std.specs.Prelude.{◌≡◌, ℕ, zero, suc, ◌+◌, ◌-◌, ◌<◌, ◌≤◌, Bool, true, false, List, [], slice_index, if◌then◌else◌, refl}
use Rattle.std.specs.Str.{bytes_eq}
use Rattle.std.proofs.Common.{eqb, sym, ap, ap₂, ◌∙◌, subst, true≢false, arith}
use Rattle.std.proofs.lemmas.Bool.{ne_eqb, eqb-true, eqb-false}
use Rattle.gm_base.specs.declared.edge.Edge.{Edge}
use Rattle.gm_base.specs.declared.job.Spec.{Spec}
use Rattle.gm_base.specs.declared.job.Spec.TheVariants.{Bfs, Sssp, Wcc, Rank}
use Rattle.gm_base.specs.declared.job.Outcome.TheVariants.{Done, Rounds}
use Rattle.gm_kernel.specs.Kernels.{kernel_of}
use Rattle.gm_kernel.specs.Runs.{values_after, most_rounds, is_done_after, is_settled_by, lone_run, NoneBefore}
use Rattle.gm_kernel.specs.RunsRules.{none_before-next, lone_run-done, lone_run-rounds}
use Rattle.gm_kernel.specs.Activity.{activity_of, active_at}
use Rattle.gm_kernel.specs.Standings.{Standing, Turning, then_turning}
use Rattle.gm_active.specs.Needs.{needed_chunks}
use Rattle.gm_kernel.specs.declared.phase.Phase.{Phase}
use Rattle.gm_kernel.specs.declared.phase.Phase.TheVariants.{Counting, Round}
use Rattle.gm_work.specs.JobStates.{JobContext, JobState, kernel_in, counts_degrees, carried_values, needed_chunks_of, counted_chunks_of, is_done_by, phase_end_of, phase_end_in, owes_any, phases_left, turning_within, turning_of}
use Rattle.gm_kernel.specs.Standings.Turning.{Goes, Ends}
use Rattle.gm_work.specs.Views.{JobView, IsCutIntoChunks, values_at, degrees_of, needed_in, owed_after, sums_after, state_in, InRound, InPhase, WerePassed, IsMidRound, next_phase, turn_within, turn_at, IsTurnedWell}
use Rattle.gm_work.proofs.Lists.{by_test}
use Rattle.gm_work.proofs.Rounds.{closes}
use Rattle.gm_work.proofs.Counting.{counts_close}

abbrev pub standing : Phase → List ℕ → Standing
standing phase passed = record { phase = phase; passed = passed }

-- ---- the first round after the counting

older_free : (spec : Spec) (first : Bool) (older other old degree : ℕ) → counts_degrees spec ≡ true
    → activity_of spec first older old degree ≡ activity_of spec first other old degree
older_free (Bfs source bound) first older other old degree counts = absurd (true≢false (sym counts))
older_free (Sssp source bound) first older other old degree counts = absurd (true≢false (sym counts))
older_free (Wcc bound) first older other old degree counts = absurd (true≢false (sym counts))
older_free (Rank rounds) first older other old degree counts = refl

needed-older : (k : JobContext) (first : Bool) (older other values degrees : List ℕ) → counts_degrees k.spec ≡ true
    → needed_chunks_of k first older values degrees ≡ needed_chunks_of k first other values degrees
needed-older k first older other values degrees counts =
    let same : active_at (activity_of k.spec) first older values (slice_index degrees) ≡ active_at (activity_of k.spec) first other values (slice_index degrees) =
    λ i. λ u. older_free k.spec first (slice_index older u) (slice_index other u) (slice_index values u) (slice_index degrees u) counts i in
    ap (λ (active : ℕ → Bool). needed_chunks k.dimensions (kernel_in k).is_two_way active k.chunks k.block_at k.sources_at) same

first_round : (d : JobView) → IsCutIntoChunks d → (r : ℕ) (passed : List ℕ) → counts_degrees d.context.spec ≡ true → WerePassed (counted_chunks_of d.context) passed
    → owes_any (owed_after (counted_chunks_of d.context) passed) ≡ false
    → phase_end_in (Counting r) d.context (state_in d (Counting r) passed) ≡ Goes (state_in d (Round r) [])
first_round d cut r passed counts were none =
    let values = values_at d r in
    ap (λ (degrees : List ℕ). Goes (record {
      phase = Round r;
      values = values;
      sums = carried_values d.context values;
      degrees = degrees;
      owed = needed_chunks_of d.context (eqb r 0) values values degrees;
    })) (counts_close d cut counts passed were none)
    ∙ ap (λ (owed : List Bool). Goes (record { phase = Round r; values = values; sums = carried_values d.context values; degrees = degrees_of d; owed = owed }))
    (needed-older d.context (eqb r 0) values (values_at d (r - 1)) values (degrees_of d) counts)

-- ---- from round to round

done_is : (spec : Spec) (n : ℕ) (edges : List Edge) (r : ℕ)
    → is_done_by spec (r + 1) (values_after (kernel_of spec) n edges r) (values_after (kernel_of spec) n edges (r + 1)) ≡ is_done_after spec n edges (r + 1)
unfolding is_settled_by
done_is (Bfs source bound) n edges r =
    let k = kernel_of (Bfs source bound) in ap (λ m. bytes_eq (values_after k n edges (r + 1)) (values_after k n edges m)) (omega arith)
done_is (Sssp source bound) n edges r =
    let k = kernel_of (Sssp source bound) in ap (λ m. bytes_eq (values_after k n edges (r + 1)) (values_after k n edges m)) (omega arith)
done_is (Wcc bound) n edges r =
    let k = kernel_of (Wcc bound) in ap (λ m. bytes_eq (values_after k n edges (r + 1)) (values_after k n edges m)) (omega arith)
done_is (Rank rounds) n edges r = refl

next_round : (d : JobView) (r : ℕ)
    → record { phase = Round (r + 1); values = values_at d (r + 1); sums = carried_values d.context (values_at d (r + 1)); degrees = degrees_of d; owed = needed_chunks_of d.context false (values_at d r) (values_at d (r + 1)) (degrees_of d) }
    ≡ state_in d (Round (r + 1)) []
next_round d r =
    let later : eqb (r + 1) 0 ≡ false = ne_eqb (r + 1) 0 (λ e. omega arith) in
    let back : r ≡ (r + 1) - 1 = omega arith in
    ap₂ (λ (first : Bool) (m : ℕ). record {
      phase = Round (r + 1);
      values = values_at d (r + 1);
      sums = carried_values d.context (values_at d (r + 1));
      degrees = degrees_of d;
      owed = needed_chunks_of d.context first (values_at d m) (values_at d (r + 1)) (degrees_of d);
    }) (sym later) back

-- what a round leads to, by the values after it and whether the job is then done
abbrev round_led_to : JobView → ℕ → List ℕ → Bool → Turning JobState
round_led_to d r sums done =
    if done then Ends (Done (r + 1) sums)
    else if eqb (r + 1) (most_rounds d.context.spec) then Ends (Rounds (r + 1))
    else Goes (record {
      phase = Round (r + 1);
      values = sums;
      sums = carried_values d.context sums;
      degrees = degrees_of d;
      owed = needed_chunks_of d.context false (values_at d r) sums (degrees_of d);
    })

abbrev stands_then : JobView → ℕ → Bool → Turning Standing
stands_then d r done =
    if done then Ends (lone_run d.context.spec d.context.dimensions.n d.edges)
    else if eqb (r + 1) (most_rounds d.context.spec) then Ends (lone_run d.context.spec d.context.dimensions.n d.edges)
    else Goes (standing (Round (r + 1)) [])

-- what is known of turns with less to go
abbrev TurnsWell : ℕ → JobView → Type 0
TurnsWell fuel d = (phase : Phase) (passed : List ℕ) → fuel ≡ phases_left d.context.spec phase → InPhase d phase → WerePassed (needed_in d phase) passed
    → IsTurnedWell d (turn_within fuel d (standing phase passed)) (turning_within fuel d.context (state_in d phase passed))

next_well : (more : ℕ) (d : JobView) (r : ℕ) → TurnsWell more d → suc more ≡ phases_left d.context.spec (Round r) → InRound d r
    → is_done_after d.context.spec d.context.dimensions.n d.edges (r + 1) ≡ false → eqb (r + 1) (most_rounds d.context.spec) ≡ false
    → IsTurnedWell d (turn_within more d (standing (Round (r + 1)) []))
    (turning_within more d.context (record { phase = Round (r + 1); values = values_at d (r + 1); sums = carried_values d.context (values_at d (r + 1)); degrees = degrees_of d; owed = needed_chunks_of d.context false (values_at d r) (values_at d (r + 1)) (degrees_of d) }))
next_well more d r again left round going other =
    let most = most_rounds d.context.spec in
    let below = round.0 in
    let not_last = eqb-false (r + 1) most other in
    let less : r + 1 < most = lt_unless r most below not_last in
    subst (λ (e : JobState). IsTurnedWell d (turn_within more d (standing (Round (r + 1)) [])) (turning_within more d.context e)) (sym (next_round d r))
    (again (Round (r + 1)) [] (omega (arith, left, less)) (less, none_before-next (is_done_after d.context.spec d.context.dimensions.n d.edges) (r + 1) round.1 going) tt)
  where
    lt_unless : (m n : ℕ) → m < n → (m + 1 ≡ n → ⊥) → m + 1 < n
    lt_unless m n h g = grind (arith, h, g)

ends_well : (more : ℕ) (d : JobView) (r : ℕ) → TurnsWell more d → suc more ≡ phases_left d.context.spec (Round r) → InRound d r
    → (done : Bool) → is_done_after d.context.spec d.context.dimensions.n d.edges (r + 1) ≡ done
    → IsTurnedWell d (then_turning (turn_within more d) (stands_then d r done)) (then_turning (turning_within more d.context) (round_led_to d r (values_at d (r + 1)) done))
ends_well more d r again left round true done =
    let below = round.0 in
    (sym (lone_run-done d.context.spec d.context.dimensions.n d.edges (r + 1) (omega arith) (omega (arith, below)) round.1 done), refl)
ends_well more d r again left round false going =
    let spec = d.context.spec in
    let n = d.context.dimensions.n in
    let most = most_rounds spec in
    let below = round.0 in
    by_test (eqb (r + 1) most)
    (λ b. IsTurnedWell d (then_turning (turn_within more d) (if b then Ends (lone_run spec n d.edges) else Goes (standing (Round (r + 1)) [])))
    (then_turning (turning_within more d.context) (if b then Ends (Rounds (r + 1)) else Goes (record {
      phase = Round (r + 1);
      values = values_at d (r + 1);
      sums = carried_values d.context (values_at d (r + 1));
      degrees = degrees_of d;
      owed = needed_chunks_of d.context false (values_at d r) (values_at d (r + 1)) (degrees_of d);
    }))))
    (λ last.
    let is = eqb-true (r + 1) most last in
    let none = none_before-next (is_done_after spec n d.edges) (r + 1) round.1 going in
    (ap Rounds is ∙ sym (lone_run-rounds spec n d.edges (omega (arith, below)) (subst (λ (m : ℕ). NoneBefore (is_done_after spec n d.edges) (m + 1)) is none)), refl))
    (λ other. next_well more d r again left round going other)

-- ---- by fuel

counting_well : (more : ℕ) (d : JobView) → IsCutIntoChunks d → (r : ℕ) (passed : List ℕ) → TurnsWell more d → suc more ≡ phases_left d.context.spec (Counting r)
    → InPhase d (Counting r) → WerePassed (counted_chunks_of d.context) passed
    → IsTurnedWell d (turn_within (suc more) d (standing (Counting r) passed)) (turning_within (suc more) d.context (state_in d (Counting r) passed))
counting_well more d cut r passed again left phase were =
    by_test (owes_any (owed_after (counted_chunks_of d.context) passed))
    (λ b. IsTurnedWell d (if b then Goes (standing (Counting r) passed) else turn_within more d (standing (Round r) []))
    (if b then Goes (state_in d (Counting r) passed) else then_turning (turning_within more d.context) (phase_end_in (Counting r) d.context (state_in d (Counting r) passed))))
    (λ owes. (record { phase = phase; passed = were; state = refl }, owes))
    (λ none.
    subst (λ (t : Turning JobState). IsTurnedWell d (turn_within more d (standing (Round r) [])) (then_turning (turning_within more d.context) t)) (sym (first_round d cut r passed phase.0 were none))
    (again (Round r) [] (omega (arith, left)) phase.1 tt))

round_well : (more : ℕ) (d : JobView) → IsCutIntoChunks d → (r : ℕ) (passed : List ℕ) → TurnsWell more d → suc more ≡ phases_left d.context.spec (Round r)
    → InRound d r → WerePassed (needed_in d (Round r)) passed
    → IsTurnedWell d (turn_within (suc more) d (standing (Round r) passed)) (turning_within (suc more) d.context (state_in d (Round r) passed))
round_well more d cut r passed again left round were =
    by_test (owes_any (owed_after (needed_in d (Round r)) passed))
    (λ b. IsTurnedWell d (if b then Goes (standing (Round r) passed) else then_turning (turn_within more d) (next_phase d (Round r)))
    (if b then Goes (state_in d (Round r) passed) else then_turning (turning_within more d.context) (phase_end_in (Round r) d.context (state_in d (Round r) passed))))
    (λ owes. (record { phase = round; passed = were; state = refl }, owes))
    (λ none.
    let spec = d.context.spec in
    let sums = sums_after d (values_at d r) passed in
    let made : sums ≡ values_at d (r + 1) = closes d cut r passed were none in
    let done : is_done_by spec (r + 1) (values_at d r) sums ≡ is_done_after spec d.context.dimensions.n d.edges (r + 1) =
    ap (is_done_by spec (r + 1) (values_at d r)) made ∙ done_is spec d.context.dimensions.n d.edges r in
    let led : phase_end_in (Round r) d.context (state_in d (Round r) passed) ≡ round_led_to d r (values_at d (r + 1)) (is_done_after spec d.context.dimensions.n d.edges (r + 1)) =
    ap (λ (b : Bool). round_led_to d r sums b) done ∙ ap (λ (xs : List ℕ). round_led_to d r xs (is_done_after spec d.context.dimensions.n d.edges (r + 1))) made in
    subst (λ (t : Turning JobState). IsTurnedWell d (then_turning (turn_within more d) (next_phase d (Round r))) (then_turning (turning_within more d.context) t)) (sym led)
    (ends_well more d r again left round (is_done_after spec d.context.dimensions.n d.edges (r + 1)) refl))

turned_well : (fuel : ℕ) (d : JobView) → IsCutIntoChunks d → TurnsWell fuel d
turned_well zero d cut (Counting r) passed left phase were = absurd (omega (arith, left))
turned_well zero d cut (Round r) passed left phase were = let below = phase.0 in absurd (omega (arith, left, below))
turned_well (suc more) d cut (Counting r) passed left phase were = counting_well more d cut r passed (turned_well more d cut) left phase were
turned_well (suc more) d cut (Round r) passed left phase were = round_well more d cut r passed (turned_well more d cut) left phase were

at_its_standing : (d : JobView) → IsCutIntoChunks d → (phase : Phase) (passed : List ℕ) → InPhase d phase → WerePassed (needed_in d phase) passed
    → IsTurnedWell d (turn_at d (standing phase passed)) (turning_of d.context (state_in d phase passed))
at_its_standing d cut (Counting r) passed phase were = turned_well (phases_left d.context.spec (Counting r)) d cut (Counting r) passed refl phase were
at_its_standing d cut (Round r) passed phase were = turned_well (phases_left d.context.spec (Round r)) d cut (Round r) passed refl phase were

pub turns : (d : JobView) (s : Standing) (e : JobState) → IsCutIntoChunks d → IsMidRound d s e → IsTurnedWell d (turn_at d s) (turning_of d.context e)
turns d s e cut mid =
    subst (λ (f : JobState). IsTurnedWell d (turn_at d s) (turning_of d.context f)) (sym mid.state) (at_its_standing d cut s.phase s.passed mid.phase mid.passed)

-- ---- a job that goes on has fewer phases before it

abbrev Lessens : JobContext → ℕ → Turning JobState → Type 0
Lessens k most (Goes e) = phases_left k.spec e.phase ≤ most
Lessens k most (Ends outcome) = Unit {0}

phase_lessens : (phase : Phase) (k : JobContext) (e : JobState) → Lessens k (phases_left k.spec phase - 1) (phase_end_in phase k e)
phase_lessens (Counting r) k e = omega arith
phase_lessens (Round r) k e =
    let next : Turning JobState = Goes (record { phase = Round (r + 1); values = e.sums; sums = carried_values k e.sums; degrees = e.degrees; owed = needed_chunks_of k false e.values e.sums e.degrees }) in
    let most = phases_left k.spec (Round r) - 1 in
    by_test (is_done_by k.spec (r + 1) e.values e.sums)
    (λ b. Lessens k most (if b then Ends (Done (r + 1) e.sums) else if eqb (r + 1) (most_rounds k.spec) then Ends (Rounds (r + 1)) else next))
    (λ _. tt)
    (λ _. by_test (eqb (r + 1) (most_rounds k.spec)) (λ b. Lessens k most (if b then Ends (Rounds (r + 1)) else next)) (λ _. tt) (λ _. omega arith))

weaker : (k : JobContext) (less most : ℕ) (t : Turning JobState) → Lessens k less t → less ≤ most → Lessens k most t
weaker k less most (Goes f) h g = omega (arith, h, g)
weaker k less most (Ends outcome) h g = tt

then_lessens : (k : JobContext) (again : JobState → Turning JobState) → ((e : JobState) → Lessens k (phases_left k.spec e.phase) (again e))
    → (most : ℕ) (t : Turning JobState) → Lessens k most t → Lessens k most (then_turning again t)
then_lessens k again each most (Goes e) h = weaker k (phases_left k.spec e.phase) most (again e) (each e) h
then_lessens k again each most (Ends outcome) h = tt

turned_lessens : (fuel : ℕ) (k : JobContext) (e : JobState) → Lessens k (phases_left k.spec e.phase) (turning_within fuel k e)
turned_lessens zero k e = omega arith
turned_lessens (suc more) k e =
    by_test (owes_any e.owed)
    (λ b. Lessens k (phases_left k.spec e.phase) (if b then Goes e else then_turning (turning_within more k) (phase_end_of k e)))
    (λ _. omega arith)
    (λ _. weaker k (phases_left k.spec e.phase - 1) (phases_left k.spec e.phase) (then_turning (turning_within more k) (phase_end_of k e))
    (then_lessens k (turning_within more k) (turned_lessens more k) (phases_left k.spec e.phase - 1) (phase_end_of k e) (phase_lessens e.phase k e)) (omega arith))

-- nothing was owed, and now something is
IsLater : JobContext → ℕ → Turning JobState → Type 0
IsLater k left (Goes f) = owes_any f.owed ≡ true → phases_left k.spec f.phase < left
IsLater k left (Ends outcome) = Unit {0}

is_later : (fuel : ℕ) (k : JobContext) (e : JobState) → fuel ≡ phases_left k.spec e.phase → owes_any e.owed ≡ false → IsLater k (phases_left k.spec e.phase) (turning_within fuel k e)
unfolding IsLater
is_later zero k e left none = λ owes. absurd (true≢false (sym owes ∙ none))
is_later (suc more) k e left none =
    by_test (owes_any e.owed)
    (λ b. (owes_any e.owed ≡ b) → IsLater k (phases_left k.spec e.phase) (if b then Goes e else then_turning (turning_within more k) (phase_end_of k e)))
    (λ _ owes. absurd (true≢false (sym owes ∙ none)))
    (λ _ _. below (then_turning (turning_within more k) (phase_end_of k e))
    (then_lessens k (turning_within more k) (turned_lessens more k) (phases_left k.spec e.phase - 1) (phase_end_of k e) (phase_lessens e.phase k e)))
    refl
  where
    below : (t : Turning JobState) → Lessens k (phases_left k.spec e.phase - 1) t → IsLater k (phases_left k.spec e.phase) t
    below (Goes f) h = λ owes. omega (arith, h, left)
    below (Ends outcome) h = tt

pub goes_to_later : (k : JobContext) (e f : JobState) → owes_any e.owed ≡ false → turning_of k e ≡ Goes f → owes_any f.owed ≡ true
    → phases_left k.spec f.phase < phases_left k.spec e.phase
unfolding IsLater
goes_to_later k e f none goes = subst (IsLater k (phases_left k.spec e.phase)) goes (is_later (phases_left k.spec e.phase) k e refl none)
