-- What is still to be passed: at first all of the run, less by each pass, the same after a turn, nothing at the end.
use Rattle.std.specs.Prelude.{◌≡◌, ℕ, zero, suc, ◌+◌, ◌-◌, ◌*◌, ◌<◌, ◌≤◌, Bool, true, false, List, [], ◌∷◌, length, slice_set, if◌then◌else◌, refl}
use Rattle.std.proofs.Common.{eqb, sym, ap, ◌∙◌, subst, true≢false, arith}
use Rattle.std.proofs.Math.Nat.{mul-le-mul_right}
use Rattle.std.proofs.lemmas.Bool.{or_parts, eqb-true, eqb-false}
use Rattle.std.proofs.lemmas.List.FromFn.{length-map-range_with_len}
use Rattle.gm_kernel.specs.Runs.{most_rounds, is_done_after, lone_run, NoneBefore}
use Rattle.gm_kernel.specs.RunsRules.{none_before-one, none_before-next, lone_run-done, lone_run-rounds}
use Rattle.gm_kernel.specs.Standings.{Standing, with_passed, Turning, then_turning}
use Rattle.gm_kernel.specs.Standings.Turning.{Goes, Ends}
use Rattle.gm_active.specs.Bits.{is_in}
use Rattle.gm_kernel.specs.declared.phase.Phase.{Phase}
use Rattle.gm_kernel.specs.declared.phase.Phase.TheVariants.{Counting, Round}
use Rattle.gm_work.specs.JobStates.{JobState, counts_degrees, owes_any, phases_left}
use Rattle.gm_work.specs.Views.{JobView, needed_in, owed_at, first_standing, InRound, InPhase, IsMidRound, next_phase, turn_within, turn_at}
use Rattle.gm_work.specs.Weights.{weigh_from, weigh, rounds_of, run_rounds, rounds_weight, run_weight, weight_left, IsLeftBy}
use Rattle.gm_work.proofs.Lists.{by_test}
use Rattle.gm_work.proofs.Turns.{standing}

-- ---- a pass

taken_off : (weight : ℕ → ℕ) (a : ℕ) (marks : List Bool) (c : ℕ) → is_in marks c ≡ true
    → weigh_from weight a (slice_set marks c false) + weight (a + c) ≡ weigh_from weight a marks
taken_off weight a [] c h = absurd (true≢false (sym h))
taken_off weight a (m ∷ marks) zero h =
    let is : (if m then weight a else 0) ≡ weight a = ap (λ (b : Bool). if b then weight a else 0) h in
    let same : weight (a + 0) ≡ weight a = ap weight (omega arith) in
    omega (arith, is, same)
taken_off weight a (m ∷ marks) (suc c) h =
    let rest = taken_off weight (a + 1) marks c h in
    let same : weight (a + suc c) ≡ weight (a + 1 + c) = ap weight (omega arith) in
    omega (arith, rest, same)

pub passes : (d : JobView) (weight : ℕ → ℕ) (s : Standing) (c : ℕ) → is_in (owed_at d s) c ≡ true
    → weight_left d weight (with_passed s c) + weight c ≡ weight_left d weight s
passes d weight s c h =
    let taken = taken_off weight 0 (owed_at d s) c h in
    let same : weight (0 + c) ≡ weight c = ap weight (omega arith) in
    omega (arith, taken, same)

-- ---- nothing owed weighs nothing

weightless : (weight : ℕ → ℕ) (a : ℕ) (marks : List Bool) → owes_any marks ≡ false → weigh_from weight a marks ≡ 0
weightless weight a [] h = refl
weightless weight a (m ∷ marks) h =
    let parts = or_parts m (owes_any marks) h in
    let none : (if m then weight a else 0) ≡ 0 = ap (λ (b : Bool). if b then weight a else 0) parts.0 in
    let rest = weightless weight (a + 1) marks parts.1 in
    omega (arith, none, rest)

-- ---- the rounds of the run

lt_unless : (m n : ℕ) → m < n → (m + 1 ≡ n → ⊥) → m + 1 < n
lt_unless m n h g = grind (arith, h, g)

next_in_round : (d : JobView) (r : ℕ) → InRound d r → is_done_after d.context.spec d.context.dimensions.n d.edges (r + 1) ≡ false
    → eqb (r + 1) (most_rounds d.context.spec) ≡ false → InRound d (r + 1)
next_in_round d r round going other = (
  lt_unless r (most_rounds d.context.spec) round.0 (eqb-false (r + 1) (most_rounds d.context.spec) other),
  none_before-next (is_done_after d.context.spec d.context.dimensions.n d.edges) (r + 1) round.1 going,
)

run-done : (d : JobView) (r : ℕ) → InRound d r → is_done_after d.context.spec d.context.dimensions.n d.edges (r + 1) ≡ true → run_rounds d ≡ r + 1
run-done d r round done =
    let below = round.0 in
    ap rounds_of (lone_run-done d.context.spec d.context.dimensions.n d.edges (r + 1) (omega arith) (omega (arith, below)) round.1 done)

run-bound : (d : JobView) (r : ℕ) → InRound d r → is_done_after d.context.spec d.context.dimensions.n d.edges (r + 1) ≡ false
    → eqb (r + 1) (most_rounds d.context.spec) ≡ true → run_rounds d ≡ r + 1
run-bound d r round going last =
    let below = round.0 in
    let is = eqb-true (r + 1) (most_rounds d.context.spec) last in
    let test = is_done_after d.context.spec d.context.dimensions.n d.edges in
    ap rounds_of (lone_run-rounds d.context.spec d.context.dimensions.n d.edges (omega (arith, below))
    (subst (λ (m : ℕ). NoneBefore test (m + 1)) is (none_before-next test (r + 1) round.1 going))) ∙ sym is

-- a round of the run comes before its last, and there are at most as many as the job may make
within_run : (fuel : ℕ) (d : JobView) (r : ℕ) → fuel ≡ most_rounds d.context.spec - r → InRound d r
    → (r < run_rounds d) × (run_rounds d ≤ most_rounds d.context.spec)
within_run zero d r left round = let below = round.0 in absurd (omega (arith, left, below))
within_run (suc fuel) d r left round =
    let below = round.0 in
    by_test (is_done_after d.context.spec d.context.dimensions.n d.edges (r + 1)) (λ _. (r < run_rounds d) × (run_rounds d ≤ most_rounds d.context.spec))
    (λ done. let is = run-done d r round done in (omega (arith, is), omega (arith, is, below)))
    (λ going. by_test (eqb (r + 1) (most_rounds d.context.spec)) (λ _. (r < run_rounds d) × (run_rounds d ≤ most_rounds d.context.spec))
    (λ last. let is = run-bound d r round going last in (omega (arith, is), omega (arith, is, below)))
    (λ other. let more = within_run fuel d (r + 1) (omega (arith, left)) (next_in_round d r round going other) in let a = more.0 in let b = more.1 in (omega (arith, a), b)))

pub round_in_run : (d : JobView) (r : ℕ) → InRound d r → (r < run_rounds d) × (run_rounds d ≤ most_rounds d.context.spec)
round_in_run d r round = within_run (most_rounds d.context.spec - r) d r refl round

-- the first of the rounds that are left, and the others
one_more : (d : JobView) (weight : ℕ → ℕ) (r : ℕ) → r < run_rounds d
    → rounds_weight d weight r (run_rounds d - r) ≡ weight_left d weight (standing (Round r) [])
one_more d weight r below =
    let split : run_rounds d - r ≡ suc (run_rounds d - (r + 1)) = omega (arith, below) in
    ap (rounds_weight d weight r) split

first_round_of : (d : JobView) → 1 ≤ most_rounds d.context.spec → InRound d 0
first_round_of d some = (omega (arith, some), none_before-one (is_done_after d.context.spec d.context.dimensions.n d.edges))

pub begins : (d : JobView) (weight : ℕ → ℕ) → 1 ≤ most_rounds d.context.spec → weight_left d weight (first_standing d) ≡ run_weight d weight
begins d weight some = by_spec (counts_degrees d.context.spec)
  where
    by_spec : (counts : Bool) → weight_left d weight (standing (if counts then Counting 0 else Round 0) [])
        ≡ (if counts then weigh weight (needed_in d (Counting 0)) else 0) + rounds_weight d weight 0 (run_rounds d)
    by_spec true = let none : run_rounds d - 0 ≡ run_rounds d = omega arith in ap (λ m. weigh weight (needed_in d (Counting 0)) + rounds_weight d weight 0 m) none
    by_spec false =
        let none : run_rounds d - 0 ≡ run_rounds d = omega arith in
        let all = one_more d weight 0 (round_in_run d 0 (first_round_of d some)).0 in
        let same : rounds_weight d weight 0 (run_rounds d) ≡ rounds_weight d weight 0 (run_rounds d - 0) = ap (rounds_weight d weight 0) (sym none) in
        sym (omega (arith, all, same))

-- ---- a turn

counting_ended : (d : JobView) (weight : ℕ → ℕ) (r : ℕ) (passed : List ℕ) → InRound d r → owes_any (owed_at d (standing (Counting r) passed)) ≡ false
    → weight_left d weight (standing (Round r) []) ≡ weight_left d weight (standing (Counting r) passed)
counting_ended d weight r passed round none =
    let nothing = weightless weight 0 (owed_at d (standing (Counting r) passed)) none in
    let all = one_more d weight r (round_in_run d r round).0 in
    omega (arith, nothing, all)

-- at the end of the run
nothing_left : (d : JobView) (weight : ℕ → ℕ) (r : ℕ) (passed : List ℕ) → owes_any (owed_at d (standing (Round r) passed)) ≡ false → run_rounds d ≡ r + 1
    → weight_left d weight (standing (Round r) passed) ≡ 0
nothing_left d weight r passed none is =
    let nothing = weightless weight 0 (owed_at d (standing (Round r) passed)) none in
    let over : run_rounds d - (r + 1) ≡ 0 = omega (arith, is) in
    let rest : rounds_weight d weight (r + 1) (run_rounds d - (r + 1)) ≡ 0 = ap (rounds_weight d weight (r + 1)) over in
    omega (arith, nothing, rest)

round_ended : (d : JobView) (weight : ℕ → ℕ) (r : ℕ) (passed : List ℕ) → owes_any (owed_at d (standing (Round r) passed)) ≡ false → r + 1 < run_rounds d
    → weight_left d weight (standing (Round (r + 1)) []) ≡ weight_left d weight (standing (Round r) passed)
round_ended d weight r passed none below =
    let nothing = weightless weight 0 (owed_at d (standing (Round r) passed)) none in
    let all = one_more d weight (r + 1) below in
    omega (arith, nothing, all)

abbrev IsLeftAt : ℕ → JobView → (ℕ → ℕ) → Type 0
IsLeftAt fuel d weight = (phase : Phase) (passed : List ℕ) → fuel ≡ phases_left d.context.spec phase → InPhase d phase
    → IsLeftBy d weight (weight_left d weight (standing phase passed)) (turn_within fuel d (standing phase passed))

counting_left : (more : ℕ) (d : JobView) (weight : ℕ → ℕ) (r : ℕ) (passed : List ℕ) → IsLeftAt more d weight → suc more ≡ phases_left d.context.spec (Counting r)
    → InPhase d (Counting r) → IsLeftBy d weight (weight_left d weight (standing (Counting r) passed)) (turn_within (suc more) d (standing (Counting r) passed))
counting_left more d weight r passed again left phase =
    let here = standing (Counting r) passed in
    by_test (owes_any (owed_at d here))
    (λ b. IsLeftBy d weight (weight_left d weight here) (if b then Goes here else turn_within more d (standing (Round r) [])))
    (λ owes. refl)
    (λ none. subst (λ (left : ℕ). IsLeftBy d weight left (turn_within more d (standing (Round r) []))) (counting_ended d weight r passed phase.1 none)
    (again (Round r) [] (omega (arith, left)) phase.1))

ended_left : (more : ℕ) (d : JobView) (weight : ℕ → ℕ) (r : ℕ) (passed : List ℕ) → IsLeftAt more d weight → suc more ≡ phases_left d.context.spec (Round r)
    → InRound d r → owes_any (owed_at d (standing (Round r) passed)) ≡ false
    → IsLeftBy d weight (weight_left d weight (standing (Round r) passed)) (then_turning (turn_within more d) (next_phase d (Round r)))
ended_left more d weight r passed again left round none =
    let here = weight_left d weight (standing (Round r) passed) in
    let over : Turning Standing = Ends (lone_run d.context.spec d.context.dimensions.n d.edges) in
    let next : Turning Standing = Goes (standing (Round (r + 1)) []) in
    let last = eqb (r + 1) (most_rounds d.context.spec) in
    by_test (is_done_after d.context.spec d.context.dimensions.n d.edges (r + 1))
    (λ b. IsLeftBy d weight here (then_turning (turn_within more d) (if b then over else if last then over else next)))
    (λ done. nothing_left d weight r passed none (run-done d r round done))
    (λ going. by_test last (λ b. IsLeftBy d weight here (then_turning (turn_within more d) (if b then over else next)))
    (λ is. nothing_left d weight r passed none (run-bound d r round going is))
    (λ other.
    let round_then = next_in_round d r round going other in
    let below = round_then.0 in
    subst (λ (left : ℕ). IsLeftBy d weight left (turn_within more d (standing (Round (r + 1)) [])))
    (round_ended d weight r passed none (round_in_run d (r + 1) round_then).0)
    (again (Round (r + 1)) [] (omega (arith, left, below)) round_then)))

round_left : (more : ℕ) (d : JobView) (weight : ℕ → ℕ) (r : ℕ) (passed : List ℕ) → IsLeftAt more d weight → suc more ≡ phases_left d.context.spec (Round r)
    → InRound d r → IsLeftBy d weight (weight_left d weight (standing (Round r) passed)) (turn_within (suc more) d (standing (Round r) passed))
round_left more d weight r passed again left round =
    let here = standing (Round r) passed in
    by_test (owes_any (owed_at d here))
    (λ b. IsLeftBy d weight (weight_left d weight here) (if b then Goes here else then_turning (turn_within more d) (next_phase d (Round r))))
    (λ owes. refl)
    (λ none. ended_left more d weight r passed again left round none)

is_left : (fuel : ℕ) (d : JobView) (weight : ℕ → ℕ) → IsLeftAt fuel d weight
is_left zero d weight (Counting r) passed left phase = absurd (omega (arith, left))
is_left zero d weight (Round r) passed left phase = let below = phase.0 in absurd (omega (arith, left, below))
is_left (suc more) d weight (Counting r) passed left phase = counting_left more d weight r passed (is_left more d weight) left phase
is_left (suc more) d weight (Round r) passed left phase = round_left more d weight r passed (is_left more d weight) left phase

pub turns : (d : JobView) (weight : ℕ → ℕ) (s : Standing) (e : JobState) → IsMidRound d s e → IsLeftBy d weight (weight_left d weight s) (turn_at d s)
turns d weight s e mid = is_left (phases_left d.context.spec s.phase) d weight s.phase s.passed refl mid.phase

-- ---- at most so much

at_most_each : (a : ℕ) (marks : List Bool) → weigh_from (λ c. 1) a marks ≤ length marks
at_most_each a [] = omega arith
at_most_each a (true ∷ marks) = let rest = at_most_each (a + 1) marks in omega (arith, rest)
at_most_each a (false ∷ marks) = let rest = at_most_each (a + 1) marks in omega (arith, rest)

length-needed : (d : JobView) (phase : Phase) → length (needed_in d phase) ≡ d.context.chunks
length-needed d (Counting r) = length-map-range_with_len _ 0 d.context.chunks
length-needed d (Round r) = length-map-range_with_len _ 0 d.context.chunks

at_most_rounds : (d : JobView) (r more : ℕ) → rounds_weight d (λ c. 1) r more ≤ more * d.context.chunks
at_most_rounds d r zero = omega arith
at_most_rounds d r (suc more) =
    let one = at_most_each 0 (needed_in d (Round r)) in
    let long = length-needed d (Round r) in
    let rest = at_most_rounds d (r + 1) more in
    let split : suc more * d.context.chunks ≡ d.context.chunks + more * d.context.chunks = omega arith in
    omega (arith, one, long, rest, split)

pub most : (d : JobView) → 1 ≤ most_rounds d.context.spec → run_weight d (λ c. 1) ≤ phases_left d.context.spec (first_standing d).phase * d.context.chunks
most d some = by_spec (counts_degrees d.context.spec)
  where
    by_spec : (counts : Bool) → (if counts then weigh (λ c. 1) (needed_in d (Counting 0)) else 0) + rounds_weight d (λ c. 1) 0 (run_rounds d)
        ≤ phases_left d.context.spec (if counts then Counting 0 else Round 0) * d.context.chunks
    by_spec true =
        let few = (round_in_run d 0 (first_round_of d some)).1 in
        let all = at_most_rounds d 0 (run_rounds d) in
        let wide : run_rounds d * d.context.chunks ≤ most_rounds d.context.spec * d.context.chunks = mul-le-mul_right d.context.chunks few in
        let one = at_most_each 0 (needed_in d (Counting 0)) in
        let long = length-needed d (Counting 0) in
        let same : most_rounds d.context.spec - 0 + 1 ≡ most_rounds d.context.spec + 1 = omega arith in
        let more : (most_rounds d.context.spec + 1) * d.context.chunks ≡ most_rounds d.context.spec * d.context.chunks + d.context.chunks = omega arith in
        let split : (most_rounds d.context.spec - 0 + 1) * d.context.chunks ≡ most_rounds d.context.spec * d.context.chunks + d.context.chunks = ap (λ (m : ℕ). m * d.context.chunks) same ∙ more in
        omega (arith, all, wide, one, long, split)
    by_spec false =
        let few = (round_in_run d 0 (first_round_of d some)).1 in
        let all = at_most_rounds d 0 (run_rounds d) in
        let wide : run_rounds d * d.context.chunks ≤ most_rounds d.context.spec * d.context.chunks = mul-le-mul_right d.context.chunks few in
        let same : most_rounds d.context.spec - 0 ≡ most_rounds d.context.spec = omega arith in
        let split : (most_rounds d.context.spec - 0) * d.context.chunks ≡ most_rounds d.context.spec * d.context.chunks = ap (λ (m : ℕ). m * d.context.chunks) same in
        omega (arith, all, wide, split)
