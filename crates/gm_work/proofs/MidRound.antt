-- A job in the middle of a round: it begins so, a pass keeps it so, and a turn leads to the middle of a later phase or to its end.
use Rattle.std.specs.Prelude.{◌≡◌, ℕ, zero, suc, ◌+◌, ◌≤◌, min, Bool, true, false, List, ◌∷◌, map, slice_index, slice_set, if◌then◌else◌, refl}
use Rattle.std.specs.List.{range_with_len}
use Rattle.std.proofs.Common.{sym, ap, ap₂, ◌∙◌, arith}
use Rattle.gm_rank.specs.declared.passes.TheConstants.{MAX_DEGREE}
use Rattle.gm_base.specs.declared.edge.Edge.{Edge}
use Rattle.gm_base.specs.declared.job.Spec.{Spec}
use Rattle.gm_base.specs.declared.job.Spec.TheVariants.{Bfs, Sssp, Wcc, Rank}
use Rattle.gm_base.specs.Dimensions.{Dimensions}
use Rattle.gm_base.specs.Graph.{IsSameGraph, out_degree}
use Rattle.gm_base.specs.GraphRules.{out_degree-same}
use Rattle.gm_kernel.specs.KernelsRules.{laws_of}
use Rattle.gm_kernel.specs.Runs.{joined_at, values_after, most_rounds}
use Rattle.gm_kernel.specs.RunsRules.{none_before-one}
use Rattle.gm_kernel.specs.PassRules.{joined_at-same_graph}
use Rattle.gm_kernel.specs.Standings.{Standing, with_passed}
use Rattle.gm_active.specs.Bits.{is_in}
use Rattle.gm_kernel.specs.declared.phase.Phase.{Phase}
use Rattle.gm_kernel.specs.declared.phase.Phase.TheVariants.{Counting, Round}
use Rattle.gm_work.specs.JobStates.{JobState, kernel_in, counts_degrees, counted_chunks_of, first_state, degrees_with, sums_with, state_after_pass_in, state_after_pass}
use Rattle.gm_work.specs.Views.{JobView, values_at, degrees_of, needed_in, owed_after, first_standing, degrees_after, sums_after, state_in, state_at, InPhase, IsMidRound}

-- ---- begins

-- a job over its view, part by part
abbrev view_by : Spec → Dimensions → ℕ → (ℕ → ℕ) → (ℕ → List ℕ) → List Edge → (ℕ → List Edge) → JobView
view_by spec dims chunks block_at sources_at edges content = record {
  context = record { spec = spec; dimensions = dims; chunks = chunks; block_at = block_at; sources_at = sources_at };
  edges = edges;
  content_at = content;
}

first_is : (spec : Spec) (dims : Dimensions) (chunks : ℕ) (block_at : ℕ → ℕ) (sources_at : ℕ → List ℕ) (edges : List Edge) (content : ℕ → List Edge)
    → let d = view_by spec dims chunks block_at sources_at edges content in first_state d.context ≡ state_at d (first_standing d)
unfolding values_after
first_is (Bfs source bound) dims chunks block_at sources_at edges content = refl
first_is (Sssp source bound) dims chunks block_at sources_at edges content = refl
first_is (Wcc bound) dims chunks block_at sources_at edges content = refl
first_is (Rank rounds) dims chunks block_at sources_at edges content = refl

first_phase : (d : JobView) (spec : Spec) → d.context.spec ≡ spec → 1 ≤ most_rounds d.context.spec
    → InPhase d (if counts_degrees spec then Counting 0 else Round 0)
first_phase d (Bfs source bound) is some = (omega (arith, some), none_before-one _)
first_phase d (Sssp source bound) is some = (omega (arith, some), none_before-one _)
first_phase d (Wcc bound) is some = (omega (arith, some), none_before-one _)
first_phase d (Rank rounds) is some = (ap counts_degrees is, (omega (arith, some), none_before-one _))

pub begins : (d : JobView) → 1 ≤ most_rounds d.context.spec → IsMidRound d (first_standing d) (first_state d.context)
begins d some = record {
  phase = first_phase d d.context.spec refl some;
  passed = tt;
  state = first_is d.context.spec d.context.dimensions d.context.chunks d.context.block_at d.context.sources_at d.edges d.content_at;
}

-- ---- passes

map_range_same : (f g : ℕ → ℕ) (a n : ℕ) → ((v : ℕ) → f v ≡ g v) → map f (range_with_len a n) ≡ map g (range_with_len a n)
map_range_same f g a zero h = refl
map_range_same f g a (suc n) h = ap₂ (λ (x : ℕ) (xs : List ℕ). x ∷ xs) (h a) (map_range_same f g (a + 1) n h)

pass_is : (d : JobView) (phase : Phase) (passed : List ℕ) (c : ℕ) (edges : List Edge) → IsSameGraph edges (d.content_at c)
    → state_after_pass_in phase d.context (state_in d phase passed) c edges ≡ state_in d phase (c ∷ passed)
pass_is d (Counting r) passed c edges same =
    let each : degrees_with d.context edges (degrees_after d passed) ≡ degrees_after d (c ∷ passed) =
    map_range_same (λ u. min (slice_index (degrees_after d passed) u + out_degree edges u) MAX_DEGREE) (λ u. min (slice_index (degrees_after d passed) u + out_degree (d.content_at c) u) MAX_DEGREE) 0 d.context.dimensions.n
    (λ u. ap (λ m. min (slice_index (degrees_after d passed) u + m) MAX_DEGREE) (out_degree-same edges (d.content_at c) same u)) in
    ap (λ degrees. record (state_in d (Counting r) passed) { degrees = degrees; owed = slice_set (owed_after (counted_chunks_of d.context) passed) c false }) each
pass_is d (Round r) passed c edges same =
    let k = kernel_in d.context in
    let values = values_at d r in
    let before = sums_after d values passed in
    let each : sums_with d.context (degrees_of d) values edges before ≡ sums_after d values (c ∷ passed) =
    map_range_same (λ v. joined_at k (slice_index (degrees_of d)) values edges v (slice_index before v)) (λ v. joined_at k (slice_index (degrees_of d)) values (d.content_at c) v (slice_index before v)) 0 d.context.dimensions.n
    (λ v. joined_at-same_graph k (slice_index (degrees_of d)) values edges (d.content_at c) v (slice_index before v) (laws_of d.context.spec).joins same) in
    ap (λ sums. record (state_in d (Round r) passed) { sums = sums; owed = slice_set (owed_after (needed_in d (Round r)) passed) c false }) each

phase_is : (d : JobView) (phase : Phase) (passed : List ℕ) → (state_in d phase passed).phase ≡ phase
phase_is d (Counting r) passed = refl
phase_is d (Round r) passed = refl

pub owed_is : (d : JobView) (phase : Phase) (passed : List ℕ) → (state_in d phase passed).owed ≡ owed_after (needed_in d phase) passed
owed_is d (Counting r) passed = refl
owed_is d (Round r) passed = refl

pub passes : (d : JobView) (s : Standing) (e : JobState) (c : ℕ) (edges : List Edge) → IsMidRound d s e → is_in e.owed c ≡ true → IsSameGraph edges (d.content_at c)
    → IsMidRound d (with_passed s c) (state_after_pass d.context e c edges)
passes d s e c edges mid owes same = record {
  phase = mid.phase;
  passed = (ap (λ (owed : List Bool). is_in owed c) (sym (ap (λ (f : JobState). f.owed) mid.state ∙ owed_is d s.phase s.passed)) ∙ owes, mid.passed);
  state = ap (λ (f : JobState). state_after_pass d.context f c edges) mid.state
      ∙ ap (λ (p : Phase). state_after_pass_in p d.context (state_in d s.phase s.passed) c edges) (phase_is d s.phase s.passed)
      ∙ pass_is d s.phase s.passed c edges same;
}
