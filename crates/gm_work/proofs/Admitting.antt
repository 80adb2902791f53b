-- A job before its first pass, by what was written into its lists.
use Rattle.std.proofs.Common.{◌≡◌, ℕ, zero, suc, ◌+◌, Bool, true, false, List, ◌∷◌, map, length, get_or, replicate, refl, ap, sym, ◌∙◌}
use Rattle.std.specs.Prelude.{if◌then◌else◌}
use Rattle.std.specs.List.{range_with_len}
use Rattle.gm_base.specs.declared.job.Spec.{Spec}
use Rattle.gm_kernel.specs.Kernels.{kernel_of}
use Rattle.gm_label.specs.declared.chunk.Overlay.{Overlay}
use Rattle.gm_label.specs.Catalogues.{Catalogue}
use Rattle.gm_kernel.specs.declared.phase.Phase.TheVariants.{Counting, Round}
use Rattle.gm_work.specs.JobStates.{JobContext, JobState, counts_degrees, counted_chunks_of, needed_chunks_of, initial_values, carried_values, each_vertex}
use Rattle.gm_work.specs.HeldJobs.{HeldJob, context_of, context_in, admitted_job}
use Rattle.gm_work.specs.Steps.{unbegun_state, with_round}
use Rattle.gm_work.specs.Stored.{held_job}

zeros-from : (n a : ℕ) → replicate {A = ℕ} n 0 ≡ map (λ u. 0) (range_with_len a n)
zeros-from zero a = refl
zeros-from (suc n) a = ap (λ (xs : List ℕ). 0 ∷ xs) (zeros-from n (a + 1))

abbrev with_state : HeldJob → JobState → HeldJob
with_state h e = record h { state = e }

abbrev unbegun : ℕ → Spec → Catalogue → List Overlay → HeldJob
unbegun job spec cat overlays = record (admitted_job job spec cat overlays) { state = unbegun_state (context_of spec cat overlays) }

-- lists of a catalogue's vertices and chunks
pub unbegun-is : (job : ℕ) (spec : Spec) (cat : Catalogue) (overlays : List Overlay) (n m chunks : ℕ) (values values' sums degrees : List ℕ) (owed : List Bool)
    → m ≡ cat.dimensions.n → n ≡ cat.dimensions.n → chunks ≡ length cat.places
    → values ≡ map (kernel_of spec).initial_value (range_with_len 0 m)
    → values' ≡ values
    → length values ≡ n
    → sums ≡ map (λ v. (kernel_of spec).carried_value (get_or values' v 0)) (range_with_len 0 (length values'))
    → degrees ≡ replicate {A = ℕ} n 0
    → owed ≡ replicate chunks false
    → held_job job spec cat overlays (Counting 0) values sums degrees owed ≡ unbegun job spec cat overlays
unbegun-is job spec cat overlays n m chunks values values' sums degrees owed all every whole begun same long carry none unowed =
    let k = context_of spec cat overlays in
    let held = held_job job spec cat overlays (Counting 0) in
    let first : values ≡ initial_values k = begun ∙ ap (λ (x : ℕ). map (kernel_of spec).initial_value (range_with_len 0 x)) all in
    let carrying = λ (x : ℕ) (xs : List ℕ). map (λ v. (kernel_of spec).carried_value (get_or xs v 0)) (range_with_len 0 x) in
    let second : sums ≡ carried_values k (initial_values k) =
    carry ∙ ap (λ (xs : List ℕ). carrying (length xs) xs) same ∙ ap (λ (x : ℕ). carrying x values) (long ∙ every) ∙ ap (carrying cat.dimensions.n) first in
    let third : degrees ≡ each_vertex k (λ u. 0) = none ∙ ap (λ (x : ℕ). replicate {A = ℕ} x 0) every ∙ zeros-from cat.dimensions.n 0 in
    let fourth : owed ≡ replicate (length cat.places) false = unowed ∙ ap (λ (x : ℕ). replicate x false) whole in
    ap (λ xs. held xs sums degrees owed) first
    ∙ ap (λ xs. held (initial_values k) xs degrees owed) second
    ∙ ap (λ xs. held (initial_values k) (carried_values k (initial_values k)) xs owed) third
    ∙ ap (λ xs. held (initial_values k) (carried_values k (initial_values k)) (each_vertex k (λ u. 0)) xs) fourth

-- the first phase of either kind
abbrev begun : JobContext → Bool → JobState
begun k counts =
    let values = initial_values k in
    let none = each_vertex k (λ u. 0) in
    record {
      phase = if counts then Counting 0 else Round 0;
      values = values;
      sums = carried_values k values;
      degrees = none;
      owed = if counts then counted_chunks_of k else needed_chunks_of k true values values none;
    }

pub admitted_job-counting : (job : ℕ) (spec : Spec) (cat : Catalogue) (overlays : List Overlay) (h : HeldJob) → counts_degrees spec ≡ true
    → h ≡ unbegun job spec cat overlays → with_state h (record h.state { owed = counted_chunks_of (context_in h) }) ≡ admitted_job job spec cat overlays
admitted_job-counting job spec cat overlays h counts is =
    ap (λ (x : HeldJob). with_state x (record x.state { owed = counted_chunks_of (context_in x) })) is
    ∙ ap (λ (b : Bool). with_state (admitted_job job spec cat overlays) (begun (context_of spec cat overlays) b)) (sym counts)

pub admitted_job-round : (job : ℕ) (spec : Spec) (cat : Catalogue) (overlays : List Overlay) (h : HeldJob) → counts_degrees spec ≡ false
    → h ≡ unbegun job spec cat overlays → with_state h (with_round (context_in h) 0 h.state) ≡ admitted_job job spec cat overlays
admitted_job-round job spec cat overlays h counts is =
    ap (λ (x : HeldJob). with_state x (with_round (context_in x) 0 x.state)) is
    ∙ ap (λ (b : Bool). with_state (admitted_job job spec cat overlays) (begun (context_of spec cat overlays) b)) (sym counts)
