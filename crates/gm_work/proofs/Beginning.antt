-- A round begins: what the calls wrote is what the definitions say, over a job's own lists and catalogue.
use Rattle.std.proofs.Common.{◌≡◌, ℕ, ◌<◌, Bool, true, List, map, length, get_or, ap, subst, ◌∙◌, arith}
use Rattle.std.specs.List.{range_with_len}
use Rattle.std.proofs.lemmas.List.FromFn.{length-map-range_with_len}
use Rattle.gm_base.specs.declared.job.Spec.{Spec}
use Rattle.gm_kernel.specs.Kernels.{kernel_of, share_of}
use Rattle.gm_kernel.specs.Activity.{activity_of, active_at}
use Rattle.gm_rank.specs.Ranks.{AreShares}
use Rattle.gm_label.specs.declared.chunk.Overlay.{Overlay}
use Rattle.gm_label.specs.Catalogues.{Catalogue, place_at}
use Rattle.gm_label.specs.Overlays.{sources_under}
use Rattle.gm_active.specs.Bits.{is_in}
use Rattle.gm_active.specs.Needs.{needed_chunks}
use Rattle.gm_kernel.specs.Runs.{most_rounds}
use Rattle.gm_kernel.specs.declared.phase.Phase.{Phase}
use Rattle.gm_work.specs.JobStates.{counts_degrees, needed_chunks_of, carried_values}
use Rattle.gm_work.specs.Stored.{round_of_phase, AreSharesIn, IsStored}
use Rattle.gm_work.specs.HeldJobs.{HeldJob, context_of, context_in}

-- the same lists have the same shares
pub are_shares-same : (degrees degrees' ranks ranks' shares shares' : List ℕ) → degrees ≡ degrees' → ranks ≡ ranks' → shares' ≡ shares
    → AreShares (λ u. get_or degrees u 0) ranks shares → AreShares (λ u. get_or degrees' u 0) ranks' shares'
are_shares-same degrees degrees' ranks ranks' shares shares' same_degrees same_ranks same_shares are u =
    ap (λ (xs : List ℕ). get_or xs u 0) same_shares ∙ are u
    ∙ ap (λ (xs : List ℕ). share_of (get_or xs u 0) (get_or degrees u 0)) same_ranks
    ∙ ap (λ (xs : List ℕ). share_of (get_or ranks' u 0) (get_or xs u 0)) same_degrees

-- what marks say of each vertex, and chunks that are needed for any test that agrees with them
abbrev pub AreMarked : Spec → Bool → List ℕ → List ℕ → List ℕ → List Bool → Type 0
AreMarked spec first older values degrees active =
    (v : ℕ) → v < length values → is_in active v ≡ active_at (activity_of spec) first older values (λ u. get_or degrees u 0) v

abbrev pub IsOwedBy : Catalogue → List Overlay → List Bool → Bool → List Bool → Type 0
IsOwedBy cat overlays active two_way owed =
    (is_active : ℕ → Bool) → ((v : ℕ) → v < cat.dimensions.n → is_in active v ≡ is_active v)
    → owed ≡ needed_chunks cat.dimensions two_way is_active (length cat.places) (λ c. (place_at cat c).block) (sources_under cat overlays)

marked-same : (spec : Spec) (first : Bool) (older older' values values' degrees degrees' : List ℕ) (active : List Bool)
    → older ≡ older' → values ≡ values' → degrees ≡ degrees' → AreMarked spec first older values degrees active
    → AreMarked spec first older' values' degrees' active
marked-same spec first older older' values values' degrees degrees' active same_older same_values same_degrees marked v within =
    let long = ap length same_values in
    marked v (omega arith)
    ∙ ap (λ (xs : List ℕ). active_at (activity_of spec) first xs values (λ u. get_or degrees u 0) v) same_older
    ∙ ap (λ (xs : List ℕ). active_at (activity_of spec) first older' xs (λ u. get_or degrees u 0) v) same_values
    ∙ ap (λ (xs : List ℕ). active_at (activity_of spec) first older' values' (λ u. get_or xs u 0) v) same_degrees

owed-needed : (spec : Spec) (cat : Catalogue) (overlays : List Overlay) (first : Bool) (older values degrees : List ℕ) (active owed : List Bool)
    → length values ≡ cat.dimensions.n
    → AreMarked spec first older values degrees active → IsOwedBy cat overlays active (kernel_of spec).is_two_way owed
    → owed ≡ needed_chunks_of (context_of spec cat overlays) first older values degrees
owed-needed spec cat overlays first older values degrees active owed long marked owed_by =
    owed_by (active_at (activity_of spec) first older values (λ u. get_or degrees u 0)) (λ v within. marked v (omega arith))

owed_by-same : (cat cat' : Catalogue) (overlays : List Overlay) (active : List Bool) (two_way : Bool) (owed : List Bool)
    → cat ≡ cat' → IsOwedBy cat overlays active two_way owed → IsOwedBy cat' overlays active two_way owed
owed_by-same cat cat' overlays active two_way owed same owed_by = subst (λ (x : Catalogue). IsOwedBy x overlays active two_way owed) same owed_by

-- what a round owes, over lists and a catalogue that are a job's
pub owed-from : (h : HeldJob) (first : Bool) (cat : Catalogue) (older older' values values' degrees : List ℕ) (active owed : List Bool)
    → length values' ≡ h.catalogue.dimensions.n
    → older ≡ older' → values ≡ values' → degrees ≡ h.state.degrees → cat ≡ h.catalogue
    → AreMarked h.spec first older values degrees active → IsOwedBy cat h.overlays active (kernel_of h.spec).is_two_way owed
    → owed ≡ needed_chunks_of (context_in h) first older' values' h.state.degrees
owed-from h first cat older older' values values' degrees active owed long same_older same_values same_degrees same_cat marked owed_by =
    owed-needed h.spec h.catalogue h.overlays first older' values' h.state.degrees active owed long
    (marked-same h.spec first older older' values values' degrees h.state.degrees active same_older same_values same_degrees marked)
    (owed_by-same cat h.catalogue h.overlays active (kernel_of h.spec).is_two_way owed same_cat owed_by)

-- what was carried of n values
pub length-carried_values : (spec : Spec) (values sums : List ℕ)
    → sums ≡ map (λ v. (kernel_of spec).carried_value (get_or values v 0)) (range_with_len 0 (length values)) → length sums ≡ length values
length-carried_values spec values sums is =
    ap length is ∙ length-map-range_with_len (λ v. (kernel_of spec).carried_value (get_or values v 0)) 0 (length values)

pub carried_values-from : (h : HeldJob) (values values' sums : List ℕ) → length values' ≡ h.catalogue.dimensions.n → values ≡ values'
    → sums ≡ map (λ v. (kernel_of h.spec).carried_value (get_or values v 0)) (range_with_len 0 (length values)) → sums ≡ carried_values (context_in h) values'
carried_values-from h values values' sums long same is =
    is ∙ ap (λ (xs : List ℕ). map (λ v. (kernel_of h.spec).carried_value (get_or xs v 0)) (range_with_len 0 (length xs))) same
    ∙ ap (λ (n : ℕ). map (λ v. (kernel_of h.spec).carried_value (get_or values' v 0)) (range_with_len 0 n)) long

-- a job is kept well in another phase with other chunks owed, other marks and other shares, if they fit
pub stored-owing : (h : HeldJob) (phase : Phase) (owed : List Bool) (shares shares' : List ℕ) (active active' : List Bool) → IsStored h shares active
    → length active' ≡ length active → length owed ≡ length h.catalogue.places → (counts_degrees h.spec ≡ true → length shares' ≡ h.catalogue.dimensions.n)
    → round_of_phase phase < most_rounds h.spec
    → (counts_degrees h.spec ≡ true → AreSharesIn phase h.state.values h.state.degrees shares')
    → IsStored (record h { state = record h.state { phase = phase; owed = owed } }) shares' active'
stored-owing h phase owed shares shares' active active' was marks chunks share_count round taken = record {
  dimensions = was.dimensions;
  in_rows = was.in_rows;
  overlays = was.overlays;
  marks = marks ∙ was.marks;
  values = was.values;
  sums = was.sums;
  degrees = was.degrees;
  owed = chunks;
  share_count = share_count;
  round = round;
  shares_taken = λ c owes counts. taken counts;
}
