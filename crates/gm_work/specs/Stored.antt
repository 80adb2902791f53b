-- What a job keeps beside what contracts see of it.
use Rattle.std.specs.Prelude.{◌≡◌, ℕ, ◌<◌, true, Bool, List, length, slice_index}
use Rattle.gm_base.specs.Dimensions.{AreDimensions}
use Rattle.gm_base.specs.declared.job.Spec.{Spec}
use Rattle.gm_kernel.specs.Runs.{most_rounds}
use Rattle.gm_label.specs.declared.chunk.Overlay.{Overlay}
use Rattle.gm_label.specs.Catalogues.{Catalogue, AreInRows}
use Rattle.gm_label.specs.Overlays.{AreOverlays}
use Rattle.gm_rank.specs.Ranks.{AreShares}
use Rattle.gm_active.specs.Bits.{is_in}
use Rattle.gm_kernel.specs.declared.phase.Phase.{Phase}
use Rattle.gm_kernel.specs.declared.phase.Phase.TheVariants.{Counting, Round}
use Rattle.gm_work.specs.JobStates.{counts_degrees}
use Rattle.gm_work.specs.HeldJobs.{HeldJob}

-- a job by what its fields are
abbrev pub held_job : ℕ → Spec → Catalogue → List Overlay → Phase → List ℕ → List ℕ → List ℕ → List Bool → HeldJob
held_job job spec cat overlays phase values sums degrees owed = record {
  job = job;
  spec = spec;
  catalogue = cat;
  overlays = overlays;
  state = record { phase = phase; values = values; sums = sums; degrees = degrees; owed = owed };
}

-- the number of the round that a phase is of
abbrev pub round_of_phase : Phase → ℕ
round_of_phase (Counting r) = r
round_of_phase (Round r) = r

-- the shares of a round's values and out-degrees; they aren't taken before degrees are counted
abbrev pub AreSharesIn : Phase → List ℕ → List ℕ → List ℕ → Type 0
AreSharesIn (Counting r) values degrees shares = Unit {0}
AreSharesIn (Round r) values degrees shares = AreShares (λ u. slice_index degrees u) values shares

-- each list has an entry for each vertex or chunk, the catalogue and the overlays are fit for a job, there is another round to make, and
-- where a rank job owes a chunk its shares are those of the round
pub record IsStored (h : HeldJob) (shares : List ℕ) (active : List Bool) : Type 0 where
  pub dimensions : AreDimensions h.catalogue.dimensions.n h.catalogue.dimensions.parts
  pub in_rows : AreInRows h.catalogue
  pub overlays : AreOverlays h.catalogue h.overlays
  pub values : length h.state.values ≡ h.catalogue.dimensions.n
  pub sums : length h.state.sums ≡ h.catalogue.dimensions.n
  pub degrees : length h.state.degrees ≡ h.catalogue.dimensions.n
  pub marks : length active ≡ h.catalogue.dimensions.n
  pub owed : length h.state.owed ≡ length h.catalogue.places
  pub share_count : counts_degrees h.spec ≡ true → length shares ≡ h.catalogue.dimensions.n
  pub round : round_of_phase h.state.phase < most_rounds h.spec
  pub shares_taken : (c : ℕ) → is_in h.state.owed c ≡ true → counts_degrees h.spec ≡ true
      → AreSharesIn h.state.phase h.state.values h.state.degrees shares
