-- A job that goes on: call after call, and pass after pass of its owed chunks.
use Rattle.std.specs.Prelude.{◌≡◌, ℕ, zero, suc, ◌+◌, ◌≤◌, Bool, false, ◌||◌, List, [], ◌∷◌, length, slice_set, Option, Ok, Err, refl}
use Rattle.std.proofs.Common.{inl, inr, sym, ap, ◌∙◌, subst, arith}
use Rattle.std.proofs.lemmas.Bool.{cases_lt}
use Rattle.std.proofs.lemmas.List.{length-set}
use Rattle.gm_outside.specs.States.{DepotState}
use Rattle.gm_outside.specs.Files.{Files}
use Rattle.gm_outside.specs.FramesRules.{only_reads-none, only_reads-then}
use Rattle.gm_label.specs.Catalogues.{Catalogue}
use Rattle.gm_source.specs.Fetches.{TellsGrid}
use Rattle.gm_active.specs.Bits.{is_in, NoneBetween, IsLeastBetween}
use Rattle.gm_active.specs.BitsRules.{marked_now, marked_before, is_in_past}
use Rattle.gm_work.specs.JobStates.{JobState, owes_any}
use Rattle.gm_base.specs.declared.job.Spec.{Spec}
use Rattle.gm_grid.specs.GridBytes.{edges_in}
use Rattle.gm_work.specs.Views.{JobView}
use Rattle.gm_work.specs.Weights.{run_weight}
use Rattle.gm_label.specs.declared.chunk.Overlay.{Overlay}
use Rattle.gm_work.specs.HeldJobs.{HeldJob, IsSameJob, context_of}
use Rattle.gm_work.specs.ViewsRules.{same_job-then}
use Rattle.gm_job_run.specs.declared.job_run.Stop.{Stop}
use Rattle.gm_job_run.specs.JobRuns.{IsUnderWay, StopsBy, StopFaults, IsOfChunks, ReadsSome, WhereUnderWay, StaysUnderWay, Carries, pass_reads, view_over}
use Rattle.gm_versions.specs.Snapshots.{Snapshot}
use Rattle.gm_core.specs.SnapshotViews.{view_through}

-- a job was under way, and is, and no call failed
pub record GoesOn (old new : DepotState) (name : List ℕ) (seen : Snapshot) (before after : HeldJob) : Type 0 where
  pub same : IsSameJob before after
  pub faults : new.faults ≡ old.faults
  pub frame : ReadsSome old new
  pub under_way : StaysUnderWay old new name seen before after

pub same_job : (h : HeldJob) → IsSameJob h h
same_job h = record { job = refl; spec = refl; catalogue = refl; overlays = refl }

-- only the entry is another
pub same_job-entry : (before after : HeldJob) (e : JobState) → after ≡ record before { state = e } → IsSameJob before after
same_job-entry before after e is = record {
  job = ap (λ (h : HeldJob). h.job) is;
  spec = ap (λ (h : HeldJob). h.spec) is;
  catalogue = ap (λ (h : HeldJob). h.catalogue) is;
  overlays = ap (λ (h : HeldJob). h.overlays) is;
}

same_job-back : (a b : HeldJob) → IsSameJob a b → IsSameJob b a
same_job-back a b same = record { job = sym same.job; spec = sym same.spec; catalogue = sym same.catalogue; overlays = sym same.overlays }

pub goes_on-none : (depot : DepotState) (name : List ℕ) (seen : Snapshot) (h : HeldJob) → GoesOn depot depot name seen h h
goes_on-none depot name seen h = record { same = same_job h; faults = refl; frame = (0, only_reads-none depot); under_way = λ bytes first told way. way }

reads_some-then : (old mid new : DepotState) → ReadsSome old mid → ReadsSome mid new → ReadsSome old new
reads_some-then old mid new a b = (a.0 + b.0, only_reads-then 0 a.0 0 b.0 old mid new a.1 b.1)

-- what holds of the view of one moment holds of the other's
view-to : (h other : HeldJob) (seen : Snapshot) (bytes : List ℕ) (P : JobView → (ℕ → ℕ) → Type 0) → IsSameJob h other
    → P (view_over h seen bytes) (pass_reads h.catalogue) → P (view_over other seen bytes) (pass_reads other.catalogue)
view-to h other seen bytes P same p =
    let view = λ (spec : Spec) (cat : Catalogue) (overlays : List Overlay). view_through (context_of spec cat overlays) cat (edges_in bytes) seen in
    subst (λ (spec : Spec). P (view spec other.catalogue other.overlays) (pass_reads other.catalogue)) (sym same.spec)
    (subst (λ (cat : Catalogue). P (view h.spec cat other.overlays) (pass_reads cat)) (sym same.catalogue)
    (subst (λ (overlays : List Overlay). P (view h.spec h.catalogue overlays) (pass_reads h.catalogue)) (sym same.overlays) p))

-- what holds after a call that began where the job had gone on to holds after both
pub where-then : (old mid : DepotState) (name : List ℕ) (seen : Snapshot) (h mid_h : HeldJob) (Holds : JobView → (ℕ → ℕ) → ℕ → Type 0) → GoesOn old mid name seen h mid_h
    → WhereUnderWay mid name mid_h seen Holds → WhereUnderWay old name h seen Holds
where-then old mid name seen h mid_h Holds on holds bytes first told way =
    view-to mid_h h seen bytes (λ d reads_of. Holds d reads_of first) (same_job-back h mid_h on.same)
    (holds bytes first there (view-to h mid_h seen bytes (λ d reads_of. IsUnderWay d reads_of first mid_h.state mid.reads) on.same (on.under_way bytes first told way)))
  where
    there : TellsGrid mid.files name mid_h.catalogue bytes
    there =
        subst (λ (cat : Catalogue). TellsGrid mid.files name cat bytes) (sym on.same.catalogue)
        (subst (λ (files : Option Files). TellsGrid files name h.catalogue bytes) (sym on.frame.1.files) told)

pub goes_on-then : (old mid new : DepotState) (name : List ℕ) (seen : Snapshot) (h mid_h after : HeldJob) → GoesOn old mid name seen h mid_h
    → GoesOn mid new name seen mid_h after → GoesOn old new name seen h after
goes_on-then old mid new name seen h mid_h after a b = record {
  same = same_job-then h mid_h after a.same b.same;
  faults = b.faults ∙ a.faults;
  frame = reads_some-then old mid new a.frame b.frame;
  under_way = where-then old mid name seen h mid_h (λ d reads_of first. IsUnderWay d reads_of first after.state new.reads) a b.under_way;
}

-- a call that was answered and after which the job is under way
pub carries-on : {T : Type 0} (old new : DepotState) (name : List ℕ) (seen : Snapshot) (before after : HeldJob) (x : T) → Carries old new name seen before after (Ok x)
    → StaysUnderWay old new name seen before after → GoesOn old new name seen before after
carries-on old new name seen before after x carries stays = record { same = carries.same; faults = carries.faults; frame = carries.frame; under_way = stays }

-- an answer behind calls that all went well
pub carries-done : {T : Type 0} (old new : DepotState) (name : List ℕ) (seen : Snapshot) (before after : HeldJob) (x : T) → IsSameJob before after → new.faults ≡ old.faults
    → ReadsSome old new → Carries old new name seen before after (Ok x)
carries-done old new name seen before after x same faults frame = record { same = same; chunk = tt; stops = tt; faults = faults; frame = frame }

-- .. and a stop
pub carries-stop : {X T : Type 0} (old mid new : DepotState) (name : List ℕ) (seen : Snapshot) (h mid_h after : HeldJob) (stop : Stop) → GoesOn old mid name seen h mid_h
    → Carries {T = X} mid new name seen mid_h after (Err stop) → Carries {T = T} old new name seen h after (Err stop)
carries-stop old mid new name seen h mid_h after stop on last = record {
  same = same_job-then h mid_h after on.same last.same;
  chunk = subst (λ (cat : Catalogue). IsOfChunks (length cat.places) stop) on.same.catalogue last.chunk;
  stops = where-then old mid name seen h mid_h (λ d reads_of first. StopsBy d old.calm stop × (new.reads ≤ first + run_weight d reads_of)) on
      (λ bytes first told way. let here = last.stops bytes first told way in
      (subst (λ (calm : Bool). StopsBy (view_over mid_h seen bytes) calm stop) on.frame.1.calm here.0, here.1));
  faults = subst (λ (before : ℕ). StopFaults before new.faults stop) on.faults last.faults;
  frame = reads_some-then old mid new on.frame last.frame;
}

-- ---- the passes of a phase

-- so many first chunks aren't owed any more
pub record PassesSo (old new : DepotState) (name : List ℕ) (seen : Snapshot) (before after : HeldJob) (end : ℕ) : Type 0 where
  pub on : GoesOn old new name seen before after
  pub phase : after.state.phase ≡ before.state.phase
  pub none : NoneBetween (is_in after.state.owed) 0 end

pub passes-none : (depot : DepotState) (name : List ℕ) (seen : Snapshot) (h : HeldJob) → PassesSo depot depot name seen h h 0
passes-none depot name seen h = record { on = goes_on-none depot name seen h; phase = refl; none = λ k low high. absurd (omega arith) }

-- two stretches, one after the other
pub none_joined : (owed : List Bool) (from chunks : ℕ) → NoneBetween (is_in owed) 0 from → NoneBetween (is_in owed) from chunks → NoneBetween (is_in owed) 0 chunks
none_joined owed from chunks before behind k low high =
    elim (cases_lt k from) as (λ _. is_in owed k ≡ false) [ inl early ↦ before k low early | inr late ↦ behind k late high ]

none_up_to : (owed marks : List Bool) (from chunk : ℕ) → marks ≡ slice_set owed chunk false → NoneBetween (is_in owed) 0 from → NoneBetween (is_in owed) from chunk
    → NoneBetween (is_in marks) 0 (chunk + 1)
none_up_to owed marks from chunk is before between k low high =
    ap (λ (m : List Bool). is_in m k) is
    ∙ (elim (cases_lt k chunk) as (λ _. is_in (slice_set owed chunk false) k ≡ false) [
      | inl less ↦ marked_before owed chunk k false (λ e. omega (arith, e, less)) ∙ none_joined owed from chunk before between k low less
      | inr past ↦ at_chunk past
    ])
  where
    at_chunk : chunk ≤ k → is_in (slice_set owed chunk false) k ≡ false
    at_chunk past =
        let here : k ≡ chunk = omega (arith, past, high) in
        ap (is_in (slice_set owed chunk false)) here ∙ (elim (cases_lt chunk (length owed)) as (λ _. is_in (slice_set owed chunk false) chunk ≡ false) [
          | inl within ↦ marked_now owed chunk false within
          | inr beyond ↦ is_in_past (slice_set owed chunk false) chunk (omega (arith, beyond, length-set owed chunk false))
        ])

pub passes-next : (old mid new : DepotState) (name : List ℕ) (seen : Snapshot) (h mid_h after : HeldJob) (from end chunk : ℕ)
    → PassesSo old mid name seen h mid_h from → IsLeastBetween (is_in mid_h.state.owed) from end chunk → GoesOn mid new name seen mid_h after
    → after.state.phase ≡ mid_h.state.phase → after.state.owed ≡ slice_set mid_h.state.owed chunk false
    → PassesSo old new name seen h after (chunk + 1)
passes-next old mid new name seen h mid_h after from end chunk so_far least on phase owed = record {
  on = goes_on-then old mid new name seen h mid_h after so_far.on on;
  phase = phase ∙ so_far.phase;
  none = none_up_to mid_h.state.owed after.state.owed from chunk owed so_far.none least.before;
}

-- no chunk is owed
pub none_owed : (owed : List Bool) (chunks : ℕ) → length owed ≤ chunks → NoneBetween (is_in owed) 0 chunks → owes_any owed ≡ false
none_owed [] chunks long none = refl
none_owed (o ∷ owed) zero long none = absurd (omega (arith, long))
none_owed (o ∷ owed) (suc chunks) long none =
    ap (λ (b : Bool). b || owes_any owed) (none 0 (omega arith) (omega arith))
    ∙ none_owed owed chunks (omega (arith, long)) (λ k low high. none (suc k) (omega arith) (omega (arith, high)))
