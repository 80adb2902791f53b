-- A job's phase, from its passes through its turn.
use Rattle.std.specs.Prelude.{◌≡◌, ℕ, ◌<◌, ◌≤◌, true, false, List, Option, Some, None, Ok, length, refl, ⊤}
use Rattle.std.proofs.Common.{sym, ap, ◌∙◌, subst, arith}
use Rattle.gm_base.specs.declared.edge.Edge.{Edge}
use Rattle.gm_base.specs.declared.job.Spec.{Spec}
use Rattle.gm_base.specs.declared.job.Turned.{Turned}
use Rattle.gm_base.specs.declared.job.Turned.TheVariants.{Owes, Done as DoneTurn, Bound as BoundTurn}
use Rattle.gm_base.specs.declared.job.Outcome.TheVariants.{Done, Rounds}
use Rattle.gm_base.specs.declared.limits.TheConstants.{MAX_EDGES}
use Rattle.gm_base.specs.Dimensions.{AreDimensions}
use Rattle.gm_base.specs.Graph.{IsGraph}
use Rattle.gm_outside.specs.States.{DepotState}
use Rattle.gm_outside.specs.Files.{Files}
use Rattle.gm_grid.specs.GridBytes.{edges_in}
use Rattle.gm_label.specs.declared.chunk.Overlay.{Overlay}
use Rattle.gm_label.specs.Catalogues.{Catalogue, IsOver}
use Rattle.gm_source.specs.Openings.{IsCatalogueOf}
use Rattle.gm_source.specs.Fetches.{TellsGrid}
use Rattle.gm_kernel.specs.Standings.{Turning}
use Rattle.gm_work.specs.JobStates.{JobContext, JobState, owes_any, phases_left, turning_of}
use Rattle.gm_kernel.specs.Standings.Turning.{Goes, Ends}
use Rattle.gm_work.specs.Views.{IsCutIntoChunks}
use Rattle.gm_work.specs.HeldJobs.{HeldJob, context_in, context_of, IsSameJob, IsTurned}
use Rattle.gm_versions.specs.Snapshots.{Snapshot, IsSnapshotOver, overlays_of}
use Rattle.gm_core.specs.SnapshotViews.{snapshot_view, view_through}
use Rattle.gm_job_run.specs.declared.job_run.End.{End}
use Rattle.gm_work.specs.Views.{JobView}
use Rattle.gm_job_run.specs.SeenViews.{Sees}
use Rattle.gm_job_run.specs.JobRuns.{IsUnderWay, IsEnd, WhereUnderWay, EndsFor, end_of, outcome_of_end, Carries, StaysUnderWay, ReadsSome, pass_reads, view_over}
use Rattle.gm_job_run.proofs.JobLemmas.{Turns, WeightTurns, AfterTurning, under_way-turns}
use Rattle.gm_work.specs.ViewsRules.{same_job-then}
use Rattle.gm_job_run.proofs.Passing.{GoesOn, where-then, goes_on-then, carries-on}

-- the law of what a job sees of a grid's chunks
abbrev pub Cuts : Type 0
Cuts = (spec : Spec) (cat : Catalogue) (edges : List Edge) (seen : Snapshot)
    → AreDimensions cat.dimensions.n cat.dimensions.parts → IsGraph cat.dimensions.n edges → length edges ≤ MAX_EDGES
    → IsOver cat edges → IsSnapshotOver cat.dimensions.n seen → IsCutIntoChunks (snapshot_view spec cat edges seen)

pub record Overs : Type 0 where
  pub over : (bytes : List ℕ) (size : ℕ) (cat : Catalogue) → IsCatalogueOf bytes size cat → IsOver cat (edges_in bytes)
  pub graph : (bytes : List ℕ) (size : ℕ) (cat : Catalogue) → IsCatalogueOf bytes size cat → IsGraph cat.dimensions.n (edges_in bytes)
  pub few : (bytes : List ℕ) (size : ℕ) (cat : Catalogue) → IsCatalogueOf bytes size cat → length (edges_in bytes) ≤ MAX_EDGES
  pub dimensions : (bytes : List ℕ) (size : ℕ) (cat : Catalogue) → IsCatalogueOf bytes size cat → AreDimensions cat.dimensions.n cat.dimensions.parts

pub told_cut : (told : Option Files) (name : List ℕ) (h : HeldJob) (seen : Snapshot) (bytes : List ℕ) → Cuts → Overs → Sees h seen → TellsGrid told name h.catalogue bytes
    → IsCutIntoChunks (view_over h seen bytes)
told_cut told name h seen bytes cuts overs sees tells =
    subst (λ (overlays : List Overlay). IsCutIntoChunks (view_through (context_of h.spec h.catalogue overlays) h.catalogue (edges_in bytes) seen)) (sym sees.overlays)
    (cuts h.spec h.catalogue (edges_in bytes) seen (overs.dimensions bytes tells.size h.catalogue tells.catalogue)
    (overs.graph bytes tells.size h.catalogue tells.catalogue) (overs.few bytes tells.size h.catalogue tells.catalogue)
    (overs.over bytes tells.size h.catalogue tells.catalogue) sees.over)

-- the same job sees the same
pub sees-still : (h other : HeldJob) (seen : Snapshot) → IsSameJob h other → Sees h seen → Sees other seen
sees-still h other seen same sees = record {
  overlays = same.overlays ∙ sees.overlays ∙ ap (λ (cat : Catalogue). overlays_of cat seen) (sym same.catalogue);
  over = subst (λ (cat : Catalogue). IsSnapshotOver cat.dimensions.n seen) (sym same.catalogue) sees.over;
}

-- what a turn's answer says of a job that was under way
abbrev AfterTurn : JobView → (ℕ → ℕ) → ℕ → Turned → JobState → ℕ → Type 0
AfterTurn d reads_of first Owes e reads = IsUnderWay d reads_of first e reads
AfterTurn d reads_of first (DoneTurn rounds) e reads = IsEnd d reads_of first (Done rounds e.values) reads
AfterTurn d reads_of first (BoundTurn bound) e reads = IsEnd d reads_of first (Rounds bound) reads

-- after this turn it goes on, or has ended well
abbrev TurnsFor : DepotState → DepotState → List ℕ → Snapshot → HeldJob → HeldJob → Turned → Type 0
TurnsFor old new name seen before after answer = WhereUnderWay old name before seen (λ d reads_of first. AfterTurn d reads_of first answer after.state new.reads)

after_turn : (mid after : HeldJob) (seen : Snapshot) (bytes : List ℕ) (first reads : ℕ) (answer : Turned) → IsCutIntoChunks (view_over mid seen bytes) → Turns → WeightTurns
    → IsTurned (context_in mid) mid.state answer after.state → IsUnderWay (view_over mid seen bytes) (pass_reads mid.catalogue) first mid.state reads
    → AfterTurn (view_over mid seen bytes) (pass_reads mid.catalogue) first answer after.state reads
after_turn mid after seen bytes first reads answer cut turns weighs is way = told answer is
  where
    turns_to : (t : Turning JobState) → turning_of (context_in mid) mid.state ≡ t → AfterTurning (view_over mid seen bytes) (pass_reads mid.catalogue) first reads t
    turns_to t same =
        subst (AfterTurning (view_over mid seen bytes) (pass_reads mid.catalogue) first reads) same
        (under_way-turns (view_over mid seen bytes) (pass_reads mid.catalogue) first mid.state reads cut turns weighs way)

    told : (a : Turned) → IsTurned (context_in mid) mid.state a after.state → AfterTurn (view_over mid seen bytes) (pass_reads mid.catalogue) first a after.state reads
    told Owes so = turns_to (Goes after.state) so.0
    told (DoneTurn rounds) so = turns_to (Ends (Done rounds after.state.values)) so
    told (BoundTurn bound) so = turns_to (Ends (Rounds bound)) so

-- a turn behind the passes of a phase
turns_for : (depot : DepotState) (name : List ℕ) (seen : Snapshot) (mid after : HeldJob) (answer : Turned) → Sees mid seen
    → Cuts → Overs → Turns → WeightTurns → IsTurned (context_in mid) mid.state answer after.state → TurnsFor depot depot name seen mid after answer
turns_for depot name seen mid after answer sees cuts overs turns weighs is bytes first told way =
    after_turn mid after seen bytes first depot.reads answer (told_cut depot.files name mid seen bytes cuts overs sees told) turns weighs is way

-- a phase was passed behind others, and then turned
pub record PhaseTurned (old new : DepotState) (name : List ℕ) (seen : Snapshot) (before after : HeldJob) (answer : Turned) : Type 0 where
  pub same : IsSameJob before after
  pub faults : new.faults ≡ old.faults
  pub frame : ReadsSome old new
  pub turned : TurnsFor old new name seen before after answer

pub phase_turned : {T : Type 0} (old mid new : DepotState) (name : List ℕ) (seen : Snapshot) (h begun passed after : HeldJob) (x : T) (answer : Turned) → Sees h seen
    → GoesOn old mid name seen h begun → Carries mid new name seen begun passed (Ok x) → StaysUnderWay mid new name seen begun passed → IsSameJob passed after
    → Cuts → Overs → Turns → WeightTurns → IsTurned (context_in passed) passed.state answer after.state → PhaseTurned old new name seen h after answer
phase_turned old mid new name seen h begun passed after x answer sees so_far carries stays same cuts overs turns weighs is = record {
  same = same_job-then h passed after on.same same;
  faults = on.faults;
  frame = on.frame;
  turned = where-then old new name seen h passed (λ d reads_of first. AfterTurn d reads_of first answer after.state new.reads) on
      (turns_for new name seen passed after answer (sees-still h passed seen on.same sees) cuts overs turns weighs is);
}
  where
    on : GoesOn old new name seen h passed
    on = goes_on-then old mid new name seen h begun passed so_far (carries-on mid new name seen begun passed x carries stays)

pub owes_on : (answer : Turned) → end_of answer ≡ None → answer ≡ Owes
owes_on Owes none = refl
owes_on (DoneTurn rounds) none = absurd cc
owes_on (BoundTurn bound) none = absurd cc

-- .. which goes on
pub turned-goes_on : (old new : DepotState) (name : List ℕ) (seen : Snapshot) (before after : HeldJob) (answer : Turned) → end_of answer ≡ None
    → PhaseTurned old new name seen before after answer → GoesOn old new name seen before after
turned-goes_on old new name seen before after answer none made =
    record { same = made.same; faults = made.faults; frame = made.frame; under_way = subst (TurnsFor old new name seen before after) (owes_on answer none) made.turned }

ended : (d : JobView) (reads_of : ℕ → ℕ) (first reads : ℕ) (e : JobState) (answer : Turned) (end : End) → end_of answer ≡ Some end
    → AfterTurn d reads_of first answer e reads → IsEnd d reads_of first (outcome_of_end e.values end) reads
ended d reads_of first reads e Owes end is after = absurd cc
ended d reads_of first reads e (DoneTurn rounds) end is after = subst (λ (x : Option End). ForEnd x) is after
  where
    ForEnd : Option End → Type 0
    ForEnd None = ⊤
    ForEnd (Some x) = IsEnd d reads_of first (outcome_of_end e.values x) reads
ended d reads_of first reads e (BoundTurn bound) end is after = subst (λ (x : Option End). ForEnd x) is after
  where
    ForEnd : Option End → Type 0
    ForEnd None = ⊤
    ForEnd (Some x) = IsEnd d reads_of first (outcome_of_end e.values x) reads

-- .. or which ended the job
pub turned-ends : (old new : DepotState) (name : List ℕ) (seen : Snapshot) (before after : HeldJob) (answer : Turned) (end : End) → end_of answer ≡ Some end
    → PhaseTurned old new name seen before after answer → EndsFor old new name seen before after end
turned-ends old new name seen before after answer end is made bytes first told way =
    ended _ _ first new.reads after.state answer end is (made.turned bytes first told way)

-- the law of turns that go on
abbrev pub TurnsEnd : Type 0
TurnsEnd = (k : JobContext) (e f : JobState) → owes_any e.owed ≡ false → turning_of k e ≡ Goes f → owes_any f.owed ≡ true → phases_left k.spec f.phase < phases_left k.spec e.phase

pub fewer_phases : (h mid after : HeldJob) (answer : Turned) → end_of answer ≡ None → IsSameJob h mid → IsSameJob mid after → mid.state.phase ≡ h.state.phase → owes_any mid.state.owed ≡ false
    → TurnsEnd → IsTurned (context_in mid) mid.state answer after.state → phases_left after.spec after.state.phase < phases_left h.spec h.state.phase
fewer_phases h mid after answer none_ended same turned_same phase none law is =
    let owes = subst (λ (a : Turned). IsTurned (context_in mid) mid.state a after.state) (owes_on answer none_ended) is in
    let less = law (context_in mid) mid.state after.state none owes.0 owes.1 in
    let now : phases_left after.spec after.state.phase ≡ phases_left mid.spec after.state.phase = ap (λ (spec : Spec). phases_left spec after.state.phase) turned_same.spec in
    let before : phases_left mid.spec mid.state.phase ≡ phases_left h.spec h.state.phase = (λ i. phases_left (same.spec i) (phase i)) in
    omega (arith, less, now, before)
