-- What became of a job over a depot: its lone run, or a chunk that couldn't be read.
use Rattle.std.specs.Prelude.{◌≡◌, ℕ, ◌+◌, ◌<◌, ◌≤◌, Bool, true, IsTrue, ◌⊎◌, List, length, Option, Some, None, Result, IfErr, MatchResult}
use Rattle.gm_base.specs.declared.job.Outcome.{Outcome}
use Rattle.gm_base.specs.declared.job.Outcome.TheVariants.{Done, Rounds, Read as ReadOutcome, Changed as ChangedOutcome, Memory as MemoryOutcome}
use Rattle.gm_base.specs.declared.job.Turned.{Turned}
use Rattle.gm_base.specs.declared.job.Turned.TheVariants.{Owes, Done as DoneTurn, Bound as BoundTurn}
use Rattle.gm_outside.specs.States.{DepotState}
use Rattle.gm_outside.specs.Causes.{Rose, counted_times}
use Rattle.gm_outside.specs.Frames.{OnlyReads}
use Rattle.gm_label.specs.Catalogues.{Catalogue, place_at}
use Rattle.gm_source.specs.Openings.{chunk_reads}
use Rattle.gm_source.specs.Fetches.{TellsGrid}
use Rattle.gm_kernel.specs.Runs.{lone_run}
use Rattle.gm_kernel.specs.Standings.{Standing}
use Rattle.gm_active.specs.Bits.{is_in}
use Rattle.gm_kernel.specs.declared.phase.Phase.{Phase}
use Rattle.gm_work.specs.JobStates.{JobState}
use Rattle.gm_work.specs.Views.{JobView, InPhase, needed_in, IsMidRound}
use Rattle.gm_work.specs.Weights.{run_weight, weight_left}
use Rattle.gm_grid.specs.GridBytes.{edges_in}
use Rattle.gm_source.specs.declared.fetching.FetchError.{FetchError}
use Rattle.gm_source.specs.declared.fetching.FetchError.TheVariants as fetch
use Rattle.gm_work.specs.HeldJobs.{HeldJob, IsSameJob, context_in}
use Rattle.gm_versions.specs.Snapshots.{Snapshot}
use Rattle.gm_core.specs.SnapshotViews.{view_through}
use Rattle.gm_job_run.specs.declared.job_run.End.{End}
use Rattle.gm_job_run.specs.declared.job_run.End.TheVariants.{Done as DoneEnd, Bound as BoundEnd}
use Rattle.gm_job_run.specs.declared.job_run.Stop.{Stop}
use Rattle.gm_job_run.specs.declared.job_run.Stop.TheVariants.{Read, Changed, Memory}

-- a pass of a chunk takes one read, and none where it has no edges in the file
abbrev pub pass_reads : Catalogue → ℕ → ℕ
pass_reads cat c = chunk_reads (place_at cat c)

-- a phase of the job's lone run needs the chunk
pub record IsNeeded (d : JobView) (c : ℕ) : Type 0 where
  pub phase : Phase
  pub in_run : InPhase d phase
  pub needed : is_in (needed_in d phase) c ≡ true

-- A chunk that it needed couldn't be read, over a depot that isn't calm.
pub record FailsToRead (d : JobView) (calm : Bool) (outcome : Outcome) : Type 0 where
  pub chunk : ℕ
  pub is : outcome ≡ ReadOutcome (d.context.block_at chunk) chunk
  pub needed : IsNeeded d chunk
  pub not_calm : IsTrue calm → ⊥

-- what the depot's count of faults tells of an outcome: a chunk that couldn't be read raised it, and nothing else did
abbrev pub FaultsFor : ℕ → ℕ → Outcome → Type 0
FaultsFor before now (Done rounds values) = now ≡ before
FaultsFor before now (Rounds bound) = now ≡ before
FaultsFor before now (ReadOutcome block chunk) = Rose before now
FaultsFor before now (ChangedOutcome block chunk) = now ≡ before
FaultsFor before now MemoryOutcome = ⊥

-- .. and what it tells of a run that found no memory: nothing was counted
abbrev pub CountsOutcomes : {T E : Type 0} → DepotState → DepotState → (T → Outcome) → Result T E → Type 0
CountsOutcomes old new outcome_of result =
    MatchResult result (λ ran. FaultsFor old.faults new.faults (outcome_of ran)) (λ _. new.faults ≡ old.faults)

-- the job is in the middle of a phase, after as many reads as the passes so far took
pub record IsUnderWay (d : JobView) (reads_of : ℕ → ℕ) (first : ℕ)
    (e : JobState) (reads : ℕ) : Type 0 where
  pub st : Standing
  pub mid : IsMidRound d st e
  pub made : ℕ
  pub total : run_weight d reads_of ≡ made + weight_left d reads_of st
  pub counted : reads ≡ counted_times made first

-- the job over what it sees of the edges that these bytes of its grid tell
abbrev pub view_over : HeldJob → Snapshot → List ℕ → JobView
view_over h seen bytes = view_through (context_in h) h.catalogue (edges_in bytes) seen

-- where the job was under way before a call, over a depot that tells its grid, this holds after it, with its reads before its first one
abbrev pub WhereUnderWay : DepotState → List ℕ → HeldJob → Snapshot → (JobView → (ℕ → ℕ) → ℕ → Type 0) → Type 0
WhereUnderWay depot name h seen Holds = (bytes : List ℕ) (first : ℕ) → TellsGrid depot.files name h.catalogue bytes
    → IsUnderWay (view_over h seen bytes) (pass_reads h.catalogue) first h.state depot.reads
    → Holds (view_over h seen bytes) (pass_reads h.catalogue) first

-- it is still under way
abbrev pub StaysUnderWay : DepotState → DepotState → List ℕ → Snapshot → HeldJob → HeldJob → Type 0
StaysUnderWay old new name seen before after = WhereUnderWay old name before seen (λ d reads_of first. IsUnderWay d reads_of first after.state new.reads)

-- why a fetch of a chunk stops its job
abbrev pub stop_of : ℕ → FetchError → Stop
stop_of chunk fetch.Fault = Read chunk
stop_of chunk (fetch.Changed found) = Changed chunk
stop_of chunk fetch.Memory = Memory

-- what becomes of a job that stopped
abbrev pub outcome_of_stop : Catalogue → Stop → Option Outcome
outcome_of_stop cat (Read chunk) = Some (ReadOutcome (place_at cat chunk).block chunk)
outcome_of_stop cat (Changed chunk) = Some (ChangedOutcome (place_at cat chunk).block chunk)
outcome_of_stop cat Memory = None

-- why a job stopped in the middle of a phase, over a depot that tells the grid
abbrev pub StopsBy : JobView → Bool → Stop → Type 0
StopsBy d calm (Read chunk) = IsNeeded d chunk × (IsTrue calm → ⊥)
StopsBy d calm (Changed chunk) = ⊥
StopsBy d calm Memory = Unit {0}

-- .. and over every depot, by its count of faults
abbrev pub StopFaults : ℕ → ℕ → Stop → Type 0
StopFaults before now (Read chunk) = Rose before now
StopFaults before now (Changed chunk) = now ≡ before
StopFaults before now Memory = now ≡ before

-- a call that was answered left the count of faults as it was, and one that stopped by what it tells of the stop
abbrev pub CountsStops : {T : Type 0} → DepotState → DepotState → Result T Stop → Type 0
CountsStops old new result = MatchResult result (λ _. new.faults ≡ old.faults) (StopFaults old.faults new.faults)

-- the job stopped at this chunk, or for want of memory
abbrev pub OfChunk : ℕ → Stop → Type 0
OfChunk chunk (Read other) = other ≡ chunk
OfChunk chunk (Changed other) = other ≡ chunk
OfChunk chunk Memory = Unit {0}

-- .. which isn't for another chunk than when the grid was opened where the depot tells the grid, nor for a read over a calm one
abbrev pub IsToldStop : Bool → Stop → Type 0
IsToldStop calm (Read chunk) = IsTrue calm → ⊥
IsToldStop calm (Changed chunk) = ⊥
IsToldStop calm Memory = Unit {0}

-- a call that only reads, however often
abbrev pub ReadsSome : DepotState → DepotState → Type 0
ReadsSome old new = (most : ℕ) × OnlyReads 0 most old new

-- the job ended as its lone run, after as many reads as the run takes
abbrev pub IsEnd : JobView → (ℕ → ℕ) → ℕ → Outcome → ℕ → Type 0
IsEnd d reads_of first outcome reads =
    (outcome ≡ lone_run d.context.spec d.context.dimensions.n d.edges)
    × (reads ≡ counted_times (run_weight d reads_of) first)

-- the job stopped at one of so many chunks, or for want of memory
abbrev pub IsOfChunks : ℕ → Stop → Type 0
IsOfChunks chunks (Read chunk) = chunk < chunks
IsOfChunks chunks (Changed chunk) = chunk < chunks
IsOfChunks chunks Memory = Unit {0}

-- how a turn ended its job, if it did
abbrev pub end_of : Turned → Option End
end_of Owes = None
end_of (DoneTurn rounds) = Some (DoneEnd rounds)
end_of (BoundTurn bound) = Some (BoundEnd bound)

-- what became of a job that ended so, with these values
abbrev pub outcome_of_end : List ℕ → End → Outcome
outcome_of_end values (DoneEnd rounds) = Done rounds values
outcome_of_end values (BoundEnd bound) = Rounds bound

-- the job ended as its lone run, or a chunk that it needed couldn't be read
abbrev pub JobEnds : JobView → (ℕ → ℕ) → DepotState → DepotState → Outcome → Type 0
JobEnds d reads_of old new outcome = IsEnd d reads_of old.reads outcome new.reads ⊎ FailsToRead d old.calm outcome

-- .. it ended so, as its lone run
abbrev pub EndsFor : DepotState → DepotState → List ℕ → Snapshot → HeldJob → HeldJob → End → Type 0
EndsFor old new name seen before after end = WhereUnderWay old name before seen
    (λ d reads_of first. IsEnd d reads_of first (outcome_of_end after.state.values end) new.reads)

-- .. it stopped for a reason, after no more reads than its run takes
abbrev pub StopsFor : DepotState → DepotState → List ℕ → Snapshot → HeldJob → Stop → Type 0
StopsFor old new name seen before stop = WhereUnderWay old name before seen
    (λ d reads_of first. StopsBy d old.calm stop × (new.reads ≤ first + run_weight d reads_of))

-- what every call on a job says: it is the same job over the same chunks, it stopped for a reason if it did, and the depot was only read
pub record Carries {T : Type 0} (old new : DepotState) (name : List ℕ) (seen : Snapshot)
    (before after : HeldJob) (result : Result T Stop) : Type 0 where
  pub same : IsSameJob before after
  pub chunk : IfErr result (IsOfChunks (length before.catalogue.places))
  pub stops : IfErr result (StopsFor old new name seen before)
  pub faults : CountsStops old new result
  pub frame : ReadsSome old new
