-- A job as it is held: over a grid's catalogue, with overlays where changes concern chunks.
use Rattle.std.specs.Prelude.{◌≡◌, ℕ, true, List, [], length}
use Rattle.gm_base.specs.declared.edge.Edge.{Edge}
use Rattle.gm_base.specs.declared.job.Spec.{Spec}
use Rattle.gm_base.specs.declared.job.Outcome.TheVariants.{Done as DoneRun, Rounds as RoundsRun}
use Rattle.gm_base.specs.declared.job.Turned.{Turned}
use Rattle.gm_base.specs.declared.job.Turned.TheVariants.{Owes, Done, Bound}
use Rattle.gm_label.specs.declared.chunk.Overlay.{Overlay}
use Rattle.gm_label.specs.Catalogues.{Catalogue, place_at, base_at}
use Rattle.gm_label.specs.Overlays.{sources_under}
use Rattle.gm_work.specs.JobStates.{JobContext, JobState, first_state, owes_any, turning_of}
use Rattle.gm_kernel.specs.Standings.Turning.{Goes, Ends}
use Rattle.gm_work.specs.Views.{JobView}

-- what a job knows of a grid's chunks
abbrev pub context_of : Spec → Catalogue → List Overlay → JobContext
context_of spec cat overlays = record {
  spec = spec;
  dimensions = cat.dimensions;
  chunks = length cat.places;
  block_at = λ c. (place_at cat c).block;
  sources_at = sources_under cat overlays;
}

-- a job: its number, what it computes, over which chunks with which overlays, and how far it is
pub record HeldJob : Type 0 where
  pub job : ℕ
  pub spec : Spec
  pub catalogue : Catalogue
  pub overlays : List Overlay
  pub state : JobState

abbrev pub context_in : HeldJob → JobContext
context_in h = context_of h.spec h.catalogue h.overlays

-- a job before its first pass
abbrev pub admitted_job : ℕ → Spec → Catalogue → List Overlay → HeldJob
admitted_job job spec cat overlays =
    record { job = job; spec = spec; catalogue = cat; overlays = overlays; state = first_state (context_of spec cat overlays) }

-- the same job, however far it is
pub record IsSameJob (before after : HeldJob) : Type 0 where
  pub job : after.job ≡ before.job
  pub spec : after.spec ≡ before.spec
  pub catalogue : after.catalogue ≡ before.catalogue
  pub overlays : after.overlays ≡ before.overlays

-- what the answer of a turn says, by the entries before and after it: the job goes on and owes a chunk, or it ended
abbrev pub IsTurned : JobContext → JobState → Turned → JobState → Type 0
IsTurned k before Owes after = (turning_of k before ≡ Goes after) × (owes_any after.owed ≡ true)
IsTurned k before (Done rounds) after = turning_of k before ≡ Ends (DoneRun rounds after.values)
IsTurned k before (Bound bound) after = turning_of k before ≡ Ends (RoundsRun bound)

-- a job over a grid without changes: each chunk's content are its edges in the file
abbrev pub grid_view : Spec → Catalogue → List Edge → JobView
grid_view spec cat edges = record { context = context_of spec cat []; edges = edges; content_at = base_at cat edges }
