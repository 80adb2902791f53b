-- A job's graph in chunks, and the job in the middle of a round over it, by its lone run alone.
use Rattle.std.specs.Prelude.{◌≡◌, ℕ, ◌+◌, ◌-◌, ◌<◌, ◌≤◌, ◌⊎◌, Bool, true, false, ◌==◌, if◌then◌else◌, List, [], ◌∷◌, length, flat_map, slice_set, All}
use Rattle.std.specs.List.{list_any, range_with_len}
use Rattle.gm_base.specs.declared.edge.Edge.{Edge}
use Rattle.gm_base.specs.declared.limits.TheConstants.{MAX_EDGES, MAX_CHANGES}
use Rattle.gm_base.specs.Dimensions.{AreDimensions}
use Rattle.gm_base.specs.Graph.{HasEndsBelow, IsGraph, IsSameGraph, out_degree}
use Rattle.gm_kernel.specs.Runs.{values_after, most_rounds, is_done_after, lone_run, NoneBefore}
use Rattle.gm_kernel.specs.Standings.{Standing, Turning, then_turning}
use Rattle.gm_active.specs.Bits.{is_in}
use Rattle.gm_active.specs.Needs.{first_destination_of, end_destination_of}
use Rattle.gm_kernel.specs.declared.phase.Phase.{Phase}
use Rattle.gm_kernel.specs.declared.phase.Phase.TheVariants.{Counting, Round}
use Rattle.gm_work.specs.JobStates.{JobContext, JobState, kernel_in, each_vertex, counts_degrees, carried_values, needed_chunks_of, counted_chunks_of, degrees_with, sums_with, owes_any, phases_left, until_owed}
use Rattle.gm_kernel.specs.Standings.Turning.{Goes, Ends}

-- a job over its view of the graph: all edges, and of each chunk the content as the job sees it
pub record JobView : Type 0 where
  pub context : JobContext
  pub edges : List Edge
  pub content_at : ℕ → List Edge

-- the contents joined are the same graph as the view, and a chunk's edges come from its sources and go to its block's column
pub record IsCutIntoChunks (d : JobView) : Type 0 where
  pub dimensions : AreDimensions d.context.dimensions.n d.context.dimensions.parts
  pub few : length d.edges ≤ MAX_EDGES + MAX_CHANGES
  pub graph : IsGraph d.context.dimensions.n d.edges
  pub whole : IsSameGraph d.edges (flat_map d.content_at (range_with_len 0 d.context.chunks))
  pub ends : (c : ℕ) → All (HasEndsBelow d.context.dimensions.n) (d.content_at c)
  pub sources : (c : ℕ) → All (λ e. list_any (λ s. s == e.from) (d.context.sources_at c) ≡ true) (d.content_at c)
  pub columns : (c : ℕ) → All (λ e. (first_destination_of d.context.dimensions (d.context.block_at c) ≤ e.to)
      × (e.to < end_destination_of d.context.dimensions (d.context.block_at c))) (d.content_at c)

-- the values of the lone run after so many rounds
abbrev pub values_at : JobView → ℕ → List ℕ
values_at d round = values_after (kernel_in d.context) d.context.dimensions.n d.edges round

-- the out-degrees that the job's rounds look at
abbrev pub degrees_of : JobView → List ℕ
degrees_of d = each_vertex d.context (λ u. if counts_degrees d.context.spec then out_degree d.edges u else 0)

-- the chunks that a phase of the lone run needs
abbrev pub needed_in : JobView → Phase → List Bool
needed_in d (Counting r) = counted_chunks_of d.context
needed_in d (Round r) = needed_chunks_of d.context (r == 0) (values_at d (r - 1)) (values_at d r) (degrees_of d)

-- owed: needed, and not yet passed
abbrev pub owed_after : List Bool → List ℕ → List Bool
owed_after needed [] = needed
owed_after needed (c ∷ passed) = slice_set (owed_after needed passed) c false

abbrev pub owed_at : JobView → Standing → List Bool
owed_at d s = owed_after (needed_in d s.phase) s.passed

abbrev pub first_standing : JobView → Standing
first_standing d = record { phase = if counts_degrees d.context.spec then Counting 0 else Round 0; passed = [] }

-- out-degrees over the passed chunks, and sums of their gifts
abbrev pub degrees_after : JobView → List ℕ → List ℕ
degrees_after d [] = each_vertex d.context (λ u. 0)
degrees_after d (c ∷ passed) = degrees_with d.context (d.content_at c) (degrees_after d passed)

abbrev pub sums_after : JobView → List ℕ → List ℕ → List ℕ
sums_after d values [] = carried_values d.context values
sums_after d values (c ∷ passed) = sums_with d.context (degrees_of d) values (d.content_at c) (sums_after d values passed)

-- the entry of a job that stands there
abbrev pub state_in : JobView → Phase → List ℕ → JobState
state_in d (Counting r) passed = record {
  phase = Counting r;
  values = values_at d r;
  sums = carried_values d.context (values_at d r);
  degrees = degrees_after d passed;
  owed = owed_after (needed_in d (Counting r)) passed;
}
state_in d (Round r) passed = record {
  phase = Round r;
  values = values_at d r;
  sums = sums_after d (values_at d r) passed;
  degrees = degrees_of d;
  owed = owed_after (needed_in d (Round r)) passed;
}

abbrev pub state_at : JobView → Standing → JobState
state_at d s = state_in d s.phase s.passed

-- a round of the lone run: there are more rounds, and it isn't done before
abbrev pub InRound : JobView → ℕ → Type 0
InRound d r = (r < most_rounds d.context.spec) × NoneBefore (is_done_after d.context.spec d.context.dimensions.n d.edges) (r + 1)

-- a phase of the job's lone run
abbrev pub InPhase : JobView → Phase → Type 0
InPhase d (Counting r) = (counts_degrees d.context.spec ≡ true) × InRound d r
InPhase d (Round r) = InRound d r

-- each chunk was owed when it was passed
abbrev pub WerePassed : List Bool → List ℕ → Type 0
WerePassed needed [] = Unit {0}
WerePassed needed (c ∷ passed) = (is_in (owed_after needed passed) c ≡ true) × WerePassed needed passed

-- the job is in the middle of a phase of its lone run, and its entry is what the passes so far make of it
pub record IsMidRound (d : JobView) (s : Standing) (e : JobState) : Type 0 where
  pub phase : InPhase d s.phase
  pub passed : WerePassed (needed_in d s.phase) s.passed
  pub state : e ≡ state_at d s

-- the next phase of the lone run, or its end
abbrev pub next_phase : JobView → Phase → Turning Standing
next_phase d (Counting r) = Goes (record { phase = Round r; passed = [] })
next_phase d (Round r) =
    if is_done_after d.context.spec d.context.dimensions.n d.edges (r + 1) then Ends (lone_run d.context.spec d.context.dimensions.n d.edges)
    else if r + 1 == most_rounds d.context.spec then Ends (lone_run d.context.spec d.context.dimensions.n d.edges)
    else Goes (record { phase = Round (r + 1); passed = [] })

abbrev pub turn_within : ℕ → JobView → Standing → Turning Standing
turn_within phases d s = until_owed Goes (owed_at d) (λ t. next_phase d t.phase) then_turning phases s

abbrev pub turn_at : JobView → Standing → Turning Standing
turn_at d s = turn_within (phases_left d.context.spec s.phase) d s

-- a job turned, by where it stands: it is in the middle of a later phase, or it has ended as its lone run
abbrev pub IsTurnedWell : JobView → Turning Standing → Turning JobState → Type 0
IsTurnedWell d (Goes s) (Goes e) = IsMidRound d s e × (owes_any e.owed ≡ true)
IsTurnedWell d (Ends outcome) (Ends other) = (other ≡ outcome) × (outcome ≡ lone_run d.context.spec d.context.dimensions.n d.edges)
IsTurnedWell d (Goes s) (Ends outcome) = ⊥
IsTurnedWell d (Ends outcome) (Goes e) = ⊥

-- a turn leads to where the job stood, or to a later phase with nothing passed in it, or it ends the job
abbrev pub LeadsOn : JobView → Standing → Turning Standing → Type 0
LeadsOn d s (Goes t) = (t ≡ s) ⊎ ((t.passed ≡ []) × (phases_left d.context.spec t.phase < phases_left d.context.spec s.phase))
LeadsOn d s (Ends outcome) = Unit {0}
