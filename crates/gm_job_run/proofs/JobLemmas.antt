-- A job under way: it begins so, each pass and each turn keeps it so, and at its end it has made all reads of its lone run.
use Rattle.std.specs.Prelude.{◌≡◌, ℕ, ◌+◌, ◌≤◌, Bool, true, List, count_by, refl}
use Rattle.std.proofs.Common.{sym, ap, ◌∙◌, subst, arith}
use Rattle.gm_base.specs.declared.edge.Edge.{Edge}
use Rattle.gm_base.specs.declared.copies.Key.{Key}
use Rattle.gm_base.specs.Graph.{IsSameGraph, is_same_edge}
use Rattle.gm_grid.specs.GridBytes.{edges_in}
use Rattle.gm_label.specs.Catalogues.{Catalogue}
use Rattle.gm_label.specs.Overlays.{key_at}
use Rattle.gm_kernel.specs.Standings.{Standing, with_passed, Turning}
use Rattle.gm_work.specs.HeldJobs.{HeldJob, context_in}
use Rattle.gm_job_run.specs.declared.job_run.Stop.{Stop}
use Rattle.gm_job_run.specs.declared.job_run.Stop.TheVariants.{Read, Changed, Memory}
use Rattle.gm_kernel.specs.Runs.{most_rounds}
use Rattle.gm_outside.specs.Causes.{counted_times}
use Rattle.gm_outside.specs.CausesRules.{counted_times-add, counted_times-few}
use Rattle.gm_active.specs.Bits.{is_in}
use Rattle.gm_work.specs.JobStates.{JobState, first_state, state_after_pass, turning_of}
use Rattle.gm_kernel.specs.Standings.Turning.{Goes, Ends}
use Rattle.gm_work.specs.Views.{JobView, IsCutIntoChunks, IsMidRound, needed_in, owed_at, first_standing, turn_at, IsTurnedWell}
use Rattle.gm_work.specs.Weights.{run_weight, weight_left, IsLeftBy}
use Rattle.gm_versions.specs.Snapshots.{Snapshot, content_of}
use Rattle.gm_job_run.specs.JobRuns.{IsNeeded, IsUnderWay, IsEnd, StopsBy, OfChunk, IsToldStop, pass_reads, view_over}

-- the laws of gm_work, as its public functions state them
abbrev pub Begins : Type 0
Begins = (d : JobView) → 1 ≤ most_rounds d.context.spec → IsMidRound d (first_standing d) (first_state d.context)

abbrev pub Passes : Type 0
Passes = (d : JobView) (s : Standing) (e : JobState) (c : ℕ) (edges : List Edge)
    → IsMidRound d s e → is_in e.owed c ≡ true → IsSameGraph edges (d.content_at c) → IsMidRound d (with_passed s c) (state_after_pass d.context e c edges)

abbrev pub OwedIs : Type 0
OwedIs = (d : JobView) (s : Standing) (e : JobState) → IsMidRound d s e → e.owed ≡ owed_at d s

abbrev pub OwedNeeded : Type 0
OwedNeeded = (d : JobView) (s : Standing) (x : ℕ) → is_in (owed_at d s) x ≡ true → is_in (needed_in d s.phase) x ≡ true

abbrev pub WeightPasses : Type 0
WeightPasses = (d : JobView) (weight : ℕ → ℕ) (s : Standing) (c : ℕ) → is_in (owed_at d s) c ≡ true
    → weight_left d weight (with_passed s c) + weight c ≡ weight_left d weight s

abbrev pub Turns : Type 0
Turns = (d : JobView) (s : Standing) (e : JobState) → IsCutIntoChunks d → IsMidRound d s e → IsTurnedWell d (turn_at d s) (turning_of d.context e)

abbrev pub WeightTurns : Type 0
WeightTurns = (d : JobView) (weight : ℕ → ℕ) (s : Standing) (e : JobState) → IsMidRound d s e → IsLeftBy d weight (weight_left d weight s) (turn_at d s)

pub under_way-begins : (d : JobView) (reads_of : ℕ → ℕ) (reads : ℕ) → 1 ≤ most_rounds d.context.spec → Begins
    → weight_left d reads_of (first_standing d) ≡ run_weight d reads_of
    → IsUnderWay d reads_of reads (first_state d.context) reads
under_way-begins d reads_of reads some begins all = record {
  st = first_standing d;
  mid = begins d some;
  made = 0;
  total = omega (arith, all);
  counted = refl;
}

pub under_way-passes : (d : JobView) (reads_of : ℕ → ℕ) (first : ℕ) (e next : JobState) (c reads reads' : ℕ) (edges : List Edge) → Passes → OwedIs → WeightPasses
    → is_in e.owed c ≡ true → IsSameGraph edges (d.content_at c) → next ≡ state_after_pass d.context e c edges → reads' ≡ counted_times (reads_of c) reads
    → IsUnderWay d reads_of first e reads → IsUnderWay d reads_of first next reads'
under_way-passes d reads_of first e next c reads reads' edges passes owed_is weighs owes same is read way =
    let owed = ap (λ (marks : List Bool). is_in marks c) (sym (owed_is d way.st e way.mid)) ∙ owes in
    let less = weighs d reads_of way.st c owed in
    let total = way.total in
    record {
      st = with_passed way.st c;
      mid = subst (λ (f : JobState). IsMidRound d (with_passed way.st c) f) (sym is) (passes d way.st e c edges way.mid owes same);
      made = way.made + reads_of c;
      total = omega (arith, less, total);
      counted = read ∙ ap (counted_times (reads_of c)) way.counted ∙ sym (counted_times-add way.made (reads_of c) first);
    }

-- what is owed is needed
pub under_way-needed : (d : JobView) (reads_of : ℕ → ℕ) (first : ℕ) (e : JobState) (c reads : ℕ) → OwedIs → is_in e.owed c ≡ true
    → OwedNeeded
    → IsUnderWay d reads_of first e reads → IsNeeded d c
under_way-needed d reads_of first e c reads owed_is owes needed way = record {
  phase = way.st.phase;
  in_run = way.mid.phase;
  needed = needed d way.st c (ap (λ (marks : List Bool). is_in marks c) (sym (owed_is d way.st e way.mid)) ∙ owes);
}

-- no more reads so far than all of the run, even with one more chunk that is owed
pub under_way-few : (d : JobView) (reads_of : ℕ → ℕ) (first : ℕ) (e : JobState) (c reads reads' : ℕ) → OwedIs → WeightPasses → is_in e.owed c ≡ true
    → IsUnderWay d reads_of first e reads → reads' ≤ reads + reads_of c → reads' ≤ first + run_weight d reads_of
under_way-few d reads_of first e c reads reads' owed_is weighs owes way few =
    let owed = ap (λ (marks : List Bool). is_in marks c) (sym (owed_is d way.st e way.mid)) ∙ owes in
    let less = weighs d reads_of way.st c owed in
    let total = way.total in
    let made = counted_times-few way.made first in
    let is = way.counted in
    omega (arith, less, total, made, is, few)

-- what a turn makes of a job that was under way
abbrev pub AfterTurning : JobView → (ℕ → ℕ) → ℕ → ℕ → Turning JobState → Type 0
AfterTurning d reads_of first reads (Goes e) = IsUnderWay d reads_of first e reads
AfterTurning d reads_of first reads (Ends outcome) = IsEnd d reads_of first outcome reads

after_turning : (d : JobView) (reads_of : ℕ → ℕ) (first reads made left : ℕ) (stands : Turning Standing) (turning : Turning JobState)
    → IsTurnedWell d stands turning → IsLeftBy d reads_of left stands → run_weight d reads_of ≡ made + left → reads ≡ counted_times made first
    → AfterTurning d reads_of first reads turning
after_turning d reads_of first reads made left (Goes s) (Goes e) well left_is total read =
    record { st = s; mid = well.0; made = made; total = omega (arith, total, left_is); counted = read }
after_turning d reads_of first reads made left (Goes s) (Ends outcome) well left_is total read = absurd well
after_turning d reads_of first reads made left (Ends outcome) (Goes e) well left_is total read = absurd well
after_turning d reads_of first reads made left (Ends alone) (Ends outcome) well left_is total read =
    let all : run_weight d reads_of ≡ made = omega (arith, total, left_is) in
    (well.0 ∙ well.1, read ∙ ap (λ m. counted_times m first) (sym all))

pub under_way-turns : (d : JobView) (reads_of : ℕ → ℕ) (first : ℕ) (e : JobState) (reads : ℕ) → IsCutIntoChunks d → Turns → WeightTurns
    → IsUnderWay d reads_of first e reads → AfterTurning d reads_of first reads (turning_of d.context e)
under_way-turns d reads_of first e reads cut turns weighs way =
    after_turning d reads_of first reads way.made (weight_left d reads_of way.st) (turn_at d way.st) (turning_of d.context e)
    (turns d way.st e cut way.mid) (weighs d reads_of way.st e way.mid) way.total way.counted

-- ---- a job as it is held, over what it sees of a grid

-- a copy of a chunk that it owes has the edges that it sees of it
pub chunk_passed : (h after : HeldJob) (seen : Snapshot) (bytes : List ℕ) (first c reads reads' : ℕ) (cat : Catalogue) (key : Key) (edges : List Edge) → Passes → OwedIs → WeightPasses
    → cat ≡ h.catalogue → is_in h.state.owed c ≡ true → key ≡ key_at h.overlays c → key.chunk ≡ c
    → after ≡ record h { state = state_after_pass (context_in h) h.state key.chunk edges }
    → edges ≡ content_of cat (edges_in bytes) seen c → reads' ≡ counted_times (pass_reads cat c) reads
    → IsUnderWay (view_over h seen bytes) (pass_reads h.catalogue) first h.state reads
    → IsUnderWay (view_over h seen bytes) (pass_reads h.catalogue) first after.state reads'
chunk_passed h after seen bytes first c reads reads' cat key edges passes owed_is weighs same_cat owes is_key chunk is content read way =
    let same : edges ≡ content_of h.catalogue (edges_in bytes) seen c = content ∙ ap (λ (known : Catalogue). content_of known (edges_in bytes) seen c) same_cat in
    let next : after.state ≡ state_after_pass (context_in h) h.state c edges =
    ap (λ (now : HeldJob). now.state) is ∙ ap (λ (n : ℕ). state_after_pass (context_in h) h.state n edges) chunk in
    under_way-passes (view_over h seen bytes) (pass_reads h.catalogue) first h.state after.state c reads reads' edges passes owed_is weighs owes
    (λ e. ap (λ (es : List Edge). count_by (is_same_edge e) es) same) next
    (read ∙ ap (λ (known : Catalogue). counted_times (pass_reads known c) reads) same_cat) way

pub stops_by : (d : JobView) (calm : Bool) (c : ℕ) (stop : Stop) → IsNeeded d c → OfChunk c stop → IsToldStop calm stop → StopsBy d calm stop
stops_by d calm c (Read other) needed at told = (subst (IsNeeded d) (sym at) needed, told)
stops_by d calm c (Changed other) needed at told = absurd told
stops_by d calm c Memory needed at told = tt
