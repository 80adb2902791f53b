-- What the laws of one job over its view give of the jobs of a script.
use Rattle.std.specs.Prelude.{◌≡◌, ℕ, zero, suc, ◌<◌, ◌≤◌, Bool, true, false, List, [], ◌∷◌, length, refl}
use Rattle.std.proofs.Common.{cond, eqb, inl, inr, sym, ◌∙◌, true≢false, arith}
use Rattle.std.proofs.lemmas.Bool.{cases_lt, eqb-true}
use Rattle.gm_base.specs.declared.copies.Key.{Key}
use Rattle.gm_base.specs.declared.job.Spec.{Spec}
use Rattle.gm_base.specs.declared.job.Spec.TheVariants.{Bfs, Sssp, Wcc, Rank}
use Rattle.gm_label.specs.declared.chunk.Overlay.{Overlay}
use Rattle.gm_label.specs.Overlays.{key_at}
use Rattle.gm_jobs.specs.JobBounds.{MakesSomeRound}
use Rattle.gm_kernel.specs.Runs.{most_rounds}
use Rattle.gm_base.specs.declared.edge.Edge.{Edge}
use Rattle.gm_label.specs.Catalogues.{Catalogue}
use Rattle.gm_jobs.specs.declared.script.Line.{Line}
use Rattle.gm_jobs.specs.StatedJobs.{jobs_of}
use Rattle.gm_kernel.specs.Standings.{Standing, Turning}
use Rattle.gm_active.specs.Bits.{is_in}
use Rattle.gm_active.specs.BitsRules.{is_in_past}
use Rattle.gm_active.specs.NeedsRules.{length-needed_chunks, length-counted_chunks}
use Rattle.gm_kernel.specs.declared.phase.Phase.{Phase}
use Rattle.gm_kernel.specs.declared.phase.Phase.TheVariants.{Counting, Round}
use Rattle.gm_work.specs.JobStates.{JobState, owes_any}
use Rattle.gm_kernel.specs.Standings.Turning.{Goes, Ends}
use Rattle.gm_work.specs.Views.{JobView, needed_in, IsTurnedWell, LeadsOn}
use Rattle.gm_work.specs.Weights.{IsLeftBy}
use Rattle.gm_core.specs.SnapshotViews.{job_view}
use Rattle.gm_machine.specs.JobWorks.{IsTurnedAs, HasLeft, TurnsOn}
use Rattle.gm_core.specs.ScriptWorks.{IsJobMidRound, works_of}

-- a mark stands for a number below the marks' length
marked_within : (marks : List Bool) (c : ℕ) → is_in marks c ≡ true → c < length marks
marked_within marks c marked =
    elim (cases_lt c (length marks)) as (λ _. c < length marks) [
      | inl below ↦ below
      | inr past ↦ absurd (true≢false (sym marked ∙ is_in_past marks c past))
    ]

length-needed : (d : JobView) (phase : Phase) → length (needed_in d phase) ≡ d.context.chunks
length-needed d (Counting r) = length-counted_chunks d.context.chunks d.context.sources_at
length-needed d (Round r) = length-needed_chunks d.context.dimensions _ _ d.context.chunks d.context.block_at d.context.sources_at

-- what is needed is a chunk
pub needed_within : (d : JobView) (phase : Phase) (c : ℕ) → is_in (needed_in d phase) c ≡ true → c < d.context.chunks
needed_within d phase c needed =
    let below = marked_within (needed_in d phase) c needed in
    let long = length-needed d phase in
    omega (arith, below, long)

-- what is owed wasn't passed, where nothing that was passed is owed
pub unpassed : (passed owed : Bool) → (passed ≡ true → owed ≡ false) → owed ≡ true → passed ≡ false
unpassed true owed none owes = absurd (true≢false (sym owes ∙ none refl))
unpassed false owed none owes = refl

some_marked : (marks : List Bool) → owes_any marks ≡ true → (c : ℕ) × (is_in marks c ≡ true)
some_marked [] some = absurd (true≢false (sym some))
some_marked (true ∷ marks) some = (zero, refl)
some_marked (false ∷ marks) some = let later = some_marked marks some in (suc later.0, later.1)

-- a turn of a job over its view is a turn of the job by its number
pub turned_as : (cat : Catalogue) (edges : List Edge) (entries : List Line) (n : ℕ) (stands : Turning Standing) (turning : Turning JobState) → n < length (jobs_of entries)
    → IsTurnedWell (job_view cat edges entries n) stands turning → IsTurnedAs (works_of cat edges entries) (IsJobMidRound cat edges entries) n stands turning
unfolding works_of
turned_as cat edges entries n (Goes s) (Goes e) within well =
    let some = some_marked e.owed well.1 in
    (record { number = within; mid = well.0 }, record { chunk = some.0; owed = some.1 })
turned_as cat edges entries n (Goes s) (Ends outcome) within well = absurd well
turned_as cat edges entries n (Ends outcome) (Goes e) within well = absurd well
turned_as cat edges entries n (Ends outcome) (Ends other) within well = (well.1, well.0 ∙ well.1)

pub turned_on : (cat : Catalogue) (edges : List Edge) (entries : List Line) (n : ℕ) (s : Standing) (stands : Turning Standing)
    → LeadsOn (job_view cat edges entries n) s stands → TurnsOn (works_of cat edges entries) n s stands
unfolding works_of
turned_on cat edges entries n s (Goes t) leads = leads
turned_on cat edges entries n s (Ends outcome) leads = tt

pub left_by_turn : (cat : Catalogue) (edges : List Edge) (entries : List Line) (n passes : ℕ) (stands : Turning Standing)
    → IsLeftBy (job_view cat edges entries n) (λ c. 1) passes stands → HasLeft (works_of cat edges entries) n passes stands
unfolding works_of
left_by_turn cat edges entries n passes (Goes s) left = left
left_by_turn cat edges entries n passes (Ends outcome) left = left

-- a chunk's key is of the chunk
pub key_at-chunk : (overlays : List Overlay) (c : ℕ) → (key_at overlays c).chunk ≡ c
key_at-chunk [] c = refl
key_at-chunk (o ∷ overlays) c = tested o.key (key_at overlays c) c (eqb o.key.chunk c) refl (key_at-chunk overlays c)
  where
    tested : (here later : Key) (c : ℕ) (b : Bool) → eqb here.chunk c ≡ b → later.chunk ≡ c → (cond b here later).chunk ≡ c
    tested here later c true is rest = eqb-true here.chunk c is
    tested here later c false is rest = rest

pub some_round : (spec : Spec) → MakesSomeRound spec → 1 ≤ most_rounds spec
some_round (Bfs source bound) some = some
some_round (Sssp source bound) some = some
some_round (Wcc bound) some = some
some_round (Rank rounds) some = some
