-- The steps of a job from phase to phase.
use Rattle.std.specs.Prelude.{◌≡◌, ℕ, ◌==◌, false, replicate}
use Rattle.gm_base.specs.declared.job.Outcome.TheVariants.{Done as DoneRun, Rounds as RoundsRun}
use Rattle.gm_base.specs.declared.job.Turned.{Turned}
use Rattle.gm_base.specs.declared.job.Turned.TheVariants.{Owes, Done, Bound}
use Rattle.gm_kernel.specs.declared.phase.Phase.TheVariants.{Counting, Round}
use Rattle.gm_work.specs.JobStates.{JobContext, JobState, each_vertex, initial_values, carried_values, needed_chunks_of, phase_end_of}
use Rattle.gm_kernel.specs.Standings.Turning.{Goes, Ends}

-- what the end of one phase answers, by the entries before and after it: the job goes on, whether or not it owes a chunk, or it ended
abbrev pub IsPhaseEnded : JobContext → JobState → Turned → JobState → Type 0
IsPhaseEnded k before Owes after = phase_end_of k before ≡ Goes after
IsPhaseEnded k before (Done rounds) after = phase_end_of k before ≡ Ends (DoneRun rounds after.values)
IsPhaseEnded k before (Bound bound) after = phase_end_of k before ≡ Ends (RoundsRun bound)

-- the round of this number begins from the values as they are
abbrev pub with_round : JobContext → ℕ → JobState → JobState
with_round k r e = record e { phase = Round r; owed = needed_chunks_of k (r == 0) e.values e.values e.degrees }

-- the round of this number begins from the sums of the one before
abbrev pub with_next_round : JobContext → ℕ → JobState → JobState
with_next_round k r e = record {
  phase = Round r;
  values = e.sums;
  sums = carried_values k e.sums;
  degrees = e.degrees;
  owed = needed_chunks_of k false e.values e.sums e.degrees;
}

-- a job that has its lists, and owes nothing yet
abbrev pub unbegun_state : JobContext → JobState
unbegun_state k = record {
  phase = Counting 0;
  values = initial_values k;
  sums = carried_values k (initial_values k);
  degrees = each_vertex k (λ u. 0);
  owed = replicate k.chunks false;
}
