-- What the jobs of a script over a grid do, as the machine takes it.
use Rattle.std.specs.Prelude.{ℕ, ◌*◌, ◌<◌, List, length}
use Rattle.gm_base.specs.declared.edge.Edge.{Edge}
use Rattle.gm_label.specs.Catalogues.{Catalogue, place_at}
use Rattle.gm_jobs.specs.declared.script.Line.{Line}
use Rattle.gm_jobs.specs.StatedJobs.{jobs_of}
use Rattle.gm_kernel.specs.Runs.{lone_run}
use Rattle.gm_kernel.specs.Standings.{Standing}
use Rattle.gm_active.specs.Bits.{is_in}
use Rattle.gm_work.specs.JobStates.{JobState, first_state, state_after_pass, phases_left, turning_of}
use Rattle.gm_work.specs.Views.{owed_at, first_standing, IsMidRound, turn_at}
use Rattle.gm_work.specs.Weights.{weight_left}
use Rattle.gm_scripts.specs.ScriptJobs.{job_key, content_in_script}
use Rattle.gm_machine.specs.JobWorks.{JobWorks}
use Rattle.gm_core.specs.SnapshotViews.{job_view}

-- the work of the jobs of a script over a grid
unfoldable pub works_of : Catalogue → List Edge → List Line → JobWorks JobState
works_of cat edges entries = record {
  jobs = length (jobs_of entries);
  chunks = length cat.places;
  blocks = cat.dimensions.parts * cat.dimensions.parts;
  block_of = λ c. (place_at cat c).block;
  admitted_job = λ n. first_state (job_view cat edges entries n).context;
  owes = λ n e c. is_in e.owed c;
  pass = λ n c copied e. state_after_pass (job_view cat edges entries n).context e c copied;
  turn = λ n e. turning_of (job_view cat edges entries n).context e;
  first_at = λ n. first_standing (job_view cat edges entries n);
  owes_at = λ n s c. is_in (owed_at (job_view cat edges entries n) s) c;
  turn_at = λ n s. turn_at (job_view cat edges entries n) s;
  lone = λ n. let d = job_view cat edges entries n in lone_run d.context.spec d.context.dimensions.n d.edges;
  key_at = λ n s c. job_key cat entries n c;
  content_of = content_in_script cat edges entries;
  phases = λ n. let d = job_view cat edges entries n in phases_left d.context.spec (first_standing d).phase;
  phases_left = λ n phase. phases_left (job_view cat edges entries n).context.spec phase;
  left = λ n s. weight_left (job_view cat edges entries n) (λ c. 1) s;
}

-- a job of the script is in the middle of a round of its lone run
pub record IsJobMidRound (cat : Catalogue) (edges : List Edge) (entries : List Line) (n : ℕ) (s : Standing) (e : JobState) : Type 0 where
  pub number : n < length (jobs_of entries)
  pub mid : IsMidRound (job_view cat edges entries n) s e
