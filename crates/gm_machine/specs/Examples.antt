-- Two jobs over three chunks in two blocks, and journals of them.
use Rattle.std.specs.Prelude.{ℕ, ◌+◌, Bool, ◌==◌, nat_lt, ◌&&◌, ◌||◌, not, if◌then◌else◌, List, [], ◌∷◌, ◌++◌}
use Rattle.std.specs.List.{list_any}
use Rattle.gm_base.specs.declared.job.Outcome.TheVariants.{Rounds}
use Rattle.gm_base.specs.declared.job.Spec.TheVariants.{Wcc}
use Rattle.gm_jobs.specs.declared.script.Line.{Line}
use Rattle.gm_jobs.specs.declared.script.Line.TheVariants.{Wait, Job}
use Rattle.gm_kernel.specs.declared.phase.Phase.{Phase}
use Rattle.gm_kernel.specs.declared.phase.Phase.TheVariants.{Counting, Round}
use Rattle.gm_kernel.specs.Standings.{Standing, Turning}
use Rattle.gm_kernel.specs.Standings.Turning.{Goes, Ends}
use Rattle.gm_events.specs.Examples.{grid_key, own_key}
use Rattle.gm_events.specs.declared.event.LoadCause.TheVariants.{Read}
use Rattle.gm_events.specs.declared.event.Event.{Event}
use Rattle.gm_events.specs.declared.event.Event.TheVariants.{Submit, Visit, Loaded, NoCopy, LoadFailed, Given, Passed}
use Rattle.gm_machine.specs.JobWorks.{JobWorks}
use Rattle.gm_machine.specs.Setups.{Setup, setup_of}
use Rattle.gm_machine.specs.Machine.{Rider, rider}

abbrev pub round_in : Phase → ℕ
round_in (Counting round) = round
round_in (Round round) = round

-- the first round needs each chunk, the second one chunk 1 alone
abbrev pub owes_chunk : Standing → ℕ → Bool
owes_chunk s c = nat_lt c 3 && ((round_in s.phase == 0) || (c == 1)) && not (list_any (λ p. p == c) s.passed)

abbrev pub owes_any : Standing → Bool
owes_any s = owes_chunk s 0 || owes_chunk s 1 || owes_chunk s 2

abbrev pub turned_at : ℕ → Standing → Turning Standing
turned_at n s =
    if owes_any s then Goes s else if round_in s.phase == 1 then Ends (Rounds (100 + n)) else Goes (record { phase = Round 1; passed = [] })

-- a job is seen by where it stands alone
abbrev pub two_jobs : JobWorks Standing
two_jobs = record {
  jobs = 2;
  chunks = 3;
  blocks = 2;
  block_of = λ c. if c == 2 then 1 else 0;
  admitted_job = λ n. record { phase = Round 0; passed = [] };
  owes = λ n s c. owes_chunk s c;
  pass = λ n c edges s. record { phase = s.phase; passed = c ∷ s.passed };
  turn = turned_at;
  first_at = λ n. record { phase = Round 0; passed = [] };
  owes_at = λ n s c. owes_chunk s c;
  turn_at = turned_at;
  lone = λ n. Rounds (100 + n);
  key_at = λ n s c. if (n == 1) && (c == 1) then own_key 1 1 else grid_key c;
  content_of = λ key. [];
  phases = λ n. 2;
  phases_left = λ n phase. if round_in phase == 0 then 1 else 0;
  left = λ n s. 0;
}

abbrev pub line_of : ℕ → Line
line_of name = Job (name ∷ []) (Wcc 5) []

-- one job, and two of which the second waits for a visit
abbrev pub one_at_work : Setup Standing
one_at_work = setup_of two_jobs (line_of 65 ∷ [])

abbrev pub two_at_work : Setup Standing
two_at_work = setup_of two_jobs (line_of 65 ∷ Wait 1 ∷ line_of 66 ∷ [])

-- one job, below a wait for more visits than there are
abbrev pub waiting_at_work : Setup Standing
waiting_at_work = setup_of two_jobs (Wait 9 ∷ line_of 65 ∷ [])

-- the first visit, for the first job alone, and both jobs after it
abbrev pub first_visit : List Event
first_visit = Submit 0 ∷ Visit 0 ∷ Loaded (grid_key 0) ∷ Given 0 0 ∷ Passed 0 0 ∷ []

abbrev pub second_visit : List Event
second_visit = first_visit ++ Submit 1 ∷ Submit 2 ∷ Visit 1 ∷ []

abbrev pub both_given : List Event
both_given = second_visit ++ Loaded (grid_key 1) ∷ Loaded (own_key 1 1) ∷ Given 0 1 ∷ Given 1 1 ∷ []

-- five visits, to the end
abbrev pub whole_journal : List Event
whole_journal = both_given ++ Passed 1 1 ∷ Passed 0 1
    ∷ Visit 2 ∷ Loaded (grid_key 2) ∷ Given 0 2 ∷ Given 1 2 ∷ Passed 0 2 ∷ Passed 1 2
    ∷ Visit 0 ∷ Loaded (grid_key 0) ∷ Given 1 0 ∷ Passed 1 0
    ∷ Visit 1 ∷ Loaded (grid_key 1) ∷ Loaded (own_key 1 1) ∷ Given 0 1 ∷ Given 1 1 ∷ Passed 0 1 ∷ Passed 1 1 ∷ []

-- a copy finds no memory in the second visit, and the load of the third fails
abbrev pub failing_journal : List Event
failing_journal = second_visit ++ Loaded (grid_key 1) ∷ NoCopy (own_key 1 1) ∷ Given 0 1 ∷ Passed 0 1 ∷ Visit 2 ∷ LoadFailed 2 Read ∷ []

abbrev pub grid_rider : ℕ → ℕ → Rider
grid_rider job chunk = rider job (grid_key chunk)

abbrev pub own_rider : ℕ → ℕ → Rider
own_rider job chunk = rider job (own_key chunk job)
