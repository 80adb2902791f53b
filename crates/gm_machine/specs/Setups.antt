-- What the machine takes of a script and of what its jobs do.
use Rattle.std.specs.Prelude.{◌≡◌, ℕ, suc, ◌<◌, Bool, true, false, ◌==◌, List, [], ◌∷◌}
use Rattle.std.specs.List.{list_any}
use Rattle.gm_base.specs.declared.copies.Key.{Key}
use Rattle.gm_base.specs.declared.job.Outcome.{Outcome}
use Rattle.gm_jobs.specs.declared.script.Line.{Line}
use Rattle.gm_jobs.specs.declared.script.Line.TheVariants.{Update, Wait, Job as JobLine}
use Rattle.gm_kernel.specs.Standings.{Standing, with_passed, Turning}
use Rattle.gm_kernel.specs.Standings.Turning.{Goes, Ends}
use Rattle.gm_machine.specs.JobWorks.{JobWorks, most_visits}

-- a job's entry in the machine: where the job stands, and its state
pub record Entry (State : Type 0) : Type 0 where
  pub at : Standing
  pub work : State

abbrev pub standing : {State : Type 0} → Entry State → Standing
standing e = e.at

abbrev pub past : ℕ → Standing → Standing
past c st = with_passed st c

abbrev pub map_turned : {A B : Type 0} → (A → B) → Turning A → Turning B
map_turned f (Goes a) = Goes (f a)
map_turned f (Ends o) = Ends o

-- a script by its file order, the grid's chunks and blocks, and what the script's jobs do with entries, by their numbers
pub record Setup (State : Type 0) : Type 0 where
  pub script : List Line
  pub chunks : ℕ
  pub blocks : ℕ
  pub block_of : ℕ → ℕ
  pub admitted : ℕ → Entry State
  pub owes : ℕ → Entry State → ℕ → Bool
  pub pass : ℕ → ℕ → Entry State → Entry State
  pub turn : ℕ → Entry State → Turning (Entry State)
  pub lone : ℕ → Outcome
  pub first_at : ℕ → Standing
  pub owes_at : ℕ → Standing → ℕ → Bool
  pub key_at : ℕ → Standing → ℕ → Key
  pub turn_at : ℕ → Standing → Turning Standing
  -- how many visits there are at most
  pub most : ℕ

-- how many jobs a script has
abbrev pub jobs_in : List Line → ℕ
jobs_in [] = 0
jobs_in (JobLine name spec own ∷ lines) = suc (jobs_in lines)
jobs_in (Update batch ∷ lines) = jobs_in lines
jobs_in (Wait visits ∷ lines) = jobs_in lines

-- where a job stands after a turn, with what it then is
abbrev pub turned_with : {State : Type 0} → Turning Standing → Turning State → Turning (Entry State)
turned_with (Goes st) (Goes e) = Goes (record { at = st; work = e })
turned_with (Goes st) (Ends o) = Ends o
turned_with (Ends o) (Goes e) = Ends o
turned_with (Ends o) (Ends p) = Ends p

-- the jobs of a script, each of whose passes is over the content of its own key
abbrev pub setup_of : {State : Type 0} → JobWorks State → List Line → Setup State
setup_of w script = record {
  script = script;
  chunks = w.chunks;
  blocks = w.blocks;
  block_of = w.block_of;
  admitted = λ n. record { at = w.first_at n; work = w.admitted_job n };
  owes = λ n e c. w.owes n e.work c;
  pass = λ n c e. record { at = with_passed e.at c; work = w.pass n c (w.content_of (w.key_at n e.at c)) e.work };
  turn = λ n e. turned_with (w.turn_at n e.at) (w.turn n e.work);
  lone = w.lone;
  first_at = w.first_at;
  owes_at = w.owes_at;
  key_at = w.key_at;
  turn_at = w.turn_at;
  most = most_visits w;
}

abbrev pub IsMidwayEntry : {State : Type 0} → (ℕ → Standing → State → Type 0) → ℕ → Entry State → Type 0
IsMidwayEntry IsMidway n e = IsMidway n e.at e.work

abbrev pub IsTurnedWell : {State : Type 0} → (Entry State → Type 0) → Outcome → Turning (Entry State) → Type 0
IsTurnedWell Goal lone (Goes e) = Goal e
IsTurnedWell Goal lone (Ends o) = o ≡ lone

-- the job owes some chunk
pub record OwesOne {State : Type 0} (s : Setup State) (n : ℕ) (e : Entry State) : Type 0 where
  pub chunk : ℕ
  pub owed : s.owes n e chunk ≡ true

-- what holds of entries
pub record EntryLaws {State : Type 0} (s : Setup State) (Midway : ℕ → Entry State → Type 0) : Type 0 where
  pub begins : (n : ℕ) → n < jobs_in s.script → Midway n (s.admitted n)
  pub passes : (n c : ℕ) (e : Entry State) → Midway n e → s.owes n e c ≡ true → Midway n (s.pass n c e)
  -- a turn keeps midway, or ends the job as its lone run
  pub turns : (n : ℕ) (e : Entry State) → Midway n e → IsTurnedWell (Midway n) (s.lone n) (s.turn n e)
  -- where an entry stands says what it owes and what its turn makes of it
  pub begins_at : (n : ℕ) → standing (s.admitted n) ≡ s.first_at n
  pub passes_at : (n c : ℕ) (e : Entry State) → standing (s.pass n c e) ≡ past c (standing e)
  pub owed : (n c : ℕ) (e : Entry State) → Midway n e → s.owes n e c ≡ s.owes_at n (standing e) c
  pub turns_at : (n : ℕ) (e : Entry State) → Midway n e → map_turned standing (s.turn n e) ≡ s.turn_at n (standing e)
  -- what is owed isn't passed
  pub owed_is_new : (n c : ℕ) (st : Standing) → s.owes_at n st c ≡ true → list_any (λ d. d == c) st.passed ≡ false
  -- a job that goes on after a turn owes a chunk
  pub goes_owing : (n : ℕ) (e on : Entry State) → Midway n e → s.turn n e ≡ Goes on → OwesOne s n on
  -- what is owed is a chunk, and a chunk is in one of the blocks
  pub owed_is_chunk : (n c : ℕ) (st : Standing) → s.owes_at n st c ≡ true → c < s.chunks
  pub chunk_in_block : (c : ℕ) → c < s.chunks → s.block_of c < s.blocks
