-- What the jobs of a script do, as the layers above take it: functions of the jobs' numbers, and what holds of them.
use Rattle.std.specs.Prelude.{◌≡◌, ◌⊎◌, ℕ, zero, suc, ◌+◌, ◌*◌, ◌<◌, ◌≤◌, Bool, true, false, ◌==◌, ◌&&◌, not, List, []}
use Rattle.std.specs.List.{list_any}
use Rattle.gm_base.specs.declared.edge.Edge.{Edge}
use Rattle.gm_base.specs.declared.copies.Key.{Key}
use Rattle.gm_base.specs.declared.job.Outcome.{Outcome}
use Rattle.gm_base.specs.Graph.{IsSameGraph}
use Rattle.gm_kernel.specs.declared.phase.Phase.{Phase}
use Rattle.gm_kernel.specs.Standings.{Standing, with_passed, Turning}
use Rattle.gm_kernel.specs.Standings.Turning.{Goes, Ends}

-- functions of the jobs of one script over one grid. A job is seen by its state, of whatever kind, or by where it stands
pub record JobWorks (State : Type 0) : Type 0 where
  -- how many jobs, chunks and blocks there are, and the block of a chunk
  pub jobs : ℕ
  pub chunks : ℕ
  pub blocks : ℕ
  pub block_of : ℕ → ℕ
  -- a job before its first pass, whether a job owes a chunk, and what a pass of a chunk over edges and a turn make of it
  pub admitted_job : ℕ → State
  pub owes : ℕ → State → ℕ → Bool
  pub pass : ℕ → ℕ → List Edge → State → State
  pub turn : ℕ → State → Turning State
  -- the same by where a job stands: at first, what it owes, and after a turn
  pub first_at : ℕ → Standing
  pub owes_at : ℕ → Standing → ℕ → Bool
  pub turn_at : ℕ → Standing → Turning Standing
  -- what the job's lone run comes to
  pub lone : ℕ → Outcome
  -- the job's key of a chunk where it stands, and the edges that a key stands for
  pub key_at : ℕ → Standing → ℕ → Key
  pub content_of : Key → List Edge
  -- how many phases the job has at most, how many of them follow from a phase on, and how many passes are left where it stands
  pub phases : ℕ → ℕ
  pub phases_left : ℕ → Phase → ℕ
  pub left : ℕ → Standing → ℕ

-- the phases of so many jobs, from this one on, times the chunks
abbrev pub phases_of : {State : Type 0} → JobWorks State → ℕ → ℕ → ℕ
phases_of w n zero = 0
phases_of w n (suc more) = w.phases n * w.chunks + phases_of w (suc n) more

abbrev pub most_visits : {State : Type 0} → JobWorks State → ℕ
most_visits w = phases_of w 0 w.jobs

-- a job that owes some chunk
pub record OwesSome {State : Type 0} (w : JobWorks State) (n : ℕ) (e : State) : Type 0 where
  pub chunk : ℕ
  pub owed : w.owes n e chunk ≡ true

-- a job turned, by where it stands and by its state: it is midway and owes a chunk, or it has ended as its lone run
abbrev pub IsTurnedAs : {State : Type 0} → JobWorks State → (ℕ → Standing → State → Type 0) → ℕ → Turning Standing → Turning State → Type 0
IsTurnedAs w IsMidway n (Goes s) (Goes e) = IsMidway n s e × OwesSome w n e
IsTurnedAs w IsMidway n (Ends outcome) (Ends other) = (outcome ≡ w.lone n) × (other ≡ w.lone n)
IsTurnedAs w IsMidway n (Goes s) (Ends outcome) = ⊥
IsTurnedAs w IsMidway n (Ends outcome) (Goes e) = ⊥

-- after a turn so many passes are left; where the job ended, so many were none
abbrev pub HasLeft : {State : Type 0} → JobWorks State → ℕ → ℕ → Turning Standing → Type 0
HasLeft w n passes (Goes s) = w.left n s ≡ passes
HasLeft w n passes (Ends outcome) = passes ≡ 0

-- a turn leads where the job stands already, or to a later phase of which nothing is passed
abbrev pub TurnsOn : {State : Type 0} → JobWorks State → ℕ → Standing → Turning Standing → Type 0
TurnsOn w n s (Goes next) = (next ≡ s) ⊎ ((next.passed ≡ []) × (w.phases_left n next.phase < w.phases_left n s.phase))
TurnsOn w n s (Ends outcome) = Unit {0}

-- What holds of the jobs of a script. Midway is what its layer says of a job, where it stands and its state: it is in the middle of a phase.
pub record Laws {State : Type 0} (w : JobWorks State) (IsMidway : ℕ → Standing → State → Type 0) : Type 0 where
  -- before its first pass a job is midway, and stands where it does at first
  pub begins : (n : ℕ) → n < w.jobs → IsMidway n (w.first_at n) (w.admitted_job n)
  -- a pass of an owed chunk, over edges that are the same graph as the content of the job's key of it, keeps the job midway, with this chunk passed too
  pub passes : (n c : ℕ) (s : Standing) (e : State) (edges : List Edge) → IsMidway n s e → w.owes n e c ≡ true
      → IsSameGraph edges (w.content_of (w.key_at n s c)) → IsMidway n (with_passed s c) (w.pass n c edges e)
  -- a turn leads where the standing says: midway and owing a chunk, or to the end, as the lone run
  pub turns : (n : ℕ) (s : Standing) (e : State) → IsMidway n s e → IsTurnedAs w IsMidway n (w.turn_at n s) (w.turn n e)
  -- a turn leaves the job where it stands, or leads to a later phase
  pub turns_on : (n : ℕ) (s : Standing) (e : State) → IsMidway n s e → TurnsOn w n s (w.turn_at n s)
  -- where a job stands determines its state
  pub determined : (n : ℕ) (s : Standing) (e f : State) → IsMidway n s e → IsMidway n s f → e ≡ f
  -- where a job stands tells what it owes
  pub owed : (n c : ℕ) (s : Standing) (e : State) → IsMidway n s e → w.owes n e c ≡ w.owes_at n s c
  -- after a pass the same chunks are owed but for the passed one
  pub owed_after : (n c x : ℕ) (s : Standing) → w.owes_at n (with_passed s c) x ≡ (w.owes_at n s x && not (c == x))
  -- what is owed wasn't passed
  pub owed_is_new : (n c : ℕ) (s : Standing) → w.owes_at n s c ≡ true → list_any (λ p. p == c) s.passed ≡ false
  -- what is owed is a chunk
  pub owed_is_chunk : (n c : ℕ) (s : Standing) → w.owes_at n s c ≡ true → c < w.chunks
  -- a chunk is in one of the blocks
  pub chunk_in_block : (c : ℕ) → c < w.chunks → w.block_of c < w.blocks
  -- a key of a chunk is of this chunk
  pub key_of_chunk : (n c : ℕ) (s : Standing) → (w.key_at n s c).chunk ≡ c
  -- at first at most as many passes are left as the job's phases times the chunks
  pub left_at_first : (n : ℕ) → n < w.jobs → w.left n (w.first_at n) ≤ w.phases n * w.chunks
  -- a pass of an owed chunk leaves one less
  pub left_by_passes : (n c : ℕ) (s : Standing) → w.owes_at n s c ≡ true → w.left n (with_passed s c) + 1 ≡ w.left n s
  -- a turn leaves as many, and none were left where it ends the job
  pub left_by_turns : (n : ℕ) (s : Standing) (e : State) → IsMidway n s e → HasLeft w n (w.left n s) (w.turn_at n s)
