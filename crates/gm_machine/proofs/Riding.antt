-- No job rides twice to a chunk in one phase: a ride is spent, and stays so.
use Rattle.std.proofs.Common.{◌≡◌, ℕ, suc, ◌+◌, ◌<◌, ◌≤◌, Bool, true, false, cond, not, eqb, ◌&&◌, ◌||◌, List, [], ◌∷◌, ◌++◌, map, length, sym, ap, ◌∙◌, refl, subst, Option, Some, None, ◌⊎◌, inl, inr, ⊎_elim, true≢false, arith}
use Rattle.std.specs.Prelude.{slice_get}
use Rattle.std.specs.List.{AllByRecursion, list_any, cons_option}
use Rattle.std.proofs.lemmas.Bool.{or_parts, and_parts, eqb-true, not-true}
use Rattle.gm_base.specs.declared.copies.Key.{Key}
use Rattle.gm_jobs.specs.declared.script.Line.{Line}
use Rattle.gm_jobs.specs.declared.script.Line.TheVariants.{Update, Wait, Job as JobLine}
use Rattle.gm_events.specs.declared.event.LoadCause.{LoadCause}
use Rattle.gm_events.specs.declared.event.Event.{Event}
use Rattle.gm_events.specs.declared.event.Event.TheVariants.{Submit, Visit, Loaded, NoCopy, LoadFailed, Given, Passed}
use Rattle.gm_kernel.specs.declared.phase.Phase.{Phase}
use Rattle.gm_kernel.specs.Standings.{Standing, Turning}
use Rattle.gm_kernel.specs.Standings.Turning.{Goes, Ends}
use Rattle.gm_buffer.specs.Keys.{is_same_key}
use Rattle.gm_machine.specs.Setups.{Entry, standing, past, Setup, EntryLaws}
use Rattle.gm_machine.specs.Machine.{Ending, NoMemory, ending_by, Stage, Runs, Waits, Works, Over, Job, Ridden, Scene, beginning, is_riding, is_working, is_owing, is_owing_at, is_open, key_in, chunk_now, at_stage, boarded, given, has_passed, ended_where, stage_after, new_job, jobs_with, lose, fail, may, done, scene_from, is_legal_from, scene_of, IsLegal}
use Rattle.gm_machine.specs.Promises.{AllStages}
use Rattle.gm_machine.specs.Rides.{Ride, ride_if, ride_at, rides_to, rides_by, rides_from, rides_of, first_of, first_rides_from, first_rides_of, IsAmong, NoneTwice}
use Rattle.gm_machine.proofs.Lists.{by_test, eqb_refl, stages_more, Numbered}
use Rattle.gm_machine.proofs.Soundness.{IsFine, Sound, begins_sound, step_sound}

-- phases lead on, and a pass pays for its chunk
pub record Onward {State : Type 0} (s : Setup State) (Midway : ℕ → Entry State → Type 0) (later : ℕ → Phase → ℕ) : Type 0 where
  pub turns_on : (n : ℕ) (e on : Entry State) → Midway n e → s.turn n e ≡ Goes on → (standing on ≡ standing e) ⊎ (later n on.at.phase < later n e.at.phase)
  pub owed_after : (n c x : ℕ) (st : Standing) → s.owes_at n (past c st) x ≡ (s.owes_at n st x && not (eqb c x))

-- ---- lists of rides

among_parts : (r : Ride) (xs ys : List Ride) → IsAmong r (xs ++ ys) → IsAmong r xs ⊎ IsAmong r ys
among_parts r [] ys h = inr h
among_parts r (x ∷ xs) ys h =
    ⊎_elim (λ here. inl (inl here)) (λ there. ⊎_elim (λ first. inl (inr first)) (λ second. inr second) (among_parts r xs ys there)) h

twice_apart : (xs ys : List Ride) → NoneTwice xs → NoneTwice ys → AllByRecursion (λ r. IsAmong r ys → ⊥) xs → NoneTwice (xs ++ ys)
twice_apart [] ys h g apart = g
twice_apart (x ∷ xs) ys h g apart =
    ((λ among. ⊎_elim (λ first. h.0 first) (λ second. apart.0 second) (among_parts x xs ys among)), twice_apart xs ys h.1 g apart.1)

rides_weaker : (P Q : Ride → Type 0) → ((r : Ride) → P r → Q r) → (rs : List Ride) → AllByRecursion P rs → AllByRecursion Q rs
rides_weaker P Q each [] h = tt
rides_weaker P Q each (r ∷ rs) h = (each r h.0, rides_weaker P Q each rs h.1)

rides_both : (P Q R : Ride → Type 0) → ((r : Ride) → P r → Q r → R r) → (rs : List Ride) → AllByRecursion P rs → AllByRecursion Q rs → AllByRecursion R rs
rides_both P Q R each [] h g = tt
rides_both P Q R each (r ∷ rs) h g = (each r h.0 g.0, rides_both P Q R each rs h.1 g.1)

among_all : (P : Ride → Type 0) (r : Ride) (rs : List Ride) → IsAmong r rs → AllByRecursion P rs → P r
among_all P r [] among h = absurd among
among_all P r (q ∷ rs) among h = ⊎_elim (λ here. subst P here h.0) (λ there. among_all P r rs there h.1) among

with_option : (P : Ride → Type 0) (o : Option Ride) (rs : List Ride) → ((r : Ride) → o ≡ Some r → P r) → AllByRecursion P rs → AllByRecursion P (cons_option o rs)
with_option P None rs one h = h
with_option P (Some r) rs one h = (one r refl, h)

module _ {State : Type 0} (Midway : ℕ → Entry State → Type 0) (s : Setup State) (laws : EntryLaws s Midway) (later : ℕ → Phase → ℕ) (onward : Onward s Midway later) where
  abbrev Fine : ℕ → ℕ → Stage State → Type 0
  Fine c n st = IsFine Midway s laws c n st

  -- where the job stands it won't take this ride again
  abbrev IsSpentAt : Ride → ℕ → Standing → Type 0
  IsSpentAt r n st = (later n st.phase < later n r.phase) ⊎ ((st.phase ≡ r.phase) × (s.owes_at n st r.chunk ≡ false))

  abbrev IsSpentIn : ℕ → Ride → ℕ → Stage State → Type 0
  IsSpentIn c r n (Runs e) = IsSpentAt r n (standing e)
  IsSpentIn c r n (Waits e) = IsSpentAt r n (past c (standing e))
  IsSpentIn c r n (Works e) = IsSpentAt r n (past c (standing e))
  IsSpentIn c r n (Over o) = Unit {0}

  abbrev IsSpent : ℕ → Ride → ℕ → Stage State → Type 0
  IsSpent c r n st = n ≡ r.job → IsSpentIn c r n st

  -- ---- a spent ride stays spent

  past_spent : (c : ℕ) (r : Ride) (n : ℕ) (st : Standing) → IsSpentAt r n st → IsSpentAt r n (past c st)
  past_spent c r n st h =
      ⊎_elim (λ before. inl before) (λ same. inr (same.0, onward.owed_after n c r.chunk st ∙ ap (λ (b : Bool). b && not (eqb c r.chunk)) same.1)) h

  turned_spent : (c : ℕ) (r : Ride) (n : ℕ) (e : Entry State) (t : Turning (Entry State)) → Midway n e → s.turn n e ≡ t → IsSpentAt r n (standing e) → IsSpentIn c r n (stage_after t)
  turned_spent c r n e (Goes on) mid is h =
      ⊎_elim
      (λ stays. subst (IsSpentAt r n) (sym stays) h)
      (λ leads. ⊎_elim (λ before. inl (omega (arith, leads, before))) (λ same. let phase : later n e.at.phase ≡ later n r.phase = ap (later n) same.0 in inl (omega (arith, leads, phase))) h)
      (onward.turns_on n e on mid is)
  turned_spent c r n e (Ends o) mid is h = tt

  boarded_spent : (b c : ℕ) (r : Ride) (n : ℕ) (st : Stage State) → is_riding st ≡ false → IsSpentIn b r n st → IsSpentIn c r n (boarded s c n st)
  boarded_spent b c r n (Runs e) none h = by_test (s.owes n e c) (λ t. IsSpentIn c r n (cond t (Waits e) (Runs e))) (λ _. past_spent c r n (standing e) h) (λ _. h)
  boarded_spent b c r n (Waits e) none h = absurd (true≢false none)
  boarded_spent b c r n (Works e) none h = absurd (true≢false none)
  boarded_spent b c r n (Over o) none h = tt

  ended_spent : (c : ℕ) (r : Ride) (test : ℕ → Entry State → Bool) (o : Ending) (n : ℕ) (st : Stage State) → IsSpentIn c r n st → IsSpentIn c r n (ended_where test o n st)
  ended_spent c r test o n (Runs e) h = h
  ended_spent c r test o n (Waits e) h = by_test (test n e) (λ t. IsSpentIn c r n (cond t (Over o) (Waits e))) (λ _. tt) (λ _. h)
  ended_spent c r test o n (Works e) h = by_test (test n e) (λ t. IsSpentIn c r n (cond t (Over o) (Works e))) (λ _. tt) (λ _. h)
  ended_spent c r test o n (Over p) h = tt

  given_spent : (c : ℕ) (r : Ride) (j n : ℕ) (st : Stage State) → IsSpentIn c r n st → IsSpentIn c r n (given j n st)
  given_spent c r j n (Runs e) h = h
  given_spent c r j n (Waits e) h = by_test (eqb n j) (λ t. IsSpentIn c r n (cond t (Works e) (Waits e))) (λ _. h) (λ _. h)
  given_spent c r j n (Works e) h = h
  given_spent c r j n (Over o) h = tt

  passed_spent : (c : ℕ) (r : Ride) (j n : ℕ) (st : Stage State) → Fine c n st → IsSpentIn c r n st → IsSpentIn c r n (has_passed s j c n st)
  passed_spent c r j n (Runs e) fine h = h
  passed_spent c r j n (Waits e) fine h = h
  passed_spent c r j n (Works e) fine h =
      let after = s.pass n c e in
      by_test (eqb n j) (λ t. IsSpentIn c r n (cond t (stage_after (s.turn n after)) (Works e)))
      (λ _. turned_spent c r n after (s.turn n after) (laws.passes n c e fine.0 fine.1) refl (subst (IsSpentAt r n) (sym (laws.passes_at n c e)) h)) (λ _. h)
  passed_spent c r j n (Over o) fine h = tt

  -- a new job has another number
  push_spent : (c : ℕ) (r : Ride) (line : Option Line) (jobs : List (Job State)) → r.job < length jobs → AllStages (IsSpent c r) jobs → AllStages (IsSpent c r) (jobs_with s line jobs)
  push_spent c r None jobs low h = h
  push_spent c r (Some (Update batch)) jobs low h = h
  push_spent c r (Some (Wait k)) jobs low h = h
  push_spent c r (Some (JobLine name spec own)) jobs low h = stages_more (IsSpent c r) jobs (new_job s (length jobs)) h (λ same. absurd (omega (arith, low, same)))

  push_longer : (line : Option Line) (jobs : List (Job State)) → length jobs ≤ length (jobs_with s line jobs)
  push_longer None jobs = omega arith
  push_longer (Some (Update batch)) jobs = omega arith
  push_longer (Some (Wait k)) jobs = omega arith
  push_longer (Some (JobLine name spec own)) jobs = at jobs
    where
      at : (js : List (Job State)) → length js ≤ length (js ++ new_job s (length jobs) ∷ [])
      at [] = omega arith
      at (job ∷ js) = let rest = at js in omega (arith, rest)

  map_length : (f : Job State → Job State) (jobs : List (Job State)) → length (map f jobs) ≡ length jobs
  map_length f [] = refl
  map_length f (job ∷ jobs) = ap suc (map_length f jobs)

  pub record SpentRide (r : Ride) (scene : Scene State) : Type 0 where
    pub number : r.job < length scene.jobs
    pub spent : AllStages (IsSpent (chunk_now scene.visits) r) scene.jobs

  stages_along : (c d : ℕ) (r : Ride) (P : ℕ → Stage State → Type 0) (f : ℕ → Stage State → Stage State) → ((n : ℕ) (st : Stage State) → P n st → IsSpentIn c r n st → IsSpentIn d r n (f n st))
      → (jobs : List (Job State)) → AllStages P jobs → AllStages (IsSpent c r) jobs → AllStages (IsSpent d r) (map (at_stage f) jobs)
  stages_along c d r P f each [] p h = tt
  stages_along c d r P f each (job ∷ jobs) p h = ((λ same. each job.number job.stage p.0 (h.0 same)), stages_along c d r P f each jobs p.1 h.1)

  all_rest : (jobs : List (Job State)) → list_any (λ job. is_riding job.stage) jobs ≡ false → AllStages (λ n st. is_riding st ≡ false) jobs
  all_rest [] none = tt
  all_rest (job ∷ jobs) none = let parts = or_parts (is_riding job.stage) (list_any (λ (j : Job State). is_riding j.stage) jobs) none in (parts.0, all_rest jobs parts.1)

  any_stage : (jobs : List (Job State)) → AllStages (λ n st. Unit {0}) jobs
  any_stage [] = tt
  any_stage (job ∷ jobs) = (tt, any_stage jobs)

  chunk_lose : (k : Key) (vs : List Ridden) → chunk_now (lose k vs) ≡ chunk_now vs
  chunk_lose k [] = refl
  chunk_lose k (v ∷ vs) = refl

  chunk_fail : (cause : LoadCause) (vs : List Ridden) → chunk_now (fail cause vs) ≡ chunk_now vs
  chunk_fail cause [] = refl
  chunk_fail cause (v ∷ vs) = refl

  same_count : (f : ℕ → Stage State → Stage State) (r : Ride) (jobs : List (Job State)) → r.job < length jobs → r.job < length (map (at_stage f) jobs)
  same_count f r jobs low = let same = map_length (at_stage f) jobs in omega (arith, low, same)

  step_spent : (r : Ride) (scene : Scene State) (event : Event) → may s scene event ≡ true → Sound Midway s laws scene → SpentRide r scene → SpentRide r (done s scene event)
  step_spent r scene (Submit line) ok sound h =
      let low = h.number in
      let more = push_longer (slice_get s.script line) scene.jobs in
      record { number = omega (arith, low, more); spent = push_spent (chunk_now scene.visits) r (slice_get s.script line) scene.jobs h.number h.spent }
  step_spent r scene (Visit c) ok sound h =
      let closed = not-true (is_open scene) (and_parts (not (is_open scene)) (list_any (is_owing s c) scene.jobs) ok).0 in
      let b = chunk_now scene.visits in
      record {
        number = same_count (boarded s c) r scene.jobs h.number;
        spent = stages_along b c r (λ n st. is_riding st ≡ false) (boarded s c) (boarded_spent b c r) scene.jobs (all_rest scene.jobs closed) h.spent;
      }
  step_spent r scene (Loaded k) ok sound h = record { number = h.number; spent = h.spent }
  step_spent r scene (NoCopy k) ok sound h =
      let c = chunk_now scene.visits in
      let test : ℕ → Entry State → Bool = λ n e. is_same_key (key_in s c n e) k in
      let f = ended_where test NoMemory in
      record {
        number = same_count f r scene.jobs h.number;
        spent = rw (chunk_lose k scene.visits) (stages_along c c r (λ n st. Unit {0}) f (λ n st _ g. ended_spent c r test NoMemory n st g) scene.jobs (any_stage scene.jobs) h.spent);
      }
  step_spent r scene (LoadFailed d cause) ok sound h =
      let c = chunk_now scene.visits in
      let f = ended_where (λ n e. true) (ending_by cause d) in
      record {
        number = same_count f r scene.jobs h.number;
        spent = rw (chunk_fail cause scene.visits) (stages_along c c r (λ n st. Unit {0}) f (λ n st _ g. ended_spent c r (λ m e. true) (ending_by cause d) n st g) scene.jobs (any_stage scene.jobs) h.spent);
      }
  step_spent r scene (Given j d) ok sound h =
      let c = chunk_now scene.visits in
      record {
        number = same_count (given j) r scene.jobs h.number;
        spent = stages_along c c r (λ n st. Unit {0}) (given j) (λ n st _ g. given_spent c r j n st g) scene.jobs (any_stage scene.jobs) h.spent;
      }
  step_spent r scene (Passed j d) ok sound h =
      let c = chunk_now scene.visits in
      let here : d ≡ c = eqb-true d c (and_parts (eqb d c) (list_any (λ (job : Job State). eqb job.number j && is_working job.stage) scene.jobs) ok).0 in
      let Goal : ℕ → Type 0 = λ b. SpentRide r (done s scene (Passed j b)) in
      let at : Goal c = record {
        number = same_count (has_passed s j c) r scene.jobs h.number;
        spent = stages_along c c r (Fine c) (has_passed s j c) (passed_spent c r j) scene.jobs sound.jobs h.spent;
      } in
      subst Goal (sym here) at

  -- ---- a spent ride isn't taken

  one_not : (b c : ℕ) (r q : Ride) (n : ℕ) (st : Stage State) → Fine b n st → IsSpent b r n st → ride_at s c n st ≡ Some q → q ≡ r → ⊥
  one_not b c r q n (Runs e) fine spent is same = at (s.owes n e c) refl is
    where
      ride : Ride
      ride = record { job = n; phase = e.at.phase; chunk = c }

      differs : IsSpentAt r n (standing e) → e.at.phase ≡ r.phase → c ≡ r.chunk → s.owes n e c ≡ true → ⊥
      differs h phase chunk owes =
          ⊎_elim (λ before. let level : later n e.at.phase ≡ later n r.phase = ap (later n) phase in omega (arith, before, level))
          (λ held. true≢false (sym owes ∙ laws.owed n c e fine ∙ ap (λ (x : ℕ). s.owes_at n (standing e) x) chunk ∙ held.1)) h

      at : (t : Bool) → s.owes n e c ≡ t → ride_if t (record { job = n; phase = e.at.phase; chunk = c }) ≡ Some q → ⊥
      at false owes taken = cc
      at true owes taken =
          let first : record { job = n; phase = e.at.phase; chunk = c } ≡ q = cc in
          let both : record { job = n; phase = e.at.phase; chunk = c } ≡ r = first ∙ same in
          differs (spent (ap (λ (x : Ride). x.job) both)) (ap (λ (x : Ride). x.phase) both) (ap (λ (x : Ride). x.chunk) both) owes
  one_not b c r q n (Waits e) fine spent is same = cc
  one_not b c r q n (Works e) fine spent is same = cc
  one_not b c r q n (Over o) fine spent is same = cc

  not_taken : (b c : ℕ) (r : Ride) (jobs : List (Job State)) → AllStages (Fine b) jobs → AllStages (IsSpent b r) jobs → IsAmong r (rides_to s c jobs) → ⊥
  not_taken b c r [] fine h among = among
  not_taken b c r (job ∷ jobs) fine h among = at (ride_at s c job.number job.stage) refl among (not_taken b c r jobs fine.1 h.1)
    where
      at : (o : Option Ride) → ride_at s c job.number job.stage ≡ o → IsAmong r (cons_option o (rides_to s c jobs)) → (IsAmong r (rides_to s c jobs) → ⊥) → ⊥
      at None is g rest = rest g
      at (Some q) is g rest = ⊎_elim (λ here. one_not b c r q job.number job.stage fine.0 h.0 is here) (λ there. rest there) g

  not_by : (r : Ride) (scene : Scene State) (event : Event) → Sound Midway s laws scene → SpentRide r scene → IsAmong r (rides_by s scene event) → ⊥
  not_by r scene (Submit line) sound h among = among
  not_by r scene (Visit c) sound h among = not_taken (chunk_now scene.visits) c r scene.jobs sound.jobs h.spent among
  not_by r scene (Loaded k) sound h among = among
  not_by r scene (NoCopy k) sound h among = among
  not_by r scene (LoadFailed c cause) sound h among = among
  not_by r scene (Given j c) sound h among = among
  not_by r scene (Passed j c) sound h among = among

  never_again : (r : Ride) (journal : List Event) (scene : Scene State) → is_legal_from s scene journal ≡ true → Sound Midway s laws scene → SpentRide r scene → IsAmong r (rides_from s scene journal) → ⊥
  unfolding is_legal_from rides_from
  never_again r [] scene ok sound h among = among
  never_again r (event ∷ journal) scene ok sound h among =
      let parts = and_parts (may s scene event) (is_legal_from s (done s scene event) journal) ok in
      ⊎_elim (λ now. not_by r scene event sound h now)
      (λ after. never_again r journal (done s scene event) parts.1 (step_sound Midway s laws scene event parts.0 sound) (step_spent r scene event parts.0 sound h) after)
      (among_parts r (rides_by s scene event) (rides_from s (done s scene event) journal) among)

  -- ---- a ride is spent once it is taken

  ride_number : (c n : ℕ) (st : Stage State) (r : Ride) → ride_at s c n st ≡ Some r → r.job ≡ n
  ride_number c n (Runs e) r is =
      by_test (s.owes n e c) (λ t. ride_if t (record { job = n; phase = e.at.phase; chunk = c }) ≡ Some r → r.job ≡ n)
      (λ _ g. let same : record { job = n; phase = e.at.phase; chunk = c } ≡ r = cc in ap (λ (x : Ride). x.job) (sym same)) (λ _ g. cc) is
  ride_number c n (Waits e) r is = cc
  ride_number c n (Works e) r is = cc
  ride_number c n (Over o) r is = cc

  -- the rides of jobs that are numbered from m on
  above : (c m : ℕ) (jobs : List (Job State)) → Numbered m jobs → AllByRecursion (λ r. m ≤ r.job) (rides_to s c jobs)
  above c m [] numbers = tt
  above c m (job ∷ jobs) numbers =
      let first = numbers.0 in
      with_option (λ r. m ≤ r.job) (ride_at s c job.number job.stage) (rides_to s c jobs)
      (λ r is. let number = ride_number c job.number job.stage r is in omega (arith, first, number))
      (rides_weaker (λ r. suc m ≤ r.job) (λ r. m ≤ r.job) (λ r low. omega (arith, low)) (rides_to s c jobs) (above c (suc m) jobs numbers.1))

  below : (c m : ℕ) (jobs : List (Job State)) → Numbered m jobs → AllByRecursion (λ r. r.job < m + length jobs) (rides_to s c jobs)
  below c m [] numbers = tt
  below c m (job ∷ jobs) numbers =
      let first = numbers.0 in
      with_option (λ r. r.job < m + suc (length jobs)) (ride_at s c job.number job.stage) (rides_to s c jobs)
      (λ r is. let number = ride_number c job.number job.stage r is in omega (arith, first, number))
      (rides_weaker (λ r. r.job < suc m + length jobs) (λ r. r.job < m + suc (length jobs)) (λ r low. omega (arith, low)) (rides_to s c jobs) (below c (suc m) jobs numbers.1))

  unlike : (c : ℕ) (r : Ride) (m : ℕ) (jobs : List (Job State)) → r.job < m → Numbered m jobs → AllStages (IsSpent c r) jobs
  unlike c r m [] low numbers = tt
  unlike c r m (job ∷ jobs) low numbers =
      let first = numbers.0 in
      ((λ same. absurd (omega (arith, low, first, same))), unlike c r (suc m) jobs (omega (arith, low)) numbers.1)

  numbered_on : (c m : ℕ) (jobs : List (Job State)) → Numbered m jobs → Numbered m (map (at_stage (boarded s c)) jobs)
  numbered_on c m [] h = tt
  numbered_on c m (job ∷ jobs) h = (h.0, numbered_on c (suc m) jobs h.1)

  paid : (c n : ℕ) (st : Standing) → s.owes_at n (past c st) c ≡ false
  paid c n st = onward.owed_after n c c st ∙ nothing (s.owes_at n st c) (eqb c c) (eqb_refl c)
    where
      nothing : (a b : Bool) → b ≡ true → (a && not b) ≡ false
      nothing true b h = rw h refl
      nothing false b h = refl

  taken_spent : (c n : ℕ) (st : Stage State) (r : Ride) → ride_at s c n st ≡ Some r → IsSpentIn c r n (boarded s c n st)
  taken_spent c n (Runs e) r is =
      by_test (s.owes n e c) (λ t. ride_if t (record { job = n; phase = e.at.phase; chunk = c }) ≡ Some r → IsSpentIn c r n (cond t (Waits e) (Runs e)))
      (λ _ g.
      let same : record { job = n; phase = e.at.phase; chunk = c } ≡ r = cc in
      subst (λ (x : Ride). IsSpentAt x n (past c (standing e))) same (inr (refl, paid c n (standing e))))
      (λ _ g. cc) is
  taken_spent c n (Waits e) r is = cc
  taken_spent c n (Works e) r is = cc
  taken_spent c n (Over o) r is = cc

  spend_all : (c m : ℕ) (jobs : List (Job State)) → Numbered m jobs → AllByRecursion (λ r. AllStages (IsSpent c r) (map (at_stage (boarded s c)) jobs)) (rides_to s c jobs)
  spend_all c m [] numbers = tt
  spend_all c m (job ∷ jobs) numbers =
      let on = map (at_stage (boarded s c)) jobs in
      let first = numbers.0 in
      with_option (λ r. AllStages (IsSpent c r) (map (at_stage (boarded s c)) (job ∷ jobs))) (ride_at s c job.number job.stage) (rides_to s c jobs)
      (λ r is.
      let number = ride_number c job.number job.stage r is in
      ((λ _. taken_spent c job.number job.stage r is), unlike c r (suc m) on (omega (arith, number, first)) (numbered_on c (suc m) jobs numbers.1)))
      (rides_both (λ r. suc m ≤ r.job) (λ r. AllStages (IsSpent c r) on) (λ r. AllStages (IsSpent c r) (map (at_stage (boarded s c)) (job ∷ jobs)))
      (λ r low rest. ((λ same. absurd (omega (arith, low, first, same))), rest)) (rides_to s c jobs) (above c (suc m) jobs numbers.1) (spend_all c (suc m) jobs numbers.1))

  by_spent : (scene : Scene State) (event : Event) → Sound Midway s laws scene → AllByRecursion (λ r. SpentRide r (done s scene event)) (rides_by s scene event)
  by_spent scene (Submit line) sound = tt
  by_spent scene (Visit c) sound =
      rides_both (λ r. r.job < 0 + length scene.jobs) (λ r. AllStages (IsSpent c r) (map (at_stage (boarded s c)) scene.jobs)) (λ r. SpentRide r (done s scene (Visit c)))
      (λ r low spent. record { number = same_count (boarded s c) r scene.jobs (omega (arith, low)); spent = spent }) (rides_to s c scene.jobs) (below c 0 scene.jobs sound.numbers) (spend_all c 0 scene.jobs sound.numbers)
  by_spent scene (Loaded k) sound = tt
  by_spent scene (NoCopy k) sound = tt
  by_spent scene (LoadFailed c cause) sound = tt
  by_spent scene (Given j c) sound = tt
  by_spent scene (Passed j c) sound = tt

  twice_to : (c m : ℕ) (jobs : List (Job State)) → Numbered m jobs → NoneTwice (rides_to s c jobs)
  twice_to c m [] numbers = tt
  twice_to c m (job ∷ jobs) numbers = at (ride_at s c job.number job.stage) refl (twice_to c (suc m) jobs numbers.1) (above c (suc m) jobs numbers.1) numbers.0
    where
      at : (o : Option Ride) → ride_at s c job.number job.stage ≡ o → NoneTwice (rides_to s c jobs) → AllByRecursion (λ r. suc m ≤ r.job) (rides_to s c jobs) → job.number ≡ m → NoneTwice (cons_option o (rides_to s c jobs))
      at None is rest higher first = rest
      at (Some r) is rest higher first = (
        (λ among.
            let low = among_all (λ q. suc m ≤ q.job) r (rides_to s c jobs) among higher in
            let number = ride_number c job.number job.stage r is in
            omega (arith, low, number, first)),
        rest,
      )

  twice_by : (scene : Scene State) (event : Event) → Sound Midway s laws scene → NoneTwice (rides_by s scene event)
  twice_by scene (Submit line) sound = tt
  twice_by scene (Visit c) sound = twice_to c 0 scene.jobs sound.numbers
  twice_by scene (Loaded k) sound = tt
  twice_by scene (NoCopy k) sound = tt
  twice_by scene (LoadFailed c cause) sound = tt
  twice_by scene (Given j c) sound = tt
  twice_by scene (Passed j c) sound = tt

  -- ---- all rides, and the first ones

  twice_from : (journal : List Event) (scene : Scene State) → is_legal_from s scene journal ≡ true → Sound Midway s laws scene → NoneTwice (rides_from s scene journal)
  unfolding is_legal_from rides_from
  twice_from [] scene ok sound = tt
  twice_from (event ∷ journal) scene ok sound =
      let parts = and_parts (may s scene event) (is_legal_from s (done s scene event) journal) ok in
      let next = step_sound Midway s laws scene event parts.0 sound in
      twice_apart (rides_by s scene event) (rides_from s (done s scene event) journal) (twice_by scene event sound) (twice_from journal (done s scene event) parts.1 next)
      (rides_weaker (λ r. SpentRide r (done s scene event)) (λ r. IsAmong r (rides_from s (done s scene event) journal) → ⊥) (λ r spent. never_again r journal (done s scene event) parts.1 next spent)
      (rides_by s scene event) (by_spent scene event sound))

  pub none_twice : (journal : List Event) → IsLegal s journal → NoneTwice (rides_of s journal)
  none_twice journal ok = twice_from journal beginning ok (begins_sound Midway s laws)

  first_all : (P : Ride → Type 0) (rs : List Ride) → AllByRecursion P rs → AllByRecursion P (first_of rs)
  first_all P [] h = tt
  first_all P (r ∷ rs) h = (h.0, tt)

  first_once : (rs : List Ride) → NoneTwice (first_of rs)
  first_once [] = tt
  first_once (r ∷ rs) = ((λ among. among), tt)

  first_among : (r : Ride) (rs : List Ride) → IsAmong r (first_of rs) → IsAmong r rs
  first_among r [] h = h
  first_among r (q ∷ rs) h = ⊎_elim (λ here. inl here) (λ there. absurd there) h

  among_left : (r : Ride) (xs ys : List Ride) → IsAmong r xs → IsAmong r (xs ++ ys)
  among_left r [] ys h = absurd h
  among_left r (x ∷ xs) ys h = ⊎_elim (λ here. inl here) (λ there. inr (among_left r xs ys there)) h

  among_right : (r : Ride) (xs ys : List Ride) → IsAmong r ys → IsAmong r (xs ++ ys)
  among_right r [] ys h = h
  among_right r (x ∷ xs) ys h = inr (among_right r xs ys h)

  firsts_among : (r : Ride) (journal : List Event) (scene : Scene State) → IsAmong r (first_rides_from s scene journal) → IsAmong r (rides_from s scene journal)
  unfolding rides_from first_rides_from
  firsts_among r [] scene h = h
  firsts_among r (event ∷ journal) scene h =
      let rest = rides_from s (done s scene event) journal in
      ⊎_elim (λ now. among_left r (rides_by s scene event) rest (first_among r (rides_by s scene event) now)) (λ after. among_right r (rides_by s scene event) rest (firsts_among r journal (done s scene event) after))
      (among_parts r (first_of (rides_by s scene event)) (first_rides_from s (done s scene event) journal) h)

  firsts_from : (journal : List Event) (scene : Scene State) → is_legal_from s scene journal ≡ true → Sound Midway s laws scene → NoneTwice (first_rides_from s scene journal)
  unfolding is_legal_from first_rides_from
  firsts_from [] scene ok sound = tt
  firsts_from (event ∷ journal) scene ok sound =
      let parts = and_parts (may s scene event) (is_legal_from s (done s scene event) journal) ok in
      let next = step_sound Midway s laws scene event parts.0 sound in
      twice_apart (first_of (rides_by s scene event)) (first_rides_from s (done s scene event) journal) (first_once (rides_by s scene event)) (firsts_from journal (done s scene event) parts.1 next)
      (first_all (λ r. IsAmong r (first_rides_from s (done s scene event) journal) → ⊥) (rides_by s scene event)
      (rides_weaker (λ r. SpentRide r (done s scene event)) (λ r. IsAmong r (first_rides_from s (done s scene event) journal) → ⊥)
      (λ r spent among. never_again r journal (done s scene event) parts.1 next spent (firsts_among r journal (done s scene event) among)) (rides_by s scene event) (by_spent scene event sound)))

  pub firsts_once : (journal : List Event) → IsLegal s journal → NoneTwice (first_rides_of s journal)
  firsts_once journal ok = firsts_from journal beginning ok (begins_sound Midway s laws)

  -- each visit has a first rider
  some_ride : (c : ℕ) (jobs : List (Job State)) → list_any (λ job. is_riding job.stage) jobs ≡ false → list_any (is_owing s c) jobs ≡ true → length (first_of (rides_to s c jobs)) ≡ 1
  some_ride c [] none some = absurd (true≢false (sym some))
  some_ride c (job ∷ jobs) none some =
      let parts = or_parts (is_riding job.stage) (list_any (λ (j : Job State). is_riding j.stage) jobs) none in
      at job.number job.stage (rides_to s c jobs) (λ there. some_ride c jobs parts.1 there) parts.0 some
    where
      at : (n : ℕ) (st : Stage State) (rest : List Ride) → (list_any (is_owing s c) jobs ≡ true → length (first_of rest) ≡ 1) → is_riding st ≡ false → (is_owing_at s c n st || list_any (is_owing s c) jobs) ≡ true
          → length (first_of (cons_option (ride_at s c n st) rest)) ≡ 1
      at n (Runs e) rest h r owing =
          by_test (s.owes n e c) (λ t. (t || list_any (is_owing s c) jobs) ≡ true → length (first_of (cons_option (ride_if t (record { job = n; phase = e.at.phase; chunk = c })) rest)) ≡ 1) (λ _ _. refl) (λ _ g. h g) owing
      at n (Waits e) rest h r owing = absurd (true≢false r)
      at n (Works e) rest h r owing = absurd (true≢false r)
      at n (Over o) rest h r owing = h owing

  lose_count : (k : Key) (vs : List Ridden) → length (lose k vs) ≡ length vs
  lose_count k [] = refl
  lose_count k (v ∷ vs) = refl

  fail_count : (cause : LoadCause) (vs : List Ridden) → length (fail cause vs) ≡ length vs
  fail_count cause [] = refl
  fail_count cause (v ∷ vs) = refl

  one_first : (scene : Scene State) (event : Event) → may s scene event ≡ true → length (done s scene event).visits ≡ length scene.visits + length (first_of (rides_by s scene event))
  one_first scene (Submit line) ok = omega arith
  one_first scene (Visit c) ok =
      let parts = and_parts (not (is_open scene)) (list_any (is_owing s c) scene.jobs) ok in
      let one = some_ride c scene.jobs (not-true (is_open scene) parts.0) parts.1 in
      omega (arith, one)
  one_first scene (Loaded k) ok = omega arith
  one_first scene (NoCopy k) ok = let same = lose_count k scene.visits in omega (arith, same)
  one_first scene (LoadFailed c cause) ok = let same = fail_count cause scene.visits in omega (arith, same)
  one_first scene (Given j c) ok = omega arith
  one_first scene (Passed j c) ok = omega arith

  both_lengths : (xs ys : List Ride) → length (xs ++ ys) ≡ length xs + length ys
  both_lengths [] ys = omega arith
  both_lengths (x ∷ xs) ys = let rest = both_lengths xs ys in omega (arith, rest)

  firsts_count : (journal : List Event) (scene : Scene State) → is_legal_from s scene journal ≡ true → length scene.visits + length (first_rides_from s scene journal) ≡ length (scene_from s scene journal).visits
  unfolding is_legal_from scene_from first_rides_from
  firsts_count [] scene ok = omega arith
  firsts_count (event ∷ journal) scene ok =
      let parts = and_parts (may s scene event) (is_legal_from s (done s scene event) journal) ok in
      let rest = firsts_count journal (done s scene event) parts.1 in
      let one = one_first scene event parts.0 in
      let both = both_lengths (first_of (rides_by s scene event)) (first_rides_from s (done s scene event) journal) in
      omega (arith, rest, one, both)

  pub firsts_all : (journal : List Event) → IsLegal s journal → length (first_rides_of s journal) ≡ length (scene_of s journal).visits
  firsts_all journal ok = let all = firsts_count journal beginning ok in omega (arith, all)
