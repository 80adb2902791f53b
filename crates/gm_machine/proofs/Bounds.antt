-- No legal journal has more visits than its jobs have chunks in all of their phases.
use Rattle.std.proofs.Common.{◌≡◌, ℕ, ◌+◌, ◌-◌, ◌<◌, ◌≤◌, Bool, true, false, cond, not, eqb, ltb, ◌&&◌, List, [], ◌∷◌, ◌++◌, map, length, sym, ap, refl, subst, Option, Some, None, ⊎_elim, true≢false, arith}
use Rattle.std.specs.Prelude.{slice_get, drop}
use Rattle.std.specs.List.{list_any}
use Rattle.std.proofs.lemmas.Bool.{or_parts, or_cases, and_parts, eqb-true, not-true}
use Rattle.gm_base.specs.declared.copies.Key.{Key}
use Rattle.gm_jobs.specs.declared.script.Line.{Line}
use Rattle.gm_jobs.specs.declared.script.Line.TheVariants.{Update, Wait, Job as JobLine}
use Rattle.gm_events.specs.declared.event.Event.{Event}
use Rattle.gm_events.specs.declared.event.Event.TheVariants.{Submit, Visit, Loaded, NoCopy, LoadFailed, Given, Passed}
use Rattle.gm_kernel.specs.Standings.{Turning}
use Rattle.gm_kernel.specs.Standings.Turning.{Goes, Ends}
use Rattle.gm_buffer.specs.Keys.{is_same_key}
use Rattle.gm_machine.specs.Setups.{Entry, Setup, EntryLaws, jobs_in}
use Rattle.gm_machine.specs.Machine.{Ending, NoMemory, ending_by, Stage, Runs, Waits, Works, Over, Job, Ridden, Scene, beginning, is_riding, is_working, is_owing, is_open, key_in, chunk_now, at_stage, boarded, given, has_passed, ended_where, stage_after, new_job, jobs_with, may, done, scene_from, is_legal_from, scene_of, IsLegal, lose, fail}
use Rattle.gm_machine.specs.Promises.{AllStages}
use Rattle.gm_machine.proofs.Lists.{by_test, IsAmong}
use Rattle.gm_machine.proofs.Soundness.{IsFine, Sound, begins_sound, step_sound, is_among}

module _ {State : Type 0} where
  -- a count of the chunks that a job may still pass
  pub record Measured (s : Setup State) (Midway : ℕ → Entry State → Type 0) (left : ℕ → Entry State → ℕ) (total : ℕ → ℕ) : Type 0 where
    pub begins : (n : ℕ) → n < jobs_in s.script → left n (s.admitted n) ≤ total n
    pub passes : (n c : ℕ) (e : Entry State) → Midway n e → s.owes n e c ≡ true → left n (s.pass n c e) < left n e
    pub turns : (n : ℕ) (e on : Entry State) → Midway n e → s.turn n e ≡ Goes on → left n on ≤ left n e

  abbrev pub total_of : (ℕ → ℕ) → List (Job State) → ℕ
  total_of total [] = 0
  total_of total (job ∷ jobs) = total job.number + total_of total jobs

module _ {State : Type 0} (Midway : ℕ → Entry State → Type 0) (s : Setup State) (laws : EntryLaws s Midway) (left : ℕ → Entry State → ℕ) (total : ℕ → ℕ) (measured : Measured s Midway left total) where
  -- a rider's pass of the open visit is counted already
  abbrev pub left_at : ℕ → Stage State → ℕ
  left_at n (Runs e) = left n e
  left_at n (Waits e) = left n e - 1
  left_at n (Works e) = left n e - 1
  left_at n (Over o) = 0

  abbrev pub left_of : List (Job State) → ℕ
  left_of [] = 0
  left_of (job ∷ jobs) = left_at job.number job.stage + left_of jobs

  abbrev Good : ℕ → ℕ → Stage State → Type 0
  Good c n st = IsFine Midway s laws c n st

  pub totals_after : (f : ℕ → Stage State → Stage State) (jobs : List (Job State)) → total_of total (map (at_stage f) jobs) ≡ total_of total jobs
  totals_after f [] = refl
  totals_after f (job ∷ jobs) = ap (λ t. total job.number + t) (totals_after f jobs)

  left_after : (c : ℕ) (f : ℕ → Stage State → Stage State) → ((n : ℕ) (st : Stage State) → Good c n st → left_at n (f n st) ≤ left_at n st) → (jobs : List (Job State)) → AllStages (Good c) jobs
      → left_of (map (at_stage f) jobs) ≤ left_of jobs
  left_after c f each [] h = omega arith
  left_after c f each (job ∷ jobs) h =
      let one = each job.number job.stage h.0 in
      let rest = left_after c f each jobs h.1 in
      omega arith

  pub turned_left : (n : ℕ) (e : Entry State) (t : Turning (Entry State)) → Midway n e → s.turn n e ≡ t → left_at n (stage_after t) ≤ left n e
  turned_left n e (Goes on) h is = measured.turns n e on h is
  turned_left n e (Ends o) h is = omega arith

  board_left : (c n : ℕ) (st : Stage State) → left_at n (boarded s c n st) ≤ left_at n st
  board_left c n (Runs e) = by_test (s.owes n e c) (λ t. left_at n (cond t (Waits e) (Runs e)) ≤ left n e) (λ yes. omega arith) (λ no. omega arith)
  board_left c n (Waits e) = omega arith
  board_left c n (Works e) = omega arith
  board_left c n (Over o) = omega arith

  -- a job that boards is one less
  board_less : (b c n : ℕ) (st : Stage State) → Good b n st → is_riding st ≡ false → is_owing s c (record { number = n; stage = st }) ≡ true → left_at n (boarded s c n st) < left_at n st
  board_less b c n (Runs e) h rests owes =
      let less = measured.passes n c e h owes in
      by_test (s.owes n e c) (λ t. t ≡ true → left_at n (cond t (Waits e) (Runs e)) < left n e) (λ is _. omega arith) (λ is other. absurd (true≢false (sym other))) owes
  board_less b c n (Waits e) h rests owes = absurd (true≢false rests)
  board_less b c n (Works e) h rests owes = absurd (true≢false rests)
  board_less b c n (Over o) h rests owes = absurd (true≢false (sym owes))

  board_all_left : (c : ℕ) (jobs : List (Job State)) → left_of (map (at_stage (boarded s c)) jobs) ≤ left_of jobs
  board_all_left c [] = omega arith
  board_all_left c (job ∷ jobs) = let one = board_left c job.number job.stage in let rest = board_all_left c jobs in omega arith

  board_some : (b c : ℕ) (jobs : List (Job State)) → AllStages (Good b) jobs → list_any (λ job. is_riding job.stage) jobs ≡ false → list_any (is_owing s c) jobs ≡ true
      → left_of (map (at_stage (boarded s c)) jobs) < left_of jobs
  board_some b c [] h none some = absurd (true≢false (sym some))
  board_some b c (job ∷ jobs) h none some =
      let parts = or_parts (is_riding job.stage) (list_any (λ (j : Job State). is_riding j.stage) jobs) none in
      ⊎_elim
      (λ here. let one = board_less b c job.number job.stage h.0 parts.0 here in let rest = board_all_left c jobs in omega arith)
      (λ there. let one = board_left c job.number job.stage in let rest = board_some b c jobs h.1 parts.1 there in omega arith)
      (or_cases (is_owing s c job) (list_any (is_owing s c) jobs) some)

  end_left : (test : ℕ → Entry State → Bool) (o : Ending) (n : ℕ) (st : Stage State) → left_at n (ended_where test o n st) ≤ left_at n st
  end_left test o n (Runs e) = omega arith
  end_left test o n (Waits e) = by_test (test n e) (λ t. left_at n (cond t (Over o) (Waits e)) ≤ left n e - 1) (λ yes. omega arith) (λ no. omega arith)
  end_left test o n (Works e) = by_test (test n e) (λ t. left_at n (cond t (Over o) (Works e)) ≤ left n e - 1) (λ yes. omega arith) (λ no. omega arith)
  end_left test o n (Over p) = omega arith

  give_left : (j n : ℕ) (st : Stage State) → left_at n (given j n st) ≤ left_at n st
  give_left j n (Runs e) = omega arith
  give_left j n (Waits e) = by_test (eqb n j) (λ t. left_at n (cond t (Works e) (Waits e)) ≤ left n e - 1) (λ yes. omega arith) (λ no. omega arith)
  give_left j n (Works e) = omega arith
  give_left j n (Over o) = omega arith

  pass_left : (j c n : ℕ) (st : Stage State) → Good c n st → left_at n (has_passed s j c n st) ≤ left_at n st
  pass_left j c n (Runs e) h = omega arith
  pass_left j c n (Waits e) h = omega arith
  pass_left j c n (Works e) h =
      let less = measured.passes n c e h.0 h.1 in
      let after = turned_left n (s.pass n c e) (s.turn n (s.pass n c e)) (laws.passes n c e h.0 h.1) refl in
      by_test (eqb n j) (λ t. left_at n (cond t (stage_after (s.turn n (s.pass n c e))) (Works e)) ≤ left n e - 1) (λ yes. omega arith) (λ no. omega arith)
  pass_left j c n (Over o) h = omega arith

  left_push : (jobs : List (Job State)) (job : Job State) → left_of (jobs ++ job ∷ []) ≡ left_of jobs + left_at job.number job.stage
  left_push [] job = omega arith
  left_push (one ∷ jobs) job = let rest = left_push jobs job in omega arith

  total_push : (jobs : List (Job State)) (job : Job State) → total_of total (jobs ++ job ∷ []) ≡ total_of total jobs + total job.number
  total_push [] job = omega arith
  total_push (one ∷ jobs) job = let rest = total_push jobs job in omega arith

  pub submit_left : (v : ℕ) (line : Option Line) (jobs : List (Job State)) → IsAmong s line (length jobs) → v + left_of jobs ≤ total_of total jobs → v + left_of (jobs_with s line jobs) ≤ total_of total (jobs_with s line jobs)
  submit_left v None jobs within h = h
  submit_left v (Some (Update batch)) jobs within h = h
  submit_left v (Some (Wait k)) jobs within h = h
  submit_left v (Some (JobLine name spec own)) jobs within h =
      let n = length jobs in
      let job = new_job s n in
      let fresh = turned_left n (s.admitted n) (s.turn n (s.admitted n)) (laws.begins n within) refl in
      let most = measured.begins n within in
      let a = left_push jobs job in
      let b = total_push jobs job in
      omega arith

  abbrev pub IsBounded : Scene State → Type 0
  IsBounded scene = length scene.visits + left_of scene.jobs ≤ total_of total scene.jobs

  lose_length : (k : Key) (vs : List Ridden) → length (lose k vs) ≡ length vs
  lose_length k [] = refl
  lose_length k (v ∷ vs) = refl

  step_bounded : (scene : Scene State) (event : Event) → may s scene event ≡ true → Sound Midway s laws scene → IsBounded scene → IsBounded (done s scene event)
  step_bounded scene (Submit line) ok sound h =
      let here : line ≡ scene.entries_in = eqb-true line scene.entries_in (and_parts (eqb line scene.entries_in) (ltb line (length s.script)) ok).0 in
      let Ok : ℕ → Type 0 = λ n. length scene.jobs + jobs_in (drop n s.script) ≡ jobs_in s.script in
      let now : Ok line = subst Ok (sym here) sound.count in
      submit_left (length scene.visits) (slice_get s.script line) scene.jobs (is_among Midway s laws line (slice_get s.script line) scene.jobs refl now) h
  step_bounded scene (Visit c) ok sound h =
      let parts = and_parts (not (is_open scene)) (list_any (is_owing s c) scene.jobs) ok in
      let closed = not-true (is_open scene) parts.0 in
      let less = board_some (chunk_now scene.visits) c scene.jobs sound.jobs closed parts.1 in
      let same = totals_after (boarded s c) scene.jobs in
      omega arith
  step_bounded scene (Loaded k) ok sound h = h
  step_bounded scene (NoCopy k) ok sound h =
      let c = chunk_now scene.visits in
      let test : ℕ → Entry State → Bool = λ n e. is_same_key (key_in s c n e) k in
      let f = ended_where test NoMemory in
      let less = left_after c f (λ n st g. end_left test NoMemory n st) scene.jobs sound.jobs in
      let same = totals_after f scene.jobs in
      let visits = lose_length k scene.visits in
      omega arith
  step_bounded scene (LoadFailed d cause) ok sound h = at scene.visits h
    where
      f : ℕ → Stage State → Stage State
      f = ended_where (λ n e. true) (ending_by cause d)

      at : (vs : List Ridden) → length vs + left_of scene.jobs ≤ total_of total scene.jobs → length (fail cause vs) + left_of (map (at_stage f) scene.jobs) ≤ total_of total (map (at_stage f) scene.jobs)
      at [] g = let less = left_after (chunk_now scene.visits) f (λ n st _. end_left (λ m e. true) (ending_by cause d) n st) scene.jobs sound.jobs in let same = totals_after f scene.jobs in omega arith
      at (v ∷ vs) g = let less = left_after (chunk_now scene.visits) f (λ n st _. end_left (λ m e. true) (ending_by cause d) n st) scene.jobs sound.jobs in let same = totals_after f scene.jobs in omega arith
  step_bounded scene (Given j d) ok sound h =
      let less = left_after (chunk_now scene.visits) (given j) (λ n st g. give_left j n st) scene.jobs sound.jobs in
      let same = totals_after (given j) scene.jobs in
      omega arith
  step_bounded scene (Passed j d) ok sound h =
      let c = chunk_now scene.visits in
      let parts = and_parts (eqb d c) (list_any (λ (job : Job State). eqb job.number j && is_working job.stage) scene.jobs) ok in
      let here : d ≡ c = eqb-true d c parts.0 in
      let Goal : ℕ → Type 0 = λ b. IsBounded (done s scene (Passed j b)) in
      let less = left_after c (has_passed s j c) (pass_left j c) scene.jobs sound.jobs in
      let same = totals_after (has_passed s j c) scene.jobs in
      let at : Goal c = omega arith in
      subst Goal (sym here) at

  bounded_from : (journal : List Event) (scene : Scene State) → is_legal_from s scene journal ≡ true → Sound Midway s laws scene → IsBounded scene → IsBounded (scene_from s scene journal)
  unfolding is_legal_from scene_from
  bounded_from [] scene ok sound h = h
  bounded_from (event ∷ journal) scene ok sound h =
      let parts = and_parts (may s scene event) (is_legal_from s (done s scene event) journal) ok in
      bounded_from journal (done s scene event) parts.1 (step_sound Midway s laws scene event parts.0 sound) (step_bounded scene event parts.0 sound h)

  pub visits_bounded : (journal : List Event) → IsLegal s journal → length (scene_of s journal).visits ≤ total_of total (scene_of s journal).jobs
  visits_bounded journal ok =
      let start : IsBounded beginning = omega arith in
      let h = bounded_from journal beginning ok (begins_sound Midway s laws) start in
      omega arith
