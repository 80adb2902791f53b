-- In the scene of every legal journal each job that runs is Midway, each that ended by itself has its lone outcome, and what is held has riders.
use Rattle.std.proofs.Common.{◌≡◌, ℕ, ◌+◌, ◌<◌, add-one, Bool, true, false, cond, not, eqb, ltb, ◌&&◌, List, [], ◌∷◌, map, length, sym, ap, ◌∙◌, refl, subst, Option, Some, None, arith}
use Rattle.std.specs.Prelude.{slice_get, drop}
use Rattle.std.specs.List.{AllByRecursion, list_any}
use Rattle.std.proofs.lemmas.Bool.{or_parts, and_parts, eqb-true, both_ways, not-true, false_from_ne_true}
use Rattle.gm_base.specs.declared.copies.Key.{Key}
use Rattle.gm_jobs.specs.declared.script.Line.{Line}
use Rattle.gm_jobs.specs.declared.script.Line.TheVariants.{Update, Wait, Job as JobLine}
use Rattle.gm_events.specs.declared.event.LoadCause.{LoadCause}
use Rattle.gm_events.specs.declared.event.LoadCause.TheVariants.{Read, Changed, Memory}
use Rattle.gm_events.specs.declared.event.Event.{Event}
use Rattle.gm_events.specs.declared.event.Event.TheVariants.{Submit, Visit, Loaded, NoCopy, LoadFailed, Given, Passed}
use Rattle.gm_kernel.specs.Standings.{Turning}
use Rattle.gm_kernel.specs.Standings.Turning.{Goes, Ends}
use Rattle.gm_buffer.specs.Keys.{is_same_key}
use Rattle.gm_machine.specs.Setups.{Entry, Setup, jobs_in, IsTurnedWell, EntryLaws}
use Rattle.gm_machine.specs.Machine.{Ending, Own, ReadFailed, ChangedFound, NoMemory, ending_by, Stage, Runs, Waits, Works, Over, Job, Ridden, Held, Scene, beginning, is_empty, is_whole, release, is_working, is_waiting, is_riding, is_owing, is_open, key_in, rides_at, rides_with, has_key, chunk_now, riders_with, lose, fail, at_stage, boarded, given, has_passed, ended_where, stage_after, new_job, jobs_with, may, done, scene_from, is_legal_from, scene_of, IsLegal}
use Rattle.gm_machine.specs.Promises.{AllStages, Apart}
use Rattle.gm_machine.proofs.Lists.{by_test, same_key-true, same_key_refl, stages_after, stages_more, Numbered, numbered_after, numbered_more, only_one, line_at_next, no_line_next, length_map, length_more, IsAmong}
use Rattle.gm_machine.proofs.Held.{held_of, SameRiders, held_of_same, held_of_alike, held_of_none, held_of_loaded, riders_along, riders_push, release_held, NoneWaits}

module _ {State : Type 0} (Midway : ℕ → Entry State → Type 0) (s : Setup State) (laws : EntryLaws s Midway) where
  abbrev pub IsFineEnding : ℕ → Ending → Type 0
  IsFineEnding n (Own o) = o ≡ s.lone n
  IsFineEnding n (ReadFailed c) = Unit {0}
  IsFineEnding n (ChangedFound c) = Unit {0}
  IsFineEnding n NoMemory = Unit {0}

  -- a job that runs is Midway, and one that rides owes the chunk
  abbrev pub IsFine : ℕ → ℕ → Stage State → Type 0
  IsFine c n (Runs e) = Midway n e
  IsFine c n (Waits e) = Midway n e × (s.owes n e c ≡ true)
  IsFine c n (Works e) = Midway n e × (s.owes n e c ≡ true)
  IsFine c n (Over o) = IsFineEnding n o

  pub record Sound (scene : Scene State) : Type 0 where
    pub numbers : Numbered 0 scene.jobs
    pub jobs : AllStages (IsFine (chunk_now scene.visits)) scene.jobs
    pub held : scene.held ≡ held_of s (chunk_now scene.visits) scene.loaded scene.jobs
    pub apart : Apart scene.loaded
    pub count : length scene.jobs + jobs_in (drop scene.entries_in s.script) ≡ jobs_in s.script

  turned_fine : (c n : ℕ) (t : Turning (Entry State)) → IsTurnedWell (Midway n) (s.lone n) t → IsFine c n (stage_after t)
  turned_fine c n (Goes e) h = h
  turned_fine c n (Ends o) h = h

  failed_fine : (cause : LoadCause) (c n : ℕ) → IsFineEnding n (ending_by cause c)
  failed_fine Read c n = tt
  failed_fine Changed c n = tt
  failed_fine Memory c n = tt

  board_fine : (b c : ℕ) (job : Job State) → is_riding job.stage ≡ false → IsFine b job.number job.stage → IsFine c job.number (boarded s c job.number job.stage)
  board_fine b c job none h = at job.number job.stage none h
    where
      at : (n : ℕ) (st : Stage State) → is_riding st ≡ false → IsFine b n st → IsFine c n (boarded s c n st)
      at n (Runs e) none h = by_test (s.owes n e c) (λ t. IsFine c n (cond t (Waits e) (Runs e))) (λ yes. (h, yes)) (λ no. h)
      at n (Waits e) none h = cc
      at n (Works e) none h = cc
      at n (Over o) none h = h

  board_all : (b c : ℕ) (jobs : List (Job State)) → list_any (λ job. is_riding job.stage) jobs ≡ false → AllStages (IsFine b) jobs → AllStages (IsFine c) (map (at_stage (boarded s c)) jobs)
  board_all b c [] none h = tt
  board_all b c (job ∷ jobs) none h =
      let parts = or_parts (is_riding job.stage) (list_any (λ j. is_riding j.stage) jobs) none in
      (board_fine b c job parts.0 h.0, board_all b c jobs parts.1 h.1)

  end_fine : (test : ℕ → Entry State → Bool) (o : Ending) (c : ℕ) → ((n : ℕ) → IsFineEnding n o) → (n : ℕ) (st : Stage State) → IsFine c n st → IsFine c n (ended_where test o n st)
  end_fine test o c well n (Runs e) h = h
  end_fine test o c well n (Waits e) h = by_test (test n e) (λ t. IsFine c n (cond t (Over o) (Waits e))) (λ yes. well n) (λ no. h)
  end_fine test o c well n (Works e) h = by_test (test n e) (λ t. IsFine c n (cond t (Over o) (Works e))) (λ yes. well n) (λ no. h)
  end_fine test o c well n (Over p) h = h

  give_fine : (j c n : ℕ) (st : Stage State) → IsFine c n st → IsFine c n (given j n st)
  give_fine j c n (Runs e) h = h
  give_fine j c n (Waits e) h = by_test (eqb n j) (λ t. IsFine c n (cond t (Works e) (Waits e))) (λ yes. h) (λ no. h)
  give_fine j c n (Works e) h = h
  give_fine j c n (Over o) h = h

  after_pass : (c n : ℕ) (e : Entry State) → Midway n e × (s.owes n e c ≡ true) → IsFine c n (stage_after (s.turn n (s.pass n c e)))
  after_pass c n e h = turned_fine c n (s.turn n (s.pass n c e)) (laws.turns n (s.pass n c e) (laws.passes n c e h.0 h.1))

  pass_fine : (j c n : ℕ) (st : Stage State) → IsFine c n st → IsFine c n (has_passed s j c n st)
  pass_fine j c n (Runs e) h = h
  pass_fine j c n (Waits e) h = h
  pass_fine j c n (Works e) h = by_test (eqb n j) (λ t. IsFine c n (cond t (stage_after (s.turn n (s.pass n c e))) (Works e))) (λ yes. after_pass c n e h) (λ no. h)
  pass_fine j c n (Over o) h = h

  new_fine : (c n : ℕ) → n < jobs_in s.script → IsFine c n (new_job s n).stage
  new_fine c n within = turned_fine c n (s.turn n (s.admitted n)) (laws.turns n (s.admitted n) (laws.begins n within))

  -- a job that goes in is one of the script's
  pub is_among : (now : ℕ) (line : Option Line) (jobs : List (Job State)) → slice_get s.script now ≡ line → length jobs + jobs_in (drop now s.script) ≡ jobs_in s.script → IsAmong s line (length jobs)
  is_among now None jobs at count = tt
  is_among now (Some (Update batch)) jobs at count = tt
  is_among now (Some (Wait k)) jobs at count = tt
  is_among now (Some (JobLine name spec own)) jobs at count =
      let next = ap jobs_in (line_at_next s.script now (JobLine name spec own) at) in
      omega (arith, next, count)

  counted : (now : ℕ) (line : Option Line) (jobs : List (Job State)) → slice_get s.script now ≡ line → length jobs + jobs_in (drop now s.script) ≡ jobs_in s.script
      → length (jobs_with s line jobs) + jobs_in (drop (now + 1) s.script) ≡ jobs_in s.script
  counted now None jobs at count = rw (add-one now) (ap (λ (l : List Line). length jobs + jobs_in l) (no_line_next s.script now at) ∙ count)
  counted now (Some (Update batch)) jobs at count = rw (add-one now) (ap (λ (m : ℕ). length jobs + m) (sym (ap jobs_in (line_at_next s.script now (Update batch) at))) ∙ count)
  counted now (Some (Wait k)) jobs at count = rw (add-one now) (ap (λ (m : ℕ). length jobs + m) (sym (ap jobs_in (line_at_next s.script now (Wait k) at))) ∙ count)
  counted now (Some (JobLine name spec own)) jobs at count =
      let next = ap jobs_in (line_at_next s.script now (JobLine name spec own) at) in
      let more = length_more jobs (new_job s (length jobs)) in
      rw (add-one now) (omega (arith, next, count, more))

  count_map : (f : ℕ → Stage State → Stage State) (jobs : List (Job State)) (m : ℕ) → length jobs + m ≡ jobs_in s.script → length (map (at_stage f) jobs) + m ≡ jobs_in s.script
  count_map f jobs m h = ap (λ (k : ℕ). k + m) (length_map (at_stage f) jobs) ∙ h

  submit_fine : (c : ℕ) (line : Option Line) (jobs : List (Job State)) → IsAmong s line (length jobs) → AllStages (IsFine c) jobs → AllStages (IsFine c) (jobs_with s line jobs)
  submit_fine c None jobs within h = h
  submit_fine c (Some (Update batch)) jobs within h = h
  submit_fine c (Some (Wait k)) jobs within h = h
  submit_fine c (Some (JobLine name spec own)) jobs within h = stages_more (IsFine c) jobs (new_job s (length jobs)) h (new_fine c (length jobs) within)

  pub submit_numbers : (line : Option Line) (jobs : List (Job State)) → Numbered 0 jobs → Numbered 0 (jobs_with s line jobs)
  submit_numbers None jobs h = h
  submit_numbers (Some (Update batch)) jobs h = h
  submit_numbers (Some (Wait k)) jobs h = h
  submit_numbers (Some (JobLine name spec own)) jobs h = numbered_more 0 jobs (new_job s (length jobs)) h (omega arith)

  working_stage : (st : Stage State) → is_working st ≡ true → is_waiting st ≡ false
  working_stage (Runs e) h = refl
  working_stage (Waits e) h = cc
  working_stage (Works e) h = refl
  working_stage (Over o) h = refl

  none_waits : (j : ℕ) (jobs : List (Job State)) → AllStages (λ m st. eqb m j ≡ true → is_working st ≡ true) jobs → AllStages (NoneWaits j) jobs
  none_waits j [] h = tt
  none_waits j (job ∷ jobs) h = (λ e. working_stage job.stage (h.0 e), none_waits j jobs h.1)

  turned_rests : (t : Turning (Entry State)) → is_riding (stage_after t) ≡ false
  turned_rests (Goes e) = refl
  turned_rests (Ends o) = refl

  submit_riders : (c : ℕ) (line : Option Line) (jobs : List (Job State)) (k : Key) → SameRiders s c jobs (jobs_with s line jobs) k
  submit_riders c None jobs k = refl
  submit_riders c (Some (Update batch)) jobs k = refl
  submit_riders c (Some (Wait n)) jobs k = refl
  submit_riders c (Some (JobLine name spec own)) jobs k = sym (riders_push s c k jobs (new_job s (length jobs)) (turned_rests (s.turn (length jobs) (s.admitted (length jobs)))))

  give_rides : (j c : ℕ) (k : Key) (n : ℕ) (st : Stage State) → rides_at s c k n (given j n st) ≡ rides_at s c k n st
  give_rides j c k n (Runs e) = refl
  give_rides j c k n (Waits e) = by_test (eqb n j) (λ t. rides_at s c k n (cond t (Works e) (Waits e)) ≡ is_same_key (key_in s c n e) k) (λ yes. refl) (λ no. refl)
  give_rides j c k n (Works e) = refl
  give_rides j c k n (Over o) = refl

  -- the riders with another key stay
  lose_rides : (l : Key) (o : Ending) (c : ℕ) (k : Key) → is_same_key k l ≡ false → (n : ℕ) (st : Stage State)
      → rides_at s c k n (ended_where (λ m e. is_same_key (key_in s c m e) l) o n st) ≡ rides_at s c k n st
  lose_rides l o c k h n st = at st
    where
      differ : (e : Entry State) → is_same_key (key_in s c n e) l ≡ true → is_same_key (key_in s c n e) k ≡ false
      differ e also = false_from_ne_true (is_same_key (key_in s c n e) k) (λ g.
          let one : key_in s c n e ≡ k = same_key-true (key_in s c n e) k g in
          let two : key_in s c n e ≡ l = same_key-true (key_in s c n e) l also in
          both_ways (is_same_key k l) h (ap (is_same_key k) (sym two ∙ one) ∙ same_key_refl k))

      lose_one : (e : Entry State) (before : Stage State) → rides_at s c k n before ≡ is_same_key (key_in s c n e) k
          → rides_at s c k n (cond (is_same_key (key_in s c n e) l) (Over o) before) ≡ is_same_key (key_in s c n e) k
      lose_one e before same = by_test (is_same_key (key_in s c n e) l) (λ t. rides_at s c k n (cond t (Over o) before) ≡ is_same_key (key_in s c n e) k) (λ also. sym (differ e also)) (λ other. same)

      at : (st : Stage State) → rides_at s c k n (ended_where (λ m e. is_same_key (key_in s c m e) l) o n st) ≡ rides_at s c k n st
      at (Runs e) = refl
      at (Waits e) = lose_one e (Waits e) refl
      at (Works e) = lose_one e (Works e) refl
      at (Over p) = refl

  lose_all : (l : Key) (o : Ending) (c : ℕ) (jobs : List (Job State)) (ks : List Key) → has_key ks l ≡ false
      → AllByRecursion (SameRiders s c jobs (map (at_stage (ended_where (λ m e. is_same_key (key_in s c m e) l) o)) jobs)) ks
  lose_all l o c jobs [] h = tt
  lose_all l o c jobs (k ∷ ks) h =
      let parts = or_parts (is_same_key k l) (has_key ks l) h in
      (sym (riders_along s c k (ended_where (λ m e. is_same_key (key_in s c m e) l) o) (lose_rides l o c k parts.0) jobs), lose_all l o c jobs ks parts.1)

  none_loaded : (c : ℕ) (jobs others : List (Job State)) (ks : List Key) → is_empty ks ≡ true → held_of s c ks jobs ≡ held_of s c ks others
  none_loaded c jobs others [] h = refl
  none_loaded c jobs others (k ∷ ks) h = cc

  chunk_lose : (k : Key) (vs : List Ridden) → chunk_now (lose k vs) ≡ chunk_now vs
  chunk_lose k [] = refl
  chunk_lose k (v ∷ vs) = refl

  chunk_fail : (cause : LoadCause) (vs : List Ridden) → chunk_now (fail cause vs) ≡ chunk_now vs
  chunk_fail cause [] = refl
  chunk_fail cause (v ∷ vs) = refl

  pub begins_sound : Sound beginning
  begins_sound = record { numbers = tt; jobs = tt; held = refl; apart = tt; count = omega arith }

  pub step_sound : (scene : Scene State) (event : Event) → may s scene event ≡ true → Sound scene → Sound (done s scene event)
  step_sound scene (Submit line) ok h =
      let c = chunk_now scene.visits in
      let here : line ≡ scene.entries_in = eqb-true line scene.entries_in (and_parts (eqb line scene.entries_in) (ltb line (length s.script)) ok).0 in
      let Ok : ℕ → Type 0 = λ n. length scene.jobs + jobs_in (drop n s.script) ≡ jobs_in s.script in
      let now : Ok line = subst Ok (sym here) h.count in
      let After : ℕ → Type 0 = λ n. length (jobs_with s (slice_get s.script line) scene.jobs) + jobs_in (drop (n + 1) s.script) ≡ jobs_in s.script in
      record {
        numbers = submit_numbers (slice_get s.script line) scene.jobs h.numbers;
        count = subst After here (counted line (slice_get s.script line) scene.jobs refl now);
        jobs = submit_fine c (slice_get s.script line) scene.jobs (is_among line (slice_get s.script line) scene.jobs refl now) h.jobs;
        held = h.held ∙ held_of_alike s c scene.jobs (jobs_with s (slice_get s.script line) scene.jobs) scene.loaded (submit_riders c (slice_get s.script line) scene.jobs);
        apart = h.apart;
      }
  step_sound scene (Visit c) ok h =
      let closed = not-true (is_open scene) (and_parts (not (is_open scene)) (list_any (is_owing s c) scene.jobs) ok).0 in
      record {
        numbers = numbered_after (boarded s c) 0 scene.jobs h.numbers;
        jobs = board_all (chunk_now scene.visits) c scene.jobs closed h.jobs;
        held = h.held ∙ held_of_none s (chunk_now scene.visits) scene.jobs closed scene.loaded;
        apart = tt;
        count = count_map (boarded s c) scene.jobs (jobs_in (drop scene.entries_in s.script)) h.count;
      }
  step_sound scene (Loaded k) ok h =
      let c = chunk_now scene.visits in
      let parts = and_parts (list_any (rides_with s c k) scene.jobs) (not (has_key scene.loaded k)) ok in
      record {
        numbers = h.numbers;
        jobs = h.jobs;
        held = ap (λ (hs : List Held). record { key = k; riders = riders_with s c k scene.jobs } ∷ hs) h.held ∙ sym (held_of_loaded s c k scene.jobs scene.loaded parts.0);
        apart = (not-true (has_key scene.loaded k) parts.1, h.apart);
        count = h.count;
      }
  step_sound scene (NoCopy k) ok h =
      let c = chunk_now scene.visits in
      let parts = and_parts (list_any (rides_with s c k) scene.jobs) (not (has_key scene.loaded k)) ok in
      let test : ℕ → Entry State → Bool = λ n e. is_same_key (key_in s c n e) k in
      let f = ended_where test NoMemory in
      record {
        numbers = numbered_after f 0 scene.jobs h.numbers;
        jobs = rw (chunk_lose k scene.visits) (stages_after (IsFine c) (IsFine c) f (end_fine test NoMemory c (λ n. tt)) scene.jobs h.jobs);
        held = rw (chunk_lose k scene.visits) (h.held ∙ held_of_same s c scene.jobs (map (at_stage f) scene.jobs) scene.loaded (lose_all k NoMemory c scene.jobs scene.loaded (not-true (has_key scene.loaded k) parts.1)));
        apart = h.apart;
        count = count_map f scene.jobs (jobs_in (drop scene.entries_in s.script)) h.count;
      }
  step_sound scene (LoadFailed d cause) ok h =
      let c = chunk_now scene.visits in
      let parts = and_parts (is_open scene && eqb d c) (is_empty scene.loaded && is_whole scene.visits) ok in
      let empty = (and_parts (is_empty scene.loaded) (is_whole scene.visits) parts.1).0 in
      let f = ended_where (λ n e. true) (ending_by cause d) in
      record {
        numbers = numbered_after f 0 scene.jobs h.numbers;
        jobs = rw (chunk_fail cause scene.visits) (stages_after (IsFine c) (IsFine c) f (end_fine (λ n e. true) (ending_by cause d) c (failed_fine cause d)) scene.jobs h.jobs);
        held = rw (chunk_fail cause scene.visits) (h.held ∙ none_loaded c scene.jobs (map (at_stage f) scene.jobs) scene.loaded empty);
        apart = h.apart;
        count = count_map f scene.jobs (jobs_in (drop scene.entries_in s.script)) h.count;
      }
  step_sound scene (Given j d) ok h =
      let c = chunk_now scene.visits in
      record {
        numbers = numbered_after (given j) 0 scene.jobs h.numbers;
        jobs = stages_after (IsFine c) (IsFine c) (given j) (give_fine j c) scene.jobs h.jobs;
        held = h.held ∙ held_of_alike s c scene.jobs (map (at_stage (given j)) scene.jobs) scene.loaded (λ k. sym (riders_along s c k (given j) (give_rides j c k) scene.jobs));
        apart = h.apart;
        count = count_map (given j) scene.jobs (jobs_in (drop scene.entries_in s.script)) h.count;
      }
  step_sound scene (Passed j d) ok h =
      let c = chunk_now scene.visits in
      let parts = and_parts (eqb d c) (list_any (λ (job : Job State). eqb job.number j && is_working job.stage) scene.jobs) ok in
      let here : d ≡ c = eqb-true d c parts.0 in
      let Goal : ℕ → Type 0 = λ b. Sound (done s scene (Passed j b)) in
      let at : Goal c = record {
        numbers = numbered_after (has_passed s j c) 0 scene.jobs h.numbers;
        jobs = stages_after (IsFine c) (IsFine c) (has_passed s j c) (pass_fine j c) scene.jobs h.jobs;
        held = ap (release j) h.held ∙ release_held s j c scene.jobs scene.loaded (none_waits j scene.jobs (only_one j 0 is_working scene.jobs h.numbers parts.1));
        apart = h.apart;
        count = count_map (has_passed s j c) scene.jobs (jobs_in (drop scene.entries_in s.script)) h.count;
      } in
      subst Goal (sym here) at

  pub sound_from : (journal : List Event) (scene : Scene State) → is_legal_from s scene journal ≡ true → Sound scene → Sound (scene_from s scene journal)
  unfolding is_legal_from scene_from
  sound_from [] scene ok h = h
  sound_from (event ∷ journal) scene ok h =
      let parts = and_parts (may s scene event) (is_legal_from s (done s scene event) journal) ok in
      sound_from journal (done s scene event) parts.1 (step_sound scene event parts.0 h)

  pub sound : (journal : List Event) → IsLegal s journal → Sound (scene_of s journal)
  sound journal ok = sound_from journal beginning ok begins_sound
