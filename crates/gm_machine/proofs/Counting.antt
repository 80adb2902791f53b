-- Each event of a legal journal keeps what is counted.
use Rattle.std.proofs.Common.{◌≡◌, ℕ, suc, ◌+◌, ◌<◌, Bool, true, false, cond, eqb, ◌&&◌, ◌||◌, List, [], ◌∷◌, ◌++◌, map, length, sym, ap, ap₂, ◌∙◌, refl, Option, Some, None, true≢false, arith}
use Rattle.std.specs.List.{AllByRecursion, list_any, list_all, cons_option, sum_by}
use Rattle.std.proofs.lemmas.Bool.{or_parts, and_parts, eqb-true, ne_eqb}
use Rattle.std.proofs.lemmas.List.Sums.{sum_by-cons}
use Rattle.gm_base.specs.declared.copies.Key.{Key}
use Rattle.gm_jobs.specs.declared.script.Line.{Line}
use Rattle.gm_jobs.specs.declared.script.Line.TheVariants.{Update, Wait, Job as JobLine}
use Rattle.gm_events.specs.declared.event.LoadCause.{LoadCause}
use Rattle.gm_kernel.specs.Standings.{Turning}
use Rattle.gm_kernel.specs.Standings.Turning.{Goes, Ends}
use Rattle.gm_buffer.specs.Keys.{is_same_key}
use Rattle.gm_machine.specs.Setups.{Entry, Setup}
use Rattle.gm_machine.specs.Machine.{Ending, NoMemory, ending_by, Stage, Runs, Waits, Works, Over, Job, Rider, Miss, no_miss, Ridden, is_empty, is_riding, is_working, is_settled, is_settled_at, key_in, rides_at, rides_with, has_key, rider, rider_if, rider_at, riders_of, at_stage, boarded, given, has_passed, ended_where, stage_after, new_job, jobs_with}
use Rattle.gm_machine.specs.Plans.{loss_by, loss_of}
use Rattle.gm_machine.specs.Promises.{AllStages, Apart}
use Rattle.gm_machine.specs.Schedules.{distinct, passes_in, copies_in}
use Rattle.gm_machine.proofs.Lists.{by_test, same_key-true, same_key_sym, stages_after, stages_weaker, stages_all, stages_pass, stages_fail, stage_found, Numbered, none_before}
use Rattle.gm_machine.proofs.KeyLists.{apart_few, distinct_has, distinct_apart, all_distinct, keys_weaker}
use Rattle.gm_machine.proofs.Choices.{one_if}
use Rattle.gm_machine.proofs.InVisits.{IsReady, all_of_none, ready_more, ended_ready, given_ready, passed_ready, alive_key, rests}
use Rattle.gm_machine.proofs.Missed.{unlost, HasRider, IsAboard, rider_found}
use Rattle.gm_machine.proofs.Tallies.{riders_keyed, lost_too, carried_less, keys_carried, carried_has, carried_stays, all_carried_failed, all_carried, carried_all, some_keyed, riding, riding_with, none_riding, none_with, riding_push, with_push, riding_along, with_along, InTally, IsTallied, still_none}

module _ {State : Type 0} (s : Setup State) where
  -- ---- a visit is closed

  -- the loaded keys are those of the riders that passed
  closed_copies : (passes copies : ℕ) (v : Ridden) (vs : List Ridden) (loaded : List Key) (jobs : List (Job State)) → list_any (λ job. is_riding job.stage) jobs ≡ false → Apart loaded
      → InTally s passes copies v vs loaded jobs → length loaded ≡ copies_in v
  closed_copies passes copies v vs loaded jobs none apart h =
      let keys = keys_carried v.miss v.chunk v.riders in
      let less = apart_few loaded (distinct keys) apart (keys_weaker (λ k. has_key keys k ≡ true) (λ k. has_key (distinct keys) k ≡ true) (λ k. distinct_has keys k) loaded h.ridden) in
      let all : AllByRecursion (λ k. has_key loaded k ≡ true) keys = carried_all (λ k. has_key loaded k ≡ true) v.miss v.chunk v.riders v.riders each (λ r g. g) in
      let more = apart_few (distinct keys) loaded (distinct_apart keys) (all_distinct (λ k. has_key loaded k ≡ true) keys all) in
      omega (arith, less, more)
    where
      each : (r : Rider) → HasRider r v.riders → loss_of v.miss v.chunk r.key ≡ None → has_key loaded r.key ≡ true
      each r rides kept =
          by_test (has_key loaded r.key) (λ t. has_key loaded r.key ≡ t → has_key loaded r.key ≡ true) (λ _ e. e)
          (λ _ e.
          let count = h.keyed r.key e kept in
          let none_of = none_with s v.chunk r.key jobs none in
          let some = some_keyed r v.riders rides in
          absurd (omega (arith, count, none_of, some))) refl

  abbrev IsClosed : ℕ → ℕ → List Ridden → Type 0
  IsClosed passes copies visits = (passes ≡ sum_by passes_in visits) × (copies ≡ sum_by copies_in visits)

  pub closed_tally : (passes copies : ℕ) (visits : List Ridden) (loaded : List Key) (jobs : List (Job State)) → list_any (λ job. is_riding job.stage) jobs ≡ false → Apart loaded
      → IsTallied s passes copies visits loaded jobs → IsClosed passes copies visits
  closed_tally passes copies [] loaded jobs none apart h = (h.passed, h.copied)
  closed_tally passes copies (v ∷ vs) loaded jobs none apart h =
      let nobody = none_riding s jobs none in
      let passed = h.passed in
      let copied = h.copied in
      let lengths = closed_copies passes copies v vs loaded jobs none apart h in
      let a = sum_by-cons passes_in v vs in
      let b = sum_by-cons copies_in v vs in
      (omega (arith, nobody, passed, a), omega (arith, copied, lengths, b))

  -- ---- a visit is opened

  one_opened : (c n : ℕ) (st : Stage State) (on : ℕ) (riders : List Rider) → on ≡ length riders → is_riding st ≡ false → one_if (is_riding (boarded s c n st)) + on ≡ length (cons_option (rider_at s c n st) riders)
  one_opened c n (Runs e) on riders rest r =
      by_test (s.owes n e c) (λ t. one_if (is_riding (cond t (Waits e) (Runs e))) + on ≡ length (cons_option (rider_if t (rider n (key_in s c n e))) riders)) (λ _. omega (arith, rest)) (λ _. omega (arith, rest))
  one_opened c n (Waits e) on riders rest r = absurd (true≢false r)
  one_opened c n (Works e) on riders rest r = absurd (true≢false r)
  one_opened c n (Over o) on riders rest r = omega (arith, rest)

  opened_riding : (c : ℕ) (jobs : List (Job State)) → list_any (λ job. is_riding job.stage) jobs ≡ false → riding s (map (at_stage (boarded s c)) jobs) ≡ length (riders_of s c jobs)
  opened_riding c [] none = refl
  opened_riding c (job ∷ jobs) none =
      let parts = or_parts (is_riding job.stage) (list_any (λ (j : Job State). is_riding j.stage) jobs) none in
      one_opened c job.number job.stage (riding s (map (at_stage (boarded s c)) jobs)) (riders_of s c jobs) (opened_riding c jobs parts.1) parts.0

  one_with : (c : ℕ) (k : Key) (n : ℕ) (st : Stage State) (on : ℕ) (riders : List Rider) → on ≡ riders_keyed k riders → is_riding st ≡ false
      → one_if (rides_at s c k n (boarded s c n st)) + on ≡ riders_keyed k (cons_option (rider_at s c n st) riders)
  one_with c k n (Runs e) on riders rest r =
      by_test (s.owes n e c) (λ t. one_if (rides_at s c k n (cond t (Waits e) (Runs e))) + on ≡ riders_keyed k (cons_option (rider_if t (rider n (key_in s c n e))) riders)) (λ _. omega (arith, rest)) (λ _. omega (arith, rest))
  one_with c k n (Waits e) on riders rest r = absurd (true≢false r)
  one_with c k n (Works e) on riders rest r = absurd (true≢false r)
  one_with c k n (Over o) on riders rest r = omega (arith, rest)

  opened_with : (c : ℕ) (k : Key) (jobs : List (Job State)) → list_any (λ job. is_riding job.stage) jobs ≡ false → riding_with s c k (map (at_stage (boarded s c)) jobs) ≡ riders_keyed k (riders_of s c jobs)
  opened_with c k [] none = refl
  opened_with c k (job ∷ jobs) none =
      let parts = or_parts (is_riding job.stage) (list_any (λ (j : Job State). is_riding j.stage) jobs) none in
      one_with c k job.number job.stage (riding_with s c k (map (at_stage (boarded s c)) jobs)) (riders_of s c jobs) (opened_with c k jobs parts.1) parts.0

  one_ready : (c n : ℕ) (st : Stage State) → is_riding st ≡ false → IsReady s c [] n (boarded s c n st)
  one_ready c n (Runs e) rest = by_test (s.owes n e c) (λ t. IsReady s c [] n (cond t (Waits e) (Runs e))) (λ _. tt) (λ _. tt)
  one_ready c n (Waits e) rest = absurd (true≢false rest)
  one_ready c n (Works e) rest = absurd (true≢false rest)
  one_ready c n (Over o) rest = tt

  abbrev opened : ℕ → List (Job State) → Ridden
  opened c jobs = record { chunk = c; riders = riders_of s c jobs; miss = no_miss }

  pub visit_tallied : (passes copies : ℕ) (visits : List Ridden) (loaded : List Key) (jobs : List (Job State)) (c : ℕ) → list_any (λ job. is_riding job.stage) jobs ≡ false → Apart loaded
      → IsTallied s passes copies visits loaded jobs → InTally s passes copies (opened c jobs) visits [] (map (at_stage (boarded s c)) jobs)
  visit_tallied passes copies visits loaded jobs c none apart h =
      let closed = closed_tally passes copies visits loaded jobs none apart h in
      let passed = closed.0 in
      let copied = closed.1 in
      let on = opened_riding c jobs none in
      let all = all_carried c (riders_of s c jobs) in
      record {
        passed = omega (arith, passed, on, all);
        copied = omega (arith, copied);
        unpassed = λ _. passed;
        keyed = λ k _ _. opened_with c k jobs none;
        ridden = tt;
        ready = stages_after (λ n st. is_riding st ≡ false) (IsReady s c []) (boarded s c) (one_ready c) jobs
            (stages_fail (λ job. is_riding job.stage) (λ n st. is_riding st ≡ false) (λ job r. r) jobs none);
      }

  -- ---- an entry goes in

  pub submit_tallied : (passes copies : ℕ) (visits : List Ridden) (loaded : List Key) (line : Option Line) (jobs : List (Job State)) → IsTallied s passes copies visits loaded jobs → IsTallied s passes copies visits loaded (jobs_with s line jobs)
  submit_tallied passes copies visits loaded None jobs h = h
  submit_tallied passes copies visits loaded (Some (Update batch)) jobs h = h
  submit_tallied passes copies visits loaded (Some (Wait k)) jobs h = h
  submit_tallied passes copies [] loaded (Some (JobLine name spec own)) jobs h = record { passed = h.passed; copied = h.copied }
  submit_tallied passes copies (v ∷ vs) loaded (Some (JobLine name spec own)) jobs h =
      let job = new_job s (length jobs) in
      let free : is_riding job.stage ≡ false = rests (s.turn (length jobs) (s.admitted (length jobs))) in
      record {
        passed = ap (λ (n : ℕ). passes + n) (riding_push s jobs job free) ∙ h.passed;
        copied = h.copied;
        unpassed = h.unpassed;
        keyed = λ k fresh kept. with_push s v.chunk k jobs job free ∙ h.keyed k fresh kept;
        ridden = h.ridden;
        ready = all_ready (s.turn (length jobs) (s.admitted (length jobs))) h.ready;
      }
    where
      turned_ready : (n : ℕ) (t : Turning (Entry State)) → IsReady s v.chunk loaded n (stage_after t)
      turned_ready n (Goes e) = tt
      turned_ready n (Ends o) = tt

      push : (js : List (Job State)) (n : ℕ) (t : Turning (Entry State)) → AllStages (IsReady s v.chunk loaded) js → AllStages (IsReady s v.chunk loaded) (js ++ record { number = n; stage = stage_after t } ∷ [])
      push [] n t g = (turned_ready n t, tt)
      push (one ∷ js) n t g = (g.0, push js n t g.1)

      all_ready : (t : Turning (Entry State)) → AllStages (IsReady s v.chunk loaded) jobs → AllStages (IsReady s v.chunk loaded) (jobs ++ record { number = length jobs; stage = stage_after t } ∷ [])
      all_ready t g = push jobs (length jobs) t g

  -- ---- copies

  pub loaded_tallied : (passes copies : ℕ) (v : Ridden) (vs : List Ridden) (loaded : List Key) (jobs : List (Job State)) (k : Key) → list_any (rides_with s v.chunk k) jobs ≡ true
      → AllStages (IsAboard s (v ∷ vs)) jobs → InTally s passes copies v vs loaded jobs → InTally s passes (copies + 1) v vs (k ∷ loaded) jobs
  loaded_tallied passes copies v vs loaded jobs k rides aboard h =
      let found = stage_found (IsAboard s (v ∷ vs)) (rides_with s v.chunk k) jobs aboard rides in
      let has = rider_found s v k found.0.number found.0.stage found.1 found.2 in
      let kept = alive_key s v.miss v.chunk k found.0.number found.0.stage found.1 found.2.1 in
      let copied = h.copied in
      record {
        passed = h.passed;
        copied = omega (arith, copied);
        unpassed = λ e. absurd (true≢false (sym e));
        keyed = λ x fresh none. h.keyed x (or_parts (is_same_key k x) (has_key loaded x) fresh).1 none;
        ridden = (carried_has v.miss v.chunk (rider found.0.number k) v.riders kept has, h.ridden);
        ready = stages_weaker (IsReady s v.chunk loaded) (IsReady s v.chunk (k ∷ loaded)) (ready_more s v.chunk loaded k) jobs h.ready;
      }

  abbrev lost_test : ℕ → Key → ℕ → Entry State → Bool
  lost_test c k n e = is_same_key (key_in s c n e) k

  -- those with the key ride no more, the others do
  one_loses : (c : ℕ) (k : Key) (n : ℕ) (st : Stage State) → one_if (is_riding st) ≡ one_if (is_riding (ended_where (lost_test c k) NoMemory n st)) + one_if (rides_at s c k n st)
  one_loses c k n (Runs e) = omega arith
  one_loses c k n (Waits e) = by_test (lost_test c k n e) (λ t. 1 ≡ one_if (is_riding (cond t (Over NoMemory) (Waits e))) + one_if t) (λ _. omega arith) (λ _. omega arith)
  one_loses c k n (Works e) = by_test (lost_test c k n e) (λ t. 1 ≡ one_if (is_riding (cond t (Over NoMemory) (Works e))) + one_if t) (λ _. omega arith) (λ _. omega arith)
  one_loses c k n (Over o) = omega arith

  all_lose : (c : ℕ) (k : Key) (jobs : List (Job State)) → riding s jobs ≡ riding s (map (at_stage (ended_where (lost_test c k) NoMemory)) jobs) + riding_with s c k jobs
  all_lose c k [] = omega arith
  all_lose c k (job ∷ jobs) = let one = one_loses c k job.number job.stage in let rest = all_lose c k jobs in omega (arith, one, rest)

  others_ride : (c : ℕ) (k x : Key) → is_same_key k x ≡ false → (n : ℕ) (st : Stage State) → rides_at s c x n (ended_where (lost_test c k) NoMemory n st) ≡ rides_at s c x n st
  others_ride c k x other n (Runs e) = refl
  others_ride c k x other n (Waits e) =
      by_test (lost_test c k n e) (λ t. lost_test c k n e ≡ t → rides_at s c x n (cond t (Over NoMemory) (Waits e)) ≡ is_same_key (key_in s c n e) x)
      (λ _ same. sym (ap (λ y. is_same_key y x) (same_key-true (key_in s c n e) k same) ∙ other)) (λ _ _. refl) refl
  others_ride c k x other n (Works e) =
      by_test (lost_test c k n e) (λ t. lost_test c k n e ≡ t → rides_at s c x n (cond t (Over NoMemory) (Works e)) ≡ is_same_key (key_in s c n e) x)
      (λ _ same. sym (ap (λ y. is_same_key y x) (same_key-true (key_in s c n e) k same) ∙ other)) (λ _ _. refl) refl
  others_ride c k x other n (Over o) = refl

  still_ridden : (miss : Miss) (c : ℕ) (k : Key) (rs : List Rider) (loaded : List Key) → has_key loaded k ≡ false → AllByRecursion (λ x. has_key (keys_carried miss c rs) x ≡ true) loaded
      → AllByRecursion (λ x. has_key (keys_carried (lost_too k miss) c rs) x ≡ true) loaded
  still_ridden miss c k rs [] fresh h = tt
  still_ridden miss c k rs (x ∷ loaded) fresh h =
      let parts = or_parts (is_same_key x k) (has_key loaded k) fresh in
      (carried_stays miss c k x rs (same_key_sym x k parts.0) h.0, still_ridden miss c k rs loaded parts.1 h.1)

  -- the loss of a key that isn't lost was none before, and it is another key
  loss_before : (failed : Option LoadCause) (lost : List Key) (c : ℕ) (k x : Key) → loss_by failed lost c k ≡ None → loss_by failed (k ∷ lost) c x ≡ None → (is_same_key k x ≡ false) × (loss_by failed lost c x ≡ None)
  loss_before failed lost c k x kept h =
      let other : is_same_key k x ≡ false = (or_parts (is_same_key k x) (has_key lost x) (unlost failed (k ∷ lost) c x h).1).0 in
      (other, sym (still_none failed lost c k x other) ∙ h)

  pub lost_tallied : (passes copies : ℕ) (v : Ridden) (vs : List Ridden) (loaded : List Key) (jobs : List (Job State)) (k : Key) → list_any (rides_with s v.chunk k) jobs ≡ true → has_key loaded k ≡ false
      → AllStages (IsAboard s (v ∷ vs)) jobs → InTally s passes copies v vs loaded jobs
      → InTally s passes copies (record { chunk = v.chunk; riders = v.riders; miss = lost_too k v.miss }) vs loaded (map (at_stage (ended_where (lost_test v.chunk k) NoMemory)) jobs)
  lost_tallied passes copies v vs loaded jobs k rides fresh aboard h =
      let c = v.chunk in
      let found = stage_found (IsAboard s (v ∷ vs)) (rides_with s c k) jobs aboard rides in
      let kept = alive_key s v.miss c k found.0.number found.0.stage found.1 found.2.1 in
      let f = ended_where (lost_test c k) NoMemory in
      let before = h.passed in
      let jobs_less = all_lose c k jobs in
      let riders_less = carried_less v.miss c k v.riders kept in
      let same = h.keyed k fresh kept in
      record {
        passed = omega (arith, before, jobs_less, riders_less, same);
        copied = h.copied;
        unpassed = h.unpassed;
        keyed = λ x free none.
            let was = loss_before v.miss.failed v.miss.lost c k x kept none in
            with_along s c x f jobs (stages_all (λ n st. rides_at s c x n (f n st) ≡ rides_at s c x n st) (others_ride c k x was.0) jobs) ∙ h.keyed x free was.1;
        ridden = still_ridden v.miss c k v.riders loaded fresh h.ridden;
        ready = stages_after (IsReady s c loaded) (IsReady s c loaded) f (ended_ready s c loaded (lost_test c k) NoMemory) jobs h.ready;
      }

  -- ---- a load that failed

  none_ride : (o : Ending) (jobs : List (Job State)) → riding s (map (at_stage (ended_where (λ m e. true) o)) jobs) ≡ 0
  none_ride o [] = refl
  none_ride o (job ∷ jobs) = at job.stage (none_ride o jobs)
    where
      at : (st : Stage State) → riding s (map (at_stage (ended_where (λ m e. true) o)) jobs) ≡ 0 → one_if (is_riding (ended_where (λ m e. true) o job.number st)) + riding s (map (at_stage (ended_where (λ m e. true) o)) jobs) ≡ 0
      at (Runs e) rest = omega (arith, rest)
      at (Waits e) rest = omega (arith, rest)
      at (Works e) rest = omega (arith, rest)
      at (Over p) rest = omega (arith, rest)

  pub failed_tallied : (passes copies : ℕ) (v : Ridden) (vs : List Ridden) (loaded : List Key) (jobs : List (Job State)) (cause : LoadCause) → is_empty loaded ≡ true → InTally s passes copies v vs loaded jobs
      → InTally s passes copies (record { chunk = v.chunk; riders = v.riders; miss = record { lost = v.miss.lost; failed = Some cause } }) vs loaded (map (at_stage (ended_where (λ m e. true) (ending_by cause v.chunk))) jobs)
  failed_tallied passes copies v vs loaded jobs cause empty h =
      let o = ending_by cause v.chunk in
      let f = ended_where (λ m e. true) o in
      let before = h.unpassed empty in
      let nobody = none_ride o jobs in
      let none = all_carried_failed cause v.miss.lost v.chunk v.riders in
      record {
        passed = omega (arith, before, nobody, none);
        copied = h.copied;
        unpassed = h.unpassed;
        keyed = λ k fresh kept. cc;
        ridden = all_of_none (λ k. has_key (keys_carried (record { lost = v.miss.lost; failed = Some cause }) v.chunk v.riders) k ≡ true) loaded empty;
        ready = stages_after (IsReady s v.chunk loaded) (IsReady s v.chunk loaded) f (ended_ready s v.chunk loaded (λ m e. true) o) jobs h.ready;
      }

  -- ---- passes

  given_riding : (j n : ℕ) (st : Stage State) → is_riding (given j n st) ≡ is_riding st
  given_riding j n (Runs e) = refl
  given_riding j n (Waits e) = by_test (eqb n j) (λ t. is_riding (cond t (Works e) (Waits e)) ≡ true) (λ _. refl) (λ _. refl)
  given_riding j n (Works e) = refl
  given_riding j n (Over o) = refl

  given_with : (j c : ℕ) (k : Key) (n : ℕ) (st : Stage State) → rides_at s c k n (given j n st) ≡ rides_at s c k n st
  given_with j c k n (Runs e) = refl
  given_with j c k n (Waits e) = by_test (eqb n j) (λ t. rides_at s c k n (cond t (Works e) (Waits e)) ≡ is_same_key (key_in s c n e) k) (λ _. refl) (λ _. refl)
  given_with j c k n (Works e) = refl
  given_with j c k n (Over o) = refl

  pub given_tallied : (passes copies : ℕ) (v : Ridden) (vs : List Ridden) (loaded : List Key) (jobs : List (Job State)) (j : ℕ) → list_all (is_settled s v.chunk loaded) jobs ≡ true → InTally s passes copies v vs loaded jobs
      → InTally s passes copies v vs loaded (map (at_stage (given j)) jobs)
  given_tallied passes copies v vs loaded jobs j settled h =
      let c = v.chunk in
      record {
        passed = ap (λ (n : ℕ). passes + n) (riding_along s (given j) jobs (stages_all (λ n st. is_riding (given j n st) ≡ is_riding st) (given_riding j) jobs)) ∙ h.passed;
        copied = h.copied;
        unpassed = h.unpassed;
        keyed = λ k fresh kept. with_along s c k (given j) jobs (stages_all (λ n st. rides_at s c k n (given j n st) ≡ rides_at s c k n st) (given_with j c k) jobs) ∙ h.keyed k fresh kept;
        ridden = h.ridden;
        ready = stages_after (λ n st. is_settled_at s c loaded n st ≡ true) (IsReady s c loaded) (given j) (given_ready s c loaded j) jobs
            (stages_pass (is_settled s c loaded) (λ n st. is_settled_at s c loaded n st ≡ true) (λ job t. t) jobs settled);
      }

  ended_with : (c : ℕ) (k : Key) (n : ℕ) (t : Turning (Entry State)) → rides_at s c k n (stage_after t) ≡ false
  ended_with c k n (Goes e) = refl
  ended_with c k n (Ends o) = refl

  -- a job that works has a loaded key, so none rides less with another one
  passed_with : (j c : ℕ) (k : Key) (loaded : List Key) → has_key loaded k ≡ false → (n : ℕ) (st : Stage State) → IsReady s c loaded n st → rides_at s c k n (has_passed s j c n st) ≡ rides_at s c k n st
  passed_with j c k loaded fresh n (Runs e) h = refl
  passed_with j c k loaded fresh n (Waits e) h = refl
  passed_with j c k loaded fresh n (Works e) h =
      let other : is_same_key (key_in s c n e) k ≡ false =
      by_test (is_same_key (key_in s c n e) k) (λ t. is_same_key (key_in s c n e) k ≡ t → is_same_key (key_in s c n e) k ≡ false)
      (λ _ same. absurd (true≢false (sym h ∙ ap (has_key loaded) (same_key-true (key_in s c n e) k same) ∙ fresh))) (λ _ differs. differs) refl in
      by_test (eqb n j) (λ t. rides_at s c k n (cond t (stage_after (s.turn n (s.pass n c e))) (Works e)) ≡ is_same_key (key_in s c n e) k)
      (λ _. ended_with c k n (s.turn n (s.pass n c e)) ∙ sym other) (λ _. refl)
  passed_with j c k loaded fresh n (Over o) h = refl

  others_stay : (j c n : ℕ) (st : Stage State) → eqb n j ≡ false → is_riding (has_passed s j c n st) ≡ is_riding st
  others_stay j c n (Runs e) h = refl
  others_stay j c n (Waits e) h = refl
  others_stay j c n (Works e) h = rw h refl
  others_stay j c n (Over o) h = refl

  later_stay : (j c m : ℕ) (jobs : List (Job State)) → j < m → Numbered m jobs → riding s (map (at_stage (has_passed s j c)) jobs) ≡ riding s jobs
  later_stay j c m [] low numbers = refl
  later_stay j c m (job ∷ jobs) low numbers =
      let first = numbers.0 in
      let other : eqb job.number j ≡ false = ne_eqb job.number j (λ e. omega (arith, first, e)) in
      ap₂ (λ (b : Bool) (n : ℕ). one_if b + n) (others_stay j c job.number job.stage other) (later_stay j c (suc m) jobs (omega arith) numbers.1)

  worker_leaves : (j c n : ℕ) (st : Stage State) → eqb n j ≡ true → is_working st ≡ true → one_if (is_riding (has_passed s j c n st)) + 1 ≡ one_if (is_riding st)
  worker_leaves j c n (Runs e) same works = absurd (true≢false (sym works))
  worker_leaves j c n (Waits e) same works = absurd (true≢false (sym works))
  worker_leaves j c n (Works e) same works = rw same (ap (λ (b : Bool). one_if b + 1) (rests (s.turn n (s.pass n c e))))
  worker_leaves j c n (Over o) same works = absurd (true≢false (sym works))

  one_leaves : (j c m : ℕ) (jobs : List (Job State)) → Numbered m jobs → list_any (λ job. eqb job.number j && is_working job.stage) jobs ≡ true → riding s (map (at_stage (has_passed s j c)) jobs) + 1 ≡ riding s jobs
  one_leaves j c m [] numbers found = absurd (true≢false (sym found))
  one_leaves j c m (job ∷ jobs) numbers found =
      by_test (eqb job.number j)
      (λ t. eqb job.number j ≡ t → ((t && is_working job.stage) || list_any (λ (o : Job State). eqb o.number j && is_working o.stage) jobs) ≡ true → riding s (map (at_stage (has_passed s j c)) (job ∷ jobs)) + 1 ≡ riding s (job ∷ jobs))
      (λ _ same g.
      let first = numbers.0 in
      let here = eqb-true job.number j same in
      let none = none_before j (suc m) (λ o. is_working o.stage) jobs (omega (arith, first, here)) numbers.1 in
      let one = worker_leaves j c job.number job.stage same (not_rest (is_working job.stage) (list_any (λ (o : Job State). eqb o.number j && is_working o.stage) jobs) none g) in
      let rest = later_stay j c (suc m) jobs (omega (arith, first, here)) numbers.1 in
      omega (arith, one, rest))
      (λ _ other g.
      let one : one_if (is_riding (has_passed s j c job.number job.stage)) ≡ one_if (is_riding job.stage) = ap one_if (others_stay j c job.number job.stage other) in
      let rest = one_leaves j c (suc m) jobs numbers.1 g in
      omega (arith, one, rest))
      refl found
    where
      not_rest : (x y : Bool) → y ≡ false → (x || y) ≡ true → x ≡ true
      not_rest true y h g = refl
      not_rest false y h g = cc

  worker_ready : (c : ℕ) (loaded : List Key) (n : ℕ) (st : Stage State) → is_working st ≡ true → IsReady s c loaded n st → is_empty loaded ≡ true → ⊥
  worker_ready c loaded n (Runs e) works h empty = true≢false (sym works)
  worker_ready c loaded n (Waits e) works h empty = true≢false (sym works)
  worker_ready c loaded n (Works e) works h empty = no_key loaded empty h
    where
      no_key : (ks : List Key) → is_empty ks ≡ true → has_key ks (key_in s c n e) ≡ true → ⊥
      no_key [] g r = true≢false (sym r)
      no_key (k ∷ ks) g r = true≢false (sym g)
  worker_ready c loaded n (Over o) works h empty = true≢false (sym works)

  pub passed_tallied : (passes copies : ℕ) (v : Ridden) (vs : List Ridden) (loaded : List Key) (jobs : List (Job State)) (j : ℕ) → Numbered 0 jobs → list_any (λ job. eqb job.number j && is_working job.stage) jobs ≡ true
      → InTally s passes copies v vs loaded jobs → InTally s (passes + 1) copies v vs loaded (map (at_stage (has_passed s j v.chunk)) jobs)
  passed_tallied passes copies v vs loaded jobs j numbers found h =
      let c = v.chunk in
      let before = h.passed in
      let less = one_leaves j c 0 jobs numbers found in
      let works = stage_found (IsReady s c loaded) (λ job. eqb job.number j && is_working job.stage) jobs h.ready found in
      record {
        passed = omega (arith, before, less);
        copied = h.copied;
        unpassed = λ empty. absurd (worker_ready c loaded works.0.number works.0.stage (and_parts (eqb works.0.number j) (is_working works.0.stage) works.1).1 works.2 empty);
        keyed = λ k fresh kept.
            with_along s c k (has_passed s j c) jobs
            (stages_weaker (IsReady s c loaded) (λ n st. rides_at s c k n (has_passed s j c n st) ≡ rides_at s c k n st) (passed_with j c k loaded fresh) jobs h.ready) ∙ h.keyed k fresh kept;
        ridden = h.ridden;
        ready = stages_after (IsReady s c loaded) (IsReady s c loaded) (has_passed s j c) (passed_ready s loaded j c) jobs h.ready;
      }
