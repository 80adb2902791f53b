-- A planned journal follows the plan: inside a visit each job is, or will be, where the plan puts it, whatever the order of the passes.
use Rattle.std.proofs.Common.{◌≡◌, ℕ, zero, suc, ◌+◌, ◌<◌, Bool, true, false, cond, not, eqb, ltb, ◌&&◌, ◌||◌, List, [], ◌∷◌, ◌++◌, map, length, drop, sym, ap, ap₂, ◌∙◌, refl, subst, Option, Some, None, ⊎_elim, true≢false, add-one}
use Rattle.std.specs.Prelude.{slice_get}
use Rattle.std.specs.List.{AllByRecursion, list_any, list_all, cons_option}
use Rattle.std.proofs.lemmas.Bool.{or_parts, or_cases, and_parts, eqb-true, not-true}
use Rattle.std.proofs.lemmas.List.Elements.{filter_agree}
use Rattle.gm_base.specs.declared.copies.Key.{Key}
use Rattle.gm_jobs.specs.declared.script.Line.{Line}
use Rattle.gm_jobs.specs.declared.script.Line.TheVariants.{Update, Wait, Job as JobLine}
use Rattle.gm_events.specs.declared.event.LoadCause.{LoadCause}
use Rattle.gm_events.specs.declared.event.Event.{Event}
use Rattle.gm_events.specs.declared.event.Event.TheVariants.{Submit, Visit, Loaded, NoCopy, LoadFailed, Given, Passed}
use Rattle.gm_buffer.specs.Keys.{is_same_key}
use Rattle.gm_machine.specs.Setups.{Entry, standing, past, map_turned, Setup, EntryLaws, jobs_in}
use Rattle.gm_machine.specs.Machine.{Ending, NoMemory, ending_by, Stage, Runs, Waits, Works, Over, Job, Rider, Miss, no_miss, Ridden, Scene, beginning, is_empty, is_whole, is_running, is_working, is_waiting, is_riding, is_owing, is_owing_at, is_open, is_settled, key_in, rides_at, rides_with, has_key, chunk_now, rider, rider_if, rider_at, riders_of, lose, fail, at_stage, boarded, given, has_passed, ended_where, stage_after, new_job, jobs_with, may, done, scene_from, scene_of}
use Rattle.gm_machine.specs.Plans.{choice, cursor_of, numbers_to, owed_list, allows, allows_next, none_runs, goes_in, is_some_of, fits_plan, is_planned_from, IsPlanned, Stands, Planned, Plan, place_after, is_owing_place, is_planned_owing, is_there, planned_job, planned_with, none_there, entered, all_in_of, all_in, planned_owed_list, planned_rider_at, planned_riders, loss_by, loss_of, place_by, ridden_place, ridden, visited, visited_at, next_plan, plan_after, misses_by_visit}
use Rattle.gm_machine.specs.Promises.{AllStages, place_of, seen, seen_plan}
use Rattle.gm_machine.proofs.Lists.{by_test, stages_after, stages_weaker, stages_both, stages_fail, IsAmong}
use Rattle.gm_machine.proofs.Soundness.{IsFine, Sound, begins_sound, step_sound, is_among}
use Rattle.gm_machine.proofs.InVisits.{final_place, final, Agrees, AgreesBy, IsAlive, IsReady, InVisit, SameFinal, finals_same, or_more, kept_at, in_loaded, lost_at, in_lost, failed_at, in_failed, in_given, ended_place, rests, final_at_rest, passed_alive, passed_ready}

module _ {State : Type 0} (Midway : ℕ → Entry State → Type 0) (s : Setup State) (laws : EntryLaws s Midway) where
  abbrev Fine : ℕ → ℕ → Stage State → Type 0
  Fine c n st = IsFine Midway s laws c n st

  -- the pass makes of the entry what the plan makes of where it stands
  after_pass : (loss : Key → Option Ending) (c n : ℕ) (e : Entry State) → Midway n e × (s.owes n e c ≡ true) → loss (key_in s c n e) ≡ None
      → final_place s loss c n (stage_after (s.turn n (s.pass n c e))) ≡ place_by s (loss (key_in s c n e)) c n (standing e)
  after_pass loss c n e fine none =
      let turned = s.turn n (s.pass n c e) in
      let at : map_turned standing turned ≡ s.turn_at n (past c (standing e)) = laws.turns_at n (s.pass n c e) (laws.passes n c e fine.0 fine.1) ∙ ap (s.turn_at n) (laws.passes_at n c e) in
      final_at_rest s loss c n turned ∙ ap place_after at ∙ ap (λ (o : Option Ending). place_by s o c n (standing e)) (sym none)

  passed_final : (loss : Key → Option Ending) (loaded : List Key) (j c : ℕ) → AllByRecursion (λ k. loss k ≡ None) loaded
      → (n : ℕ) (st : Stage State) → Fine c n st × IsReady s c loaded n st → SameFinal s loss c (has_passed s j c) n st
  passed_final loss loaded j c kept n (Runs e) h = refl
  passed_final loss loaded j c kept n (Waits e) h = refl
  passed_final loss loaded j c kept n (Works e) h =
      by_test (eqb n j) (λ t. final_place s loss c n (cond t (stage_after (s.turn n (s.pass n c e))) (Works e)) ≡ place_by s (loss (key_in s c n e)) c n (standing e))
      (λ _. after_pass loss c n e h.0 (kept_at loss loaded (key_in s c n e) kept h.1))
      (λ _. refl)
  passed_final loss loaded j c kept n (Over o) h = refl

  in_passed : (b : Plan) (now : ℕ) (v : Ridden) (vs : List Ridden) (loaded : List Key) (jobs : List (Job State)) (j : ℕ)
      → AllStages (Fine v.chunk) jobs → InVisit s b now v vs loaded jobs → InVisit s b now v vs loaded (map (at_stage (has_passed s j v.chunk)) jobs)
  in_passed b now v vs loaded jobs j fine h =
      let c = v.chunk in
      let f = has_passed s j c in
      let both = stages_both (Fine c) (IsReady s c loaded) jobs fine h.ready in
      record {
        entries = h.entries;
        visits = h.visits;
        chosen = h.chosen;
        riders = h.riders;
        jobs = λ loss agrees. finals_same s loss c f jobs (stages_weaker (λ n st. Fine c n st × IsReady s c loaded n st) (SameFinal s loss c f) (passed_final loss loaded j c agrees.kept) jobs both) ∙ h.jobs loss agrees;
        kept = h.kept;
        alive = stages_after (IsAlive s v.miss c) (IsAlive s v.miss c) f (passed_alive s v.miss j c) jobs h.alive;
        ready = stages_after (IsReady s c loaded) (IsReady s c loaded) f (passed_ready s loaded j c) jobs h.ready;
      }

  -- ---- a visit is opened

  -- what a job owes, by where it stands
  owing_seen : (d c n : ℕ) (st : Stage State) → Fine d n st → is_owing_at s c n st ≡ is_owing_place s c n (place_of st)
  owing_seen d c n (Runs e) h = laws.owed n c e h
  owing_seen d c n (Waits e) h = laws.owed n c e h.0
  owing_seen d c n (Works e) h = laws.owed n c e h.0
  owing_seen d c n (Over o) h = refl

  owed_seen : (d : ℕ) (jobs : List (Job State)) → AllStages (Fine d) jobs → map (owed_list s) jobs ≡ map (planned_owed_list s) (map seen jobs)
  owed_seen d [] h = refl
  owed_seen d (job ∷ jobs) h =
      let one = filter_agree (λ c. is_owing s c job) (λ c. is_planned_owing s c (seen job)) (λ c. owing_seen d c job.number job.stage h.0) (numbers_to s.chunks) in
      ap₂ (λ (xs : List ℕ) (ys : List (List ℕ)). xs ∷ ys) one (owed_seen d jobs h.1)

  rider_seen : (d c n : ℕ) (st : Stage State) → is_riding st ≡ false → Fine d n st → rider_at s c n st ≡ planned_rider_at s c n (place_of st)
  rider_seen d c n (Runs e) rests h = ap (λ (b : Bool). rider_if b (rider n (key_in s c n e))) (laws.owed n c e h)
  rider_seen d c n (Waits e) rests h = absurd (true≢false rests)
  rider_seen d c n (Works e) rests h = absurd (true≢false rests)
  rider_seen d c n (Over o) rests h = refl

  riders_seen : (d c : ℕ) (jobs : List (Job State)) → list_any (λ job. is_riding job.stage) jobs ≡ false → AllStages (Fine d) jobs → riders_of s c jobs ≡ planned_riders s c (map seen jobs)
  riders_seen d c [] none h = refl
  riders_seen d c (job ∷ jobs) none h =
      let parts = or_parts (is_riding job.stage) (list_any (λ (j : Job State). is_riding j.stage) jobs) none in
      ap₂ (λ (o : Option Rider) (rs : List Rider). cons_option o rs) (rider_seen d c job.number job.stage parts.0 h.0) (riders_seen d c jobs parts.1 h.1)

  opened_place : (loss : Key → Option Ending) (d c n : ℕ) (st : Stage State) → is_riding st ≡ false → Fine d n st
      → final_place s loss c n (boarded s c n st) ≡ ridden_place s loss c n (place_of st)
  opened_place loss d c n (Runs e) rests h =
      let there = place_by s (loss (key_in s c n e)) c n (standing e) in
      by_test (s.owes n e c) (λ t. final_place s loss c n (cond t (Waits e) (Runs e)) ≡ cond (s.owes_at n (standing e) c) there (Stands (standing e)))
      (λ owing. rw (sym (laws.owed n c e h) ∙ owing) refl)
      (λ none. rw (sym (laws.owed n c e h) ∙ none) refl)
  opened_place loss d c n (Waits e) rests h = absurd (true≢false rests)
  opened_place loss d c n (Works e) rests h = absurd (true≢false rests)
  opened_place loss d c n (Over o) rests h = refl

  opened_jobs : (loss : Key → Option Ending) (d c : ℕ) (jobs : List (Job State)) → list_any (λ job. is_riding job.stage) jobs ≡ false → AllStages (Fine d) jobs
      → map (final s loss c) (map (at_stage (boarded s c)) jobs) ≡ map (ridden s loss c) (map seen jobs)
  opened_jobs loss d c [] none h = refl
  opened_jobs loss d c (job ∷ jobs) none h =
      let parts = or_parts (is_riding job.stage) (list_any (λ (j : Job State). is_riding j.stage) jobs) none in
      let here = opened_place loss d c job.number job.stage parts.0 h.0 in
      let one : final s loss c (at_stage (boarded s c) job) ≡ ridden s loss c (seen job) = λ i. record { number = job.number; place = here i } in
      ap₂ (λ (p : Planned) (ps : List Planned). p ∷ ps) one (opened_jobs loss d c jobs parts.1 h.1)

  opened_alive : (c n : ℕ) (st : Stage State) → is_riding st ≡ false → IsAlive s no_miss c n (boarded s c n st)
  opened_alive c n (Runs e) rests = by_test (s.owes n e c) (λ t. IsAlive s no_miss c n (cond t (Waits e) (Runs e))) (λ _. refl) (λ _. tt)
  opened_alive c n (Waits e) rests = absurd (true≢false rests)
  opened_alive c n (Works e) rests = absurd (true≢false rests)
  opened_alive c n (Over o) rests = tt

  pub opened_ready : (c n : ℕ) (st : Stage State) → is_riding st ≡ false → IsReady s c [] n (boarded s c n st)
  opened_ready c n (Runs e) rests = by_test (s.owes n e c) (λ t. IsReady s c [] n (cond t (Waits e) (Runs e))) (λ _. tt) (λ _. tt)
  opened_ready c n (Waits e) rests = absurd (true≢false rests)
  opened_ready c n (Works e) rests = absurd (true≢false rests)
  opened_ready c n (Over o) rests = tt

  opened : Setup State → ℕ → List (Job State) → Ridden
  opened t c jobs = record { chunk = c; riders = riders_of t c jobs; miss = no_miss }

  some_of_eq : (o : Option ℕ) (c : ℕ) → is_some_of (λ d. eqb d c) o ≡ true → o ≡ Some c
  some_of_eq None c h = absurd (true≢false (sym h))
  some_of_eq (Some d) c h = ap Some (eqb-true d c h)

  pub all_rest : (jobs : List (Job State)) → list_any (λ job. is_riding job.stage) jobs ≡ false → AllStages (λ n st. is_riding st ≡ false) jobs
  all_rest jobs none = stages_fail (λ job. is_riding job.stage) (λ n st. is_riding st ≡ false) (λ job r. r) jobs none

  in_opened : (now d c : ℕ) (vs : List Ridden) (jobs : List (Job State)) → list_any (λ job. is_riding job.stage) jobs ≡ false → AllStages (Fine d) jobs
      → is_some_of (λ e. eqb e c) (choice s (cursor_of vs) (map (owed_list s) jobs)) ≡ true
      → InVisit s (record { entries_in = now; visits = vs; jobs = map seen jobs }) now (opened s c jobs) vs [] (map (at_stage (boarded s c)) jobs)
  unfolding opened
  in_opened now d c vs jobs none fine chosen = record {
    entries = refl;
    visits = refl;
    chosen = ap (choice s (cursor_of vs)) (sym (owed_seen d jobs fine)) ∙ some_of_eq (choice s (cursor_of vs) (map (owed_list s) jobs)) c chosen;
    riders = riders_seen d c jobs none fine;
    jobs = λ loss agrees. opened_jobs loss d c jobs none fine;
    kept = tt;
    alive = stages_after (λ n st. is_riding st ≡ false) (IsAlive s no_miss c) (boarded s c) (opened_alive c) jobs (all_rest jobs none);
    ready = stages_after (λ n st. is_riding st ≡ false) (IsReady s c []) (boarded s c) (opened_ready c) jobs (all_rest jobs none);
  }

  -- ---- a visit is closed

  pub seen_at_rest : (loss : Key → Option Ending) (c : ℕ) (jobs : List (Job State)) → list_any (λ job. is_riding job.stage) jobs ≡ false → map (final s loss c) jobs ≡ map seen jobs
  seen_at_rest loss c [] none = refl
  seen_at_rest loss c (job ∷ jobs) none =
      let parts = or_parts (is_riding job.stage) (list_any (λ (j : Job State). is_riding j.stage) jobs) none in
      let at : (st : Stage State) → is_riding st ≡ false → final_place s loss c job.number st ≡ place_of st =
      elim [ Runs e ↦ λ r. refl | Waits e ↦ λ r. absurd (true≢false r) | Works e ↦ λ r. absurd (true≢false r) | Over o ↦ λ r. refl ] in
      let here = at job.stage parts.0 in
      let one : final s loss c job ≡ seen job = λ i. record { number = job.number; place = here i } in
      ap₂ (λ (p : Planned) (ps : List Planned). p ∷ ps) one (seen_at_rest loss c jobs parts.1)

  agrees_itself : (c : ℕ) (miss : Miss) (loaded : List Key) → AllByRecursion (λ k. loss_of miss c k ≡ None) loaded → Agrees (loss_of miss c) c miss loaded
  agrees_itself c miss loaded h = record { kept = h; gone = by_itself miss.failed miss.lost }
    where
      by_itself : (failed : Option LoadCause) (lost : List Key) → AgreesBy (loss_by failed lost c) c failed lost
      by_itself None lost = λ k g. rw g refl
      by_itself (Some cause) lost = λ k. refl

  abbrev pub plan_at : ℕ → List Ridden → List Planned → Plan
  plan_at now visits jobs = record { entries_in = now; visits = visits; jobs = jobs }

  -- the plan after this visit, as far as it has gone
  made : (b : Plan) (now : ℕ) (v : Ridden) (vs : List Ridden) (loaded : List Key) (jobs : List (Job State)) → InVisit s b now v vs loaded jobs
      → visited s v.miss v.chunk b ≡ plan_at now (v ∷ vs) (map (final s (loss_of v.miss v.chunk) v.chunk) jobs)
  made b now v vs loaded jobs h =
      let loss = loss_of v.miss v.chunk in
      let entries : b.entries_in ≡ now = sym h.entries in
      let visits : b.visits ≡ vs = sym h.visits in
      let riders : planned_riders s v.chunk b.jobs ≡ v.riders = sym h.riders in
      let all : map (ridden s loss v.chunk) b.jobs ≡ map (final s loss v.chunk) jobs = sym (h.jobs loss (agrees_itself v.chunk v.miss loaded h.kept)) in
      λ i. record { entries_in = entries i; visits = record { chunk = v.chunk; riders = riders i; miss = v.miss } ∷ visits i; jobs = all i }

  abbrev pub IsInVisit : ℕ → List Ridden → List Key → List (Job State) → Type 0
  IsInVisit now [] loaded jobs = ⊥
  IsInVisit now (v ∷ vs) loaded jobs = InVisit s (all_in s (plan_after s (misses_by_visit vs))) now v vs loaded jobs

  pub made_plan : (now : ℕ) (v : Ridden) (vs : List Ridden) (loaded : List Key) (jobs : List (Job State)) → IsInVisit now (v ∷ vs) loaded jobs
      → plan_after s (misses_by_visit (v ∷ vs)) ≡ plan_at now (v ∷ vs) (map (final s (loss_of v.miss v.chunk) v.chunk) jobs)
  unfolding plan_after next_plan
  made_plan now v vs loaded jobs h =
      let before = all_in s (plan_after s (misses_by_visit vs)) in
      ap (λ (o : Option ℕ). visited_at s v.miss o before) h.chosen ∙ made before now v vs loaded jobs h

  closed_plan : (now : ℕ) (visits : List Ridden) (loaded : List Key) (jobs : List (Job State)) → IsInVisit now visits loaded jobs → list_any (λ job. is_riding job.stage) jobs ≡ false
      → plan_at now visits (map seen jobs) ≡ plan_after s (misses_by_visit visits)
  closed_plan now [] loaded jobs h none = absurd h
  closed_plan now (v ∷ vs) loaded jobs h none =
      sym (made_plan now v vs loaded jobs h ∙ ap (plan_at now (v ∷ vs)) (seen_at_rest (loss_of v.miss v.chunk) v.chunk jobs none))

  -- what a planned journal's scene has to do with the plan of its misses
  pub record Follows (scene : Scene State) : Type 0 where
    pub inside : is_open scene ≡ true → IsInVisit scene.entries_in scene.visits scene.loaded scene.jobs
    pub outside : is_open scene ≡ false → all_in s (seen_plan scene) ≡ all_in s (plan_after s (misses_by_visit scene.visits))

  follows_inside : (scene : Scene State) → IsInVisit scene.entries_in scene.visits scene.loaded scene.jobs → Follows scene
  follows_inside scene h = record { inside = λ o. h; outside = λ closed. ap (all_in s) (closed_plan scene.entries_in scene.visits scene.loaded scene.jobs h closed) }

  -- ---- entries go in

  at_next : (lines : List Line) (n : ℕ) (line : Line) → slice_get lines n ≡ Some line → drop n lines ≡ line ∷ drop (suc n) lines
  at_next [] n line h = cc
  at_next (one ∷ lines) zero line h =
      let same : one ≡ line = cc in
      ap (λ (l : Line). l ∷ lines) same
  at_next (one ∷ lines) (suc n) line h = at_next lines n line h

  pub none_next : (lines : List Line) (n : ℕ) → slice_get lines n ≡ None → drop n lines ≡ []
  none_next [] zero h = refl
  none_next [] (suc n) h = refl
  none_next (one ∷ lines) zero h = cc
  none_next (one ∷ lines) (suc n) h = none_next lines n h

  there_seen : (st : Stage State) → is_there (place_of st) ≡ is_running st
  there_seen (Runs e) = refl
  there_seen (Waits e) = refl
  there_seen (Works e) = refl
  there_seen (Over o) = refl

  pub none_seen : (jobs : List (Job State)) → none_there (map seen jobs) ≡ none_runs jobs
  none_seen [] = refl
  none_seen (job ∷ jobs) = ap₂ (λ (a b : Bool). not a && b) (there_seen job.stage) (none_seen jobs)

  new_seen : (n : ℕ) → n < jobs_in s.script → planned_job s n ≡ seen (new_job s n)
  new_seen n within =
      let turned = s.turn n (s.admitted n) in
      let at : map_turned standing turned ≡ s.turn_at n (s.first_at n) = laws.turns_at n (s.admitted n) (laws.begins n within) ∙ ap (s.turn_at n) (laws.begins_at n) in
      let place : place_after (s.turn_at n (s.first_at n)) ≡ place_of (stage_after turned) = ap place_after (sym at) ∙ sym (ended_place turned) in
      λ i. record { number = n; place = place i }

  seen_push : (jobs : List (Job State)) (job : Job State) → map seen (jobs ++ job ∷ []) ≡ map seen jobs ++ seen job ∷ []
  seen_push [] job = refl
  seen_push (one ∷ jobs) job = ap (λ (ps : List Planned). seen one ∷ ps) (seen_push jobs job)

  seen_length : (jobs : List (Job State)) → length (map seen jobs) ≡ length jobs
  seen_length [] = refl
  seen_length (one ∷ jobs) = ap suc (seen_length jobs)

  pub jobs_seen : (line : Line) (jobs : List (Job State)) → IsAmong s (Some line) (length jobs) → planned_with s line (map seen jobs) ≡ map seen (jobs_with s (Some line) jobs)
  jobs_seen (Update batch) jobs within = refl
  jobs_seen (Wait k) jobs within = refl
  jobs_seen (JobLine name spec own) jobs within =
      ap (λ (n : ℕ). map seen jobs ++ planned_job s n ∷ []) (seen_length jobs)
      ∙ ap (λ (p : Planned). map seen jobs ++ p ∷ []) (new_seen (length jobs) within)
      ∙ sym (seen_push jobs (new_job s (length jobs)))

  enter_one : (now : ℕ) (visits : List Ridden) (jobs : List (Job State)) (line : Line) → IsAmong s (Some line) (length jobs) → slice_get s.script now ≡ Some line → allows (length visits) (none_runs jobs) line ≡ true
      → all_in s (plan_at now visits (map seen jobs)) ≡ all_in s (plan_at (now + 1) visits (map seen (jobs_with s (Some line) jobs)))
  unfolding all_in_of
  enter_one now visits jobs line within here allowed =
      let plan = plan_at now visits (map seen jobs) in
      let next = plan_at (now + 1) visits (map seen (jobs_with s (Some line) jobs)) in
      let may_go : allows (length visits) (none_there (map seen jobs)) line ≡ true = ap (λ (b : Bool). allows (length visits) b line) (none_seen jobs) ∙ allowed in
      let same : entered s line plan ≡ next = ap (λ (js : List Planned). plan_at (now + 1) visits js) (jobs_seen line jobs within) in
      let rest : List Line = drop (suc now) s.script in
      ap (λ (lines : List Line). all_in_of s lines plan) (at_next s.script now line here)
      ∙ ap (λ (b : Bool). cond b (all_in_of s rest (entered s line plan)) plan) may_go
      ∙ ap (all_in_of s rest) same
      ∙ ap (λ (n : ℕ). all_in_of s (drop n s.script) next) (sym (add-one now))

  enter : (now : ℕ) (visits : List Ridden) (jobs : List (Job State)) (line : Option Line) → IsAmong s line (length jobs) → slice_get s.script now ≡ line → allows_next (length visits) (none_runs jobs) line ≡ true
      → all_in s (plan_at now visits (map seen jobs)) ≡ all_in s (plan_at (now + 1) visits (map seen (jobs_with s line jobs)))
  enter now visits jobs None within here allowed = absurd (true≢false (sym allowed))
  enter now visits jobs (Some line) within here allowed = enter_one now visits jobs line within here allowed

  -- no entry goes in
  pub stay_all : (now : ℕ) (visits : List Ridden) (jobs : List (Job State)) (line : Option Line) → slice_get s.script now ≡ line → allows_next (length visits) (none_runs jobs) line ≡ false
      → all_in s (plan_at now visits (map seen jobs)) ≡ plan_at now visits (map seen jobs)
  unfolding all_in_of
  stay_all now visits jobs None here stopped = ap (λ (lines : List Line). all_in_of s lines (plan_at now visits (map seen jobs))) (none_next s.script now here)
  stay_all now visits jobs (Some line) here stopped =
      let plan = plan_at now visits (map seen jobs) in
      let no_go : allows (length visits) (none_there (map seen jobs)) line ≡ false = ap (λ (b : Bool). allows (length visits) b line) (none_seen jobs) ∙ stopped in
      ap (λ (lines : List Line). all_in_of s lines plan) (at_next s.script now line here)
      ∙ ap (λ (b : Bool). cond b (all_in_of s (drop (suc now) s.script) (entered s line plan)) plan) no_go

  -- ---- a step

  any_weaker : (p q : Job State → Bool) → ((job : Job State) → p job ≡ true → q job ≡ true) → (jobs : List (Job State)) → list_any p jobs ≡ true → list_any q jobs ≡ true
  any_weaker p q each [] h = h
  any_weaker p q each (job ∷ jobs) h =
      ⊎_elim (λ here. ap (λ (t : Bool). t || list_any q jobs) (each job here)) (λ there. or_more (q job) (list_any q jobs) (any_weaker p q each jobs there)) (or_cases (p job) (list_any p jobs) h)

  any_push : (p : Job State → Bool) (jobs : List (Job State)) (job : Job State) → p job ≡ false → list_any p jobs ≡ false → list_any p (jobs ++ job ∷ []) ≡ false
  any_push p [] job here h = rw here refl
  any_push p (one ∷ jobs) job here h =
      let parts = or_parts (p one) (list_any p jobs) h in
      rw parts.0 (any_push p jobs job here parts.1)

  still_closed : (line : Option Line) (jobs : List (Job State)) → list_any (λ job. is_riding job.stage) jobs ≡ false → list_any (λ job. is_riding job.stage) (jobs_with s line jobs) ≡ false
  still_closed None jobs h = h
  still_closed (Some (Update batch)) jobs h = h
  still_closed (Some (Wait k)) jobs h = h
  still_closed (Some (JobLine name spec own)) jobs h = any_push (λ job. is_riding job.stage) jobs (new_job s (length jobs)) (rests (s.turn (length jobs) (s.admitted (length jobs)))) h

  waiting_rides : (st : Stage State) → is_waiting st ≡ true → is_riding st ≡ true
  waiting_rides (Runs e) h = h
  waiting_rides (Waits e) h = refl
  waiting_rides (Works e) h = refl
  waiting_rides (Over o) h = h

  working_rides : (st : Stage State) → is_working st ≡ true → is_riding st ≡ true
  working_rides (Runs e) h = h
  working_rides (Waits e) h = refl
  working_rides (Works e) h = refl
  working_rides (Over o) h = h

  key_rides : (c : ℕ) (k : Key) (n : ℕ) (st : Stage State) → rides_at s c k n st ≡ true → is_riding st ≡ true
  key_rides c k n (Runs e) h = h
  key_rides c k n (Waits e) h = refl
  key_rides c k n (Works e) h = refl
  key_rides c k n (Over o) h = h

  ride_opens : (c : ℕ) (k : Key) (jobs : List (Job State)) → list_any (rides_with s c k) jobs ≡ true → list_any (λ job. is_riding job.stage) jobs ≡ true
  ride_opens c k jobs h = any_weaker (rides_with s c k) (λ job. is_riding job.stage) (λ job r. key_rides c k job.number job.stage r) jobs h

  loaded_inside : (now : ℕ) (visits : List Ridden) (loaded : List Key) (jobs : List (Job State)) (k : Key) → list_any (rides_with s (chunk_now visits) k) jobs ≡ true
      → IsInVisit now visits loaded jobs → IsInVisit now visits (k ∷ loaded) jobs
  loaded_inside now [] loaded jobs k rides h = h
  loaded_inside now (v ∷ vs) loaded jobs k rides h = in_loaded s (all_in s (plan_after s (misses_by_visit vs))) now v vs loaded jobs k rides h

  lost_inside : (now : ℕ) (visits : List Ridden) (loaded : List Key) (jobs : List (Job State)) (k : Key) → has_key loaded k ≡ false → IsInVisit now visits loaded jobs
      → IsInVisit now (lose k visits) loaded (map (at_stage (ended_where (λ m e. is_same_key (key_in s (chunk_now visits) m e) k) NoMemory)) jobs)
  unfolding lost_at
  lost_inside now [] loaded jobs k fresh h = h
  lost_inside now (v ∷ vs) loaded jobs k fresh h = in_lost s (all_in s (plan_after s (misses_by_visit vs))) now v vs loaded jobs k fresh h

  failed_inside : (now : ℕ) (visits : List Ridden) (loaded : List Key) (jobs : List (Job State)) (cause : LoadCause) → list_any (λ job. is_riding job.stage) jobs ≡ true
      → is_empty loaded ≡ true → is_whole visits ≡ true → IsInVisit now visits loaded jobs
      → IsInVisit now (fail cause visits) loaded (map (at_stage (ended_where (λ m e. true) (ending_by cause (chunk_now visits)))) jobs)
  unfolding failed_at
  failed_inside now [] loaded jobs cause rides empty whole h = h
  failed_inside now (v ∷ vs) loaded jobs cause rides empty whole h = in_failed s (all_in s (plan_after s (misses_by_visit vs))) now v vs loaded jobs cause rides empty whole h

  given_inside : (now : ℕ) (visits : List Ridden) (loaded : List Key) (jobs : List (Job State)) (j : ℕ) → list_all (is_settled s (chunk_now visits) loaded) jobs ≡ true
      → IsInVisit now visits loaded jobs → IsInVisit now visits loaded (map (at_stage (given j)) jobs)
  given_inside now [] loaded jobs j settled h = h
  given_inside now (v ∷ vs) loaded jobs j settled h = in_given s (all_in s (plan_after s (misses_by_visit vs))) now v vs loaded jobs j settled h

  passed_inside : (now : ℕ) (visits : List Ridden) (loaded : List Key) (jobs : List (Job State)) (j : ℕ) → AllStages (Fine (chunk_now visits)) jobs
      → IsInVisit now visits loaded jobs → IsInVisit now visits loaded (map (at_stage (has_passed s j (chunk_now visits))) jobs)
  passed_inside now [] loaded jobs j fine h = h
  passed_inside now (v ∷ vs) loaded jobs j fine h = in_passed (all_in s (plan_after s (misses_by_visit vs))) now v vs loaded jobs j fine h

  visit_inside : (scene : Scene State) (c : ℕ) → is_open scene ≡ false → AllStages (Fine (chunk_now scene.visits)) scene.jobs → fits_plan s scene (Visit c) ≡ true
      → all_in s (seen_plan scene) ≡ all_in s (plan_after s (misses_by_visit scene.visits))
      → IsInVisit scene.entries_in (opened s c scene.jobs ∷ scene.visits) [] (map (at_stage (boarded s c)) scene.jobs)
  visit_inside scene c closed fine fits outside =
      let owed = map (owed_list s) scene.jobs in
      let parts = and_parts (not (goes_in s scene)) (is_some_of (λ d. eqb d c) (choice s (cursor_of scene.visits) owed)) fits in
      let stays = stay_all scene.entries_in scene.visits scene.jobs (slice_get s.script scene.entries_in) refl (not-true (goes_in s scene) parts.0) in
      let Goal : Plan → Type 0 = λ b. InVisit s b scene.entries_in (opened s c scene.jobs) scene.visits [] (map (at_stage (boarded s c)) scene.jobs) in
      subst Goal (sym stays ∙ outside) (in_opened scene.entries_in (chunk_now scene.visits) c scene.visits scene.jobs closed fine parts.1)

  pub step_follows : (scene : Scene State) (event : Event) → may s scene event ≡ true → fits_plan s scene event ≡ true → Sound Midway s laws scene → Follows scene → Follows (done s scene event)
  unfolding opened
  step_follows scene (Submit line) ok fits sound h =
      let parts = and_parts (eqb line scene.entries_in) (ltb line (length s.script)) ok in
      let here : line ≡ scene.entries_in = eqb-true line scene.entries_in parts.0 in
      let asks = and_parts (not (is_open scene)) (goes_in s scene) fits in
      let closed = not-true (is_open scene) asks.0 in
      let Goal : ℕ → Type 0 = λ n. Follows (done s scene (Submit n)) in
      let now = scene.entries_in in
      let after : is_open (done s scene (Submit now)) ≡ false = still_closed (slice_get s.script now) scene.jobs closed in
      let at : Goal now = record {
        inside = λ o. absurd (true≢false (sym o ∙ after));
        outside = λ c. sym (enter now scene.visits scene.jobs (slice_get s.script now) (is_among Midway s laws now (slice_get s.script now) scene.jobs refl sound.count) refl asks.1) ∙ h.outside closed;
      } in
      subst Goal (sym here) at
  step_follows scene (Visit c) ok fits sound h =
      let closed = not-true (is_open scene) (and_parts (not (is_open scene)) (list_any (is_owing s c) scene.jobs) ok).0 in
      follows_inside (done s scene (Visit c)) (visit_inside scene c closed sound.jobs fits (h.outside closed))
  step_follows scene (Loaded k) ok fits sound h =
      let rides = (and_parts (list_any (rides_with s (chunk_now scene.visits) k) scene.jobs) (not (has_key scene.loaded k)) ok).0 in
      follows_inside (done s scene (Loaded k))
      (loaded_inside scene.entries_in scene.visits scene.loaded scene.jobs k rides (h.inside (ride_opens (chunk_now scene.visits) k scene.jobs rides)))
  step_follows scene (NoCopy k) ok fits sound h =
      let parts = and_parts (list_any (rides_with s (chunk_now scene.visits) k) scene.jobs) (not (has_key scene.loaded k)) ok in
      follows_inside (done s scene (NoCopy k))
      (lost_inside scene.entries_in scene.visits scene.loaded scene.jobs k (not-true (has_key scene.loaded k) parts.1) (h.inside (ride_opens (chunk_now scene.visits) k scene.jobs parts.0)))
  step_follows scene (LoadFailed d cause) ok fits sound h =
      let parts = and_parts (is_open scene && eqb d (chunk_now scene.visits)) (is_empty scene.loaded && is_whole scene.visits) ok in
      let first = and_parts (is_open scene) (eqb d (chunk_now scene.visits)) parts.0 in
      let second = and_parts (is_empty scene.loaded) (is_whole scene.visits) parts.1 in
      let here : d ≡ chunk_now scene.visits = eqb-true d (chunk_now scene.visits) first.1 in
      let Goal : ℕ → Type 0 = λ c. Follows (done s scene (LoadFailed c cause)) in
      let at : Goal (chunk_now scene.visits) = follows_inside (done s scene (LoadFailed (chunk_now scene.visits) cause))
      (failed_inside scene.entries_in scene.visits scene.loaded scene.jobs cause first.0 second.0 second.1 (h.inside first.0)) in
      subst Goal (sym here) at
  step_follows scene (Given j d) ok fits sound h =
      let c = chunk_now scene.visits in
      let parts = and_parts (eqb d c && list_all (is_settled s c scene.loaded) scene.jobs) (list_any (λ (job : Job State). eqb job.number j && is_waiting job.stage) scene.jobs) ok in
      let settled = (and_parts (eqb d c) (list_all (is_settled s c scene.loaded) scene.jobs) parts.0).1 in
      let open_now : is_open scene ≡ true = any_weaker (λ (job : Job State). eqb job.number j && is_waiting job.stage) (λ (job : Job State). is_riding job.stage)
      (λ job w. waiting_rides job.stage (and_parts (eqb job.number j) (is_waiting job.stage) w).1) scene.jobs parts.1 in
      follows_inside (done s scene (Given j d)) (given_inside scene.entries_in scene.visits scene.loaded scene.jobs j settled (h.inside open_now))
  step_follows scene (Passed j d) ok fits sound h =
      let c = chunk_now scene.visits in
      let parts = and_parts (eqb d c) (list_any (λ (job : Job State). eqb job.number j && is_working job.stage) scene.jobs) ok in
      let here : d ≡ c = eqb-true d c parts.0 in
      let open_now : is_open scene ≡ true = any_weaker (λ (job : Job State). eqb job.number j && is_working job.stage) (λ (job : Job State). is_riding job.stage)
      (λ job w. working_rides job.stage (and_parts (eqb job.number j) (is_working job.stage) w).1) scene.jobs parts.1 in
      let Goal : ℕ → Type 0 = λ b. Follows (done s scene (Passed j b)) in
      let at : Goal c = follows_inside (done s scene (Passed j c)) (passed_inside scene.entries_in scene.visits scene.loaded scene.jobs j sound.jobs (h.inside open_now)) in
      subst Goal (sym here) at

  begins_following : Follows beginning
  unfolding plan_after
  begins_following = record { inside = λ o. absurd (true≢false (sym o)); outside = λ c. refl }

  pub follows_from : (journal : List Event) (scene : Scene State) → is_planned_from s scene journal ≡ true → Sound Midway s laws scene → Follows scene → Follows (scene_from s scene journal)
  unfolding is_planned_from scene_from
  follows_from [] scene ok sound h = h
  follows_from (event ∷ journal) scene ok sound h =
      let parts = and_parts (may s scene event && fits_plan s scene event) (is_planned_from s (done s scene event) journal) ok in
      let first = and_parts (may s scene event) (fits_plan s scene event) parts.0 in
      follows_from journal (done s scene event) parts.1 (step_sound Midway s laws scene event first.0 sound) (step_follows scene event first.0 first.1 sound h)

  pub follows : (journal : List Event) → IsPlanned s journal → Follows (scene_of s journal)
  follows journal ok = follows_from journal beginning ok (begins_sound Midway s laws) begins_following
