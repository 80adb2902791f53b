-- Every plan comes to its end: with as many visits as the jobs have phases times chunks, all entries are in and nobody runs.
use Rattle.std.proofs.Common.{◌≡◌, ℕ, zero, suc, ◌+◌, ◌<◌, ◌≤◌, add-one, Bool, true, false, cond, not, leb, ◌&&◌, ◌||◌, List, [], ◌∷◌, ◌++◌, map, length, sym, ap, ap₂, ◌∙◌, refl, subst, Option, Some, None, ◌⊎◌, inl, inr, ⊎_elim, true≢false, arith}
use Rattle.std.specs.Prelude.{slice_get, drop, IsSome}
use Rattle.std.specs.List.{list_any}
use Rattle.std.proofs.lemmas.Bool.{or_cases}
use Rattle.std.proofs.lemmas.List.Elements.{filter_agree}
use Rattle.std.proofs.Math.ListN.{length-drop}
use Rattle.gm_base.specs.declared.copies.Key.{Key}
use Rattle.gm_jobs.specs.declared.script.Line.{Line}
use Rattle.gm_jobs.specs.declared.script.Line.TheVariants.{Update, Wait, Job as JobLine}
use Rattle.gm_kernel.specs.Standings.{Turning}
use Rattle.gm_kernel.specs.Standings.Turning.{Goes, Ends}
use Rattle.gm_priority.specs.Priority.{rows_with, pick_of}
use Rattle.gm_machine.specs.Setups.{Entry, standing, past, map_turned, Setup, OwesOne, IsTurnedWell, EntryLaws, jobs_in}
use Rattle.gm_machine.specs.Machine.{Ending, Stage, Runs, Waits, Works, Over, Job, Miss, is_running, is_owing, is_owing_at, key_in, at_stage, stage_after, new_job, jobs_with}
use Rattle.gm_machine.specs.Plans.{choice, cursor_of, numbers_to, is_in, owed_by_any, owed_list, allows, Stands, Planned, Plan, plan_beginning, place_after, is_owing_place, is_planned_owing, none_there, none_runs, entered, all_in_of, all_in, planned_owed_list, loss_of, place_by, ridden_place, ridden, plan_choice, visited, visited_at, next_plan, plan_after, plan_of}
use Rattle.gm_machine.specs.Promises.{AllStages, place_of, seen}
use Rattle.gm_machine.specs.Schedules.{IsOver}
use Rattle.gm_machine.proofs.Lists.{by_test, stages_after, stages_more, stage_found, Numbered, numbered_after, length_map, IsAmong}
use Rattle.gm_machine.proofs.Soundness.{submit_numbers}
use Rattle.gm_machine.proofs.Bounds.{Measured, total_of, left_at, left_of, turned_left, submit_left, totals_after}
use Rattle.gm_machine.proofs.InVisits.{or_more, ended_place}
use Rattle.gm_machine.proofs.Following.{jobs_seen, none_next, none_seen}
use Rattle.gm_machine.proofs.Planning.{all_in-visits, HasEnded, ended_stays, no_choice, all_gone}
use Rattle.gm_machine.proofs.Choices.{in_filter, filter_passes, some_choice, choice_owed}

module _ {State : Type 0} (Midway : ℕ → Entry State → Type 0) (s : Setup State) (laws : EntryLaws s Midway) (left : ℕ → Entry State → ℕ) (total : ℕ → ℕ) (measured : Measured s Midway left total) where
  abbrev Left : List (Job State) → ℕ
  Left jobs = left_of Midway s laws left total measured jobs

  abbrev left_in : ℕ → Stage State → ℕ
  left_in n st = left_at Midway s laws left total measured n st

  -- a job outside visits: it is midway and owes a chunk, or has ended
  abbrev IsAtRest : ℕ → Stage State → Type 0
  IsAtRest n (Runs e) = Midway n e × OwesOne s n e
  IsAtRest n (Waits e) = ⊥
  IsAtRest n (Works e) = ⊥
  IsAtRest n (Over o) = Unit {0}

  -- jobs with their states that the plan may be of
  pub record Backs (plan : Plan) (jobs : List (Job State)) : Type 0 where
    pub seen : map seen jobs ≡ plan.jobs
    pub rest : AllStages IsAtRest jobs
    pub numbers : Numbered 0 jobs
    pub count : length jobs + jobs_in (drop plan.entries_in s.script) ≡ jobs_in s.script
    pub bound : length plan.visits + Left jobs ≤ total_of total jobs

  pub record Backed (plan : Plan) : Type 0 where
    pub jobs : List (Job State)
    pub backs : Backs plan jobs

  -- ---- entries go in

  turned_rests : (n : ℕ) (e : Entry State) (t : Turning (Entry State)) → Midway n e → s.turn n e ≡ t → IsAtRest n (stage_after t)
  turned_rests n e (Goes on) h is = (subst (IsTurnedWell (Midway n) (s.lone n)) is (laws.turns n e h), laws.goes_owing n e on h is)
  turned_rests n e (Ends o) h is = tt

  drop_next : (lines rest : List Line) (n : ℕ) (line : Line) → drop n lines ≡ line ∷ rest → drop (suc n) lines ≡ rest
  drop_next [] rest zero line h = cc
  drop_next [] rest (suc n) line h = cc
  drop_next (one ∷ lines) rest zero line h = cc
  drop_next (one ∷ lines) rest (suc n) line h = drop_next lines rest n line h

  among : (line : Line) (lines : List Line) (jobs : List (Job State)) → length jobs + jobs_in (line ∷ lines) ≡ jobs_in s.script → IsAmong s (Some line) (length jobs)
  among (Update batch) lines jobs count = tt
  among (Wait k) lines jobs count = tt
  among (JobLine name spec own) lines jobs count = omega arith

  counts_on : (line : Line) (lines : List Line) (jobs : List (Job State)) → length jobs + jobs_in (line ∷ lines) ≡ jobs_in s.script → length (jobs_with s (Some line) jobs) + jobs_in lines ≡ jobs_in s.script
  counts_on (Update batch) lines jobs count = count
  counts_on (Wait k) lines jobs count = count
  counts_on (JobLine name spec own) lines jobs count = let more = longer jobs (new_job s (length jobs)) in omega (arith, more, count)
    where
      longer : (js : List (Job State)) (job : Job State) → length (js ++ job ∷ []) ≡ suc (length js)
      longer [] job = refl
      longer (one ∷ js) job = ap suc (longer js job)

  rest_on : (line : Line) (jobs : List (Job State)) → IsAmong s (Some line) (length jobs) → AllStages IsAtRest jobs → AllStages IsAtRest (jobs_with s (Some line) jobs)
  rest_on (Update batch) jobs within h = h
  rest_on (Wait k) jobs within h = h
  rest_on (JobLine name spec own) jobs within h =
      let n = length jobs in
      stages_more IsAtRest jobs (new_job s n) h (turned_rests n (s.admitted n) (s.turn n (s.admitted n)) (laws.begins n within) refl)

  enter_backs : (line : Line) (lines : List Line) (plan : Plan) (jobs : List (Job State)) → drop plan.entries_in s.script ≡ line ∷ lines → Backs plan jobs → Backs (entered s line plan) (jobs_with s (Some line) jobs)
  enter_backs line lines plan jobs at h =
      let count : length jobs + jobs_in (line ∷ lines) ≡ jobs_in s.script = ap (λ (l : List Line). length jobs + jobs_in l) (sym at) ∙ h.count in
      let within = among line lines jobs count in
      let next : drop (plan.entries_in + 1) s.script ≡ lines = ap (λ (n : ℕ). drop n s.script) (add-one plan.entries_in) ∙ drop_next s.script lines plan.entries_in line at in
      record {
        seen = sym (ap (planned_by line) (sym h.seen) ∙ jobs_seen Midway s laws line jobs within);
        rest = rest_on line jobs within h.rest;
        numbers = submit_numbers Midway s laws (Some line) jobs h.numbers;
        count = ap (λ (l : List Line). length (jobs_with s (Some line) jobs) + jobs_in l) next ∙ counts_on line lines jobs count;
        bound = submit_left Midway s laws left total measured (length plan.visits) (Some line) jobs within h.bound;
      }
    where
      planned_by : Line → List Planned → List Planned
      planned_by l js = (entered s l (record { entries_in = plan.entries_in; visits = plan.visits; jobs = js })).jobs

  all_backed : (lines : List Line) (plan : Plan) → drop plan.entries_in s.script ≡ lines → Backed plan → Backed (all_in_of s lines plan)
  unfolding all_in_of
  all_backed [] plan at h = h
  all_backed (line ∷ lines) plan at h =
      let next : drop (plan.entries_in + 1) s.script ≡ lines = ap (λ (n : ℕ). drop n s.script) (add-one plan.entries_in) ∙ drop_next s.script lines plan.entries_in line at in
      by_test (allows (length plan.visits) (none_there plan.jobs) line) (λ t. Backed (cond t (all_in_of s lines (entered s line plan)) plan))
      (λ _. all_backed lines (entered s line plan) next (record { jobs = jobs_with s (Some line) h.jobs; backs = enter_backs line lines plan h.jobs at h.backs }))
      (λ _. h)

  pub all_in_backed : (plan : Plan) → Backed plan → Backed (all_in s plan)
  all_in_backed plan h = all_backed (drop plan.entries_in s.script) plan refl h

  -- ---- a visit

  abbrev stage_by : Option Ending → ℕ → ℕ → Entry State → Stage State
  stage_by None c n e = stage_after (s.turn n (s.pass n c e))
  stage_by (Some o) c n e = Over o

  abbrev rode : (Key → Option Ending) → ℕ → ℕ → Stage State → Stage State
  rode loss c n (Runs e) = cond (s.owes n e c) (stage_by (loss (key_in s c n e)) c n e) (Runs e)
  rode loss c n (Waits e) = Waits e
  rode loss c n (Works e) = Works e
  rode loss c n (Over o) = Over o

  by_rests : (o : Option Ending) (c n : ℕ) (e : Entry State) → Midway n e → s.owes n e c ≡ true → IsAtRest n (stage_by o c n e)
  by_rests None c n e h owes = turned_rests n (s.pass n c e) (s.turn n (s.pass n c e)) (laws.passes n c e h owes) refl
  by_rests (Some o) c n e h owes = tt

  rode_rests : (loss : Key → Option Ending) (c n : ℕ) (st : Stage State) → IsAtRest n st → IsAtRest n (rode loss c n st)
  rode_rests loss c n (Runs e) h =
      by_test (s.owes n e c) (λ t. s.owes n e c ≡ t → IsAtRest n (cond t (stage_by (loss (key_in s c n e)) c n e) (Runs e))) (λ _ owes. by_rests (loss (key_in s c n e)) c n e h.0 owes) (λ _ _. h) refl
  rode_rests loss c n (Waits e) h = absurd h
  rode_rests loss c n (Works e) h = absurd h
  rode_rests loss c n (Over o) h = tt

  by_seen : (o : Option Ending) (c n : ℕ) (e : Entry State) → Midway n e → s.owes n e c ≡ true → place_of (stage_by o c n e) ≡ place_by s o c n (standing e)
  by_seen None c n e h owes =
      let turned = s.turn n (s.pass n c e) in
      let at : map_turned standing turned ≡ s.turn_at n (past c (standing e)) = laws.turns_at n (s.pass n c e) (laws.passes n c e h owes) ∙ ap (s.turn_at n) (laws.passes_at n c e) in
      ended_place turned ∙ ap place_after at
  by_seen (Some o) c n e h owes = refl

  rode_seen : (loss : Key → Option Ending) (c n : ℕ) (st : Stage State) → IsAtRest n st → place_of (rode loss c n st) ≡ ridden_place s loss c n (place_of st)
  rode_seen loss c n (Runs e) h =
      let there = place_by s (loss (key_in s c n e)) c n (standing e) in
      by_test (s.owes n e c) (λ t. s.owes n e c ≡ t → place_of (cond t (stage_by (loss (key_in s c n e)) c n e) (Runs e)) ≡ cond (s.owes_at n (standing e) c) there (Stands (standing e)))
      (λ _ owing. rw (sym (laws.owed n c e h.0) ∙ owing) (by_seen (loss (key_in s c n e)) c n e h.0 owing))
      (λ _ none. rw (sym (laws.owed n c e h.0) ∙ none) refl) refl
  rode_seen loss c n (Waits e) h = absurd h
  rode_seen loss c n (Works e) h = absurd h
  rode_seen loss c n (Over o) h = refl

  all_seen : (loss : Key → Option Ending) (c : ℕ) (jobs : List (Job State)) → AllStages IsAtRest jobs → map seen (map (at_stage (rode loss c)) jobs) ≡ map (ridden s loss c) (map seen jobs)
  all_seen loss c [] h = refl
  all_seen loss c (job ∷ jobs) h =
      let here = rode_seen loss c job.number job.stage h.0 in
      let one : seen (at_stage (rode loss c) job) ≡ ridden s loss c (seen job) = λ i. record { number = job.number; place = here i } in
      ap₂ (λ (p : Planned) (ps : List Planned). p ∷ ps) one (all_seen loss c jobs h.1)

  -- a rider is less by one
  by_less : (o : Option Ending) (c n : ℕ) (e : Entry State) → Midway n e → s.owes n e c ≡ true → left_in n (stage_by o c n e) < left n e
  by_less None c n e h owes =
      let less = measured.passes n c e h owes in
      let after = turned_left Midway s laws left total measured n (s.pass n c e) (s.turn n (s.pass n c e)) (laws.passes n c e h owes) refl in
      omega arith
  by_less (Some o) c n e h owes = let less = measured.passes n c e h owes in omega arith

  rode_less : (loss : Key → Option Ending) (c n : ℕ) (st : Stage State) → IsAtRest n st → is_owing s c (record { number = n; stage = st }) ≡ true → left_in n (rode loss c n st) < left_in n st
  rode_less loss c n (Runs e) h owes = let less = by_less (loss (key_in s c n e)) c n e h.0 owes in rw owes less
  rode_less loss c n (Waits e) h owes = absurd h
  rode_less loss c n (Works e) h owes = absurd h
  rode_less loss c n (Over o) h owes = absurd (true≢false (sym owes))

  rode_left : (loss : Key → Option Ending) (c n : ℕ) (st : Stage State) → IsAtRest n st → left_in n (rode loss c n st) ≤ left_in n st
  rode_left loss c n (Runs e) h =
      by_test (s.owes n e c) (λ t. s.owes n e c ≡ t → left_in n (cond t (stage_by (loss (key_in s c n e)) c n e) (Runs e)) ≤ left n e)
      (λ _ owes. let less = by_less (loss (key_in s c n e)) c n e h.0 owes in omega arith) (λ _ _. omega arith) refl
  rode_left loss c n (Waits e) h = absurd h
  rode_left loss c n (Works e) h = absurd h
  rode_left loss c n (Over o) h = omega arith

  all_left : (loss : Key → Option Ending) (c : ℕ) (jobs : List (Job State)) → AllStages IsAtRest jobs → Left (map (at_stage (rode loss c)) jobs) ≤ Left jobs
  all_left loss c [] h = omega arith
  all_left loss c (job ∷ jobs) h = let one = rode_left loss c job.number job.stage h.0 in let rest = all_left loss c jobs h.1 in omega arith

  some_less : (loss : Key → Option Ending) (c : ℕ) (jobs : List (Job State)) → AllStages IsAtRest jobs → list_any (is_owing s c) jobs ≡ true → Left (map (at_stage (rode loss c)) jobs) < Left jobs
  some_less loss c [] h some = absurd (true≢false (sym some))
  some_less loss c (job ∷ jobs) h some =
      ⊎_elim
      (λ here. let one = rode_less loss c job.number job.stage h.0 here in let rest = all_left loss c jobs h.1 in omega arith)
      (λ there. let one = rode_left loss c job.number job.stage h.0 in let rest = some_less loss c jobs h.1 there in omega arith)
      (or_cases (is_owing s c job) (list_any (is_owing s c) jobs) some)

  -- ---- who owes what

  owing_seen : (c n : ℕ) (st : Stage State) → IsAtRest n st → is_owing_at s c n st ≡ is_owing_place s c n (place_of st)
  owing_seen c n (Runs e) h = laws.owed n c e h.0
  owing_seen c n (Waits e) h = absurd h
  owing_seen c n (Works e) h = absurd h
  owing_seen c n (Over o) h = refl

  owed_seen : (jobs : List (Job State)) → AllStages IsAtRest jobs → map (owed_list s) jobs ≡ map (planned_owed_list s) (map seen jobs)
  owed_seen [] h = refl
  owed_seen (job ∷ jobs) h =
      let one = filter_agree (λ c. is_owing s c job) (λ c. is_planned_owing s c (seen job)) (λ c. owing_seen c job.number job.stage h.0) (numbers_to s.chunks) in
      ap₂ (λ (xs : List ℕ) (ys : List (List ℕ)). xs ∷ ys) one (owed_seen jobs h.1)

  choice_seen : (plan : Plan) (jobs : List (Job State)) → Backs plan jobs → plan_choice s plan ≡ choice s (cursor_of plan.visits) (map (owed_list s) jobs)
  choice_seen plan jobs h = ap (λ (js : List Planned). choice s (cursor_of plan.visits) (map (planned_owed_list s) js)) (sym h.seen) ∙ ap (choice s (cursor_of plan.visits)) (sym (owed_seen jobs h.rest))

  owing_of : (c : ℕ) (jobs : List (Job State)) → owed_by_any (map (owed_list s) jobs) c ≡ true → list_any (is_owing s c) jobs ≡ true
  owing_of c [] h = h
  owing_of c (job ∷ jobs) h =
      ⊎_elim
      (λ here. ap (λ (b : Bool). b || list_any (is_owing s c) jobs) (filter_passes (λ d. is_owing s d job) (numbers_to s.chunks) c here))
      (λ there. or_more (is_owing s c job) (list_any (is_owing s c) jobs) (owing_of c jobs there))
      (or_cases (is_in (owed_list s job) c) (owed_by_any (map (owed_list s) jobs) c) h)

  of_owing : (c : ℕ) (jobs : List (Job State)) → c < s.chunks → list_any (is_owing s c) jobs ≡ true → owed_by_any (map (owed_list s) jobs) c ≡ true
  of_owing c [] low h = h
  of_owing c (job ∷ jobs) low h =
      ⊎_elim
      (λ here. ap (λ (b : Bool). b || owed_by_any (map (owed_list s) jobs) c) (in_filter (λ d. is_owing s d job) 0 s.chunks c (omega arith) (omega arith) here))
      (λ there. or_more (is_in (owed_list s job) c) (owed_by_any (map (owed_list s) jobs) c) (of_owing c jobs low there))
      (or_cases (is_owing s c job) (list_any (is_owing s c) jobs) h)

  owes_chunk : (c n : ℕ) (st : Stage State) → is_owing_at s c n st ≡ true → IsAtRest n st → c < s.chunks
  owes_chunk c n (Runs e) owes h = laws.owed_is_chunk n c (standing e) (sym (laws.owed n c e h.0) ∙ owes)
  owes_chunk c n (Waits e) owes h = absurd h
  owes_chunk c n (Works e) owes h = absurd h
  owes_chunk c n (Over o) owes h = absurd (true≢false (sym owes))

  owing_chunk : (c : ℕ) (jobs : List (Job State)) → AllStages IsAtRest jobs → list_any (is_owing s c) jobs ≡ true → c < s.chunks
  owing_chunk c jobs h some =
      let found = stage_found IsAtRest (is_owing s c) jobs h some in
      owes_chunk c found.0.number found.0.stage found.1 found.2

  -- a job that runs owes a chunk
  some_owing : (jobs : List (Job State)) → AllStages IsAtRest jobs → none_runs jobs ≡ false → (c : ℕ) × (list_any (is_owing s c) jobs ≡ true)
  some_owing [] h some = absurd (true≢false some)
  some_owing (job ∷ jobs) h some = at jobs job.number job.stage (some_owing jobs h.1) h.0 some
    where
      at : (js : List (Job State)) (n : ℕ) (st : Stage State) → (none_runs js ≡ false → (c : ℕ) × (list_any (is_owing s c) js ≡ true)) → IsAtRest n st → (not (is_running st) && none_runs js) ≡ false
          → (c : ℕ) × ((is_owing_at s c n st || list_any (is_owing s c) js) ≡ true)
      at js n (Runs e) rest g r = (g.1.chunk, ap (λ (b : Bool). b || list_any (is_owing s g.1.chunk) js) g.1.owed)
      at js n (Waits e) rest g r = absurd g
      at js n (Works e) rest g r = absurd g
      at js n (Over o) rest g r = let later = rest r in (later.0, or_more (is_owing_at s later.0 n (Over o)) (list_any (is_owing s later.0) js) later.1)

  -- ---- the next visit

  abbrev after_visit : Miss → ℕ → List (Job State) → List (Job State)
  after_visit miss c jobs = map (at_stage (rode (loss_of miss c) c)) jobs

  visit_backs : (miss : Miss) (c : ℕ) (plan : Plan) (jobs : List (Job State)) → plan_choice s plan ≡ Some c → Backs plan jobs → Backs (visited s miss c plan) (after_visit miss c jobs)
  visit_backs miss c plan jobs chosen h =
      let loss = loss_of miss c in
      let owing = owing_of c jobs (choice_owed s (cursor_of plan.visits) (map (owed_list s) jobs) c (sym (choice_seen plan jobs h) ∙ chosen)) in
      let less = some_less loss c jobs h.rest owing in
      let same : total_of total (after_visit miss c jobs) ≡ total_of total jobs = totals_after Midway s laws left total measured (rode loss c) jobs in
      let bound = h.bound in
      record {
        seen = all_seen loss c jobs h.rest ∙ ap (map (ridden s loss c)) h.seen;
        rest = stages_after IsAtRest IsAtRest (rode loss c) (rode_rests loss c) jobs h.rest;
        numbers = numbered_after (rode loss c) 0 jobs h.numbers;
        count = ap (λ (n : ℕ). n + jobs_in (drop plan.entries_in s.script)) (length_map (at_stage (rode loss c)) jobs) ∙ h.count;
        bound = omega (arith, less, same, bound);
      }

  visited_backed : (miss : Miss) (o : Option ℕ) (plan : Plan) → plan_choice s plan ≡ o → Backed plan → Backed (visited_at s miss o plan)
  visited_backed miss None plan chosen h = h
  visited_backed miss (Some c) plan chosen h = record { jobs = after_visit miss c h.jobs; backs = visit_backs miss c plan h.jobs chosen h.backs }

  begins_backed : Backed plan_beginning
  begins_backed = record { jobs = []; backs = record { seen = refl; rest = tt; numbers = tt; count = omega arith; bound = omega arith } }

  pub plan_backed : (misses : List Miss) → Backed (plan_after s misses)
  unfolding plan_after next_plan
  plan_backed [] = begins_backed
  plan_backed (miss ∷ misses) =
      let before = all_in s (plan_after s misses) in
      visited_backed miss (plan_choice s before) before refl (all_in_backed (plan_after s misses) (plan_backed misses))

  pub plan_of_backed : (misses : List Miss) → Backed (plan_of s misses)
  plan_of_backed misses = all_in_backed (plan_after s misses) (plan_backed misses)

  -- ---- the end

  drop_all : (lines : List Line) (n : ℕ) → length lines ≤ n → drop n lines ≡ []
  drop_all [] zero h = refl
  drop_all [] (suc n) h = refl
  drop_all (line ∷ lines) zero h = absurd (omega arith)
  drop_all (line ∷ lines) (suc n) h = drop_all lines n (omega arith)

  none_past : (lines : List Line) (n : ℕ) → length lines ≤ n → slice_get lines n ≡ None
  none_past [] n h = refl
  none_past (line ∷ lines) zero h = absurd (omega arith)
  none_past (line ∷ lines) (suc n) h = none_past lines n (omega arith)

  goes_free : (visits : ℕ) (line : Line) → allows visits true line ≡ true
  goes_free visits (Update batch) = refl
  goes_free visits (Wait k) = or_more (leb k visits) true refl
  goes_free visits (JobLine name spec own) = refl

  -- where nobody is there in the end, no entry was held back
  all_entered : (lines : List Line) (plan : Plan) → none_there (all_in_of s lines plan).jobs ≡ true → (all_in_of s lines plan).entries_in ≡ plan.entries_in + length lines
  unfolding all_in_of
  all_entered [] plan none = omega arith
  all_entered (line ∷ lines) plan none =
      by_test (allows (length plan.visits) (none_there plan.jobs) line)
      (λ t. allows (length plan.visits) (none_there plan.jobs) line ≡ t → none_there (cond t (all_in_of s lines (entered s line plan)) plan).jobs ≡ true
      → (cond t (all_in_of s lines (entered s line plan)) plan).entries_in ≡ plan.entries_in + suc (length lines))
      (λ _ _ g. let rest = all_entered lines (entered s line plan) g in omega (arith, rest))
      (λ _ e g. absurd (true≢false (sym (goes_free (length plan.visits) line) ∙ ap (λ (b : Bool). allows (length plan.visits) b line) (sym g) ∙ e)))
      refl none

  over_then : (plan : Plan) → none_there (all_in s plan).jobs ≡ true → IsOver s (all_in s plan)
  over_then plan none =
      let all = all_entered (drop plan.entries_in s.script) plan none in
      let lengths = length-drop plan.entries_in s.script in
      let past : length s.script ≤ (all_in s plan).entries_in = omega (arith, all, lengths) in
      record {
        entries = none_past s.script (all_in s plan).entries_in past;
        jobs = none;
        owed = no_choice s (cursor_of (all_in s plan).visits) (map (planned_owed_list s) (all_in s plan).jobs) (all_gone s (all_in s plan).jobs none);
      }

  pub has_ended : (plan : Plan) → IsOver s plan → HasEnded s plan
  unfolding all_in_of
  has_ended plan over = record { whole = ap (λ (lines : List Line). all_in_of s lines plan) (none_next Midway s laws s.script plan.entries_in over.entries); gone = over.jobs }

  -- no job runs where nothing is left
  nothing_left : (jobs : List (Job State)) → AllStages IsAtRest jobs → Left jobs ≡ 0 → none_runs jobs ≡ true
  nothing_left [] h none = refl
  nothing_left (job ∷ jobs) h none = at jobs job.number job.stage (nothing_left jobs h.1) h.0 none
    where
      at : (js : List (Job State)) (n : ℕ) (st : Stage State) → (Left js ≡ 0 → none_runs js ≡ true) → IsAtRest n st → left_in n st + Left js ≡ 0 → (not (is_running st) && none_runs js) ≡ true
      at js n (Runs e) rest g r = let some = measured.passes n g.1.chunk e g.0 g.1.owed in absurd (omega arith)
      at js n (Waits e) rest g r = absurd g
      at js n (Works e) rest g r = absurd g
      at js n (Over o) rest g r = rest (omega arith)

module _ {State : Type 0} (Midway : ℕ → Entry State → Type 0) (s : Setup State) (laws : EntryLaws s Midway) (left : ℕ → Entry State → ℕ) (total : ℕ → ℕ) (measured : Measured s Midway left total)
    (picked : (blocks block : ℕ) (rows : List (List Bool)) → block < blocks → 0 < rows_with rows block → IsSome (pick_of blocks rows))
    (needed : (blocks block : ℕ) (rows : List (List Bool)) → pick_of blocks rows ≡ Some block → 0 < rows_with rows block)
    (few : (jobs : List (Job State)) → Numbered 0 jobs → length jobs ≤ jobs_in s.script → total_of total jobs ≤ s.most) where
  -- where no chunk is chosen no job is there
  nobody_there : (plan : Plan) → Backed Midway s laws left total measured plan → plan_choice s plan ≡ None → none_there plan.jobs ≡ true
  nobody_there plan h none =
      ap (λ (js : List Planned). none_there js) (sym h.backs.seen) ∙ none_seen Midway s laws h.jobs
      ∙ by_test (none_runs h.jobs) (λ t. none_runs h.jobs ≡ t → none_runs h.jobs ≡ true) (λ _ e. e) (λ _ e. absurd (impossible e)) refl
    where
      impossible : none_runs h.jobs ≡ false → ⊥
      impossible some =
          let owing = some_owing Midway s laws left total measured h.jobs h.backs.rest some in
          let c = owing.0 in
          let owed = map (owed_list s) h.jobs in
          let within : (d : ℕ) → owed_by_any owed d ≡ true → d < s.chunks = λ d e. owing_chunk Midway s laws left total measured d h.jobs h.backs.rest (owing_of Midway s laws left total measured d h.jobs e) in
          let low = owing_chunk Midway s laws left total measured c h.jobs h.backs.rest owing.1 in
          some_choice s picked needed (cursor_of plan.visits) owed c within (laws.chunk_in_block c low) (of_owing Midway s laws left total measured c h.jobs low owing.1)
          (sym (choice_seen Midway s laws left total measured plan h.jobs h.backs) ∙ none)

  stays_over : (more misses : List Miss) → IsOver s (plan_of s misses) → plan_of s (more ++ misses) ≡ plan_of s misses
  stays_over more misses over = ended_stays s more misses (plan_of s misses) (has_ended Midway s laws left total measured (plan_of s misses) over) refl

  -- each visit is made, or the plan is over
  over_or_made : (misses : List Miss) → IsOver s (plan_of s misses) ⊎ (length (plan_after s misses).visits ≡ length misses)
  unfolding plan_after next_plan
  over_or_made [] = inr refl
  over_or_made (miss ∷ misses) =
      ⊎_elim
      (λ over. inl (subst (IsOver s) (sym (stays_over (miss ∷ []) misses over)) over))
      (λ same. at (plan_choice s before) refl same)
      (over_or_made misses)
    where
      before : Plan
      before = plan_of s misses

      at : (o : Option ℕ) → plan_choice s (plan_of s misses) ≡ o → length (plan_after s misses).visits ≡ length misses
          → IsOver s (plan_of s (miss ∷ misses)) ⊎ (length (visited_at s miss o (plan_of s misses)).visits ≡ suc (length misses))
      at None e same = inl (subst (IsOver s) (sym (stays_over (miss ∷ []) misses over)) over)
        where
          over : IsOver s (plan_of s misses)
          over = over_then Midway s laws left total measured (plan_after s misses) (nobody_there (plan_of s misses) (plan_of_backed Midway s laws left total measured misses) e)
      at (Some c) e same = inr (ap suc (ap length (all_in-visits s (plan_after s misses)) ∙ same))

  -- no plan has more visits than the script can have
  pub most_visits_of : (misses : List Miss) → length (plan_of s misses).visits ≤ s.most
  most_visits_of misses =
      let backed = plan_of_backed Midway s laws left total measured misses in
      let bound = backed.backs.bound in
      let count = backed.backs.count in
      let most = few backed.jobs backed.backs.numbers (omega (arith, count)) in
      omega (arith, bound, most)

  -- with so many the plan is over
  pub over_at_most : (misses : List Miss) → length misses ≡ s.most → IsOver s (plan_of s misses)
  over_at_most misses all = ⊎_elim (λ over. over) (λ same. over_then Midway s laws left total measured (plan_after s misses) (none same)) (over_or_made misses)
    where
      none : length (plan_after s misses).visits ≡ length misses → none_there (plan_of s misses).jobs ≡ true
      none same =
          let backed = plan_of_backed Midway s laws left total measured misses in
          let bound = backed.backs.bound in
          let count = backed.backs.count in
          let most = few backed.jobs backed.backs.numbers (omega (arith, count)) in
          let visits = ap length (all_in-visits s (plan_after s misses)) in
          let nothing : left_of Midway s laws left total measured backed.jobs ≡ 0 = omega (arith, bound, most, visits, same, all) in
          ap (λ (js : List Planned). none_there js) (sym backed.backs.seen) ∙ none_seen Midway s laws backed.jobs ∙ nothing_left Midway s laws left total measured backed.jobs backed.backs.rest nothing
