-- What planned journals have of the plan of their misses: the visits, the outcomes, and in the end all of it.
use Rattle.std.proofs.Common.{◌≡◌, ℕ, Bool, true, false, cond, not, eqb, ltb, ◌&&◌, ◌||◌, List, [], ◌∷◌, ◌++◌, map, length, drop, sym, ap, ap₂, ◌∙◌, refl, subst, Option, Some, None, ⊎_elim, inl, inr, true≢false, append_assoc}
use Rattle.std.specs.Prelude.{slice_get, find}
use Rattle.std.specs.List.{AllByRecursion, filter}
use Rattle.std.proofs.lemmas.Bool.{and_parts}
use Rattle.gm_base.specs.declared.copies.Key.{Key}
use Rattle.gm_jobs.specs.declared.script.Line.{Line}
use Rattle.gm_jobs.specs.declared.script.Line.TheVariants.{Update, Wait, Job as JobLine}
use Rattle.gm_events.specs.declared.event.Event.{Event}
use Rattle.gm_priority.specs.Priority.{pick_of}
use Rattle.gm_machine.specs.Setups.{Entry, Setup, EntryLaws}
use Rattle.gm_machine.specs.Machine.{Ending, Stage, Runs, Waits, Works, Over, Job, Miss, Ridden, Scene, is_open, scene_of}
use Rattle.gm_machine.specs.Plans.{choice, numbers_to, is_in, owed_by_any, or_else, above_cursor, first_in, row_of, allows, none_runs, IsPlanned, Place, Stands, Gone, Planned, Plan, is_there, planned_with, none_there, entered, all_in_of, all_in, is_planned_owing, planned_owed_list, loss_of, ridden, plan_choice, visited_at, next_plan, plan_after, plan_of, misses_by_visit}
use Rattle.gm_machine.specs.Promises.{AllStages, seen, seen_plan, EndsWith, gone, Has, IsToldBy}
use Rattle.gm_machine.proofs.Lists.{by_test, stages_weaker}
use Rattle.gm_machine.proofs.InVisits.{final}
use Rattle.gm_machine.proofs.Following.{Follows, follows, IsInVisit, made_plan, stay_all, none_seen}

module _ {State : Type 0} where
  -- ---- visits

  all_in_of-visits : (s : Setup State) (lines : List Line) (plan : Plan) → (all_in_of s lines plan).visits ≡ plan.visits
  unfolding all_in_of
  all_in_of-visits s [] plan = refl
  all_in_of-visits s (line ∷ lines) plan =
      let Goal : Bool → Type 0 = λ b. (cond b (all_in_of s lines (entered s line plan)) plan).visits ≡ plan.visits in
      let at : (b : Bool) → Goal b = elim [ true ↦ all_in_of-visits s lines (entered s line plan) | false ↦ refl ] in
      at (allows (length plan.visits) (none_there plan.jobs) line)

  pub all_in-visits : (s : Setup State) (plan : Plan) → (all_in s plan).visits ≡ plan.visits
  all_in-visits s plan = all_in_of-visits s (drop plan.entries_in s.script) plan

front : (v : Ridden) (xs ys : List Ridden) → xs ≡ ys → EndsWith (v ∷ xs) ys
front v xs ys e = (v ∷ [], ap (λ (zs : List Ridden). v ∷ zs) e)

module _ {State : Type 0} where
  visited_at-visits : (s : Setup State) (miss : Miss) (o : Option ℕ) (plan : Plan) (ys : List Ridden) → plan.visits ≡ ys → EndsWith (visited_at s miss o plan).visits ys
  visited_at-visits s miss None plan ys e = ([], e)
  visited_at-visits s miss (Some c) plan ys e = front _ plan.visits ys e

  next-visits : (s : Setup State) (miss : Miss) (plan : Plan) → EndsWith (next_plan s miss plan).visits plan.visits
  unfolding next_plan
  next-visits s miss plan = visited_at-visits s miss (plan_choice s (all_in s plan)) (all_in s plan) plan.visits (all_in-visits s plan)

ends_along : (xs ys zs : List Ridden) → EndsWith zs ys → EndsWith ys xs → EndsWith zs xs
ends_along xs ys zs a b = (a.0 ++ b.0, a.1 ∙ ap (λ (ws : List Ridden). a.0 ++ ws) b.1 ∙ sym (append_assoc a.0 b.0 xs))

module _ {State : Type 0} where
  pub plan_goes_on : (s : Setup State) (more misses : List Miss) → EndsWith (plan_after s (more ++ misses)).visits (plan_after s misses).visits
  unfolding plan_after
  plan_goes_on s [] misses = ([], refl)
  plan_goes_on s (miss ∷ more) misses =
      ends_along (plan_after s misses).visits (plan_after s (more ++ misses)).visits (next_plan s miss (plan_after s (more ++ misses))).visits
      (next-visits s miss (plan_after s (more ++ misses))) (plan_goes_on s more misses)

-- ---- outcomes stay

has_more : (p : Planned) (jobs others : List Planned) → Has p jobs → Has p (jobs ++ others)
has_more p [] others h = absurd h
has_more p (job ∷ jobs) others h = ⊎_elim (λ here. inl here) (λ there. inr (has_more p jobs others there)) h

has_map : (f : Planned → Planned) (p : Planned) → f p ≡ p → (jobs : List Planned) → Has p jobs → Has p (map f jobs)
has_map f p fixed [] h = absurd h
has_map f p fixed (job ∷ jobs) h = ⊎_elim (λ here. inl (ap f here ∙ fixed)) (λ there. inr (has_map f p fixed jobs there)) h

module _ {State : Type 0} where
  entered_has : (s : Setup State) (p : Planned) (line : Line) (jobs : List Planned) → Has p jobs → Has p (planned_with s line jobs)
  entered_has s p (Update batch) jobs h = h
  entered_has s p (Wait k) jobs h = h
  entered_has s p (JobLine name spec own) jobs h = has_more p jobs _ h

  all_in_of_has : (s : Setup State) (p : Planned) (lines : List Line) (plan : Plan) → Has p plan.jobs → Has p (all_in_of s lines plan).jobs
  unfolding all_in_of
  all_in_of_has s p [] plan h = h
  all_in_of_has s p (line ∷ lines) plan h =
      let Goal : Bool → Type 0 = λ b. Has p (cond b (all_in_of s lines (entered s line plan)) plan).jobs in
      let at : (b : Bool) → Goal b = elim [ true ↦ all_in_of_has s p lines (entered s line plan) (entered_has s p line plan.jobs h) | false ↦ h ] in
      at (allows (length plan.visits) (none_there plan.jobs) line)

  all_in_has : (s : Setup State) (p : Planned) (plan : Plan) → Has p plan.jobs → Has p (all_in s plan).jobs
  all_in_has s p plan h = all_in_of_has s p (drop plan.entries_in s.script) plan h

  visited_at_has : (s : Setup State) (n : ℕ) (end : Ending) (miss : Miss) (o : Option ℕ) (plan : Plan) → Has (gone n end) plan.jobs → Has (gone n end) (visited_at s miss o plan).jobs
  visited_at_has s n end miss None plan h = h
  visited_at_has s n end miss (Some c) plan h = has_map (ridden s (loss_of miss c) c) (gone n end) refl plan.jobs h

  pub outcomes_stay : (s : Setup State) (n : ℕ) (end : Ending) (more misses : List Miss) → Has (gone n end) (plan_of s misses).jobs → Has (gone n end) (plan_of s (more ++ misses)).jobs
  unfolding plan_after next_plan
  outcomes_stay s n end [] misses h = h
  outcomes_stay s n end (miss ∷ more) misses h =
      let before = plan_after s (more ++ misses) in
      let now = outcomes_stay s n end more misses h in
      all_in_has s (gone n end) (next_plan s miss before) (visited_at_has s n end miss (plan_choice s (all_in s before)) (all_in s before) now)

-- ---- nothing owed, no visit

find_none : (test : ℕ → Bool) → ((c : ℕ) → test c ≡ false) → (xs : List ℕ) → find test xs ≡ None
find_none test never [] = refl
find_none test never (x ∷ xs) = rw (never x) (find_none test never xs)

and_false : (a b : Bool) → b ≡ false → (a && b) ≡ false
and_false true b h = h
and_false false b h = refl

abbrev AllEmpty : List (List ℕ) → Type 0
AllEmpty owed = AllByRecursion (λ xs. xs ≡ []) owed

none_owed : (owed : List (List ℕ)) → AllEmpty owed → (c : ℕ) → owed_by_any owed c ≡ false
none_owed [] h c = refl
none_owed (xs ∷ owed) h c = ap (λ (ys : List ℕ). is_in ys c || owed_by_any owed c) h.0 ∙ none_owed owed h.1 c

module _ {State : Type 0} where
  pub no_choice : (s : Setup State) (cursor : Option ℕ) (owed : List (List ℕ)) → AllEmpty owed → choice s cursor owed ≡ None
  unfolding choice
  no_choice s cursor owed h =
      let none = none_owed owed h in
      let first : (o : Option ℕ) → above_cursor s o owed ≡ None = elim [
        | None ↦ refl
        | Some d ↦ find_none (λ c. ltb d c && eqb (s.block_of c) (s.block_of d) && owed_by_any owed c) (λ c. and_false (ltb d c && eqb (s.block_of c) (s.block_of d)) (owed_by_any owed c) (none c)) (numbers_to s.chunks)
      ] in
      let second : (o : Option ℕ) → first_in s o owed ≡ None = elim [
        | None ↦ refl
        | Some block ↦ find_none (λ c. eqb (s.block_of c) block && owed_by_any owed c) (λ c. and_false (eqb (s.block_of c) block) (owed_by_any owed c) (none c)) (numbers_to s.chunks)
      ] in
      ap₂ or_else (first cursor) (second (pick_of s.blocks (map (row_of s) owed)))

filter_none : (xs : List ℕ) → filter (λ c. false) xs ≡ []
filter_none [] = refl
filter_none (x ∷ xs) = filter_none xs

module _ {State : Type 0} where
  pub all_gone : (s : Setup State) (jobs : List Planned) → none_there jobs ≡ true → AllEmpty (map (planned_owed_list s) jobs)
  all_gone s [] h = tt
  all_gone s (job ∷ jobs) h =
      let parts = and_parts (not (is_there job.place)) (none_there jobs) h in
      let at : (p : Place) → not (is_there p) ≡ true → filter (λ c. is_planned_owing s c (record { number = job.number; place = p })) (numbers_to s.chunks) ≡ [] =
      elim [ Stands st ↦ λ g. absurd (true≢false (sym g)) | Gone o ↦ λ g. filter_none (numbers_to s.chunks) ] in
      (at job.place parts.0, all_gone s jobs parts.1)

  -- a plan that has come to its end goes on as it is
  pub record HasEnded (s : Setup State) (plan : Plan) : Type 0 where
    pub whole : all_in s plan ≡ plan
    pub gone : none_there plan.jobs ≡ true

  next_ended : (s : Setup State) (miss : Miss) (plan : Plan) → none_there (all_in s plan).jobs ≡ true → next_plan s miss plan ≡ all_in s plan
  unfolding next_plan
  next_ended s miss plan h =
      ap (λ (o : Option ℕ). visited_at s miss o (all_in s plan)) (no_choice s _ (map (planned_owed_list s) (all_in s plan).jobs) (all_gone s (all_in s plan).jobs h))

  pub ended_stays : (s : Setup State) (more misses : List Miss) (last : Plan) → HasEnded s last → plan_of s misses ≡ last → plan_of s (more ++ misses) ≡ last
  unfolding plan_after
  ended_stays s [] misses last h e = e
  ended_stays s (miss ∷ more) misses last h e =
      let before = plan_after s (more ++ misses) in
      let now : all_in s before ≡ last = ended_stays s more misses last h e in
      let none : none_there (all_in s before).jobs ≡ true = ap (λ (p : Plan). none_there p.jobs) now ∙ h.gone in
      ap (all_in s) (next_ended s miss before none ∙ now) ∙ h.whole

  -- ---- planned journals

  told_weaker : (jobs others : List Planned) → ((p : Planned) → Has p jobs → Has p others) → (n : ℕ) (st : Stage State) → IsToldBy jobs n st → IsToldBy others n st
  told_weaker jobs others more n (Runs e) h = tt
  told_weaker jobs others more n (Waits e) h = tt
  told_weaker jobs others more n (Works e) h = tt
  told_weaker jobs others more n (Over o) h = more (gone n o) h

  told_by_map : (f : Job State → Planned) → ((n : ℕ) (o : Ending) → f (record { number = n; stage = Over o }) ≡ gone n o) → (jobs : List (Job State)) → AllStages (IsToldBy (map f jobs)) jobs
  told_by_map f at [] = tt
  told_by_map f at (job ∷ jobs) =
      let one : (n : ℕ) (st : Stage State) → IsToldBy (f (record { number = n; stage = st }) ∷ map f jobs) n st =
      λ n. elim [ Runs e ↦ tt | Waits e ↦ tt | Works e ↦ tt | Over o ↦ inl (at n o) ] in
      (one job.number job.stage, stages_weaker (IsToldBy (map f jobs)) (IsToldBy (f job ∷ map f jobs)) (told_weaker (map f jobs) (f job ∷ map f jobs) (λ p h. inr h)) jobs (told_by_map f at jobs))

module _ {State : Type 0} (Midway : ℕ → Entry State → Type 0) (s : Setup State) (laws : EntryLaws s Midway) where
  Fol : Scene State → Type 0
  Fol scene = Follows Midway s laws scene

  in_visits : (now : ℕ) (visits : List Ridden) (loaded : List Key) (jobs : List (Job State)) → IsInVisit Midway s laws now visits loaded jobs → visits ≡ (plan_after s (misses_by_visit visits)).visits
  in_visits now [] loaded jobs h = absurd h
  in_visits now (v ∷ vs) loaded jobs h = sym (ap (λ (p : Plan). p.visits) (made_plan Midway s laws now v vs loaded jobs h))

  visits_now : (scene : Scene State) → Fol scene → scene.visits ≡ (plan_after s (misses_by_visit scene.visits)).visits
  unfolding Fol
  visits_now scene h = by_test (is_open scene) (λ b. scene.visits ≡ (plan_after s (misses_by_visit scene.visits)).visits)
      (λ opened. in_visits scene.entries_in scene.visits scene.loaded scene.jobs (h.inside opened))
      (λ closed. sym (all_in-visits s (seen_plan scene)) ∙ ap (λ (p : Plan). p.visits) (h.outside closed) ∙ all_in-visits s (plan_after s (misses_by_visit scene.visits)))

  -- the visits, with their riders and keys, are those that the plan of the misses begins with, however it goes on
  pub visits_are_planned : (journal : List Event) → IsPlanned s journal → (more : List Miss)
      → EndsWith (plan_after s (more ++ misses_by_visit (scene_of s journal).visits)).visits (scene_of s journal).visits
  unfolding Fol
  visits_are_planned journal ok more =
      let scene = scene_of s journal in
      let now = visits_now scene (follows Midway s laws journal ok) in
      subst (EndsWith (plan_after s (more ++ misses_by_visit scene.visits)).visits) (sym now) (plan_goes_on s more (misses_by_visit scene.visits))

  in_told : (now : ℕ) (visits : List Ridden) (loaded : List Key) (jobs : List (Job State)) → IsInVisit Midway s laws now visits loaded jobs
      → AllStages (IsToldBy (plan_after s (misses_by_visit visits)).jobs) jobs
  in_told now [] loaded jobs h = absurd h
  in_told now (v ∷ vs) loaded jobs h =
      let loss = loss_of v.miss v.chunk in
      let made = sym (made_plan Midway s laws now v vs loaded jobs h) in
      subst (λ (p : Plan). AllStages (IsToldBy p.jobs) jobs) made (told_by_map (final s loss v.chunk) (λ n o. refl) jobs)

  told_now : (scene : Scene State) → Fol scene → AllStages (IsToldBy (plan_of s (misses_by_visit scene.visits)).jobs) scene.jobs
  unfolding Fol
  told_now scene h =
      let plan = plan_after s (misses_by_visit scene.visits) in
      by_test (is_open scene) (λ b. AllStages (IsToldBy (plan_of s (misses_by_visit scene.visits)).jobs) scene.jobs)
      (λ opened. stages_weaker (IsToldBy plan.jobs) (IsToldBy (all_in s plan).jobs) (told_weaker plan.jobs (all_in s plan).jobs (λ p g. all_in_has s p plan g)) scene.jobs
      (in_told scene.entries_in scene.visits scene.loaded scene.jobs (h.inside opened)))
      (λ closed. subst (λ (p : Plan). AllStages (IsToldBy p.jobs) scene.jobs) (h.outside closed)
      (stages_weaker (IsToldBy (map seen scene.jobs)) (IsToldBy (all_in s (seen_plan scene)).jobs)
      (told_weaker (map seen scene.jobs) (all_in s (seen_plan scene)).jobs (λ p g. all_in_has s p (seen_plan scene) g)) scene.jobs (told_by_map seen (λ n o. refl) scene.jobs)))

  told_later : (more misses : List Miss) (n : ℕ) (st : Stage State) → IsToldBy (plan_of s misses).jobs n st → IsToldBy (plan_of s (more ++ misses)).jobs n st
  told_later more misses n (Runs e) h = tt
  told_later more misses n (Waits e) h = tt
  told_later more misses n (Works e) h = tt
  told_later more misses n (Over o) h = outcomes_stay s n o more misses h

  -- each job that has ended has its outcome there
  pub outcomes_are_planned : (journal : List Event) → IsPlanned s journal → (more : List Miss)
      → AllStages (IsToldBy (plan_of s (more ++ misses_by_visit (scene_of s journal).visits)).jobs) (scene_of s journal).jobs
  unfolding Fol
  outcomes_are_planned journal ok more =
      let scene = scene_of s journal in
      let misses = misses_by_visit scene.visits in
      stages_weaker (IsToldBy (plan_of s misses).jobs) (IsToldBy (plan_of s (more ++ misses)).jobs) (told_later more misses) scene.jobs (told_now scene (follows Midway s laws journal ok))

  -- where every entry is in, no visit is open and no job runs, the scene is all of the plan
  pub end_is_planned : (journal : List Event) → IsPlanned s journal → slice_get s.script (scene_of s journal).entries_in ≡ None → is_open (scene_of s journal) ≡ false
      → none_runs (scene_of s journal).jobs ≡ true → (more : List Miss) → plan_of s (more ++ misses_by_visit (scene_of s journal).visits) ≡ seen_plan (scene_of s journal)
  end_is_planned journal ok all_are_in closed none more =
      let scene = scene_of s journal in
      let misses = misses_by_visit scene.visits in
      let stays : all_in s (seen_plan scene) ≡ seen_plan scene = stay_all Midway s laws scene.entries_in scene.visits scene.jobs None all_are_in refl in
      let ended : HasEnded s (seen_plan scene) = record { whole = stays; gone = none_seen Midway s laws scene.jobs ∙ none } in
      ended_stays s more misses (seen_plan scene) ended (sym ((follows Midway s laws journal ok).outside closed) ∙ stays)
