-- What planned journals have of the schedule of their misses, and that each schedule is whole.
use Rattle.std.proofs.Common.{◌≡◌, ℕ, zero, suc, ◌+◌, ◌<◌, ◌≤◌, Bool, true, false, cond, not, eqb, ◌&&◌, List, [], ◌∷◌, ◌++◌, map, reverse, length, sym, ap, ◌∙◌, refl, subst, Option, Some, None, ◌⊎◌, inl, inr, ⊎_elim, true≢false, arith}
use Rattle.std.specs.Prelude.{slice_get, drop, IsSome}
use Rattle.std.specs.List.{AllByRecursion, cons_option}
use Rattle.std.proofs.lemmas.Bool.{and_parts, eqb-true, ne_eqb}
use Rattle.std.proofs.lemmas.List.{reverse-append}
use Rattle.gm_base.specs.declared.copies.Key.{Key}
use Rattle.gm_jobs.specs.declared.script.Line.{Line}
use Rattle.gm_events.specs.declared.event.Event.{Event}
use Rattle.gm_events.specs.declared.event.LoadCause.{LoadCause}
use Rattle.gm_events.specs.Journals.{tally_of}
use Rattle.gm_priority.specs.Priority.{rows_with, pick_of}
use Rattle.gm_machine.specs.Setups.{Entry, Setup, EntryLaws, jobs_in}
use Rattle.gm_machine.specs.Machine.{Ending, Own, ReadFailed, ChangedFound, NoMemory, Stage, Runs, Waits, Works, Over, Job, Miss, no_miss, Ridden, Scene, beginning, chunk_now, may, done, is_legal_from, scene_of, IsLegal}
use Rattle.gm_machine.specs.Plans.{fits_plan, is_planned_from, IsPlanned, Place, Stands, Gone, Planned, Plan, is_there, none_there, plan_after, plan_of, misses_by_visit}
use Rattle.gm_machine.specs.Promises.{AllStages, Among, EndsWith, seen, gone, Has, IsToldBy, IsAtEnd, IsAloneOrMissed, EndsRider, HasVisitsOf, HasOutcomeIn, HasOutcomesOf, HasOnlyVisitsOf}
use Rattle.gm_machine.specs.Schedules.{Missing, MissAt, miss_in, misses_to, whole_plan, visit_at, keys_ridden, names, can_miss, Schedule, ending_at, endings, schedule_in, schedule_if, schedule_of, IsOver, missing_by, missed_at, misses_in, misses_of, AreFrom, tally_by}
use Rattle.gm_machine.proofs.Lists.{by_test, eqb_refl, stages_weaker, stages_both, Numbered}
use Rattle.gm_machine.proofs.Soundness.{IsFine, IsFineEnding, sound}
use Rattle.gm_machine.proofs.Bounds.{Measured, total_of, visits_bounded}
use Rattle.gm_machine.proofs.Following.{none_next}
use Rattle.gm_machine.proofs.Planning.{all_in-visits, visits_are_planned, outcomes_are_planned, end_is_planned}
use Rattle.gm_machine.proofs.Missed.{FitsBy, FitsMiss, IsEndedIn, IsOwnOrMissed, knows_misses}
use Rattle.gm_machine.proofs.TallyLaws.{tally_closed, tally_reversed}
use Rattle.gm_machine.proofs.Ends.{plan_of_backed, over_at_most}

-- ---- misses by number

pub misses_length : (misses : List MissAt) (visits : ℕ) → length (misses_to misses visits) ≡ visits
unfolding misses_to
misses_length misses zero = refl
misses_length misses (suc visits) = ap suc (misses_length misses visits)

misses_split : (misses : List MissAt) (all few : ℕ) → few ≤ all → (more : List Miss) × (misses_to misses all ≡ more ++ misses_to misses few)
unfolding misses_to
misses_split misses zero few low =
    let none : 0 ≡ few = omega arith in
    ([], ap (misses_to misses) none)
misses_split misses (suc all) few low =
    by_test (eqb (suc all) few) (λ t. eqb (suc all) few ≡ t → (more : List Miss) × (misses_to misses (suc all) ≡ more ++ misses_to misses few))
    (λ _ same. ([], ap (misses_to misses) (eqb-true (suc all) few same)))
    (λ _ other.
    let rest = misses_split misses all few (below all few low other) in
    (miss_in misses all ∷ rest.0, ap (λ (ms : List Miss). miss_in misses all ∷ ms) rest.1)) refl
  where
    below : (a b : ℕ) → b ≤ suc a → eqb (suc a) b ≡ false → b ≤ a
    below a b low other = grind arith

misses_agree : (ms others : List MissAt) (visits : ℕ) → ((k : ℕ) → k < visits → miss_in ms k ≡ miss_in others k) → misses_to ms visits ≡ misses_to others visits
unfolding misses_to
misses_agree ms others zero h = refl
misses_agree ms others (suc visits) h =
    ap (λ (m : Miss). m ∷ misses_to ms visits) (h visits (omega arith)) ∙ ap (λ (rest : List Miss). miss_in others visits ∷ rest) (misses_agree ms others visits (λ k low. h k (omega arith)))

-- the misses of so many visits name none from then on
unnamed : (vs : List Ridden) (n : ℕ) → length vs ≤ n → (miss_in (misses_in vs) n ≡ no_miss) × (names (misses_in vs) n ≡ false)
unnamed [] n low = (refl, refl)
unnamed (v ∷ vs) n low = at (missing_by v.miss.failed v.miss.lost) (unnamed vs n (omega arith)) (ne_eqb (length vs) n (λ e. omega arith))
  where
    at : (o : Option Missing) → (miss_in (misses_in vs) n ≡ no_miss) × (names (misses_in vs) n ≡ false) → eqb (length vs) n ≡ false
        → (miss_in (missed_at (length vs) o (misses_in vs)) n ≡ no_miss) × (names (missed_at (length vs) o (misses_in vs)) n ≡ false)
    at None rest other = rest
    at (Some missing) rest other = rw other rest

miss_now : (v : Ridden) (vs : List Ridden) → FitsMiss v → miss_in (misses_in (v ∷ vs)) (length vs) ≡ v.miss
miss_now v vs fits = at v.miss.failed v.miss.lost fits
  where
    itself : eqb (length vs) (length vs) ≡ true
    itself = eqb_refl (length vs)

    at : (failed : Option LoadCause) (lost : List Key) → FitsBy (keys_ridden v) failed lost → miss_in (missed_at (length vs) (missing_by failed lost) (misses_in vs)) (length vs) ≡ record { lost = lost; failed = failed }
    at None [] h = (unnamed vs (length vs) (omega arith)).0
    at None (k ∷ lost) h = rw itself refl
    at (Some cause) [] h = rw itself refl
    at (Some cause) (k ∷ lost) h = absurd (true≢false (sym h))

miss_before : (v : Ridden) (vs : List Ridden) (n : ℕ) → n < length vs → miss_in (misses_in (v ∷ vs)) n ≡ miss_in (misses_in vs) n
miss_before v vs n low = at (missing_by v.miss.failed v.miss.lost) (ne_eqb (length vs) n (λ e. omega arith))
  where
    at : (o : Option Missing) → eqb (length vs) n ≡ false → miss_in (missed_at (length vs) o (misses_in vs)) n ≡ miss_in (misses_in vs) n
    at None other = refl
    at (Some missing) other = rw other refl

own_misses : (vs : List Ridden) → AllByRecursion FitsMiss vs → misses_to (misses_in vs) (length vs) ≡ misses_by_visit vs
unfolding misses_to
own_misses [] h = refl
own_misses (v ∷ vs) h =
    ap (λ (m : Miss). m ∷ misses_to (misses_in (v ∷ vs)) (length vs)) (miss_now v vs h.0)
    ∙ ap (λ (ms : List Miss). v.miss ∷ ms) (misses_agree (misses_in (v ∷ vs)) (misses_in vs) (length vs) (λ k low. miss_before v vs k low) ∙ own_misses vs h.1)

-- what later visits miss
later_misses : (more misses : List MissAt) (n k : ℕ) → AreFrom n more → k < n → miss_in (more ++ misses) k ≡ miss_in misses k
later_misses [] misses n k h low = refl
later_misses (m ∷ more) misses n k h low =
    let from = h.0 in
    let other : eqb m.visit k ≡ false = ne_eqb m.visit k (λ e. omega (arith, from, e)) in
    rw other (later_misses more misses n k h.1 low)

-- ---- the visits of a plan by number

shorter : (ws vs : List Ridden) → length vs ≤ length (ws ++ vs)
shorter [] vs = omega arith
shorter (w ∷ ws) vs = let rest = shorter ws vs in omega arith

visit_before : (ws vs : List Ridden) (n : ℕ) → n < length vs → visit_at (ws ++ vs) n ≡ visit_at vs n
visit_before [] vs n low = refl
visit_before (w ∷ ws) vs n low =
    let more = shorter ws vs in
    let other : eqb (length (ws ++ vs)) n ≡ false = ne_eqb (length (ws ++ vs)) n (λ e. omega (arith, more, e)) in
    rw other (visit_before ws vs n low)

allowed_with : (all : List Ridden) (v : Ridden) (vs : List Ridden) (failed : Option LoadCause) (lost : List Key) → visit_at all (length vs) ≡ Some v → FitsBy (keys_ridden v) failed lost
    → can_miss all (misses_in vs) ≡ true → can_miss all (missed_at (length vs) (missing_by failed lost) (misses_in vs)) ≡ true
allowed_with all v vs None [] within fits more = more
allowed_with all v vs None (k ∷ lost) within fits more = let fresh = (unnamed vs (length vs) (omega arith)).1 in rw (within, fresh, more) (rw fits refl)
allowed_with all v vs (Some cause) [] within fits more = let fresh = (unnamed vs (length vs) (omega arith)).1 in rw (within, fresh, more) refl
allowed_with all v vs (Some cause) (k ∷ lost) within fits more = absurd (true≢false (sym fits))

own_allowed : (all vs : List Ridden) → AllByRecursion FitsMiss vs → ((n : ℕ) → n < length vs → visit_at all n ≡ visit_at vs n) → can_miss all (misses_in vs) ≡ true
own_allowed all [] h agree = refl
own_allowed all (v ∷ vs) h agree =
    let last : visit_at all (length vs) ≡ Some v = agree (length vs) (omega arith) ∙ ap (λ (b : Bool). cond b (Some v) (visit_at vs (length vs))) (eqb_refl (length vs)) in
    let before : (n : ℕ) → n < length vs → visit_at all n ≡ visit_at vs n =
    λ n low. agree n (omega arith) ∙ ap (λ (b : Bool). cond b (Some v) (visit_at vs n)) (ne_eqb (length vs) n (λ e. omega (arith, low, e))) in
    allowed_with all v vs v.miss.failed v.miss.lost last h.0 (own_allowed all vs h.1 before)

-- ---- the schedule of a plan

schedule_is : (misses : List MissAt) (plan : Plan) (schedule : Schedule) → schedule_if misses plan ≡ Some schedule → schedule_in plan ≡ schedule
schedule_is misses plan schedule h =
    by_test (can_miss plan.visits misses) (λ t. cond t (Some (schedule_in plan)) None ≡ Some schedule → schedule_in plan ≡ schedule) (λ _ e. cc) (λ _ e. cc) h

ending_there : (place : Place) → not (is_there place) ≡ true → (o : Ending) × (ending_at place ≡ Some o)
ending_there (Stands st) h = absurd (true≢false (sym h))
ending_there (Gone o) h = (o, refl)

ends_count : (jobs : List Planned) → none_there jobs ≡ true → length (endings jobs) ≡ length jobs
ends_count [] h = refl
ends_count (job ∷ jobs) h =
    let parts = and_parts (not (is_there job.place)) (none_there jobs) h in
    let end = ending_there job.place parts.0 in
    ap (λ (o : Option Ending). length (cons_option o (endings jobs))) end.1 ∙ ap suc (ends_count jobs parts.1)

planned_count : {State : Type 0} (jobs : List (Job State)) → length (map seen jobs) ≡ length jobs
planned_count [] = refl
planned_count (job ∷ jobs) = ap suc (planned_count jobs)

-- an outcome stands at its job's number
end_at : {State : Type 0} (m : ℕ) (jobs : List (Job State)) (n : ℕ) (o : Ending) → Numbered m jobs → none_there (map seen jobs) ≡ true → Has (gone n o) (map seen jobs)
    → (i : ℕ) × (n ≡ m + i) × (slice_get (endings (map seen jobs)) i ≡ Some o)
end_at m [] n o numbers none h = absurd h
end_at m (job ∷ jobs) n o numbers none h =
    let parts = and_parts (not (is_there (seen job).place)) (none_there (map seen jobs)) none in
    ⊎_elim
    (λ here.
    let number : job.number ≡ n = ap (λ (p : Planned). p.number) here in
    let place : ending_at (seen job).place ≡ Some o = ap (λ (p : Planned). ending_at p.place) here in
    let first = numbers.0 in
    (0, omega (arith, number, first), ap (λ (e : Option Ending). slice_get (cons_option e (endings (map seen jobs))) 0) place))
    (λ there.
    let rest = end_at (suc m) jobs n o numbers.1 parts.1 there in
    let end = ending_there (seen job).place parts.0 in
    let at = rest.1 in
    (suc rest.0, omega (arith, at), ap (λ (e : Option Ending). slice_get (cons_option e (endings (map seen jobs))) (suc rest.0)) end.1 ∙ rest.2))
    h

module _ {State : Type 0} (s : Setup State) where
  planned_legal : (journal : List Event) (scene : Scene State) → is_planned_from s scene journal ≡ true → is_legal_from s scene journal ≡ true
  unfolding is_planned_from is_legal_from
  planned_legal [] scene h = refl
  planned_legal (event ∷ journal) scene h =
      let parts = and_parts (may s scene event && fits_plan s scene event) (is_planned_from s (done s scene event) journal) h in
      let first = and_parts (may s scene event) (fits_plan s scene event) parts.0 in
      rw first.0 (planned_legal journal (done s scene event) parts.1)

  pub legal : (journal : List Event) → IsPlanned s journal → IsLegal s journal
  legal journal h = planned_legal journal beginning h

module _ {State : Type 0} (Midway : ℕ → Entry State → Type 0) (s : Setup State) (laws : EntryLaws s Midway) where
  missed_or_own : (visits : List Ridden) (n : ℕ) (o : Ending) → IsFineEnding Midway s laws n o → IsOwnOrMissed s visits n o → (o ≡ Own (s.lone n)) ⊎ Among (EndsRider n o) visits
  missed_or_own visits n (Own o) fine h = inl (ap Own fine)
  missed_or_own visits n (ReadFailed c) fine h = inr h
  missed_or_own visits n (ChangedFound c) fine h = inr h
  missed_or_own visits n NoMemory fine h = inr h

  alone_or_missed : (c : ℕ) (visits : List Ridden) (n : ℕ) (st : Stage State) → IsFine Midway s laws c n st × IsEndedIn s visits n st → IsAloneOrMissed s.lone visits n st
  alone_or_missed c visits n (Runs e) h = tt
  alone_or_missed c visits n (Waits e) h = tt
  alone_or_missed c visits n (Works e) h = tt
  alone_or_missed c visits n (Over o) h = missed_or_own visits n o h.0 h.1

  -- each job that ended otherwise than alone rode in a visit whose miss ended it
  pub ends_alone_or_missed : (journal : List Event) → IsLegal s journal → AllStages (IsAloneOrMissed s.lone (scene_of s journal).visits) (scene_of s journal).jobs
  ends_alone_or_missed journal ok =
      let scene = scene_of s journal in
      let c = chunk_now scene.visits in
      stages_weaker (λ n st. IsFine Midway s laws c n st × IsEndedIn s scene.visits n st) (IsAloneOrMissed s.lone scene.visits) (alone_or_missed c scene.visits) scene.jobs
      (stages_both (IsFine Midway s laws c) (IsEndedIn s scene.visits) scene.jobs (sound Midway s laws journal ok).jobs (knows_misses s journal ok).ended)

module _ {State : Type 0} (Midway : ℕ → Entry State → Type 0) (s : Setup State) (laws : EntryLaws s Midway) (left : ℕ → Entry State → ℕ) (total : ℕ → ℕ) (measured : Measured s Midway left total)
    (picked : (blocks block : ℕ) (rows : List (List Bool)) → block < blocks → 0 < rows_with rows block → IsSome (pick_of blocks rows))
    (needed : (blocks block : ℕ) (rows : List (List Bool)) → pick_of blocks rows ≡ Some block → 0 < rows_with rows block)
    (few : (jobs : List (Job State)) → Numbered 0 jobs → length jobs ≤ jobs_in s.script → total_of total jobs ≤ s.most) where
  -- ---- each schedule is whole

  pub whole_is_over : (misses : List MissAt) → IsOver s (whole_plan s misses)
  whole_is_over misses = over_at_most Midway s laws left total measured picked needed few (misses_to misses s.most) (misses_length misses s.most)

  -- ---- planned journals

  abbrev by_misses : List Event → List MissAt → List MissAt
  by_misses journal more = more ++ misses_of s journal

  -- the plan of the schedule is the plan of the journal's misses and of some more
  goes_on : (journal : List Event) → IsPlanned s journal → (more : List MissAt) → AreFrom (length (scene_of s journal).visits) more
      → (rest : List Miss) × (misses_to (by_misses journal more) s.most ≡ rest ++ misses_by_visit (scene_of s journal).visits)
  goes_on journal ok more from =
      let scene = scene_of s journal in
      let is_legal = legal s journal ok in
      let good = sound Midway s laws journal is_legal in
      let bound = visits_bounded Midway s laws left total measured journal is_legal in
      let count = good.count in
      let most = few scene.jobs good.numbers (omega (arith, count)) in
      let split = misses_split (by_misses journal more) s.most (length scene.visits) (omega (arith, bound, most)) in
      let own : misses_to (by_misses journal more) (length scene.visits) ≡ misses_by_visit scene.visits =
      misses_agree (by_misses journal more) (misses_of s journal) (length scene.visits) (λ k low. later_misses more (misses_of s journal) (length scene.visits) k from low)
      ∙ own_misses scene.visits (knows_misses s journal is_legal).fits in
      (split.0, split.1 ∙ ap (λ (ms : List Miss). split.0 ++ ms) own)

  -- the plan's visits end with those of the journal
  visits_before : (journal : List Event) → IsPlanned s journal → (more : List MissAt) → AreFrom (length (scene_of s journal).visits) more
      → EndsWith (whole_plan s (by_misses journal more)).visits (scene_of s journal).visits
  visits_before journal ok more from =
      let scene = scene_of s journal in
      let on = goes_on journal ok more from in
      let planned = visits_are_planned Midway s laws journal ok on.0 in
      (planned.0, ap (λ (ms : List Miss). (plan_of s ms).visits) on.1 ∙ all_in-visits s (plan_after s (on.0 ++ misses_by_visit scene.visits)) ∙ planned.1)

  -- the misses of a planned journal are allowed
  pub has_schedule : (journal : List Event) → IsPlanned s journal → IsSome (schedule_of s (misses_of s journal))
  unfolding schedule_of
  has_schedule journal ok =
      let scene = scene_of s journal in
      let all = (whole_plan s (misses_of s journal)).visits in
      let before = visits_before journal ok [] tt in
      let allowed : can_miss all (misses_of s journal) ≡ true = own_allowed all scene.visits (knows_misses s journal (legal s journal ok)).fits
      (λ n low. ap (λ (vs : List Ridden). visit_at vs n) before.1 ∙ visit_before before.0 scene.visits n low) in
      rw allowed refl

  abbrev scheduled : List Event → List MissAt → Schedule → Type 0
  scheduled journal more schedule = schedule_of s (by_misses journal more) ≡ Some schedule

  is_of_plan : (misses : List MissAt) (schedule : Schedule) → schedule_of s misses ≡ Some schedule → schedule_in (whole_plan s misses) ≡ schedule
  unfolding schedule_of
  is_of_plan misses schedule h = schedule_is misses (whole_plan s misses) schedule h

  pub has_visits : (journal : List Event) (more : List MissAt) (schedule : Schedule) → IsPlanned s journal → AreFrom (length (scene_of s journal).visits) more → scheduled journal more schedule
      → HasVisitsOf schedule (scene_of s journal)
  has_visits journal more schedule ok from is =
      let scene = scene_of s journal in
      let before = visits_before journal ok more from in
      (reverse before.0, ap (λ (t : Schedule). t.visits) (sym (is_of_plan (by_misses journal more) schedule is)) ∙ ap reverse before.1 ∙ reverse-append before.0 scene.visits)

  outcome_in : (misses : List Miss) → IsOver s (plan_of s misses) → (n : ℕ) (st : Stage State) → IsToldBy (plan_of s misses).jobs n st → HasOutcomeIn (endings (plan_of s misses).jobs) n st
  outcome_in misses over n (Runs e) h = tt
  outcome_in misses over n (Waits e) h = tt
  outcome_in misses over n (Works e) h = tt
  outcome_in misses over n (Over o) h =
      let backed = plan_of_backed Midway s laws left total measured misses in
      let same = backed.backs.seen in
      let none : none_there (map seen backed.jobs) ≡ true = ap (λ (js : List Planned). none_there js) same ∙ over.jobs in
      let has : Has (gone n o) (map seen backed.jobs) = subst (Has (gone n o)) (sym same) h in
      let end = end_at 0 backed.jobs n o backed.backs.numbers none has in
      let at = end.1 in
      let number : n ≡ end.0 = omega (arith, at) in
      ap (λ (js : List Planned). slice_get (endings js) n) (sym same) ∙ ap (slice_get (endings (map seen backed.jobs))) number ∙ end.2

  pub has_outcomes : (journal : List Event) (more : List MissAt) (schedule : Schedule) → IsPlanned s journal → AreFrom (length (scene_of s journal).visits) more → scheduled journal more schedule
      → HasOutcomesOf schedule (scene_of s journal)
  has_outcomes journal more schedule ok from is =
      let scene = scene_of s journal in
      let on = goes_on journal ok more from in
      let misses = misses_to (by_misses journal more) s.most in
      let told : AllStages (IsToldBy (plan_of s misses).jobs) scene.jobs = subst (λ (ms : List Miss). AllStages (IsToldBy (plan_of s ms).jobs) scene.jobs) (sym on.1) (outcomes_are_planned Midway s laws journal ok on.0) in
      subst (λ (t : Schedule). AllStages (HasOutcomeIn t.outcomes) scene.jobs) (is_of_plan (by_misses journal more) schedule is)
      (stages_weaker (IsToldBy (plan_of s misses).jobs) (HasOutcomeIn (endings (plan_of s misses).jobs)) (outcome_in misses (whole_is_over (by_misses journal more))) scene.jobs told)

  pub has_only_visits : (journal : List Event) (more : List MissAt) (schedule : Schedule) → IsPlanned s journal → AreFrom (length (scene_of s journal).visits) more → IsAtEnd s (scene_of s journal)
      → scheduled journal more schedule → HasOnlyVisitsOf schedule (scene_of s journal)
  has_only_visits journal more schedule ok from end is =
      let on = goes_on journal ok more from in
      let planned = end_is_planned Midway s laws journal ok end.entries end.visits end.jobs on.0 in
      ap (λ (t : Schedule). t.visits) (sym (is_of_plan (by_misses journal more) schedule is)) ∙ ap (λ (p : Plan). reverse p.visits) (ap (plan_of s) on.1 ∙ planned)

  -- each job has its outcome
  pub outcomes_of_all : (misses : List MissAt) (schedule : Schedule) → schedule_of s misses ≡ Some schedule → length schedule.outcomes ≡ jobs_in s.script
  outcomes_of_all misses schedule is =
      let over = whole_is_over misses in
      let plan = whole_plan s misses in
      let backed = plan_of_backed Midway s laws left total measured (misses_to misses s.most) in
      let none_left : drop plan.entries_in s.script ≡ [] = none_next Midway s laws s.script plan.entries_in over.entries in
      let count : length backed.jobs + 0 ≡ jobs_in s.script = ap (λ (ls : List Line). length backed.jobs + jobs_in ls) (sym none_left) ∙ backed.backs.count in
      let lengths : length (endings plan.jobs) ≡ length backed.jobs = ends_count plan.jobs over.jobs ∙ ap length (sym backed.backs.seen) ∙ planned_count backed.jobs in
      ap (λ (t : Schedule). length t.outcomes) (sym (is_of_plan misses schedule is)) ∙ omega (arith, lengths, count)

  -- the tally of a journal at its end is that of the schedule
  pub has_tally : (journal : List Event) (schedule : Schedule) → IsPlanned s journal → IsAtEnd s (scene_of s journal) → schedule_of s (misses_of s journal) ≡ Some schedule → tally_of journal ≡ tally_by schedule.visits
  has_tally journal schedule ok end is =
      let is_legal = legal s journal ok in
      let visits = has_only_visits journal [] schedule ok tt end is in
      tally_closed Midway s laws journal is_legal (sound Midway s laws journal is_legal) end.visits
      ∙ sym (tally_reversed Midway s laws (scene_of s journal).visits) ∙ ap tally_by (sym visits)
