-- In every legal journal a visit misses what its riders' keys allow, and each job that a miss ended was a rider of that visit.
use Rattle.std.proofs.Common.{◌≡◌, ℕ, Bool, true, false, cond, not, eqb, ◌&&◌, ◌||◌, List, [], ◌∷◌, map, length, sym, ap, ◌∙◌, refl, subst, Option, Some, None, ◌⊎◌, inl, inr, ⊎_elim, true≢false}
use Rattle.std.specs.Prelude.{slice_get}
use Rattle.std.specs.List.{AllByRecursion, list_any, cons_option}
use Rattle.std.proofs.lemmas.Bool.{or_parts, and_parts, eqb-true, not-true}
use Rattle.gm_base.specs.declared.copies.Key.{Key}
use Rattle.gm_jobs.specs.declared.script.Line.{Line}
use Rattle.gm_jobs.specs.declared.script.Line.TheVariants.{Update, Wait, Job as JobLine}
use Rattle.gm_events.specs.declared.event.LoadCause.{LoadCause}
use Rattle.gm_events.specs.declared.event.LoadCause.TheVariants.{Read, Changed, Memory}
use Rattle.gm_events.specs.declared.event.Event.{Event}
use Rattle.gm_events.specs.declared.event.Event.TheVariants.{Submit, Visit, Loaded, NoCopy, LoadFailed, Given, Passed}
use Rattle.gm_kernel.specs.Standings.{Turning}
use Rattle.gm_kernel.specs.Standings.Turning.{Goes, Ends}
use Rattle.gm_buffer.specs.Keys.{is_same_key}
use Rattle.gm_machine.specs.Setups.{Entry, Setup}
use Rattle.gm_machine.specs.Machine.{Ending, Own, ReadFailed, ChangedFound, NoMemory, ending_by, Stage, Runs, Waits, Works, Over, Job, Rider, no_miss, Ridden, Scene, beginning, is_empty, is_whole, is_riding, is_owing, is_open, key_in, rides_at, rides_with, has_key, chunk_now, rider, rider_if, rider_at, riders_of, at_stage, boarded, given, has_passed, ended_where, stage_after, new_job, jobs_with, may, done, scene_from, is_legal_from, scene_of, IsLegal, lose, fail}
use Rattle.gm_machine.specs.Plans.{loss_by, loss_of}
use Rattle.gm_machine.specs.Promises.{AllStages, Among, EndsRider}
use Rattle.gm_machine.specs.Schedules.{keys_ridden, are_some_of}
use Rattle.gm_machine.proofs.Lists.{by_test, same_key-true, same_key_refl, stages_after, stages_more, stages_weaker, stages_both, stages_all, stage_found}
use Rattle.gm_machine.proofs.InVisits.{IsAlive, or_more, lost_alive, failed_alive, riding_alive, alive_key}

pub among_more : {X : Type 0} (P Q : X → Type 0) → ((x : X) → P x → Q x) → (xs : List X) → Among P xs → Among Q xs
among_more P Q each [] h = absurd h
among_more P Q each (x ∷ xs) h = ⊎_elim (λ here. inl (each x here)) (λ there. inr (among_more P Q each xs there)) h

abbrev pub HasRider : Rider → List Rider → Type 0
HasRider r riders = Among (λ q. q ≡ r) riders

-- what was missed: some of the visit's keys, or the load
abbrev pub FitsBy : List Key → Option LoadCause → List Key → Type 0
FitsBy keys None lost = are_some_of keys lost ≡ true
FitsBy keys (Some cause) lost = is_empty lost ≡ true

abbrev pub FitsMiss : Ridden → Type 0
FitsMiss v = FitsBy (keys_ridden v) v.miss.failed v.miss.lost

pub has_rider_key : (r : Rider) (riders : List Rider) → HasRider r riders → has_key (map (λ q. q.key) riders) r.key ≡ true
has_rider_key r [] h = absurd h
has_rider_key r (q ∷ riders) h =
    ⊎_elim
    (λ here. ap (λ (k : Key). is_same_key k r.key || has_key (map (λ (o : Rider). o.key) riders) r.key) (ap (λ (o : Rider). o.key) here) ∙ ap (λ (b : Bool). b || has_key (map (λ (o : Rider). o.key) riders) r.key) (same_key_refl r.key))
    (λ there. or_more (is_same_key q.key r.key) (has_key (map (λ (o : Rider). o.key) riders) r.key) (has_rider_key r riders there)) h

-- no load failed and no copy of the key where its loss is none
pub unlost : (failed : Option LoadCause) (lost : List Key) (c : ℕ) (k : Key) → loss_by failed lost c k ≡ None → (failed ≡ None) × (has_key lost k ≡ false)
unlost None lost c k h = (refl, by_test (has_key lost k) (λ t. has_key lost k ≡ t → cond t (Some NoMemory) None ≡ None → has_key lost k ≡ false) (λ _ e g. cc) (λ _ e g. e) refl h)
unlost (Some cause) lost c k h = cc

-- more keys lost
loss_more : (failed : Option LoadCause) (lost : List Key) (c : ℕ) (k x : Key) (o : Ending) → loss_by failed lost c x ≡ Some o → loss_by failed (k ∷ lost) c x ≡ Some o
loss_more None lost c k x o h =
    by_test (has_key lost x) (λ t. has_key lost x ≡ t → cond t (Some NoMemory) None ≡ Some o → loss_by None (k ∷ lost) c x ≡ Some o)
    (λ _ e g. ap (λ (b : Bool). cond b (Some NoMemory) None) (or_more (is_same_key k x) (has_key lost x) e) ∙ g) (λ _ e g. cc) refl h
loss_more (Some cause) lost c k x o h = h

lost_now : (failed : Option LoadCause) (lost : List Key) (c : ℕ) (k : Key) → failed ≡ None → loss_by failed (k ∷ lost) c k ≡ Some NoMemory
lost_now None lost c k h = ap (λ (b : Bool). cond (b || has_key lost k) (Some NoMemory) None) (same_key_refl k)
lost_now (Some cause) lost c k h = cc

fits_more : (keys : List Key) (failed : Option LoadCause) (lost : List Key) (k : Key) → failed ≡ None → has_key keys k ≡ true → has_key lost k ≡ false → FitsBy keys failed lost → FitsBy keys failed (k ∷ lost)
fits_more keys None lost k none among fresh h = rw (among, fresh) h
fits_more keys (Some cause) lost k none among fresh h = cc

module _ {State : Type 0} (s : Setup State) where
  -- a job that rides is a rider of the visit with its key
  abbrev pub IsListed : Ridden → ℕ → Stage State → Type 0
  IsListed v n (Runs e) = Unit {0}
  IsListed v n (Waits e) = HasRider (rider n (key_in s v.chunk n e)) v.riders
  IsListed v n (Works e) = HasRider (rider n (key_in s v.chunk n e)) v.riders
  IsListed v n (Over o) = Unit {0}

  abbrev pub IsAboard : List Ridden → ℕ → Stage State → Type 0
  IsAboard [] n st = is_riding st ≡ false
  IsAboard (v ∷ vs) n st = IsListed v n st × IsAlive s v.miss v.chunk n st

  abbrev pub IsOwnOrMissed : List Ridden → ℕ → Ending → Type 0
  IsOwnOrMissed visits n (Own o) = Unit {0}
  IsOwnOrMissed visits n o = Among (EndsRider n o) visits

  abbrev pub IsEndedIn : List Ridden → ℕ → Stage State → Type 0
  IsEndedIn visits n (Runs e) = Unit {0}
  IsEndedIn visits n (Waits e) = Unit {0}
  IsEndedIn visits n (Works e) = Unit {0}
  IsEndedIn visits n (Over o) = IsOwnOrMissed visits n o

  pub record KnowsMisses (visits : List Ridden) (jobs : List (Job State)) : Type 0 where
    pub fits : AllByRecursion FitsMiss visits
    pub aboard : AllStages (IsAboard visits) jobs
    pub ended : AllStages (IsEndedIn visits) jobs

  -- ---- entries

  turned_aboard : (visits : List Ridden) (n : ℕ) (t : Turning (Entry State)) → IsAboard visits n (stage_after t)
  turned_aboard [] n (Goes e) = refl
  turned_aboard [] n (Ends o) = refl
  turned_aboard (v ∷ vs) n (Goes e) = (tt, tt)
  turned_aboard (v ∷ vs) n (Ends o) = (tt, tt)

  turned_ended : (visits : List Ridden) (n : ℕ) (t : Turning (Entry State)) → IsEndedIn visits n (stage_after t)
  turned_ended visits n (Goes e) = tt
  turned_ended visits n (Ends o) = tt

  submit_knows : (visits : List Ridden) (line : Option Line) (jobs : List (Job State)) → KnowsMisses visits jobs → KnowsMisses visits (jobs_with s line jobs)
  submit_knows visits None jobs h = h
  submit_knows visits (Some (Update batch)) jobs h = h
  submit_knows visits (Some (Wait k)) jobs h = h
  submit_knows visits (Some (JobLine name spec own)) jobs h =
      let n = length jobs in
      let turned = s.turn n (s.admitted n) in
      record {
        fits = h.fits;
        aboard = stages_more (IsAboard visits) jobs (new_job s n) h.aboard (turned_aboard visits n turned);
        ended = stages_more (IsEndedIn visits) jobs (new_job s n) h.ended (turned_ended visits n turned);
      }

  -- ---- a visit is opened

  listed_more : (c : ℕ) (o : Option Rider) (riders : List Rider) (n : ℕ) (st : Stage State)
      → IsListed (record { chunk = c; riders = riders; miss = no_miss }) n st → IsListed (record { chunk = c; riders = cons_option o riders; miss = no_miss }) n st
  listed_more c None riders n (Runs e) h = tt
  listed_more c None riders n (Waits e) h = h
  listed_more c None riders n (Works e) h = h
  listed_more c None riders n (Over o) h = tt
  listed_more c (Some r) riders n (Runs e) h = tt
  listed_more c (Some r) riders n (Waits e) h = inr h
  listed_more c (Some r) riders n (Works e) h = inr h
  listed_more c (Some r) riders n (Over o) h = tt

  opened_at : (c n : ℕ) (st : Stage State) (riders : List Rider) → is_riding st ≡ false
      → IsListed (record { chunk = c; riders = cons_option (rider_at s c n st) riders; miss = no_miss }) n (boarded s c n st)
  opened_at c n (Runs e) riders none =
      let r = rider n (key_in s c n e) in
      by_test (s.owes n e c) (λ t. IsListed (record { chunk = c; riders = cons_option (rider_if t r) riders; miss = no_miss }) n (cond t (Waits e) (Runs e))) (λ _. inl refl) (λ _. tt)
  opened_at c n (Waits e) riders none = absurd (true≢false none)
  opened_at c n (Works e) riders none = absurd (true≢false none)
  opened_at c n (Over o) riders none = tt

  abbrev opened : ℕ → List (Job State) → Ridden
  opened c jobs = record { chunk = c; riders = riders_of s c jobs; miss = no_miss }

  all_listed : (c : ℕ) (jobs : List (Job State)) → list_any (λ job. is_riding job.stage) jobs ≡ false → AllStages (IsListed (opened c jobs)) (map (at_stage (boarded s c)) jobs)
  all_listed c [] none = tt
  all_listed c (job ∷ jobs) none =
      let parts = or_parts (is_riding job.stage) (list_any (λ (j : Job State). is_riding j.stage) jobs) none in
      let o = rider_at s c job.number job.stage in
      let riders = riders_of s c jobs in (
        opened_at c job.number job.stage riders parts.0,
        stages_weaker (IsListed (opened c jobs)) (IsListed (record { chunk = c; riders = cons_option o riders; miss = no_miss })) (listed_more c o riders) (map (at_stage (boarded s c)) jobs) (all_listed c jobs parts.1),
      )

  alive_all : (c n : ℕ) (st : Stage State) → IsAlive s no_miss c n st
  alive_all c n (Runs e) = tt
  alive_all c n (Waits e) = refl
  alive_all c n (Works e) = refl
  alive_all c n (Over o) = tt

  missed_later : (v : Ridden) (visits : List Ridden) (n : ℕ) (o : Ending) → IsOwnOrMissed visits n o → IsOwnOrMissed (v ∷ visits) n o
  missed_later v visits n o h = at o h
    where
      at : (p : Ending) → IsOwnOrMissed visits n p → IsOwnOrMissed (v ∷ visits) n p
      at = elim [ Own x ↦ λ g. tt | ReadFailed x ↦ λ g. inr g | ChangedFound x ↦ λ g. inr g | NoMemory ↦ λ g. inr g ]

  boarded_ended : (v : Ridden) (visits : List Ridden) (c n : ℕ) (st : Stage State) → IsEndedIn visits n st → IsEndedIn (v ∷ visits) n (boarded s c n st)
  boarded_ended v visits c n (Runs e) h = by_test (s.owes n e c) (λ t. IsEndedIn (v ∷ visits) n (cond t (Waits e) (Runs e))) (λ _. tt) (λ _. tt)
  boarded_ended v visits c n (Waits e) h = tt
  boarded_ended v visits c n (Works e) h = tt
  boarded_ended v visits c n (Over o) h = missed_later v visits n o h

  visit_knows : (visits : List Ridden) (c : ℕ) (jobs : List (Job State)) → list_any (λ job. is_riding job.stage) jobs ≡ false → KnowsMisses visits jobs
      → KnowsMisses (opened c jobs ∷ visits) (map (at_stage (boarded s c)) jobs)
  visit_knows visits c jobs none h =
      let on = map (at_stage (boarded s c)) jobs in
      record {
        fits = (refl, h.fits);
        aboard = stages_both (IsListed (opened c jobs)) (IsAlive s no_miss c) on (all_listed c jobs none) (stages_all (IsAlive s no_miss c) (alive_all c) on);
        ended = stages_after (IsEndedIn visits) (IsEndedIn (opened c jobs ∷ visits)) (boarded s c) (boarded_ended (opened c jobs) visits c) jobs h.ended;
      }

  -- ---- a key without a copy

  -- a job that rides with a key
  pub rider_found : (v : Ridden) (k : Key) (n : ℕ) (st : Stage State) → rides_at s v.chunk k n st ≡ true → IsListed v n st × IsAlive s v.miss v.chunk n st → HasRider (rider n k) v.riders
  rider_found v k n (Runs e) rides h = absurd (true≢false (sym rides))
  rider_found v k n (Waits e) rides h = subst (λ (l : Key). HasRider (rider n l) v.riders) (same_key-true (key_in s v.chunk n e) k rides) h.0
  rider_found v k n (Works e) rides h = subst (λ (l : Key). HasRider (rider n l) v.riders) (same_key-true (key_in s v.chunk n e) k rides) h.0
  rider_found v k n (Over o) rides h = absurd (true≢false (sym rides))

  abbrev lost_in : Key → Ridden → Ridden
  lost_in k v = record { chunk = v.chunk; riders = v.riders; miss = record { lost = k ∷ v.miss.lost; failed = v.miss.failed } }

  ends_more : (k : Key) (n : ℕ) (o : Ending) (v : Ridden) → EndsRider n o v → EndsRider n o (lost_in k v)
  ends_more k n o v h =
      among_more (λ r. (r.job ≡ n) × (loss_of v.miss v.chunk r.key ≡ Some o)) (λ r. (r.job ≡ n) × (loss_of (lost_in k v).miss v.chunk r.key ≡ Some o))
      (λ r g. (g.0, loss_more v.miss.failed v.miss.lost v.chunk k r.key o g.1)) v.riders h

  ended_more : (k : Key) (v : Ridden) (vs : List Ridden) (n : ℕ) (o : Ending) → IsOwnOrMissed (v ∷ vs) n o → IsOwnOrMissed (lost_in k v ∷ vs) n o
  ended_more k v vs n o h = at o h
    where
      head : (p : Ending) → EndsRider n p v ⊎ Among (EndsRider n p) vs → EndsRider n p (lost_in k v) ⊎ Among (EndsRider n p) vs
      head p g = ⊎_elim (λ here. inl (ends_more k n p v here)) (λ there. inr there) g

      at : (p : Ending) → IsOwnOrMissed (v ∷ vs) n p → IsOwnOrMissed (lost_in k v ∷ vs) n p
      at = elim [ Own x ↦ λ g. tt | ReadFailed x ↦ λ g. head (ReadFailed x) g | ChangedFound x ↦ λ g. head (ChangedFound x) g | NoMemory ↦ λ g. head NoMemory g ]

  ends_now : (k : Key) (v : Ridden) (n : ℕ) → v.miss.failed ≡ None → HasRider (rider n k) v.riders → EndsRider n NoMemory (lost_in k v)
  ends_now k v n none h =
      among_more (λ r. r ≡ rider n k) (λ r. (r.job ≡ n) × (loss_of (lost_in k v).miss v.chunk r.key ≡ Some NoMemory))
      (λ r same. (ap (λ (q : Rider). q.job) same, ap (λ (q : Rider). loss_of (lost_in k v).miss v.chunk q.key) same ∙ lost_now v.miss.failed v.miss.lost v.chunk k none)) v.riders h

  abbrev lost_test : Key → Ridden → ℕ → Entry State → Bool
  lost_test k v n e = is_same_key (key_in s v.chunk n e) k

  lost_ended : (k : Key) (v : Ridden) (vs : List Ridden) → v.miss.failed ≡ None → (n : ℕ) (st : Stage State) → (IsListed v n st × IsAlive s v.miss v.chunk n st) × IsEndedIn (v ∷ vs) n st
      → IsEndedIn (lost_in k v ∷ vs) n (ended_where (lost_test k v) NoMemory n st)
  lost_ended k v vs none n (Runs e) h = tt
  lost_ended k v vs none n (Waits e) h =
      by_test (lost_test k v n e) (λ t. lost_test k v n e ≡ t → IsEndedIn (lost_in k v ∷ vs) n (cond t (Over NoMemory) (Waits e)))
      (λ _ same. inl (ends_now k v n none (rider_found v k n (Waits e) same h.0))) (λ _ _. tt) refl
  lost_ended k v vs none n (Works e) h =
      by_test (lost_test k v n e) (λ t. lost_test k v n e ≡ t → IsEndedIn (lost_in k v ∷ vs) n (cond t (Over NoMemory) (Works e)))
      (λ _ same. inl (ends_now k v n none (rider_found v k n (Works e) same h.0))) (λ _ _. tt) refl
  lost_ended k v vs none n (Over o) h = ended_more k v vs n o h.1

  lost_listed : (k : Key) (v : Ridden) (n : ℕ) (st : Stage State) → IsListed v n st → IsListed (lost_in k v) n (ended_where (lost_test k v) NoMemory n st)
  lost_listed k v n (Runs e) h = tt
  lost_listed k v n (Waits e) h = by_test (lost_test k v n e) (λ t. IsListed (lost_in k v) n (cond t (Over NoMemory) (Waits e))) (λ _. tt) (λ _. h)
  lost_listed k v n (Works e) h = by_test (lost_test k v n e) (λ t. IsListed (lost_in k v) n (cond t (Over NoMemory) (Works e))) (λ _. tt) (λ _. h)
  lost_listed k v n (Over o) h = tt

  lose_knows : (visits : List Ridden) (k : Key) (jobs : List (Job State)) → list_any (rides_with s (chunk_now visits) k) jobs ≡ true → KnowsMisses visits jobs
      → KnowsMisses (lose k visits) (map (at_stage (ended_where (λ m e. is_same_key (key_in s (chunk_now visits) m e) k) NoMemory)) jobs)
  lose_knows [] k jobs rides h =
      let found = stage_found (IsAboard []) (rides_with s 0 k) jobs h.aboard rides in
      absurd (unridden found.0.number found.0.stage found.1 found.2)
    where
      unridden : (n : ℕ) (st : Stage State) → rides_at s 0 k n st ≡ true → is_riding st ≡ false → ⊥
      unridden n (Runs e) r g = true≢false (sym r)
      unridden n (Waits e) r g = true≢false g
      unridden n (Works e) r g = true≢false g
      unridden n (Over o) r g = true≢false (sym r)
  lose_knows (v ∷ vs) k jobs rides h =
      let found = stage_found (IsAboard (v ∷ vs)) (rides_with s v.chunk k) jobs h.aboard rides in
      let has = rider_found v k found.0.number found.0.stage found.1 found.2 in
      let live = unlost v.miss.failed v.miss.lost v.chunk k (alive_key s v.miss v.chunk k found.0.number found.0.stage found.1 found.2.1) in
      let f = ended_where (lost_test k v) NoMemory in
      let both = stages_both (λ n st. IsListed v n st × IsAlive s v.miss v.chunk n st) (IsEndedIn (v ∷ vs)) jobs h.aboard h.ended in
      record {
        fits = (fits_more (keys_ridden v) v.miss.failed v.miss.lost k live.0 (has_rider_key (rider found.0.number k) v.riders has) live.1 h.fits.0, h.fits.1);
        aboard = stages_after (IsAboard (v ∷ vs)) (IsAboard (lost_in k v ∷ vs)) f (λ n st g. (lost_listed k v n st g.0, lost_alive s v.chunk v.miss k n st g.1)) jobs h.aboard;
        ended = stages_after (λ n st. (IsListed v n st × IsAlive s v.miss v.chunk n st) × IsEndedIn (v ∷ vs) n st) (IsEndedIn (lost_in k v ∷ vs)) f (lost_ended k v vs live.0) jobs both;
      }

  -- ---- a load that failed

  abbrev failed_in : LoadCause → Ridden → Ridden
  failed_in cause v = record { chunk = v.chunk; riders = v.riders; miss = record { lost = v.miss.lost; failed = Some cause } }

  -- nobody was ended by this visit before
  no_end : (v : Ridden) (n : ℕ) (o : Ending) → v.miss.failed ≡ None → is_empty v.miss.lost ≡ true → EndsRider n o v → ⊥
  no_end v n o none empty h = nobody v.riders h
    where
      unended : (failed : Option LoadCause) (lost : List Key) (k : Key) → failed ≡ None → is_empty lost ≡ true → loss_by failed lost v.chunk k ≡ Some o → ⊥
      unended None [] k e g r = cc
      unended None (l ∷ lost) k e g r = cc
      unended (Some cause) lost k e g r = cc

      nobody : (riders : List Rider) → Among (λ r. (r.job ≡ n) × (loss_of v.miss v.chunk r.key ≡ Some o)) riders → ⊥
      nobody [] g = g
      nobody (r ∷ riders) g = ⊎_elim (λ here. unended v.miss.failed v.miss.lost r.key none empty here.1) (λ there. nobody riders there) g

  failed_stays : (cause : LoadCause) (v : Ridden) (vs : List Ridden) (n : ℕ) (o : Ending) → v.miss.failed ≡ None → is_empty v.miss.lost ≡ true → IsOwnOrMissed (v ∷ vs) n o → IsOwnOrMissed (failed_in cause v ∷ vs) n o
  failed_stays cause v vs n o none empty h = at o h
    where
      head : (p : Ending) → EndsRider n p v ⊎ Among (EndsRider n p) vs → EndsRider n p (failed_in cause v) ⊎ Among (EndsRider n p) vs
      head p g = ⊎_elim (λ here. absurd (no_end v n p none empty here)) (λ there. inr there) g

      at : (p : Ending) → IsOwnOrMissed (v ∷ vs) n p → IsOwnOrMissed (failed_in cause v ∷ vs) n p
      at = elim [ Own x ↦ λ g. tt | ReadFailed x ↦ λ g. head (ReadFailed x) g | ChangedFound x ↦ λ g. head (ChangedFound x) g | NoMemory ↦ λ g. head NoMemory g ]

  ends_failed : (cause : LoadCause) (v : Ridden) (vs : List Ridden) (n : ℕ) (k : Key) → HasRider (rider n k) v.riders → IsOwnOrMissed (failed_in cause v ∷ vs) n (ending_by cause v.chunk)
  ends_failed cause v vs n k h = at cause
    where
      ends : (other : LoadCause) → EndsRider n (ending_by other v.chunk) (failed_in other v)
      ends other =
          among_more (λ r. r ≡ rider n k) (λ r. (r.job ≡ n) × (loss_of (failed_in other v).miss v.chunk r.key ≡ Some (ending_by other v.chunk)))
          (λ r same. (ap (λ (q : Rider). q.job) same, refl)) v.riders h

      at : (other : LoadCause) → IsOwnOrMissed (failed_in other v ∷ vs) n (ending_by other v.chunk)
      at = elim [ Read ↦ inl (ends Read) | Changed ↦ inl (ends Changed) | Memory ↦ inl (ends Memory) ]

  failed_ended : (cause : LoadCause) (v : Ridden) (vs : List Ridden) → v.miss.failed ≡ None → is_empty v.miss.lost ≡ true → (n : ℕ) (st : Stage State) → (IsListed v n st × IsAlive s v.miss v.chunk n st) × IsEndedIn (v ∷ vs) n st
      → IsEndedIn (failed_in cause v ∷ vs) n (ended_where (λ m e. true) (ending_by cause v.chunk) n st)
  failed_ended cause v vs none empty n (Runs e) h = tt
  failed_ended cause v vs none empty n (Waits e) h = ends_failed cause v vs n (key_in s v.chunk n e) h.0.0
  failed_ended cause v vs none empty n (Works e) h = ends_failed cause v vs n (key_in s v.chunk n e) h.0.0
  failed_ended cause v vs none empty n (Over o) h = failed_stays cause v vs n o none empty h.1

  failed_listed : (o : Ending) (v : Ridden) (n : ℕ) (st : Stage State) → IsListed v n (ended_where (λ m e. true) o n st)
  failed_listed o v n (Runs e) = tt
  failed_listed o v n (Waits e) = tt
  failed_listed o v n (Works e) = tt
  failed_listed o v n (Over p) = tt

  fits_failed : (keys : List Key) (cause : LoadCause) (lost : List Key) → is_empty lost ≡ true → FitsBy keys (Some cause) lost
  fits_failed keys cause lost h = h

  fail_knows : (visits : List Ridden) (cause : LoadCause) (jobs : List (Job State)) → list_any (λ job. is_riding job.stage) jobs ≡ true → is_whole visits ≡ true → KnowsMisses visits jobs
      → KnowsMisses (fail cause visits) (map (at_stage (ended_where (λ m e. true) (ending_by cause (chunk_now visits)))) jobs)
  fail_knows [] cause jobs rides whole h =
      let found = stage_found (IsAboard []) (λ job. is_riding job.stage) jobs h.aboard rides in
      absurd (true≢false (sym found.1 ∙ found.2))
  fail_knows (v ∷ vs) cause jobs rides whole h =
      let found = stage_found (IsAboard (v ∷ vs)) (λ job. is_riding job.stage) jobs h.aboard rides in
      let live = riding_alive s v.miss v.chunk found.0.number found.0.stage found.1 found.2.1 in
      let none = (unlost v.miss.failed v.miss.lost v.chunk live.0 live.1).0 in
      let o = ending_by cause v.chunk in
      let f = ended_where (λ m e. true) o in
      let both = stages_both (λ n st. IsListed v n st × IsAlive s v.miss v.chunk n st) (IsEndedIn (v ∷ vs)) jobs h.aboard h.ended in
      record {
        fits = (whole, h.fits.1);
        aboard = stages_after (IsAboard (v ∷ vs)) (IsAboard (failed_in cause v ∷ vs)) f (λ n st g. (failed_listed o (failed_in cause v) n st, failed_alive s (failed_in cause v).miss v.chunk o n st)) jobs h.aboard;
        ended = stages_after (λ n st. (IsListed v n st × IsAlive s v.miss v.chunk n st) × IsEndedIn (v ∷ vs) n st) (IsEndedIn (failed_in cause v ∷ vs)) f (failed_ended cause v vs none whole) jobs both;
      }

  -- ---- passes

  given_aboard : (visits : List Ridden) (j n : ℕ) (st : Stage State) → IsAboard visits n st → IsAboard visits n (given j n st)
  given_aboard [] j n (Runs e) h = refl
  given_aboard [] j n (Waits e) h = absurd (true≢false h)
  given_aboard [] j n (Works e) h = h
  given_aboard [] j n (Over o) h = refl
  given_aboard (v ∷ vs) j n (Runs e) h = h
  given_aboard (v ∷ vs) j n (Waits e) h = by_test (eqb n j) (λ t. IsAboard (v ∷ vs) n (cond t (Works e) (Waits e))) (λ _. h) (λ _. h)
  given_aboard (v ∷ vs) j n (Works e) h = h
  given_aboard (v ∷ vs) j n (Over o) h = h

  given_ended : (visits : List Ridden) (j n : ℕ) (st : Stage State) → IsEndedIn visits n st → IsEndedIn visits n (given j n st)
  given_ended visits j n (Runs e) h = h
  given_ended visits j n (Waits e) h = by_test (eqb n j) (λ t. IsEndedIn visits n (cond t (Works e) (Waits e))) (λ _. tt) (λ _. tt)
  given_ended visits j n (Works e) h = h
  given_ended visits j n (Over o) h = h

  passed_aboard : (visits : List Ridden) (j c n : ℕ) (st : Stage State) → IsAboard visits n st → IsAboard visits n (has_passed s j c n st)
  passed_aboard visits j c n (Runs e) h = h
  passed_aboard visits j c n (Waits e) h = h
  passed_aboard visits j c n (Works e) h =
      by_test (eqb n j) (λ t. IsAboard visits n (cond t (stage_after (s.turn n (s.pass n c e))) (Works e))) (λ _. turned_aboard visits n (s.turn n (s.pass n c e))) (λ _. h)
  passed_aboard visits j c n (Over o) h = h

  passed_ended : (visits : List Ridden) (j c n : ℕ) (st : Stage State) → IsEndedIn visits n st → IsEndedIn visits n (has_passed s j c n st)
  passed_ended visits j c n (Runs e) h = h
  passed_ended visits j c n (Waits e) h = h
  passed_ended visits j c n (Works e) h =
      by_test (eqb n j) (λ t. IsEndedIn visits n (cond t (stage_after (s.turn n (s.pass n c e))) (Works e))) (λ _. turned_ended visits n (s.turn n (s.pass n c e))) (λ _. tt)
  passed_ended visits j c n (Over o) h = h

  -- ---- every legal journal

  pub step_knows : (scene : Scene State) (event : Event) → may s scene event ≡ true → KnowsMisses scene.visits scene.jobs → KnowsMisses (done s scene event).visits (done s scene event).jobs
  step_knows scene (Submit line) ok h = submit_knows scene.visits (slice_get s.script line) scene.jobs h
  step_knows scene (Visit c) ok h =
      visit_knows scene.visits c scene.jobs (not-true (is_open scene) (and_parts (not (is_open scene)) (list_any (is_owing s c) scene.jobs) ok).0) h
  step_knows scene (Loaded k) ok h = h
  step_knows scene (NoCopy k) ok h = lose_knows scene.visits k scene.jobs (and_parts (list_any (rides_with s (chunk_now scene.visits) k) scene.jobs) (not (has_key scene.loaded k)) ok).0 h
  step_knows scene (LoadFailed d cause) ok h =
      let parts = and_parts (is_open scene && eqb d (chunk_now scene.visits)) (is_empty scene.loaded && is_whole scene.visits) ok in
      let first = and_parts (is_open scene) (eqb d (chunk_now scene.visits)) parts.0 in
      let second = and_parts (is_empty scene.loaded) (is_whole scene.visits) parts.1 in
      let here : d ≡ chunk_now scene.visits = eqb-true d (chunk_now scene.visits) first.1 in
      let Goal : ℕ → Type 0 = λ c. KnowsMisses (done s scene (LoadFailed c cause)).visits (done s scene (LoadFailed c cause)).jobs in
      let at : Goal (chunk_now scene.visits) = fail_knows scene.visits cause scene.jobs first.0 second.1 h in
      subst Goal (sym here) at
  step_knows scene (Given j c) ok h = record {
    fits = h.fits;
    aboard = stages_after (IsAboard scene.visits) (IsAboard scene.visits) (given j) (given_aboard scene.visits j) scene.jobs h.aboard;
    ended = stages_after (IsEndedIn scene.visits) (IsEndedIn scene.visits) (given j) (given_ended scene.visits j) scene.jobs h.ended;
  }
  step_knows scene (Passed j c) ok h = record {
    fits = h.fits;
    aboard = stages_after (IsAboard scene.visits) (IsAboard scene.visits) (has_passed s j c) (passed_aboard scene.visits j c) scene.jobs h.aboard;
    ended = stages_after (IsEndedIn scene.visits) (IsEndedIn scene.visits) (has_passed s j c) (passed_ended scene.visits j c) scene.jobs h.ended;
  }

  knows_from : (journal : List Event) (scene : Scene State) → is_legal_from s scene journal ≡ true → KnowsMisses scene.visits scene.jobs → KnowsMisses (scene_from s scene journal).visits (scene_from s scene journal).jobs
  unfolding is_legal_from scene_from
  knows_from [] scene ok h = h
  knows_from (event ∷ journal) scene ok h =
      let parts = and_parts (may s scene event) (is_legal_from s (done s scene event) journal) ok in
      knows_from journal (done s scene event) parts.1 (step_knows scene event parts.0 h)

  pub knows_misses : (journal : List Event) → IsLegal s journal → KnowsMisses (scene_of s journal).visits (scene_of s journal).jobs
  knows_misses journal ok = knows_from journal beginning ok (record { fits = tt; aboard = tt; ended = tt })
