-- What is held is what the jobs that ride say of the Loaded keys.
use Rattle.std.proofs.Common.{◌≡◌, ℕ, Bool, true, false, cond, not, eqb, ◌||◌, List, [], ◌∷◌, ◌++◌, map, sym, ap, ap₂, ◌∙◌, refl, inl, inr}
use Rattle.std.specs.List.{AllByRecursion, list_any, filter}
use Rattle.std.proofs.lemmas.Bool.{or_parts, true≢false, ne_eqb, eq-eqb}
use Rattle.gm_base.specs.declared.copies.Key.{Key}
use Rattle.gm_kernel.specs.Standings.{Turning}
use Rattle.gm_kernel.specs.Standings.Turning.{Goes, Ends}
use Rattle.gm_buffer.specs.Keys.{is_same_key}
use Rattle.gm_machine.specs.Setups.{Entry, Setup}
use Rattle.gm_machine.specs.Machine.{Stage, Runs, Waits, Works, Over, Job, Held, is_empty, is_riding, is_waiting, rides_at, rides_with, has_key, riders_with, keep, without, release, at_stage, has_passed, stage_after}
use Rattle.gm_machine.specs.Promises.{AllStages, Apart, keys_of, IsRiderBy, IsHeldFor}

module _ {State : Type 0} where
  abbrev pub copy_of : Setup State → ℕ → List (Job State) → Key → Held
  copy_of s c jobs k = record { key = k; riders = riders_with s c k jobs }

  -- the copies of the Loaded keys that have riders
  abbrev pub held_of : Setup State → ℕ → List Key → List (Job State) → List Held
  held_of s c [] jobs = []
  held_of s c (k ∷ ks) jobs = keep (copy_of s c jobs k) (held_of s c ks jobs)

  abbrev pub SameRiders : Setup State → ℕ → List (Job State) → List (Job State) → Key → Type 0
  SameRiders s c jobs others k = riders_with s c k jobs ≡ riders_with s c k others

abbrev copy : Key → List ℕ → Held
copy k riders = record { key = k; riders = riders }

module _ {State : Type 0} where
  pub held_of_same : (s : Setup State) (c : ℕ) (jobs others : List (Job State)) (ks : List Key) → AllByRecursion (SameRiders s c jobs others) ks → held_of s c ks jobs ≡ held_of s c ks others
  held_of_same s c jobs others [] h = refl
  held_of_same s c jobs others (k ∷ ks) h = ap₂ keep (ap (copy k) h.0) (held_of_same s c jobs others ks h.1)

  same_for_all : (s : Setup State) (c : ℕ) (jobs others : List (Job State)) → ((k : Key) → SameRiders s c jobs others k) → (ks : List Key) → AllByRecursion (SameRiders s c jobs others) ks
  same_for_all s c jobs others each [] = tt
  same_for_all s c jobs others each (k ∷ ks) = (each k, same_for_all s c jobs others each ks)

  pub held_of_alike : (s : Setup State) (c : ℕ) (jobs others : List (Job State)) (ks : List Key) → ((k : Key) → SameRiders s c jobs others k) → held_of s c ks jobs ≡ held_of s c ks others
  held_of_alike s c jobs others ks each = held_of_same s c jobs others ks (same_for_all s c jobs others each ks)

-- ---- riders, a job at a time

abbrev rider_first : ℕ → Bool → List ℕ → List ℕ
rider_first n b riders = cond b (n ∷ riders) riders

module _ {State : Type 0} where
  numbers_at : (b : Bool) (job : Job State) (jobs : List (Job State)) → map (λ (j : Job State). j.number) (cond b (job ∷ jobs) jobs) ≡ rider_first job.number b (map (λ (j : Job State). j.number) jobs)
  numbers_at true job jobs = refl
  numbers_at false job jobs = refl

  riders-cons : (s : Setup State) (c : ℕ) (k : Key) (job : Job State) (jobs : List (Job State)) → riders_with s c k (job ∷ jobs) ≡ rider_first job.number (rides_with s c k job) (riders_with s c k jobs)
  riders-cons s c k job jobs = numbers_at (rides_with s c k job) job (filter (rides_with s c k) jobs)

  pub rides_rest : (s : Setup State) (c : ℕ) (k : Key) (n : ℕ) (st : Stage State) → is_riding st ≡ false → rides_at s c k n st ≡ false
  rides_rest s c k n (Runs e) h = refl
  rides_rest s c k n (Waits e) h = absurd (true≢false h)
  rides_rest s c k n (Works e) h = absurd (true≢false h)
  rides_rest s c k n (Over o) h = refl

  pub riders_none : (s : Setup State) (c : ℕ) (k : Key) (jobs : List (Job State)) → list_any (λ job. is_riding job.stage) jobs ≡ false → riders_with s c k jobs ≡ []
  riders_none s c k [] h = refl
  riders_none s c k (job ∷ jobs) h =
      let parts = or_parts (is_riding job.stage) (list_any (λ j. is_riding j.stage) jobs) h in
      rw (rides_rest s c k job.number job.stage parts.0) (riders_none s c k jobs parts.1)

  pub held_of_none : (s : Setup State) (c : ℕ) (jobs : List (Job State)) → list_any (λ job. is_riding job.stage) jobs ≡ false → (ks : List Key) → held_of s c ks jobs ≡ []
  held_of_none s c jobs h [] = refl
  held_of_none s c jobs h (k ∷ ks) = rw (riders_none s c k jobs h) (held_of_none s c jobs h ks)

  pub riders_along : (s : Setup State) (c : ℕ) (k : Key) (f : ℕ → Stage State → Stage State) → ((n : ℕ) (st : Stage State) → rides_at s c k n (f n st) ≡ rides_at s c k n st)
      → (jobs : List (Job State)) → riders_with s c k (map (at_stage f) jobs) ≡ riders_with s c k jobs
  riders_along s c k f each [] = refl
  riders_along s c k f each (job ∷ jobs) =
      riders-cons s c k (at_stage f job) (map (at_stage f) jobs)
      ∙ ap₂ (rider_first job.number) (each job.number job.stage) (riders_along s c k f each jobs)
      ∙ sym (riders-cons s c k job jobs)

  pub riders_push : (s : Setup State) (c : ℕ) (k : Key) (jobs : List (Job State)) (job : Job State) → is_riding job.stage ≡ false → riders_with s c k (jobs ++ job ∷ []) ≡ riders_with s c k jobs
  riders_push s c k [] job h = rw (rides_rest s c k job.number job.stage h) refl
  riders_push s c k (one ∷ jobs) job h =
      riders-cons s c k one (jobs ++ job ∷ []) ∙ ap (rider_first one.number (rides_with s c k one)) (riders_push s c k jobs job h) ∙ sym (riders-cons s c k one jobs)

  riders_some : (s : Setup State) (c : ℕ) (k : Key) (jobs : List (Job State)) → list_any (rides_with s c k) jobs ≡ true → is_empty (riders_with s c k jobs) ≡ false
  riders_some s c k [] h = cc
  riders_some s c k (job ∷ jobs) h =
      let Goal : Bool → Type 0 = λ b. (b || list_any (rides_with s c k) jobs) ≡ true → is_empty (map (λ (j : Job State). j.number) (cond b (job ∷ filter (rides_with s c k) jobs) (filter (rides_with s c k) jobs))) ≡ false in
      let at : (b : Bool) → Goal b = elim [ true ↦ λ _. refl | false ↦ λ g. riders_some s c k jobs g ] in
      at (rides_with s c k job) h

  pub held_of_loaded : (s : Setup State) (c : ℕ) (k : Key) (jobs : List (Job State)) (ks : List Key) → list_any (rides_with s c k) jobs ≡ true
      → held_of s c (k ∷ ks) jobs ≡ copy_of s c jobs k ∷ held_of s c ks jobs
  held_of_loaded s c k jobs ks h = rw (riders_some s c k jobs h) refl

  -- ---- a pass

  ended_rides : (s : Setup State) (c : ℕ) (k : Key) (n : ℕ) (t : Turning (Entry State)) → rides_at s c k n (stage_after t) ≡ false
  ended_rides s c k n (Goes e) = refl
  ended_rides s c k n (Ends o) = refl

  -- no job of this number waits
  abbrev pub NoneWaits : ℕ → ℕ → Stage State → Type 0
  NoneWaits j n st = eqb n j ≡ true → is_waiting st ≡ false

waits_on : (n j : ℕ) (t : Bool) (riders : List ℕ) → (eqb n j ≡ true → true ≡ false) → cond t (n ∷ without j riders) (without j riders) ≡ without j (cond t (n ∷ riders) riders)
waits_on n j true riders h = rw (ne_eqb n j (λ e. true≢false (h (eq-eqb n j e)))) refl
waits_on n j false riders h = refl

-- the job's own place in the lists
works_on : (n : ℕ) (b t u : Bool) (riders rest : List ℕ) → u ≡ false → cond (cond b u t) (n ∷ rest) rest ≡ cond t (cond (not b) (n ∷ rest) rest) rest
works_on n true true u riders rest h = rw h refl
works_on n true false u riders rest h = rw h refl
works_on n false true u riders rest h = refl
works_on n false false u riders rest h = refl

without_one : (n j : ℕ) (t : Bool) (riders : List ℕ) → cond t (cond (not (eqb n j)) (n ∷ without j riders) (without j riders)) (without j riders) ≡ without j (cond t (n ∷ riders) riders)
without_one n j true riders = refl
without_one n j false riders = refl

module _ {State : Type 0} where
  rides_choice : (s : Setup State) (c : ℕ) (k : Key) (n : ℕ) (b : Bool) (after before : Stage State) → rides_at s c k n (cond b after before) ≡ cond b (rides_at s c k n after) (rides_at s c k n before)
  rides_choice s c k n true after before = refl
  rides_choice s c k n false after before = refl

  pass_one : (s : Setup State) (j c n : ℕ) (k : Key) (st : Stage State) (riders : List ℕ) → NoneWaits j n st
      → rider_first n (rides_at s c k n (has_passed s j c n st)) (without j riders) ≡ without j (rider_first n (rides_at s c k n st) riders)
  pass_one s j c n k (Runs e) riders h = refl
  pass_one s j c n k (Waits e) riders h = waits_on n j (rides_at s c k n (Waits e)) riders h
  pass_one s j c n k (Works e) riders h =
      let after = stage_after (s.turn n (s.pass n c e)) in
      let t = rides_at s c k n (Works e) in
      ap (λ (b : Bool). rider_first n b (without j riders)) (rides_choice s c k n (eqb n j) after (Works e))
      ∙ works_on n (eqb n j) t (rides_at s c k n after) riders (without j riders) (ended_rides s c k n (s.turn n (s.pass n c e)))
      ∙ without_one n j t riders
  pass_one s j c n k (Over o) riders h = refl

  riders_pass : (s : Setup State) (j c : ℕ) (k : Key) (jobs : List (Job State)) → AllStages (NoneWaits j) jobs → riders_with s c k (map (at_stage (has_passed s j c)) jobs) ≡ without j (riders_with s c k jobs)
  riders_pass s j c k [] h = refl
  riders_pass s j c k (job ∷ jobs) h =
      riders-cons s c k (at_stage (has_passed s j c) job) (map (at_stage (has_passed s j c)) jobs)
      ∙ ap (rider_first job.number (rides_at s c k job.number (has_passed s j c job.number job.stage))) (riders_pass s j c k jobs h.1)
      ∙ pass_one s j c job.number k job.stage (riders_with s c k jobs) h.0
      ∙ ap (without j) (sym (riders-cons s c k job jobs))

-- a copy that isn't held has no rider to lose
release_keep : (j : ℕ) (k : Key) (riders : List ℕ) (hs : List Held) → release j (keep (copy k riders) hs) ≡ keep (copy k (without j riders)) (release j hs)
release_keep j k [] hs = refl
release_keep j k (r ∷ riders) hs = refl

module _ {State : Type 0} where
  pub release_held : (s : Setup State) (j c : ℕ) (jobs : List (Job State)) (ks : List Key) → AllStages (NoneWaits j) jobs
      → release j (held_of s c ks jobs) ≡ held_of s c ks (map (at_stage (has_passed s j c)) jobs)
  release_held s j c jobs [] h = refl
  release_held s j c jobs (k ∷ ks) h =
      release_keep j k (riders_with s c k jobs) (held_of s c ks jobs)
      ∙ ap₂ keep (ap (copy k) (sym (riders_pass s j c k jobs h))) (release_held s j c jobs ks h)

-- ---- what such a list has

lacks_keep : (k l : Key) (riders : List ℕ) (hs : List Held) → is_same_key l k ≡ false → has_key (keys_of hs) k ≡ false → has_key (keys_of (keep (copy l riders) hs)) k ≡ false
lacks_keep k l [] hs h g = g
lacks_keep k l (r ∷ riders) hs h g = or_from_false (is_same_key l k) (has_key (keys_of hs) k) h g
  where
    or_from_false : (x y : Bool) → x ≡ false → y ≡ false → (x || y) ≡ false
    or_from_false x y p q = rw (p, q) refl

module _ {State : Type 0} where
  lacks_held : (s : Setup State) (c : ℕ) (jobs : List (Job State)) (ks : List Key) (k : Key) → has_key ks k ≡ false → has_key (keys_of (held_of s c ks jobs)) k ≡ false
  lacks_held s c jobs [] k h = refl
  lacks_held s c jobs (l ∷ ks) k h =
      let parts = or_parts (is_same_key l k) (has_key ks k) h in
      lacks_keep k l (riders_with s c l jobs) (held_of s c ks jobs) parts.0 (lacks_held s c jobs ks k parts.1)

apart_keep : (k : Key) (riders : List ℕ) (hs : List Held) → has_key (keys_of hs) k ≡ false → Apart (keys_of hs) → Apart (keys_of (keep (copy k riders) hs))
apart_keep k [] hs h g = g
apart_keep k (r ∷ riders) hs h g = (h, g)

module _ {State : Type 0} where
  pub apart_held : (s : Setup State) (c : ℕ) (jobs : List (Job State)) (ks : List Key) → Apart ks → Apart (keys_of (held_of s c ks jobs))
  apart_held s c jobs [] h = tt
  apart_held s c jobs (k ∷ ks) h =
      apart_keep k (riders_with s c k jobs) (held_of s c ks jobs) (lacks_held s c jobs ks k h.0) (apart_held s c jobs ks h.1)

  riders_weaker : (P : Job State → Type 0) (job : Job State) (jobs : List (Job State)) (riders : List ℕ) → AllByRecursion (IsRiderBy P jobs) riders → AllByRecursion (IsRiderBy P (job ∷ jobs)) riders
  riders_weaker P job jobs [] h = tt
  riders_weaker P job jobs (r ∷ riders) h = (inr h.0, riders_weaker P job jobs riders h.1)

  pub riders_are : (s : Setup State) (c : ℕ) (k : Key) (P : Job State → Type 0) (jobs : List (Job State)) → AllByRecursion (λ job. rides_with s c k job ≡ true → P job) jobs
      → AllByRecursion (IsRiderBy P jobs) (riders_with s c k jobs)
  riders_are s c k P [] h = tt
  riders_are s c k P (job ∷ jobs) h =
      let rest = riders_weaker P job jobs (riders_with s c k jobs) (riders_are s c k P jobs h.1) in
      let Goal : Bool → Type 0 = λ b. (b ≡ true → P job) → AllByRecursion (IsRiderBy P (job ∷ jobs)) (map (λ (j : Job State). j.number) (cond b (job ∷ filter (rides_with s c k) jobs) (filter (rides_with s c k) jobs))) in
      let at : (b : Bool) → Goal b = elim [ true ↦ λ g. (inl (refl, g refl), rest) | false ↦ λ g. rest ] in
      at (rides_with s c k job) h.0

  keep_held : (P : Key → Job State → Type 0) (jobs : List (Job State)) (k : Key) (riders : List ℕ) (hs : List Held) → AllByRecursion (IsRiderBy (P k) jobs) riders
      → AllByRecursion (IsHeldFor P jobs) hs → AllByRecursion (IsHeldFor P jobs) (keep (copy k riders) hs)
  keep_held P jobs k [] hs h g = g
  keep_held P jobs k (r ∷ riders) hs h g = ((refl, h), g)

  pub held_for : (s : Setup State) (c : ℕ) (P : Key → Job State → Type 0) (jobs : List (Job State)) → ((k : Key) → AllByRecursion (λ job. rides_with s c k job ≡ true → P k job) jobs)
      → (ks : List Key) → AllByRecursion (IsHeldFor P jobs) (held_of s c ks jobs)
  held_for s c P jobs each [] = tt
  held_for s c P jobs each (k ∷ ks) = keep_held P jobs k (riders_with s c k jobs) (held_of s c ks jobs) (riders_are s c k (P k) jobs (each k)) (held_for s c P jobs each ks)
