-- What holds of the scene of every legal journal, and of every planned one.
use Rattle.std.proofs.Common.{◌≡◌, ℕ, true, eqb, ◌&&◌, List, [], ◌∷◌, sym, ◌∙◌, refl, subst, true≢false}
use Rattle.std.specs.List.{AllByRecursion, list_any}
use Rattle.std.proofs.lemmas.Bool.{and_parts, eqb-true}
use Rattle.gm_base.specs.declared.copies.Key.{Key}
use Rattle.gm_events.specs.declared.event.Event.{Event}
use Rattle.gm_events.specs.declared.event.Event.TheVariants.{Passed}
use Rattle.gm_machine.specs.Setups.{Entry, standing, Setup, EntryLaws}
use Rattle.gm_machine.specs.Machine.{Own, ReadFailed, ChangedFound, NoMemory, Stage, Runs, Waits, Works, Over, Job, Held, is_running, is_working, is_owing_at, rides_at, rides_with, chunk_now, may, scene_of, IsLegal}
use Rattle.gm_machine.specs.Promises.{AllStages, IsMidwayOrLone, Apart, keys_of, IsHeldFor, IsRiding, IsNew}
use Rattle.gm_machine.proofs.Lists.{stages_weaker}
use Rattle.gm_machine.proofs.Held.{apart_held, held_for}
use Rattle.gm_machine.proofs.Soundness.{IsFine, sound}

module _ {State : Type 0} (Midway : ℕ → Entry State → Type 0) (s : Setup State) (laws : EntryLaws s Midway) where
  from_fine : (c n : ℕ) (st : Stage State) → IsFine Midway s laws c n st → IsMidwayOrLone Midway s.lone n st
  from_fine c n (Runs e) h = h
  from_fine c n (Waits e) h = h.0
  from_fine c n (Works e) h = h.0
  from_fine c n (Over (Own o)) h = h
  from_fine c n (Over (ReadFailed d)) h = tt
  from_fine c n (Over (ChangedFound d)) h = tt
  from_fine c n (Over NoMemory) h = tt

  pub midway_or_lone : (journal : List Event) → IsLegal s journal → AllStages (IsMidwayOrLone Midway s.lone) (scene_of s journal).jobs
  midway_or_lone journal ok =
      let scene = scene_of s journal in
      stages_weaker (IsFine Midway s laws (chunk_now scene.visits)) (IsMidwayOrLone Midway s.lone) (from_fine (chunk_now scene.visits)) scene.jobs (sound Midway s laws journal ok).jobs

  pub held_once : (journal : List Event) → IsLegal s journal → Apart (keys_of (scene_of s journal).held)
  held_once journal ok =
      let scene = scene_of s journal in
      let h = sound Midway s laws journal ok in
      subst (λ (hs : List Held). Apart (keys_of hs)) (sym h.held) (apart_held s (chunk_now scene.visits) scene.jobs scene.loaded h.apart)

  rider_fine : (c n : ℕ) (k : Key) (st : Stage State) → IsFine Midway s laws c n st → rides_at s c k n st ≡ true
      → (is_running st ≡ true) × (is_owing_at s c n st ≡ true) × (rides_at s c k n st ≡ true)
  rider_fine c n k (Runs e) h rides = absurd (true≢false (sym rides))
  rider_fine c n k (Waits e) h rides = (refl, h.1, rides)
  rider_fine c n k (Works e) h rides = (refl, h.1, rides)
  rider_fine c n k (Over o) h rides = absurd (true≢false (sym rides))

  riders_fine : (c : ℕ) (k : Key) (jobs : List (Job State)) → AllStages (IsFine Midway s laws c) jobs → AllByRecursion (λ job. rides_with s c k job ≡ true → IsRiding s c k job) jobs
  riders_fine c k [] h = tt
  riders_fine c k (job ∷ jobs) h = (rider_fine c job.number k job.stage h.0, riders_fine c k jobs h.1)

  pub held_for_riders : (journal : List Event) → IsLegal s journal
      → AllByRecursion (IsHeldFor (IsRiding s (chunk_now (scene_of s journal).visits)) (scene_of s journal).jobs) (scene_of s journal).held
  held_for_riders journal ok =
      let scene = scene_of s journal in
      let c = chunk_now scene.visits in
      let h = sound Midway s laws journal ok in
      subst (λ (hs : List Held). AllByRecursion (IsHeldFor (IsRiding s c) scene.jobs) hs) (sym h.held)
      (held_for s c (IsRiding s c) scene.jobs (λ k. riders_fine c k scene.jobs h.jobs) scene.loaded)

  fine_new : (j c n : ℕ) (st : Stage State) → IsFine Midway s laws c n st → IsNew j c n st
  fine_new j c n (Runs e) h = tt
  fine_new j c n (Waits e) h = tt
  fine_new j c n (Works e) h = λ _. laws.owed_is_new n c (standing e) (sym (laws.owed n c e h.0) ∙ h.1)
  fine_new j c n (Over o) h = tt

  pub passed_once : (journal : List Event) (j c : ℕ) → IsLegal s journal → may s (scene_of s journal) (Passed j c) ≡ true → AllStages (IsNew j c) (scene_of s journal).jobs
  passed_once journal j c ok next =
      let scene = scene_of s journal in
      let here : c ≡ chunk_now scene.visits = eqb-true c (chunk_now scene.visits) (and_parts (eqb c (chunk_now scene.visits)) (list_any (λ (job : Job State). eqb job.number j && is_working job.stage) scene.jobs) next).0 in
      let Goal : ℕ → Type 0 = λ d. AllStages (IsNew j d) scene.jobs in
      subst Goal (sym here) (stages_weaker (IsFine Midway s laws (chunk_now scene.visits)) (IsNew j (chunk_now scene.visits)) (fine_new j (chunk_now scene.visits)) scene.jobs (sound Midway s laws journal ok).jobs)
