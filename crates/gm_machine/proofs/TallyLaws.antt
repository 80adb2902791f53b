-- Where no visit of a legal journal is open, its tally is that of its visits.
use Rattle.std.proofs.Common.{◌≡◌, ℕ, ◌+◌, true, false, not, eqb, ◌&&◌, List, [], ◌∷◌, map, reverse, length, sym, ◌∙◌, refl, subst, true≢false, arith}
use Rattle.std.specs.Prelude.{slice_get}
use Rattle.std.specs.List.{list_any, list_all, sum_by, count_by}
use Rattle.std.proofs.lemmas.Bool.{and_parts, eqb-true, not-true}
use Rattle.std.proofs.lemmas.List.{length-reverse}
use Rattle.std.proofs.lemmas.List.Sorted.{sum_by-IsPermutation, IsPermutation-reverse}
use Rattle.gm_base.specs.declared.copies.Key.{Key}
use Rattle.gm_events.specs.declared.event.LoadCause.{LoadCause}
use Rattle.gm_events.specs.declared.event.Event.{Event}
use Rattle.gm_events.specs.declared.event.Event.TheVariants.{Submit, Visit, Loaded, NoCopy, LoadFailed, Given, Passed}
use Rattle.gm_events.specs.Journals.{is_visit, is_pass, is_copy, tally_of}
use Rattle.gm_buffer.specs.Keys.{is_same_key}
use Rattle.gm_machine.specs.Setups.{Entry, Setup, EntryLaws}
use Rattle.gm_machine.specs.Machine.{NoMemory, ending_by, Stage, Runs, Waits, Works, Over, Job, Ridden, Scene, beginning, is_empty, is_whole, is_riding, is_waiting, is_working, is_owing, is_open, is_settled, key_in, rides_with, has_key, chunk_now, at_stage, given, has_passed, ended_where, lose, fail, may, done, scene_from, is_legal_from, scene_of, IsLegal}
use Rattle.gm_machine.specs.Promises.{AllStages}
use Rattle.gm_machine.specs.Schedules.{passes_in, copies_in, tally_by}
use Rattle.gm_machine.proofs.Lists.{stage_found, Numbered}
use Rattle.gm_machine.proofs.Choices.{one_if, counted}
use Rattle.gm_machine.proofs.Soundness.{Sound, begins_sound, step_sound}
use Rattle.gm_machine.proofs.Missed.{IsAboard, KnowsMisses, step_knows}
use Rattle.gm_machine.proofs.Tallies.{unridden, IsTallied}
use Rattle.gm_machine.proofs.Counting.{closed_tally, visit_tallied, submit_tallied, loaded_tallied, lost_tallied, failed_tallied, given_tallied, passed_tallied}

module _ {State : Type 0} (Midway : ℕ → Entry State → Type 0) (s : Setup State) (laws : EntryLaws s Midway) where
  -- so many visits, passes and copies
  pub record Tallied (visits passes copies : ℕ) (scene : Scene State) : Type 0 where
    pub visited : visits ≡ length scene.visits
    pub counts : IsTallied s passes copies scene.visits scene.loaded scene.jobs

  move : (a b c d e f : ℕ) (scene : Scene State) → a ≡ d → b ≡ e → c ≡ f → Tallied a b c scene → Tallied d e f scene
  move a b c d e f scene one two three h =
      subst (λ x. Tallied x e f scene) one (subst (λ y. Tallied a y f scene) two (subst (λ z. Tallied a b z scene) three h))

  loaded_in : (passes copies : ℕ) (visits : List Ridden) (loaded : List Key) (jobs : List (Job State)) (k : Key) → list_any (rides_with s (chunk_now visits) k) jobs ≡ true → AllStages (IsAboard s visits) jobs
      → IsTallied s passes copies visits loaded jobs → IsTallied s passes (copies + 1) visits (k ∷ loaded) jobs
  loaded_in passes copies [] loaded jobs k rides aboard h =
      let found = stage_found (IsAboard s []) (rides_with s 0 k) jobs aboard rides in
      absurd (true≢false (sym found.1 ∙ unridden s 0 k found.0.number found.0.stage found.2))
  loaded_in passes copies (v ∷ vs) loaded jobs k rides aboard h = loaded_tallied s passes copies v vs loaded jobs k rides aboard h

  lost_in : (passes copies : ℕ) (visits : List Ridden) (loaded : List Key) (jobs : List (Job State)) (k : Key) → list_any (rides_with s (chunk_now visits) k) jobs ≡ true → has_key loaded k ≡ false → AllStages (IsAboard s visits) jobs
      → IsTallied s passes copies visits loaded jobs
      → IsTallied s passes copies (lose k visits) loaded (map (at_stage (ended_where (λ m e. is_same_key (key_in s (chunk_now visits) m e) k) NoMemory)) jobs)
  lost_in passes copies [] loaded jobs k rides fresh aboard h = record { passed = h.passed; copied = h.copied }
  lost_in passes copies (v ∷ vs) loaded jobs k rides fresh aboard h = lost_tallied s passes copies v vs loaded jobs k rides fresh aboard h

  failed_in : (passes copies : ℕ) (visits : List Ridden) (loaded : List Key) (jobs : List (Job State)) (cause : LoadCause) → is_empty loaded ≡ true → IsTallied s passes copies visits loaded jobs
      → IsTallied s passes copies (fail cause visits) loaded (map (at_stage (ended_where (λ m e. true) (ending_by cause (chunk_now visits)))) jobs)
  failed_in passes copies [] loaded jobs cause empty h = record { passed = h.passed; copied = h.copied }
  failed_in passes copies (v ∷ vs) loaded jobs cause empty h = failed_tallied s passes copies v vs loaded jobs cause empty h

  given_in : (passes copies : ℕ) (visits : List Ridden) (loaded : List Key) (jobs : List (Job State)) (j : ℕ) → list_all (is_settled s (chunk_now visits) loaded) jobs ≡ true → IsTallied s passes copies visits loaded jobs
      → IsTallied s passes copies visits loaded (map (at_stage (given j)) jobs)
  given_in passes copies [] loaded jobs j settled h = record { passed = h.passed; copied = h.copied }
  given_in passes copies (v ∷ vs) loaded jobs j settled h = given_tallied s passes copies v vs loaded jobs j settled h

  passed_in : (passes copies : ℕ) (visits : List Ridden) (loaded : List Key) (jobs : List (Job State)) (j : ℕ) → Numbered 0 jobs → list_any (λ job. eqb job.number j && is_working job.stage) jobs ≡ true
      → AllStages (IsAboard s visits) jobs → IsTallied s passes copies visits loaded jobs → IsTallied s (passes + 1) copies visits loaded (map (at_stage (has_passed s j (chunk_now visits))) jobs)
  passed_in passes copies [] loaded jobs j numbers found aboard h =
      let works = stage_found (IsAboard s []) (λ job. eqb job.number j && is_working job.stage) jobs aboard found in
      absurd (rests works.0.stage (and_parts (eqb works.0.number j) (is_working works.0.stage) works.1).1 works.2)
    where
      rests : (st : Stage State) → is_working st ≡ true → is_riding st ≡ false → ⊥
      rests (Runs e) w r = true≢false (sym w)
      rests (Waits e) w r = true≢false r
      rests (Works e) w r = true≢false r
      rests (Over o) w r = true≢false (sym w)
  passed_in passes copies (v ∷ vs) loaded jobs j numbers found aboard h = passed_tallied s passes copies v vs loaded jobs j numbers found h

  step_tallied : (scene : Scene State) (event : Event) (a b c : ℕ) → may s scene event ≡ true → Sound Midway s laws scene → KnowsMisses s scene.visits scene.jobs → Tallied a b c scene
      → Tallied (a + one_if (is_visit event)) (b + one_if (is_pass event)) (c + one_if (is_copy event)) (done s scene event)
  step_tallied scene (Submit line) a b c ok sound knows h =
      move a b c _ _ _ (done s scene (Submit line)) (omega arith) (omega arith) (omega arith)
      (record { visited = h.visited; counts = submit_tallied s b c scene.visits scene.loaded (slice_get s.script line) scene.jobs h.counts })
  step_tallied scene (Visit chunk) a b c ok sound knows h =
      let closed = not-true (is_open scene) (and_parts (not (is_open scene)) (list_any (is_owing s chunk) scene.jobs) ok).0 in
      let visited = h.visited in
      move (a + 1) b c _ _ _ (done s scene (Visit chunk)) (omega arith) (omega arith) (omega arith)
      (record { visited = omega (arith, visited); counts = visit_tallied s b c scene.visits scene.loaded scene.jobs chunk closed sound.apart h.counts })
  step_tallied scene (Loaded k) a b c ok sound knows h =
      let rides = (and_parts (list_any (rides_with s (chunk_now scene.visits) k) scene.jobs) (not (has_key scene.loaded k)) ok).0 in
      move a b (c + 1) _ _ _ (done s scene (Loaded k)) (omega arith) (omega arith) (omega arith)
      (record { visited = h.visited; counts = loaded_in b c scene.visits scene.loaded scene.jobs k rides knows.aboard h.counts })
  step_tallied scene (NoCopy k) a b c ok sound knows h =
      let parts = and_parts (list_any (rides_with s (chunk_now scene.visits) k) scene.jobs) (not (has_key scene.loaded k)) ok in
      move a b c _ _ _ (done s scene (NoCopy k)) (omega arith) (omega arith) (omega arith)
      (record { visited = h.visited ∙ same_length scene.visits; counts = lost_in b c scene.visits scene.loaded scene.jobs k parts.0 (not-true (has_key scene.loaded k) parts.1) knows.aboard h.counts })
    where
      same_length : (visits : List Ridden) → length visits ≡ length (lose k visits)
      same_length [] = refl
      same_length (v ∷ vs) = refl
  step_tallied scene (LoadFailed d cause) a b c ok sound knows h =
      let parts = and_parts (is_open scene && eqb d (chunk_now scene.visits)) (is_empty scene.loaded && is_whole scene.visits) ok in
      let first = and_parts (is_open scene) (eqb d (chunk_now scene.visits)) parts.0 in
      let second = and_parts (is_empty scene.loaded) (is_whole scene.visits) parts.1 in
      let here : d ≡ chunk_now scene.visits = eqb-true d (chunk_now scene.visits) first.1 in
      let Goal : ℕ → Type 0 = λ x. Tallied a b c (done s scene (LoadFailed x cause)) in
      let at : Goal (chunk_now scene.visits) = record { visited = h.visited ∙ same_length scene.visits; counts = failed_in b c scene.visits scene.loaded scene.jobs cause second.0 h.counts } in
      move a b c _ _ _ (done s scene (LoadFailed d cause)) (omega arith) (omega arith) (omega arith) (subst Goal (sym here) at)
    where
      same_length : (visits : List Ridden) → length visits ≡ length (fail cause visits)
      same_length [] = refl
      same_length (v ∷ vs) = refl
  step_tallied scene (Given j d) a b c ok sound knows h =
      let now = chunk_now scene.visits in
      let parts = and_parts (eqb d now && list_all (is_settled s now scene.loaded) scene.jobs) (list_any (λ (job : Job State). eqb job.number j && is_waiting job.stage) scene.jobs) ok in
      let settled = (and_parts (eqb d now) (list_all (is_settled s now scene.loaded) scene.jobs) parts.0).1 in
      move a b c _ _ _ (done s scene (Given j d)) (omega arith) (omega arith) (omega arith)
      (record { visited = h.visited; counts = given_in b c scene.visits scene.loaded scene.jobs j settled h.counts })
  step_tallied scene (Passed j d) a b c ok sound knows h =
      let now = chunk_now scene.visits in
      let parts = and_parts (eqb d now) (list_any (λ (job : Job State). eqb job.number j && is_working job.stage) scene.jobs) ok in
      let here : d ≡ now = eqb-true d now parts.0 in
      let Goal : ℕ → Type 0 = λ x. Tallied a (b + 1) c (done s scene (Passed j x)) in
      let at : Goal now = record { visited = h.visited; counts = passed_in b c scene.visits scene.loaded scene.jobs j sound.numbers parts.1 knows.aboard h.counts } in
      move a (b + 1) c _ _ _ (done s scene (Passed j d)) (omega arith) (omega arith) (omega arith) (subst Goal (sym here) at)

  tallied_from : (journal : List Event) (scene : Scene State) (a b c : ℕ) → is_legal_from s scene journal ≡ true → Sound Midway s laws scene → KnowsMisses s scene.visits scene.jobs → Tallied a b c scene
      → Tallied (a + count_by is_visit journal) (b + count_by is_pass journal) (c + count_by is_copy journal) (scene_from s scene journal)
  unfolding is_legal_from scene_from
  tallied_from [] scene a b c ok sound knows h = move a b c _ _ _ scene (omega arith) (omega arith) (omega arith) h
  tallied_from (event ∷ journal) scene a b c ok sound knows h =
      let parts = and_parts (may s scene event) (is_legal_from s (done s scene event) journal) ok in
      let next = done s scene event in
      let rest = tallied_from journal next (a + one_if (is_visit event)) (b + one_if (is_pass event)) (c + one_if (is_copy event)) parts.1
      (step_sound Midway s laws scene event parts.0 sound) (step_knows s scene event parts.0 knows) (step_tallied scene event a b c parts.0 sound knows h) in
      let one = counted is_visit event journal in
      let two = counted is_pass event journal in
      let three = counted is_copy event journal in
      move _ _ _ _ _ _ (scene_from s next journal) (omega (arith, one)) (omega (arith, two)) (omega (arith, three)) rest

  all_tallied : (journal : List Event) → IsLegal s journal → Tallied (0 + count_by is_visit journal) (0 + count_by is_pass journal) (0 + count_by is_copy journal) (scene_of s journal)
  all_tallied journal ok =
      tallied_from journal beginning 0 0 0 ok (begins_sound Midway s laws) (record { fits = tt; aboard = tt; ended = tt }) (record { visited = refl; counts = record { passed = refl; copied = refl } })

  pub tally_closed : (journal : List Event) → IsLegal s journal → Sound Midway s laws (scene_of s journal) → is_open (scene_of s journal) ≡ false → tally_of journal ≡ tally_by (scene_of s journal).visits
  tally_closed journal ok sound closed =
      let scene = scene_of s journal in
      let all = all_tallied journal ok in
      let counts = closed_tally s (0 + count_by is_pass journal) (0 + count_by is_copy journal) scene.visits scene.loaded scene.jobs closed sound.apart all.counts in
      let visited = all.visited in
      let one : count_by is_visit journal ≡ length scene.visits = none_more (count_by is_visit journal) (length scene.visits) visited in
      let two : count_by is_pass journal ≡ sum_by passes_in scene.visits = none_more (count_by is_pass journal) (sum_by passes_in scene.visits) counts.0 in
      let three : count_by is_copy journal ≡ sum_by copies_in scene.visits = none_more (count_by is_copy journal) (sum_by copies_in scene.visits) counts.1 in
      λ i. record { visits = one i; passes = two i; copies = three i }
    where
      none_more : (a b : ℕ) → 0 + a ≡ b → a ≡ b
      none_more a b h = omega arith

  pub tally_reversed : (visits : List Ridden) → tally_by (reverse visits) ≡ tally_by visits
  tally_reversed visits =
      let one = length-reverse visits in
      let two = sum_by-IsPermutation passes_in visits (reverse visits) (IsPermutation-reverse visits) in
      let three = sum_by-IsPermutation copies_in visits (reverse visits) (IsPermutation-reverse visits) in
      λ i. record { visits = one i; passes = two i; copies = three i }
