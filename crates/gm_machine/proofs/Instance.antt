-- The laws of a script's jobs are those of the machine's entries, and their phases bound the visits.
use Rattle.std.proofs.Common.{◌≡◌, ℕ, zero, suc, ◌+◌, ◌<◌, ◌≤◌, ◌*◌, List, [], ◌∷◌, length, sym, ap, ◌∙◌, refl, subst, ◌⊎◌, inl, inr, ⊎_elim, arith}
use Rattle.gm_changes.specs.declared.change.Change.{Change}
use Rattle.gm_jobs.specs.declared.script.Line.{Line}
use Rattle.gm_jobs.specs.declared.script.Line.TheVariants.{Update, Wait, Job as JobLine}
use Rattle.gm_jobs.specs.StatedJobs.{jobs_of, jobs_below}
use Rattle.gm_events.specs.declared.event.Event.{Event}
use Rattle.gm_kernel.specs.Standings.{Standing, Turning}
use Rattle.gm_kernel.specs.Standings.Turning.{Goes, Ends}
use Rattle.gm_machine.specs.JobWorks.{JobWorks, IsTurnedAs, HasLeft, TurnsOn, Laws, phases_of, most_visits}
use Rattle.gm_machine.specs.Setups.{Entry, standing, map_turned, jobs_in, IsTurnedWell, OwesOne, EntryLaws, setup_of, turned_with, IsMidwayEntry}
use Rattle.gm_machine.specs.Machine.{Job, scene_of, IsLegal}
use Rattle.gm_machine.proofs.Lists.{Numbered}
use Rattle.gm_machine.proofs.Soundness.{sound}
use Rattle.gm_machine.proofs.Riding.{Onward}
use Rattle.gm_machine.proofs.Bounds.{Measured, total_of, visits_bounded}

below-length : (number : ℕ) (above : List (List Change)) (lines : List Line) → length (jobs_below number above lines) ≡ jobs_in lines
below-length number above [] = refl
below-length number above (JobLine name spec own ∷ lines) = ap suc (below-length (number + 1) above lines)
below-length number above (Update batch ∷ lines) = below-length number _ lines
below-length number above (Wait visits ∷ lines) = below-length number above lines

-- the script has as many jobs
pub jobs_count : (lines : List Line) → length (jobs_of lines) ≡ jobs_in lines
jobs_count lines = below-length 0 [] lines

module _ {State : Type 0} (w : JobWorks State) (lines : List Line) (M : ℕ → Standing → State → Type 0) (many : w.jobs ≡ length (jobs_of lines)) (laws : Laws w M) where
  turned_well : (n : ℕ) (at : Turning Standing) (t : Turning State) → IsTurnedAs w M n at t
      → IsTurnedWell (IsMidwayEntry M n) (w.lone n) (turned_with at t) × (map_turned standing (turned_with at t) ≡ at)
  turned_well n (Goes st) (Goes e) h = (h.0, refl)
  turned_well n (Goes st) (Ends o) h = absurd h
  turned_well n (Ends o) (Goes e) h = absurd h
  turned_well n (Ends o) (Ends p) h = (h.1, ap Ends (h.1 ∙ sym h.0))

  goes_owing : (n : ℕ) (at : Turning Standing) (t : Turning State) (on : Entry State) → IsTurnedAs w M n at t → turned_with at t ≡ Goes on → OwesOne (setup_of w lines) n on
  goes_owing n (Goes st) (Goes e) on h is = owing (record { chunk = h.1.chunk; owed = h.1.owed }) is
    where
      owing : {f g : Entry State} → OwesOne (setup_of w lines) n f → (Goes f ≡ Goes g) → OwesOne (setup_of w lines) n g
      owing {f = f} {g = g} o same = let e : f ≡ g = cc in subst (OwesOne (setup_of w lines) n) e o
  goes_owing n (Goes st) (Ends o) on h is = absurd h
  goes_owing n (Ends o) (Goes e) on h is = absurd h
  goes_owing n (Ends o) (Ends p) on h is = cc

  turn_leads : (n : ℕ) (s : Standing) (at : Turning Standing) (t : Turning State) (on : Entry State) → IsTurnedAs w M n at t → TurnsOn w n s at → turned_with at t ≡ Goes on
      → (on.at ≡ s) ⊎ (w.phases_left n on.at.phase < w.phases_left n s.phase)
  turn_leads n s (Goes st) (Goes e) on h leads is = at_goes is (⊎_elim (λ same. inl same) (λ less. inr less.1) leads)
    where
      at_goes : {f g : Entry State} → (Goes f ≡ Goes g) → (f.at ≡ s) ⊎ (w.phases_left n f.at.phase < w.phases_left n s.phase) → (g.at ≡ s) ⊎ (w.phases_left n g.at.phase < w.phases_left n s.phase)
      at_goes {f = f} {g = g} is h = let e : f ≡ g = cc in subst (λ (x : Entry State). (x.at ≡ s) ⊎ (w.phases_left n x.at.phase < w.phases_left n s.phase)) e h
  turn_leads n s (Goes st) (Ends o) on h leads is = absurd h
  turn_leads n s (Ends o) (Goes e) on h leads is = absurd h
  turn_leads n s (Ends o) (Ends p) on h leads is = cc

  pub onward : Onward (setup_of w lines) (IsMidwayEntry M) w.phases_left
  onward = record {
    turns_on = λ n e on here is. turn_leads n e.at (w.turn_at n e.at) (w.turn n e.work) on (laws.turns n e.at e.work here) (laws.turns_on n e.at e.work here) is;
    owed_after = λ n c x st. laws.owed_after n c x st;
  }

  pub script_jobs : w.jobs ≡ jobs_in lines
  script_jobs = many ∙ jobs_count lines

  pub entry_laws : EntryLaws (setup_of w lines) (IsMidwayEntry M)
  entry_laws = record {
    begins = λ n within. laws.begins n (subst (λ (m : ℕ). n < m) (sym script_jobs) within);
    passes = λ n c e here owes. laws.passes n c e.at e.work _ here owes (λ edge. refl);
    turns = λ n e here. (turned_well n (w.turn_at n e.at) (w.turn n e.work) (laws.turns n e.at e.work here)).0;
    begins_at = λ n. refl;
    passes_at = λ n c e. refl;
    owed = λ n c e here. laws.owed n c e.at e.work here;
    turns_at = λ n e here. (turned_well n (w.turn_at n e.at) (w.turn n e.work) (laws.turns n e.at e.work here)).1;
    owed_is_new = λ n c st owes. laws.owed_is_new n c st owes;
    goes_owing = λ n e on here is. goes_owing n (w.turn_at n e.at) (w.turn n e.work) on (laws.turns n e.at e.work here) is;
    owed_is_chunk = λ n c st owes. laws.owed_is_chunk n c st owes;
    chunk_in_block = laws.chunk_in_block;
  }

  -- ---- how many visits there may be

  turn_left : (n passes : ℕ) (at : Turning Standing) (t : Turning State) (on : Entry State) → IsTurnedAs w M n at t → HasLeft w n passes at
      → turned_with at t ≡ Goes on → w.left n on.at ≡ passes
  turn_left n passes (Goes st) (Goes e) on h left is = at_goes is left
    where
      at_goes : {f g : Entry State} → (Goes f ≡ Goes g) → w.left n f.at ≡ passes → w.left n g.at ≡ passes
      at_goes is h = cc
  turn_left n passes (Goes st) (Ends o) on h left is = absurd h
  turn_left n passes (Ends o) (Goes e) on h left is = absurd h
  turn_left n passes (Ends o) (Ends p) on h left is = cc

  pub measured : Measured (setup_of w lines) (IsMidwayEntry M) (λ n e. w.left n e.at) (λ n. w.phases n * w.chunks)
  measured = record {
    begins = λ n within. laws.left_at_first n (subst (λ (m : ℕ). n < m) (sym script_jobs) within);
    passes = λ n c e here owes.
        let less = laws.left_by_passes n c e.at (sym (laws.owed n c e.at e.work here) ∙ owes) in
        omega (arith, less);
    turns = λ n e on here is.
        let same = turn_left n (w.left n e.at) (w.turn_at n e.at) (w.turn n e.work) on (laws.turns n e.at e.work here) (laws.left_by_turns n e.at e.work here) is in
        omega (arith, same);
  }

  total_phases : (n : ℕ) (jobs : List (Job State)) → Numbered n jobs → total_of (λ m. w.phases m * w.chunks) jobs ≡ phases_of w n (length jobs)
  total_phases n [] h = refl
  total_phases n (job ∷ jobs) h =
      let one = ap (λ (m : ℕ). w.phases m * w.chunks) h.0 in
      let rest = total_phases (suc n) jobs h.1 in
      omega (arith, one, rest)

  phases_more : (n few more : ℕ) → few ≤ more → phases_of w n few ≤ phases_of w n more
  phases_more n zero more h = omega arith
  phases_more n (suc few) zero h = absurd (omega arith)
  phases_more n (suc few) (suc more) h =
      let rest = phases_more (suc n) few more (omega arith) in
      omega (arith, rest)

  -- the script can have as many visits as its jobs have phases times chunks
  pub few : (jobs : List (Job State)) → Numbered 0 jobs → length jobs ≤ jobs_in lines → total_of (λ m. w.phases m * w.chunks) jobs ≤ most_visits w
  few jobs numbers all =
      let same = total_phases 0 jobs numbers in
      let script = script_jobs in
      let more = phases_more 0 (length jobs) w.jobs (omega (arith, all, script)) in
      omega (arith, same, more)

  pub bounded_visits : (journal : List Event) → IsLegal (setup_of w lines) journal → length (scene_of (setup_of w lines) journal).visits ≤ phases_of w 0 w.jobs
  bounded_visits journal ok =
      let s = setup_of w lines in
      let jobs = (scene_of s journal).jobs in
      let good = sound (IsMidwayEntry M) s entry_laws journal ok in
      let most = visits_bounded (IsMidwayEntry M) s entry_laws (λ n e. w.left n e.at) (λ n. w.phases n * w.chunks) measured journal ok in
      let same = total_phases 0 jobs good.numbers in
      let count = good.count in
      let script = script_jobs in
      let few : length jobs ≤ w.jobs = omega (arith, count, script) in
      let more = phases_more 0 (length jobs) w.jobs few in
      omega (arith, most, same, more)
