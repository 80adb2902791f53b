-- Inside a visit each job is, or will be, where the plan puts it: what events make of that.
use Rattle.std.proofs.Common.{◌≡◌, ℕ, Bool, true, false, cond, eqb, ◌||◌, List, [], ◌∷◌, map, sym, ap, ap₂, ◌∙◌, refl, Option, Some, None, true≢false}
use Rattle.std.specs.List.{AllByRecursion, list_any, list_all}
use Rattle.std.proofs.lemmas.Bool.{or_parts}
use Rattle.gm_base.specs.declared.copies.Key.{Key}
use Rattle.gm_events.specs.declared.event.LoadCause.{LoadCause}
use Rattle.gm_kernel.specs.Standings.{Turning}
use Rattle.gm_kernel.specs.Standings.Turning.{Goes, Ends}
use Rattle.gm_buffer.specs.Keys.{is_same_key}
use Rattle.gm_machine.specs.Setups.{Entry, standing, map_turned, Setup}
use Rattle.gm_machine.specs.Machine.{Ending, NoMemory, ending_by, Stage, Runs, Waits, Works, Over, Job, Miss, Ridden, is_empty, is_riding, is_settled, is_settled_at, key_in, rides_at, rides_with, has_key, at_stage, given, has_passed, ended_where, stage_after}
use Rattle.gm_machine.specs.Plans.{Place, Stands, Gone, Planned, Plan, place_after, planned_riders, loss_by, loss_of, place_by, ridden, plan_choice}
use Rattle.gm_machine.specs.Promises.{AllStages, place_of}
use Rattle.gm_machine.proofs.Lists.{by_test, same_key-true, same_key_refl, same_key_sym, stages_after, stages_weaker, stages_all, stage_found, stages_pass}

module _ {State : Type 0} where
  -- where a job will be when it is through with the visit of c
  abbrev pub final_place : Setup State → (Key → Option Ending) → ℕ → ℕ → Stage State → Place
  final_place s loss c n (Runs e) = Stands (standing e)
  final_place s loss c n (Waits e) = place_by s (loss (key_in s c n e)) c n (standing e)
  final_place s loss c n (Works e) = place_by s (loss (key_in s c n e)) c n (standing e)
  final_place s loss c n (Over o) = Gone o

  abbrev pub final : Setup State → (Key → Option Ending) → ℕ → Job State → Planned
  final s loss c job = record { number = job.number; place = final_place s loss c job.number job.stage }

-- a loss that may still come of what has happened
abbrev pub AgreesBy : (Key → Option Ending) → ℕ → Option LoadCause → List Key → Type 0
AgreesBy loss c None lost = (k : Key) → has_key lost k ≡ true → loss k ≡ Some NoMemory
AgreesBy loss c (Some cause) lost = (k : Key) → loss k ≡ Some (ending_by cause c)

pub record Agrees (loss : Key → Option Ending) (c : ℕ) (miss : Miss) (loaded : List Key) : Type 0 where
  pub kept : AllByRecursion (λ k. loss k ≡ None) loaded
  pub gone : AgreesBy loss c miss.failed miss.lost

module _ {State : Type 0} where
  -- a rider's key is not lost
  abbrev pub IsAlive : Setup State → Miss → ℕ → ℕ → Stage State → Type 0
  IsAlive s miss c n (Runs e) = Unit {0}
  IsAlive s miss c n (Waits e) = loss_of miss c (key_in s c n e) ≡ None
  IsAlive s miss c n (Works e) = loss_of miss c (key_in s c n e) ≡ None
  IsAlive s miss c n (Over o) = Unit {0}

  -- the key of a job that works is Loaded
  abbrev pub IsReady : Setup State → ℕ → List Key → ℕ → Stage State → Type 0
  IsReady s c loaded n (Runs e) = Unit {0}
  IsReady s c loaded n (Waits e) = Unit {0}
  IsReady s c loaded n (Works e) = has_key loaded (key_in s c n e) ≡ true
  IsReady s c loaded n (Over o) = Unit {0}

  -- the visit v after the visits vs is the plan's, and each job will be where the plan puts it
  pub record InVisit (s : Setup State) (before : Plan) (now : ℕ) (v : Ridden) (vs : List Ridden) (loaded : List Key) (all : List (Job State)) : Type 0 where
    pub entries : now ≡ before.entries_in
    pub visits : vs ≡ before.visits
    pub chosen : plan_choice s before ≡ Some v.chunk
    pub riders : v.riders ≡ planned_riders s v.chunk before.jobs
    pub jobs : (loss : Key → Option Ending) → Agrees loss v.chunk v.miss loaded → map (final s loss v.chunk) all ≡ map (ridden s loss v.chunk) before.jobs
    pub kept : AllByRecursion (λ k. loss_of v.miss v.chunk k ≡ None) loaded
    pub alive : AllStages (IsAlive s v.miss v.chunk) all
    pub ready : AllStages (IsReady s v.chunk loaded) all

  -- ---- events inside a visit

  abbrev pub SameFinal : Setup State → (Key → Option Ending) → ℕ → (ℕ → Stage State → Stage State) → ℕ → Stage State → Type 0
  SameFinal s loss c f n st = final_place s loss c n (f n st) ≡ final_place s loss c n st

  pub finals_same : (s : Setup State) (loss : Key → Option Ending) (c : ℕ) (f : ℕ → Stage State → Stage State) (jobs : List (Job State)) → AllStages (SameFinal s loss c f) jobs
      → map (final s loss c) (map (at_stage f) jobs) ≡ map (final s loss c) jobs
  finals_same s loss c f [] h = refl
  finals_same s loss c f (job ∷ jobs) h =
      let one : final s loss c (at_stage f job) ≡ final s loss c job = λ i. record { number = job.number; place = h.0 i } in
      ap₂ (λ (p : Planned) (ps : List Planned). p ∷ ps) one (finals_same s loss c f jobs h.1)

pub or_more : (x y : Bool) → y ≡ true → (x || y) ≡ true
or_more true y h = refl
or_more false y h = h

pub kept_at : (loss : Key → Option Ending) (ks : List Key) (k : Key) → AllByRecursion (λ l. loss l ≡ None) ks → has_key ks k ≡ true → loss k ≡ None
kept_at loss [] k h found = absurd (true≢false (sym found))
kept_at loss (l ∷ ks) k h found =
    by_test (is_same_key l k) (λ t. (t || has_key ks k) ≡ true → loss k ≡ None)
    (λ same _. ap loss (sym (same_key-true l k same)) ∙ h.0)
    (λ other there. kept_at loss ks k h.1 there)
    found

pub all_of_none : (P : Key → Type 0) (ks : List Key) → is_empty ks ≡ true → AllByRecursion P ks
all_of_none P [] h = tt
all_of_none P (k ∷ ks) h = absurd (true≢false (sym h))

module _ {State : Type 0} where
  pub alive_key : (s : Setup State) (miss : Miss) (c : ℕ) (k : Key) (n : ℕ) (st : Stage State) → rides_at s c k n st ≡ true → IsAlive s miss c n st → loss_of miss c k ≡ None
  alive_key s miss c k n (Runs e) rides h = absurd (true≢false (sym rides))
  alive_key s miss c k n (Waits e) rides h = ap (loss_of miss c) (sym (same_key-true (key_in s c n e) k rides)) ∙ h
  alive_key s miss c k n (Works e) rides h = ap (loss_of miss c) (sym (same_key-true (key_in s c n e) k rides)) ∙ h
  alive_key s miss c k n (Over o) rides h = absurd (true≢false (sym rides))

  pub ready_more : (s : Setup State) (c : ℕ) (loaded : List Key) (k : Key) (n : ℕ) (st : Stage State) → IsReady s c loaded n st → IsReady s c (k ∷ loaded) n st
  ready_more s c loaded k n (Runs e) h = tt
  ready_more s c loaded k n (Waits e) h = tt
  ready_more s c loaded k n (Works e) h = or_more (is_same_key k (key_in s c n e)) (has_key loaded (key_in s c n e)) h
  ready_more s c loaded k n (Over o) h = tt

  pub in_loaded : (s : Setup State) (b : Plan) (n : ℕ) (v : Ridden) (vs : List Ridden) (loaded : List Key) (jobs : List (Job State)) (k : Key)
      → list_any (rides_with s v.chunk k) jobs ≡ true → InVisit s b n v vs loaded jobs → InVisit s b n v vs (k ∷ loaded) jobs
  in_loaded s b n v vs loaded jobs k rides h =
      let found = stage_found (IsAlive s v.miss v.chunk) (rides_with s v.chunk k) jobs h.alive rides in
      record {
        entries = h.entries;
        visits = h.visits;
        chosen = h.chosen;
        riders = h.riders;
        jobs = λ loss agrees. h.jobs loss (record { kept = agrees.kept.1; gone = agrees.gone });
        kept = (alive_key s v.miss v.chunk k found.0.number found.0.stage found.1 found.2, h.kept);
        alive = h.alive;
        ready = stages_weaker (IsReady s v.chunk loaded) (IsReady s v.chunk (k ∷ loaded)) (ready_more s v.chunk loaded k) jobs h.ready;
      }

-- ---- a key without a copy

unfoldable pub lost_at : Key → Ridden → Ridden
lost_at k v = record { chunk = v.chunk; riders = v.riders; miss = record { lost = k ∷ v.miss.lost; failed = v.miss.failed } }

pub agrees_less : (loss : Key → Option Ending) (c : ℕ) (failed : Option LoadCause) (k : Key) (lost : List Key) → AgreesBy loss c failed (k ∷ lost) → AgreesBy loss c failed lost
agrees_less loss c None k lost h = λ l g. h l (or_more (is_same_key k l) (has_key lost l) g)
agrees_less loss c (Some cause) k lost h = h

-- a rider with this key is alive, so the load didn't fail
pub lost_ends : (loss : Key → Option Ending) (c : ℕ) (failed : Option LoadCause) (k : Key) (lost : List Key) → AgreesBy loss c failed (k ∷ lost) → loss_by failed lost c k ≡ None → loss k ≡ Some NoMemory
lost_ends loss c None k lost h alive = h k (ap (λ t. t || has_key lost k) (same_key_refl k))
lost_ends loss c (Some cause) k lost h alive = cc

pub lost_other : (c : ℕ) (failed : Option LoadCause) (k l : Key) (lost : List Key) → is_same_key k l ≡ false → loss_by failed lost c l ≡ None → loss_by failed (k ∷ lost) c l ≡ None
lost_other c None k l lost h e = rw h e
lost_other c (Some cause) k l lost h e = e

module _ {State : Type 0} where
  pub lost_final : (s : Setup State) (loss : Key → Option Ending) (c : ℕ) (miss : Miss) (k : Key) → AgreesBy loss c miss.failed (k ∷ miss.lost)
      → (n : ℕ) (st : Stage State) → IsAlive s miss c n st → SameFinal s loss c (ended_where (λ m e. is_same_key (key_in s c m e) k) NoMemory) n st
  lost_final s loss c miss k h n st alive = at st alive
    where
      ends : (e : Entry State) → loss_of miss c (key_in s c n e) ≡ None → is_same_key (key_in s c n e) k ≡ true → loss (key_in s c n e) ≡ Some NoMemory
      ends e live found =
          let same : key_in s c n e ≡ k = same_key-true (key_in s c n e) k found in
          ap loss same ∙ lost_ends loss c miss.failed k miss.lost h (ap (loss_of miss c) (sym same) ∙ live)

      rider : (e : Entry State) (before : Stage State) → final_place s loss c n before ≡ place_by s (loss (key_in s c n e)) c n (standing e) → loss_of miss c (key_in s c n e) ≡ None
          → final_place s loss c n (cond (is_same_key (key_in s c n e) k) (Over NoMemory) before) ≡ place_by s (loss (key_in s c n e)) c n (standing e)
      rider e before same live = by_test (is_same_key (key_in s c n e) k) (λ t. final_place s loss c n (cond t (Over NoMemory) before) ≡ place_by s (loss (key_in s c n e)) c n (standing e))
          (λ found. rw (ends e live found) refl) (λ other. same)

      at : (st : Stage State) → IsAlive s miss c n st → SameFinal s loss c (ended_where (λ m e. is_same_key (key_in s c m e) k) NoMemory) n st
      at (Runs e) a = refl
      at (Waits e) a = rider e (Waits e) refl a
      at (Works e) a = rider e (Works e) refl a
      at (Over o) a = refl

pub lost_kept : (c : ℕ) (miss : Miss) (k : Key) (loaded : List Key) → has_key loaded k ≡ false → AllByRecursion (λ l. loss_of miss c l ≡ None) loaded
    → AllByRecursion (λ l. loss_by miss.failed (k ∷ miss.lost) c l ≡ None) loaded
lost_kept c miss k [] h g = tt
lost_kept c miss k (l ∷ loaded) h g =
    let parts = or_parts (is_same_key l k) (has_key loaded k) h in
    (lost_other c miss.failed k l miss.lost (same_key_sym l k parts.0) g.0, lost_kept c miss k loaded parts.1 g.1)

module _ {State : Type 0} where
  -- who rides afterwards did so before, and has another key
  pub lost_alive : (s : Setup State) (c : ℕ) (miss : Miss) (k : Key) (n : ℕ) (st : Stage State) → IsAlive s miss c n st
      → IsAlive s (record { lost = k ∷ miss.lost; failed = miss.failed }) c n (ended_where (λ m e. is_same_key (key_in s c m e) k) NoMemory n st)
  lost_alive s c miss k n st alive = at st alive
    where
      less : Miss
      less = record { lost = k ∷ miss.lost; failed = miss.failed }

      rider : (e : Entry State) (before : Stage State) → (is_same_key (key_in s c n e) k ≡ false → IsAlive s less c n before) → IsAlive s less c n (cond (is_same_key (key_in s c n e) k) (Over NoMemory) before)
      rider e before other = by_test (is_same_key (key_in s c n e) k) (λ t. IsAlive s less c n (cond t (Over NoMemory) before)) (λ found. tt) other

      still : (e : Entry State) → loss_of miss c (key_in s c n e) ≡ None → is_same_key (key_in s c n e) k ≡ false → loss_of less c (key_in s c n e) ≡ None
      still e a other = lost_other c miss.failed k (key_in s c n e) miss.lost (same_key_sym (key_in s c n e) k other) a

      at : (st : Stage State) → IsAlive s miss c n st → IsAlive s less c n (ended_where (λ m e. is_same_key (key_in s c m e) k) NoMemory n st)
      at (Runs e) a = tt
      at (Waits e) a = rider e (Waits e) (still e a)
      at (Works e) a = rider e (Works e) (still e a)
      at (Over o) a = tt

  pub ended_ready : (s : Setup State) (c : ℕ) (loaded : List Key) (test : ℕ → Entry State → Bool) (o : Ending) (n : ℕ) (st : Stage State) → IsReady s c loaded n st → IsReady s c loaded n (ended_where test o n st)
  ended_ready s c loaded test o n (Runs e) h = tt
  ended_ready s c loaded test o n (Waits e) h = by_test (test n e) (λ t. IsReady s c loaded n (cond t (Over o) (Waits e))) (λ _. tt) (λ _. tt)
  ended_ready s c loaded test o n (Works e) h = by_test (test n e) (λ t. IsReady s c loaded n (cond t (Over o) (Works e))) (λ _. tt) (λ _. h)
  ended_ready s c loaded test o n (Over p) h = tt

  pub in_lost : (s : Setup State) (b : Plan) (now : ℕ) (v : Ridden) (vs : List Ridden) (loaded : List Key) (jobs : List (Job State)) (k : Key)
      → has_key loaded k ≡ false → InVisit s b now v vs loaded jobs
      → InVisit s b now (lost_at k v) vs loaded (map (at_stage (ended_where (λ m e. is_same_key (key_in s v.chunk m e) k) NoMemory)) jobs)
  unfolding lost_at
  in_lost s b now v vs loaded jobs k fresh h =
      let c = v.chunk in
      let test : ℕ → Entry State → Bool = λ m e. is_same_key (key_in s c m e) k in
      let f = ended_where test NoMemory in
      record {
        entries = h.entries;
        visits = h.visits;
        chosen = h.chosen;
        riders = h.riders;
        jobs = λ loss agrees.
            let less : Agrees loss c v.miss loaded = record { kept = agrees.kept; gone = agrees_less loss c v.miss.failed k v.miss.lost agrees.gone } in
            finals_same s loss c f jobs (stages_weaker (IsAlive s v.miss c) (SameFinal s loss c f) (lost_final s loss c v.miss k agrees.gone) jobs h.alive) ∙ h.jobs loss less;
        kept = lost_kept c v.miss k loaded fresh h.kept;
        alive = stages_after (IsAlive s v.miss c) (IsAlive s (lost_at k v).miss c) f (lost_alive s c v.miss k) jobs h.alive;
        ready = stages_after (IsReady s c loaded) (IsReady s c loaded) f (ended_ready s c loaded test NoMemory) jobs h.ready;
      }

-- ---- a load that failed

unfoldable pub failed_at : LoadCause → Ridden → Ridden
failed_at cause v = record { chunk = v.chunk; riders = v.riders; miss = record { lost = v.miss.lost; failed = Some cause } }

pub agrees_unfailed : (loss : Key → Option Ending) (c : ℕ) (failed : Option LoadCause) (lost : List Key) (k : Key) → is_empty lost ≡ true → loss_by failed lost c k ≡ None → AgreesBy loss c failed lost
agrees_unfailed loss c None [] k h alive = λ l g. absurd (true≢false (sym g))
agrees_unfailed loss c None (l ∷ lost) k h alive = absurd (true≢false (sym h))
agrees_unfailed loss c (Some cause) lost k h alive = cc

module _ {State : Type 0} where
  pub failed_final : (s : Setup State) (loss : Key → Option Ending) (c : ℕ) (o : Ending) → ((k : Key) → loss k ≡ Some o) → (n : ℕ) (st : Stage State) → SameFinal s loss c (ended_where (λ m e. true) o) n st
  failed_final s loss c o h n (Runs e) = refl
  failed_final s loss c o h n (Waits e) = rw (h (key_in s c n e)) refl
  failed_final s loss c o h n (Works e) = rw (h (key_in s c n e)) refl
  failed_final s loss c o h n (Over p) = refl

  pub riding_alive : (s : Setup State) (miss : Miss) (c n : ℕ) (st : Stage State) → is_riding st ≡ true → IsAlive s miss c n st → (k : Key) × (loss_of miss c k ≡ None)
  riding_alive s miss c n (Runs e) rides h = absurd (true≢false (sym rides))
  riding_alive s miss c n (Waits e) rides h = (key_in s c n e, h)
  riding_alive s miss c n (Works e) rides h = (key_in s c n e, h)
  riding_alive s miss c n (Over o) rides h = absurd (true≢false (sym rides))

  pub failed_alive : (s : Setup State) (miss : Miss) (c : ℕ) (o : Ending) (n : ℕ) (st : Stage State) → IsAlive s miss c n (ended_where (λ m e. true) o n st)
  failed_alive s miss c o n (Runs e) = tt
  failed_alive s miss c o n (Waits e) = tt
  failed_alive s miss c o n (Works e) = tt
  failed_alive s miss c o n (Over p) = tt

  pub in_failed : (s : Setup State) (b : Plan) (now : ℕ) (v : Ridden) (vs : List Ridden) (loaded : List Key) (jobs : List (Job State)) (cause : LoadCause)
      → list_any (λ job. is_riding job.stage) jobs ≡ true → is_empty loaded ≡ true → is_empty v.miss.lost ≡ true → InVisit s b now v vs loaded jobs
      → InVisit s b now (failed_at cause v) vs loaded (map (at_stage (ended_where (λ m e. true) (ending_by cause v.chunk))) jobs)
  unfolding failed_at
  in_failed s b now v vs loaded jobs cause rides empty whole h =
      let c = v.chunk in
      let o = ending_by cause c in
      let f = ended_where (λ m e. true) o in
      let found = stage_found (IsAlive s v.miss c) (λ job. is_riding job.stage) jobs h.alive rides in
      let live = riding_alive s v.miss c found.0.number found.0.stage found.1 found.2 in
      record {
        entries = h.entries;
        visits = h.visits;
        chosen = h.chosen;
        riders = h.riders;
        jobs = λ loss agrees.
            let less : Agrees loss c v.miss loaded = record { kept = agrees.kept; gone = agrees_unfailed loss c v.miss.failed v.miss.lost live.0 whole live.1 } in
            finals_same s loss c f jobs (stages_all (SameFinal s loss c f) (failed_final s loss c o agrees.gone) jobs) ∙ h.jobs loss less;
        kept = all_of_none (λ k. Some o ≡ None) loaded empty;
        alive = stages_after (λ n st. Unit {0}) (IsAlive s (failed_at cause v).miss c) f (λ n st _. failed_alive s (failed_at cause v).miss c o n st) jobs (stages_all (λ n st. Unit {0}) (λ n st. tt) jobs);
        ready = stages_after (IsReady s c loaded) (IsReady s c loaded) f (ended_ready s c loaded (λ m e. true) o) jobs h.ready;
      }

  -- ---- a pass that is given

  pub given_final : (s : Setup State) (loss : Key → Option Ending) (c j : ℕ) (n : ℕ) (st : Stage State) → SameFinal s loss c (given j) n st
  given_final s loss c j n (Runs e) = refl
  given_final s loss c j n (Waits e) = by_test (eqb n j) (λ t. final_place s loss c n (cond t (Works e) (Waits e)) ≡ place_by s (loss (key_in s c n e)) c n (standing e)) (λ _. refl) (λ _. refl)
  given_final s loss c j n (Works e) = refl
  given_final s loss c j n (Over o) = refl

  pub given_alive : (s : Setup State) (miss : Miss) (c j n : ℕ) (st : Stage State) → IsAlive s miss c n st → IsAlive s miss c n (given j n st)
  given_alive s miss c j n (Runs e) h = tt
  given_alive s miss c j n (Waits e) h = by_test (eqb n j) (λ t. IsAlive s miss c n (cond t (Works e) (Waits e))) (λ _. h) (λ _. h)
  given_alive s miss c j n (Works e) h = h
  given_alive s miss c j n (Over o) h = tt

  pub given_ready : (s : Setup State) (c : ℕ) (loaded : List Key) (j n : ℕ) (st : Stage State) → is_settled_at s c loaded n st ≡ true → IsReady s c loaded n (given j n st)
  given_ready s c loaded j n (Runs e) h = tt
  given_ready s c loaded j n (Waits e) h = by_test (eqb n j) (λ t. IsReady s c loaded n (cond t (Works e) (Waits e))) (λ _. h) (λ _. tt)
  given_ready s c loaded j n (Works e) h = h
  given_ready s c loaded j n (Over o) h = tt

  pub in_given : (s : Setup State) (b : Plan) (now : ℕ) (v : Ridden) (vs : List Ridden) (loaded : List Key) (jobs : List (Job State)) (j : ℕ)
      → list_all (is_settled s v.chunk loaded) jobs ≡ true → InVisit s b now v vs loaded jobs → InVisit s b now v vs loaded (map (at_stage (given j)) jobs)
  in_given s b now v vs loaded jobs j settled h =
      let c = v.chunk in
      let Settled : ℕ → Stage State → Type 0 = λ n st. is_settled_at s c loaded n st ≡ true in
      record {
        entries = h.entries;
        visits = h.visits;
        chosen = h.chosen;
        riders = h.riders;
        jobs = λ loss agrees. finals_same s loss c (given j) jobs (stages_all (SameFinal s loss c (given j)) (given_final s loss c j) jobs) ∙ h.jobs loss agrees;
        kept = h.kept;
        alive = stages_after (IsAlive s v.miss c) (IsAlive s v.miss c) (given j) (given_alive s v.miss c j) jobs h.alive;
        ready = stages_after Settled (IsReady s c loaded) (given j) (given_ready s c loaded j) jobs (stages_pass (is_settled s c loaded) Settled (λ job t. t) jobs settled);
      }

  -- ---- a pass

  pub ended_place : (t : Turning (Entry State)) → place_of (stage_after t) ≡ place_after (map_turned standing t)
  ended_place (Goes e) = refl
  ended_place (Ends o) = refl

  pub rests : (t : Turning (Entry State)) → is_riding (stage_after t) ≡ false
  rests (Goes e) = refl
  rests (Ends o) = refl

  pub final_at_rest : (s : Setup State) (loss : Key → Option Ending) (c n : ℕ) (t : Turning (Entry State)) → final_place s loss c n (stage_after t) ≡ place_after (map_turned standing t)
  final_at_rest s loss c n (Goes e) = refl
  final_at_rest s loss c n (Ends o) = refl

  pub rest_alive : (s : Setup State) (miss : Miss) (c n : ℕ) (t : Turning (Entry State)) → IsAlive s miss c n (stage_after t)
  rest_alive s miss c n (Goes e) = tt
  rest_alive s miss c n (Ends o) = tt

  pub rest_ready : (s : Setup State) (c : ℕ) (loaded : List Key) (n : ℕ) (t : Turning (Entry State)) → IsReady s c loaded n (stage_after t)
  rest_ready s c loaded n (Goes e) = tt
  rest_ready s c loaded n (Ends o) = tt

  pub passed_alive : (s : Setup State) (miss : Miss) (j c n : ℕ) (st : Stage State) → IsAlive s miss c n st → IsAlive s miss c n (has_passed s j c n st)
  passed_alive s miss j c n (Runs e) h = tt
  passed_alive s miss j c n (Waits e) h = h
  passed_alive s miss j c n (Works e) h =
      by_test (eqb n j) (λ t. IsAlive s miss c n (cond t (stage_after (s.turn n (s.pass n c e))) (Works e))) (λ _. rest_alive s miss c n (s.turn n (s.pass n c e))) (λ _. h)
  passed_alive s miss j c n (Over o) h = tt

  pub passed_ready : (s : Setup State) (loaded : List Key) (j c n : ℕ) (st : Stage State) → IsReady s c loaded n st → IsReady s c loaded n (has_passed s j c n st)
  passed_ready s loaded j c n (Runs e) h = tt
  passed_ready s loaded j c n (Waits e) h = h
  passed_ready s loaded j c n (Works e) h =
      by_test (eqb n j) (λ t. IsReady s c loaded n (cond t (stage_after (s.turn n (s.pass n c e))) (Works e))) (λ _. rest_ready s c loaded n (s.turn n (s.pass n c e))) (λ _. h)
  passed_ready s loaded j c n (Over o) h = tt
