-- The events of a legal journal, counted by its visits.
use Rattle.std.proofs.Common.{◌≡◌, ℕ, suc, ◌+◌, ◌<◌, Bool, true, false, cond, ◌||◌, List, [], ◌∷◌, ◌++◌, map, length, sym, ap, ap₂, ◌∙◌, refl, Option, Some, None, is_none, ⊎_elim, inl, inr, true≢false, arith}
use Rattle.std.specs.List.{AllByRecursion, list_any, filter, sum_by}
use Rattle.std.proofs.lemmas.Bool.{or_parts}
use Rattle.gm_base.specs.declared.copies.Key.{Key}
use Rattle.gm_events.specs.declared.event.LoadCause.{LoadCause}
use Rattle.gm_buffer.specs.Keys.{is_same_key}
use Rattle.gm_machine.specs.Setups.{Setup}
use Rattle.gm_machine.specs.Machine.{Ending, Stage, Runs, Waits, Works, Over, Job, Rider, Miss, no_miss, Ridden, is_empty, is_riding, rides_at, rides_with, has_key, at_stage}
use Rattle.gm_machine.specs.Plans.{loss_by, loss_of}
use Rattle.gm_machine.specs.Promises.{AllStages}
use Rattle.gm_machine.specs.Schedules.{passes_in, copies_in}
use Rattle.gm_machine.proofs.Lists.{by_test, same_key-true, same_key_refl, same_key_sym}
use Rattle.gm_machine.proofs.Choices.{one_if}
use Rattle.gm_machine.proofs.InVisits.{IsReady, or_more}
use Rattle.gm_machine.proofs.Missed.{unlost, HasRider}

-- ---- riders that aren't ended

abbrev pub is_carried : Miss → ℕ → Rider → Bool
is_carried miss c r = is_none (loss_of miss c r.key)

pub kept_count : (p : Rider → Bool) (r : Rider) (rs : List Rider) → length (filter p (r ∷ rs)) ≡ one_if (p r) + length (filter p rs)
kept_count p r rs = by_test (p r) (λ t. length (cond t (r ∷ filter p rs) (filter p rs)) ≡ one_if t + length (filter p rs)) (λ _. omega arith) (λ _. omega arith)

abbrev pub riders_keyed : Key → List Rider → ℕ
riders_keyed k [] = 0
riders_keyed k (r ∷ rs) = one_if (is_same_key r.key k) + riders_keyed k rs

abbrev pub lost_too : Key → Miss → Miss
lost_too k miss = record { lost = k ∷ miss.lost; failed = miss.failed }

-- a rider with the lost key was carried and is no more; the others are as they were
pub one_lost : (failed : Option LoadCause) (lost : List Key) (c : ℕ) (k x : Key) → loss_by failed lost c k ≡ None
    → one_if (is_none (loss_by failed lost c x)) ≡ one_if (is_none (loss_by failed (k ∷ lost) c x)) + one_if (is_same_key x k)
one_lost None lost c k x h =
    let fresh = (unlost None lost c k h).1 in
    by_test (is_same_key x k)
    (λ t. is_same_key x k ≡ t → one_if (is_none (loss_by None lost c x)) ≡ one_if (is_none (loss_by None (k ∷ lost) c x)) + one_if t)
    (λ _ same.
    let here : x ≡ k = same_key-true x k same in
    let again : is_same_key k x ≡ true = ap (is_same_key k) here ∙ same_key_refl k in
    let free : has_key lost x ≡ false = ap (has_key lost) here ∙ fresh in
    rw (again, free) (omega arith))
    (λ _ other. rw (same_key_sym x k other) (omega arith)) refl
one_lost (Some cause) lost c k x h = cc

pub carried_less : (miss : Miss) (c : ℕ) (k : Key) (rs : List Rider) → loss_of miss c k ≡ None
    → length (filter (is_carried miss c) rs) ≡ length (filter (is_carried (lost_too k miss) c) rs) + riders_keyed k rs
carried_less miss c k [] h = omega arith
carried_less miss c k (r ∷ rs) h =
    let rest = carried_less miss c k rs h in
    let one = one_lost miss.failed miss.lost c k r.key h in
    let a = kept_count (is_carried miss c) r rs in
    let b = kept_count (is_carried (lost_too k miss) c) r rs in
    omega (arith, rest, one, a, b)

-- a key that is carried
abbrev pub keys_carried : Miss → ℕ → List Rider → List Key
keys_carried miss c rs = map (λ r. r.key) (filter (is_carried miss c) rs)

pub carried_cons : (miss : Miss) (c : ℕ) (r : Rider) (rs : List Rider) (x : Key) → has_key (keys_carried miss c (r ∷ rs)) x ≡ cond (is_carried miss c r) (is_same_key r.key x || has_key (keys_carried miss c rs) x) (has_key (keys_carried miss c rs) x)
carried_cons miss c r rs x =
    by_test (is_carried miss c r) (λ t. has_key (map (λ (q : Rider). q.key) (cond t (r ∷ filter (is_carried miss c) rs) (filter (is_carried miss c) rs))) x
    ≡ cond t (is_same_key r.key x || has_key (keys_carried miss c rs) x) (has_key (keys_carried miss c rs) x)) (λ _. refl) (λ _. refl)

pub none_of : (o : Option Ending) → o ≡ None → is_none o ≡ true
none_of None h = refl
none_of (Some o) h = cc

pub is_none_then : (o : Option Ending) → is_none o ≡ true → o ≡ None
is_none_then None h = refl
is_none_then (Some o) h = absurd (true≢false (sym h))

pub carried_has : (miss : Miss) (c : ℕ) (r : Rider) (rs : List Rider) → loss_of miss c r.key ≡ None → HasRider r rs → has_key (keys_carried miss c rs) r.key ≡ true
carried_has miss c r [] none h = absurd h
carried_has miss c r (q ∷ rs) none h =
    carried_cons miss c q rs r.key
    ∙ ⊎_elim
    (λ here.
    let key : q.key ≡ r.key = ap (λ (o : Rider). o.key) here in
    let on : is_carried miss c q ≡ true = none_of (loss_of miss c q.key) (ap (loss_of miss c) key ∙ none) in
    let same : is_same_key q.key r.key ≡ true = ap (λ y. is_same_key y r.key) key ∙ same_key_refl r.key in
    rw (on, same) refl)
    (λ there.
    let rest = carried_has miss c r rs none there in
    by_test (is_carried miss c q) (λ t. cond t (is_same_key q.key r.key || has_key (keys_carried miss c rs) r.key) (has_key (keys_carried miss c rs) r.key) ≡ true)
    (λ _. or_more (is_same_key q.key r.key) (has_key (keys_carried miss c rs) r.key) rest) (λ _. rest))
    h

-- another key than the lost one stays carried
pub still_none : (failed : Option LoadCause) (lost : List Key) (c : ℕ) (k x : Key) → is_same_key k x ≡ false → loss_by failed (k ∷ lost) c x ≡ loss_by failed lost c x
still_none None lost c k x other = rw other refl
still_none (Some cause) lost c k x other = refl

pub carried_stays : (miss : Miss) (c : ℕ) (k x : Key) (rs : List Rider) → is_same_key k x ≡ false → has_key (keys_carried miss c rs) x ≡ true → has_key (keys_carried (lost_too k miss) c rs) x ≡ true
carried_stays miss c k x [] other h = h
carried_stays miss c k x (r ∷ rs) other h =
    let before : cond (is_carried miss c r) (is_same_key r.key x || has_key (keys_carried miss c rs) x) (has_key (keys_carried miss c rs) x) ≡ true = sym (carried_cons miss c r rs x) ∙ h in
    carried_cons (lost_too k miss) c r rs x
    ∙ by_test (is_same_key r.key x)
    (λ t. is_same_key r.key x ≡ t → cond (is_carried miss c r) (t || has_key (keys_carried miss c rs) x) (has_key (keys_carried miss c rs) x) ≡ true
    → cond (is_carried (lost_too k miss) c r) (t || has_key (keys_carried (lost_too k miss) c rs) x) (has_key (keys_carried (lost_too k miss) c rs) x) ≡ true)
    (λ _ same g.
    let key : r.key ≡ x = same_key-true r.key x same in
    let stays : is_carried (lost_too k miss) c r ≡ is_carried miss c r = ap is_none (still_none miss.failed miss.lost c k r.key (ap (is_same_key k) key ∙ other)) in
    by_test (is_carried miss c r) (λ t. is_carried (lost_too k miss) c r ≡ t → cond t true (has_key (keys_carried miss c rs) x) ≡ true
    → cond (is_carried (lost_too k miss) c r) true (has_key (keys_carried (lost_too k miss) c rs) x) ≡ true)
    (λ _ e _. rw e refl) (λ _ e f. rw e (carried_stays miss c k x rs other f)) stays g)
    (λ _ differs g.
    let rest : has_key (keys_carried miss c rs) x ≡ true = either_way (is_carried miss c r) (has_key (keys_carried miss c rs) x) g in
    let more = carried_stays miss c k x rs other rest in
    by_test (is_carried (lost_too k miss) c r) (λ t. cond t (has_key (keys_carried (lost_too k miss) c rs) x) (has_key (keys_carried (lost_too k miss) c rs) x) ≡ true) (λ _. more) (λ _. more))
    refl before
  where
    either_way : (t b : Bool) → cond t b b ≡ true → b ≡ true
    either_way true b h = h
    either_way false b h = h

pub all_carried_failed : (cause : LoadCause) (lost : List Key) (c : ℕ) (rs : List Rider) → length (filter (is_carried (record { lost = lost; failed = Some cause }) c) rs) ≡ 0
all_carried_failed cause lost c [] = refl
all_carried_failed cause lost c (r ∷ rs) = all_carried_failed cause lost c rs

pub all_carried : (c : ℕ) (rs : List Rider) → length (filter (is_carried no_miss c) rs) ≡ length rs
all_carried c [] = refl
all_carried c (r ∷ rs) = ap suc (all_carried c rs)

-- each carried key is loaded
pub carried_all : (P : Key → Type 0) (miss : Miss) (c : ℕ) (all rs : List Rider) → ((r : Rider) → HasRider r all → loss_of miss c r.key ≡ None → P r.key) → ((r : Rider) → HasRider r rs → HasRider r all)
    → AllByRecursion P (keys_carried miss c rs)
carried_all P miss c all [] each within = tt
carried_all P miss c all (r ∷ rs) each within =
    let rest = carried_all P miss c all rs each (λ q h. within q (inr h)) in
    by_test (is_carried miss c r) (λ t. is_carried miss c r ≡ t → AllByRecursion P (map (λ (q : Rider). q.key) (cond t (r ∷ filter (is_carried miss c) rs) (filter (is_carried miss c) rs))))
    (λ _ on. (each r (within r (inl refl)) (is_none_then (loss_of miss c r.key) on), rest)) (λ _ _. rest) refl

pub some_keyed : (r : Rider) (rs : List Rider) → HasRider r rs → 0 < riders_keyed r.key rs
some_keyed r [] h = absurd h
some_keyed r (q ∷ rs) h =
    ⊎_elim
    (λ here.
    let one : one_if (is_same_key q.key r.key) ≡ 1 = ap (λ y. one_if (is_same_key y r.key)) (ap (λ (o : Rider). o.key) here) ∙ ap one_if (same_key_refl r.key) in
    omega (arith, one))
    (λ there. let rest = some_keyed r rs there in omega (arith, rest)) h

module _ {State : Type 0} (s : Setup State) where
  -- ---- jobs that ride

  abbrev pub riding : List (Job State) → ℕ
  riding [] = 0
  riding (job ∷ jobs) = one_if (is_riding job.stage) + riding jobs

  abbrev pub riding_with : ℕ → Key → List (Job State) → ℕ
  riding_with c k [] = 0
  riding_with c k (job ∷ jobs) = one_if (rides_with s c k job) + riding_with c k jobs

  pub none_riding : (jobs : List (Job State)) → list_any (λ job. is_riding job.stage) jobs ≡ false → riding jobs ≡ 0
  none_riding [] h = refl
  none_riding (job ∷ jobs) h =
      let parts = or_parts (is_riding job.stage) (list_any (λ (j : Job State). is_riding j.stage) jobs) h in
      let rest = none_riding jobs parts.1 in
      let one : one_if (is_riding job.stage) ≡ 0 = ap one_if parts.0 in
      omega (arith, rest, one)

  pub unridden : (c : ℕ) (k : Key) (n : ℕ) (st : Stage State) → is_riding st ≡ false → rides_at s c k n st ≡ false
  unridden c k n (Runs e) h = refl
  unridden c k n (Waits e) h = absurd (true≢false h)
  unridden c k n (Works e) h = absurd (true≢false h)
  unridden c k n (Over o) h = refl

  pub none_with : (c : ℕ) (k : Key) (jobs : List (Job State)) → list_any (λ job. is_riding job.stage) jobs ≡ false → riding_with c k jobs ≡ 0
  none_with c k [] h = refl
  none_with c k (job ∷ jobs) h =
      let parts = or_parts (is_riding job.stage) (list_any (λ (j : Job State). is_riding j.stage) jobs) h in
      let rest = none_with c k jobs parts.1 in
      let one : one_if (rides_with s c k job) ≡ 0 = ap one_if (unridden c k job.number job.stage parts.0) in
      omega (arith, rest, one)

  pub riding_push : (jobs : List (Job State)) (job : Job State) → is_riding job.stage ≡ false → riding (jobs ++ job ∷ []) ≡ riding jobs
  riding_push [] job h = let one : one_if (is_riding job.stage) ≡ 0 = ap one_if h in omega (arith, one)
  riding_push (one ∷ jobs) job h = ap (λ (n : ℕ). one_if (is_riding one.stage) + n) (riding_push jobs job h)

  pub with_push : (c : ℕ) (k : Key) (jobs : List (Job State)) (job : Job State) → is_riding job.stage ≡ false → riding_with c k (jobs ++ job ∷ []) ≡ riding_with c k jobs
  with_push c k [] job h = let one : one_if (rides_with s c k job) ≡ 0 = ap one_if (unridden c k job.number job.stage h) in omega (arith, one)
  with_push c k (one ∷ jobs) job h = ap (λ (n : ℕ). one_if (rides_with s c k one) + n) (with_push c k jobs job h)

  pub riding_along : (f : ℕ → Stage State → Stage State) → (jobs : List (Job State)) → AllStages (λ n st. is_riding (f n st) ≡ is_riding st) jobs → riding (map (at_stage f) jobs) ≡ riding jobs
  riding_along f [] h = refl
  riding_along f (job ∷ jobs) h = ap₂ (λ (b : Bool) (n : ℕ). one_if b + n) h.0 (riding_along f jobs h.1)

  pub with_along : (c : ℕ) (k : Key) (f : ℕ → Stage State → Stage State) → (jobs : List (Job State)) → AllStages (λ n st. rides_at s c k n (f n st) ≡ rides_at s c k n st) jobs
      → riding_with c k (map (at_stage f) jobs) ≡ riding_with c k jobs
  with_along c k f [] h = refl
  with_along c k f (job ∷ jobs) h = ap₂ (λ (b : Bool) (n : ℕ). one_if b + n) h.0 (with_along c k f jobs h.1)

  -- ---- what is counted while a visit is open

  pub record InTally (passes copies : ℕ) (v : Ridden) (vs : List Ridden) (loaded : List Key) (jobs : List (Job State)) : Type 0 where
    pub passed : passes + riding jobs ≡ passes_in v + sum_by passes_in vs
    pub copied : copies ≡ length loaded + sum_by copies_in vs
    pub unpassed : is_empty loaded ≡ true → passes ≡ sum_by passes_in vs
    pub keyed : (k : Key) → has_key loaded k ≡ false → loss_of v.miss v.chunk k ≡ None → riding_with v.chunk k jobs ≡ riders_keyed k v.riders
    pub ridden : AllByRecursion (λ k. has_key (keys_carried v.miss v.chunk v.riders) k ≡ true) loaded
    pub ready : AllStages (IsReady s v.chunk loaded) jobs

  pub record Unvisited (passes copies : ℕ) (loaded : List Key) : Type 0 where
    pub passed : passes ≡ 0
    pub copied : copies ≡ 0

  abbrev pub IsTallied : ℕ → ℕ → List Ridden → List Key → List (Job State) → Type 0
  IsTallied passes copies [] loaded jobs = Unvisited passes copies loaded
  IsTallied passes copies (v ∷ vs) loaded jobs = InTally passes copies v vs loaded jobs
