-- Tests and facts over lists of jobs.
use Rattle.std.proofs.Common.{◌≡◌, ℕ, suc, ◌+◌, ◌<◌, Bool, true, false, eqb, ◌&&◌, ◌||◌, List, [], ◌∷◌, ◌++◌, map, length, sym, ap, ap₂, ◌∙◌, refl, ⊎_elim, true≢false, arith}
use Rattle.std.specs.List.{list_any, list_all}
use Rattle.std.proofs.lemmas.Bool.{or_parts, and_parts, and_from, eqb-true, or_cases, both_ways, ne_eqb}
use Rattle.gm_base.specs.declared.copies.Key.{Key}
use Rattle.gm_base.specs.declared.copies.Tag.{Tag}
use Rattle.gm_base.specs.declared.copies.Tag.TheVariants.{Update, Own}
use Rattle.gm_jobs.specs.declared.script.Line.{Line}
use Rattle.gm_jobs.specs.declared.script.Line.TheVariants.{Update as UpdateLine, Wait as WaitLine, Job as JobLine}
use Rattle.std.specs.Prelude.{slice_get, zero, drop, Option, Some, None}
use Rattle.gm_buffer.specs.Keys.{is_same_key, is_same_tag}
use Rattle.gm_machine.specs.Setups.{Setup, jobs_in}
use Rattle.gm_machine.specs.Machine.{Stage, Job, at_stage}
use Rattle.gm_machine.specs.Promises.{AllStages}

-- both answers of a test, with the equation
pub by_test : (b : Bool) (P : Bool → Type 0) → (b ≡ true → P true) → (b ≡ false → P false) → P b
by_test true P t f = t refl
by_test false P t f = f refl

same_tag-true : (a b : Tag) → is_same_tag a b ≡ true → a ≡ b
same_tag-true (Update a) (Update b) h = ap Update (eqb-true a b h)
same_tag-true (Update a) (Own b) h = cc
same_tag-true (Own a) (Update b) h = cc
same_tag-true (Own a) (Own b) h = ap Own (eqb-true a b h)

pub same_key-true : (a b : Key) → is_same_key a b ≡ true → a ≡ b
same_key-true a b h =
    let parts = and_parts (eqb a.chunk b.chunk) (is_same_tag a.tag b.tag) h in
    let c = eqb-true a.chunk b.chunk parts.0 in
    let t = same_tag-true a.tag b.tag parts.1 in
    ap₂ (λ (x : ℕ) (y : Tag). record { chunk = x; tag = y }) c t

pub eqb_refl : (n : ℕ) → eqb n n ≡ true
eqb_refl n = grind arith

same_tag_refl : (a : Tag) → is_same_tag a a ≡ true
same_tag_refl (Update a) = eqb_refl a
same_tag_refl (Own a) = eqb_refl a

pub same_key_refl : (a : Key) → is_same_key a a ≡ true
same_key_refl a = and_from (eqb a.chunk a.chunk) (is_same_tag a.tag a.tag) (eqb_refl a.chunk) (same_tag_refl a.tag)

module _ {State : Type 0} where
  pub stages_after : (P Q : ℕ → Stage State → Type 0) (f : ℕ → Stage State → Stage State) → ((n : ℕ) (st : Stage State) → P n st → Q n (f n st))
      → (jobs : List (Job State)) → AllStages P jobs → AllStages Q (map (at_stage f) jobs)
  stages_after P Q f each [] h = tt
  stages_after P Q f each (job ∷ jobs) h = (each job.number job.stage h.0, stages_after P Q f each jobs h.1)

  -- what holds of all, and a test that none passes
  pub stages_with : (P Q : ℕ → Stage State → Type 0) (test : Job State → Bool) → ((job : Job State) → test job ≡ false → P job.number job.stage → Q job.number job.stage)
      → (jobs : List (Job State)) → list_any test jobs ≡ false → AllStages P jobs → AllStages Q jobs
  stages_with P Q test each [] none h = tt
  stages_with P Q test each (job ∷ jobs) none h =
      let parts = or_parts (test job) (list_any test jobs) none in
      (each job parts.0 h.0, stages_with P Q test each jobs parts.1 h.1)

  pub stages_more : (P : ℕ → Stage State → Type 0) (jobs : List (Job State)) (job : Job State) → AllStages P jobs → P job.number job.stage → AllStages P (jobs ++ job ∷ [])
  stages_more P [] job h here = (here, tt)
  stages_more P (one ∷ jobs) job h here = (h.0, stages_more P jobs job h.1 here)

  -- the jobs' numbers are n and on
  abbrev pub Numbered : ℕ → List (Job State) → Type 0
  Numbered n [] = Unit {0}
  Numbered n (job ∷ jobs) = (job.number ≡ n) × Numbered (suc n) jobs

  pub numbered_after : (f : ℕ → Stage State → Stage State) (n : ℕ) (jobs : List (Job State)) → Numbered n jobs → Numbered n (map (at_stage f) jobs)
  numbered_after f n [] h = tt
  numbered_after f n (job ∷ jobs) h = (h.0, numbered_after f (suc n) jobs h.1)

  pub numbered_more : (n : ℕ) (jobs : List (Job State)) (job : Job State) → Numbered n jobs → job.number ≡ n + length jobs → Numbered n (jobs ++ job ∷ [])
  numbered_more n [] job h e = (omega arith, tt)
  numbered_more n (one ∷ jobs) job h e = (h.0, numbered_more (suc n) jobs job h.1 (omega arith))

  -- no job has a number from before
  pub none_before : (j n : ℕ) (P : Job State → Bool) (jobs : List (Job State)) → j < n → Numbered n jobs → list_any (λ job. eqb job.number j && P job) jobs ≡ false
  none_before j n P [] below h = refl
  none_before j n P (job ∷ jobs) below h =
      let other : eqb job.number j ≡ false = ne_eqb job.number j (λ e. omega arith) in
      rw other (none_before j (suc n) P jobs (omega arith) h.1)

  others_before : (j n : ℕ) (Q : ℕ → Stage State → Type 0) (jobs : List (Job State)) → j < n → Numbered n jobs → AllStages (λ m st. eqb m j ≡ true → Q m st) jobs
  others_before j n Q [] below h = tt
  others_before j n Q (job ∷ jobs) below h =
      let other : eqb job.number j ≡ true → Q job.number job.stage = λ e. let same = eqb-true job.number j e in absurd (omega arith) in
      (other, others_before j (suc n) Q jobs (omega arith) h.1)

  -- the job that was found is the only one of its number
  pub only_one : (j n : ℕ) (P : Stage State → Bool) (jobs : List (Job State)) → Numbered n jobs → list_any (λ job. eqb job.number j && P job.stage) jobs ≡ true
      → AllStages (λ m st. eqb m j ≡ true → P st ≡ true) jobs
  only_one j n P [] h found = tt
  only_one j n P (job ∷ jobs) h found =
      let Found : Bool → Type 0 = λ b. ((b && P job.stage) || list_any (λ (o : Job State). eqb o.number j && P o.stage) jobs) ≡ true in
      let Goal : Bool → Type 0 = λ b. Found b → (b ≡ true → P job.stage ≡ true) × AllStages (λ m st. eqb m j ≡ true → P st ≡ true) jobs in
      by_test (eqb job.number j) Goal
      (λ here was.
      let same = eqb-true job.number j here in
      let rest = none_before j (suc n) (λ o. P o.stage) jobs (omega arith) h.1 in
      (λ e. not_rest (P job.stage) (list_any (λ (o : Job State). eqb o.number j && P o.stage) jobs) rest was, others_before j (suc n) (λ m st. P st ≡ true) jobs (omega arith) h.1))
      (λ other was. (λ e. cc, only_one j (suc n) P jobs h.1 was))
      found
    where
      not_rest : (x y : Bool) → y ≡ false → (x || y) ≡ true → x ≡ true
      not_rest true y h g = refl
      not_rest false y h g = cc

  pub stages_weaker : (P Q : ℕ → Stage State → Type 0) → ((n : ℕ) (st : Stage State) → P n st → Q n st) → (jobs : List (Job State)) → AllStages P jobs → AllStages Q jobs
  stages_weaker P Q each [] h = tt
  stages_weaker P Q each (job ∷ jobs) h = (each job.number job.stage h.0, stages_weaker P Q each jobs h.1)

  pub stages_all : (P : ℕ → Stage State → Type 0) → ((n : ℕ) (st : Stage State) → P n st) → (jobs : List (Job State)) → AllStages P jobs
  stages_all P each [] = tt
  stages_all P each (job ∷ jobs) = (each job.number job.stage, stages_all P each jobs)

  pub stages_both : (P Q : ℕ → Stage State → Type 0) (jobs : List (Job State)) → AllStages P jobs → AllStages Q jobs → AllStages (λ n st. P n st × Q n st) jobs
  stages_both P Q [] h g = tt
  stages_both P Q (job ∷ jobs) h g = ((h.0, g.0), stages_both P Q jobs h.1 g.1)

  -- a job that passes the test, and what holds of it
  pub stage_found : (P : ℕ → Stage State → Type 0) (test : Job State → Bool) (jobs : List (Job State)) → AllStages P jobs → list_any test jobs ≡ true
      → (job : Job State) × (test job ≡ true) × P job.number job.stage
  stage_found P test [] h found = absurd (true≢false (sym found))
  stage_found P test (job ∷ jobs) h found =
      ⊎_elim (λ here. (job, here, h.0)) (λ there. stage_found P test jobs h.1 there) (or_cases (test job) (list_any test jobs) found)

  pub stages_pass : (test : Job State → Bool) (P : ℕ → Stage State → Type 0) → ((job : Job State) → test job ≡ true → P job.number job.stage) → (jobs : List (Job State)) → list_all test jobs ≡ true → AllStages P jobs
  stages_pass test P each [] h = tt
  stages_pass test P each (job ∷ jobs) h =
      let parts = and_parts (test job) (list_all test jobs) h in
      (each job parts.0, stages_pass test P each jobs parts.1)

  pub stages_fail : (test : Job State → Bool) (P : ℕ → Stage State → Type 0) → ((job : Job State) → test job ≡ false → P job.number job.stage) → (jobs : List (Job State)) → list_any test jobs ≡ false → AllStages P jobs
  stages_fail test P each [] h = tt
  stages_fail test P each (job ∷ jobs) h =
      let parts = or_parts (test job) (list_any test jobs) h in
      (each job parts.0, stages_fail test P each jobs parts.1)

pub same_key_sym : (a b : Key) → is_same_key a b ≡ false → is_same_key b a ≡ false
same_key_sym a b h = by_test (is_same_key b a) (λ t. t ≡ false)
    (λ same. absurd (both_ways (is_same_key a b) h (ap (is_same_key a) (same_key-true b a same) ∙ same_key_refl a)))
    (λ other. refl)

pub line_at_next : (lines : List Line) (n : ℕ) (line : Line) → slice_get lines n ≡ Some line → drop n lines ≡ line ∷ drop (suc n) lines
line_at_next [] n line h = cc
line_at_next (one ∷ lines) zero line h =
    let same : one ≡ line = cc in
    ap (λ (l : Line). l ∷ lines) same
line_at_next (one ∷ lines) (suc n) line h = line_at_next lines n line h

pub no_line_next : (lines : List Line) (n : ℕ) → slice_get lines n ≡ None → drop (suc n) lines ≡ drop n lines
no_line_next [] zero h = refl
no_line_next [] (suc n) h = refl
no_line_next (one ∷ lines) zero h = cc
no_line_next (one ∷ lines) (suc n) h = no_line_next lines n h

module _ {State : Type 0} where
  pub length_map : (f : Job State → Job State) (jobs : List (Job State)) → length (map f jobs) ≡ length jobs
  length_map f [] = refl
  length_map f (job ∷ jobs) = ap suc (length_map f jobs)

  pub length_more : (jobs : List (Job State)) (job : Job State) → length (jobs ++ job ∷ []) ≡ suc (length jobs)
  length_more [] job = refl
  length_more (one ∷ jobs) job = ap suc (length_more jobs job)

  -- a job that goes in with this number is one of the script's
  abbrev pub IsAmong : Setup State → Option Line → ℕ → Type 0
  IsAmong s None n = Unit {0}
  IsAmong s (Some (UpdateLine batch)) n = Unit {0}
  IsAmong s (Some (WaitLine k)) n = Unit {0}
  IsAmong s (Some (JobLine name spec own)) n = n < jobs_in s.script
