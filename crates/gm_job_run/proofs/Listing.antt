-- Jobs that are run one after the other.
use Rattle.std.specs.Prelude.{◌≡◌, ℕ, suc, ◌+◌, ◌≤◌, Bool, List, [], ◌∷◌, ◌++◌, Option, refl}
use Rattle.std.proofs.Common.{inl, inr, sym, ap, ◌∙◌, subst, arith, append-nil, append_assoc}
use Rattle.std.proofs.lemmas.List.Sums.{sum_by-append}
use Rattle.gm_base.specs.declared.edge.Edge.{Edge}
use Rattle.gm_base.specs.declared.job.JobLine.{JobLine}
use Rattle.gm_base.specs.declared.job.Outcome.{Outcome}
use Rattle.gm_base.specs.declared.job.Outcome.TheVariants.{Done, Rounds, Read, Changed, Memory}
use Rattle.gm_outside.specs.Causes.{counted_times}
use Rattle.gm_outside.specs.CausesRules.{counted_times-add}
use Rattle.gm_outside.specs.Files.{Files}
use Rattle.gm_outside.specs.States.{DepotState}
use Rattle.gm_outside.specs.FramesRules.{only_reads-none, only_reads-then}
use Rattle.gm_grid.specs.GridBytes.{edges_in}
use Rattle.gm_label.specs.Catalogues.{Catalogue}
use Rattle.gm_source.specs.Fetches.{TellsGrid}
use Rattle.gm_jobs.specs.StatedJobs.{StatedJob}
use Rattle.gm_work.specs.Weights.{run_weight}
use Rattle.gm_job_run.specs.JobRuns.{JobEnds, FaultsFor, ReadsSome, pass_reads}
use Rattle.gm_job_run.specs.JobLines.{line_of_job, AreLinesOfJobs, IsTold, RunOver, FaultsOf, EndsOver, failed_reads, runs_weight, view_of_job}

-- one job more, with its line
one_more : (Ends : StatedJob → Outcome → Type 0) (jobs : List StatedJob) (lines : List JobLine) (job : StatedJob) (line : JobLine) → AreLinesOfJobs Ends jobs lines
    → line ≡ line_of_job job line.outcome → Ends job line.outcome → AreLinesOfJobs Ends (jobs ++ job ∷ []) (lines ++ line ∷ [])
one_more Ends [] [] job line are is ends = (is, ends, tt)
one_more Ends [] (other ∷ lines) job line are is ends = absurd are
one_more Ends (other ∷ jobs) [] job line are is ends = absurd are
one_more Ends (other ∷ jobs) (first ∷ lines) job line are is ends = (are.0, are.1, one_more Ends jobs lines job line are.2 is ends)

failed_reads-push : (lines : List JobLine) (line : JobLine) → failed_reads (lines ++ line ∷ []) ≡ failed_reads lines + failed_reads (line ∷ [])
failed_reads-push lines line = sum_by-append _ lines (line ∷ [])

told_by_faults : (before now : ℕ) (outcome : Outcome) → FaultsFor before now outcome → IsTold outcome
told_by_faults before now (Done rounds values) faults = tt
told_by_faults before now (Rounds bound) faults = tt
told_by_faults before now (Read block chunk) faults = tt
told_by_faults before now (Changed block chunk) faults = tt
told_by_faults before now Memory faults = absurd faults

-- a line with another outcome
abbrev with_outcome : JobLine → Outcome → JobLine
with_outcome line outcome = record line { outcome = outcome }

none_more : (sofar all first before now : ℕ) → all ≡ sofar + 0 → now ≡ before → (counted_times sofar first ≤ before) × (sofar ≡ 0 → before ≡ first)
    → (counted_times all first ≤ now) × (all ≡ 0 → now ≡ first)
none_more sofar all first before now is same holds =
    let same_count : all ≡ sofar = omega (arith, is) in
    let misses : counted_times all first ≤ before = subst (λ (n : ℕ). counted_times n first ≤ before) (sym same_count) holds.0 in
    (omega (arith, misses, same), λ none. same ∙ holds.1 (sym same_count ∙ none))

one_missed : (sofar all first before now : ℕ) → all ≡ sofar + 1 → counted_times 1 before ≤ now → counted_times sofar first ≤ before
    → (counted_times all first ≤ now) × (all ≡ 0 → now ≡ first)
one_missed sofar all first before now is rose misses =
    let next : all ≡ suc sofar = omega (arith, is) in
    let missed : counted_times (suc sofar) first ≤ now = omega (arith, rose, misses) in
    (subst (λ (n : ℕ). counted_times n first ≤ now) (sym next) missed, λ none. absurd (omega (arith, is, none)))

-- the count of faults after one job more
faults_push : (lines : List JobLine) (line : JobLine) (first before now : ℕ) → FaultsOf lines first before → FaultsFor before now line.outcome → FaultsOf (lines ++ line ∷ []) first now
faults_push lines line first before now sofar next =
    let both = by_outcome line.outcome refl next in
    record { misses = both.0; served = both.1 }
  where
    holds : (counted_times (failed_reads lines) first ≤ before) × (failed_reads lines ≡ 0 → before ≡ first)
    holds = (sofar.misses, sofar.served)

    pushed : (outcome : Outcome) → line.outcome ≡ outcome → failed_reads (lines ++ line ∷ []) ≡ failed_reads lines + failed_reads (with_outcome line outcome ∷ [])
    pushed outcome is =
        failed_reads-push lines line ∙ ap (λ (o : Outcome). failed_reads lines + failed_reads (with_outcome line o ∷ [])) is

    by_outcome : (outcome : Outcome) → line.outcome ≡ outcome → FaultsFor before now outcome
        → (counted_times (failed_reads (lines ++ line ∷ [])) first ≤ now) × (failed_reads (lines ++ line ∷ []) ≡ 0 → now ≡ first)
    by_outcome (Done rounds values) is next = none_more (failed_reads lines) (failed_reads (lines ++ line ∷ [])) first before now (pushed (Done rounds values) is) next holds
    by_outcome (Rounds bound) is next = none_more (failed_reads lines) (failed_reads (lines ++ line ∷ [])) first before now (pushed (Rounds bound) is) next holds
    by_outcome (Read block chunk) is next = one_missed (failed_reads lines) (failed_reads (lines ++ line ∷ [])) first before now (pushed (Read block chunk) is) next sofar.misses
    by_outcome (Changed block chunk) is next = none_more (failed_reads lines) (failed_reads (lines ++ line ∷ [])) first before now (pushed (Changed block chunk) is) next holds
    by_outcome Memory is next = absurd next

-- the depot after some of the jobs, whose lines these are
pub record RunSoFar (old now : DepotState) (name : List ℕ) (cat : Catalogue) (jobs rest : List StatedJob) (lines : List JobLine) : Type 0 where
  pub done : List StatedJob
  pub split : jobs ≡ done ++ rest
  pub told : AreLinesOfJobs (λ job outcome. IsTold outcome) done lines
  pub frame : ReadsSome old now
  pub faults : FaultsOf lines old.faults now.faults
  pub over : (bytes : List ℕ) → TellsGrid old.files name cat bytes
      → RunOver cat (edges_in bytes) old now done lines × (now.reads ≤ old.reads + runs_weight cat (edges_in bytes) done)

pub none_yet : (depot : DepotState) (name : List ℕ) (cat : Catalogue) (jobs rest : List StatedJob) (lines : List JobLine) → rest ≡ jobs → lines ≡ []
    → RunSoFar depot depot name cat jobs rest lines
none_yet depot name cat jobs rest lines all none = record {
  done = [];
  split = sym all;
  told = subst (AreLinesOfJobs (λ job outcome. IsTold outcome) []) (sym none) tt;
  frame = (0, only_reads-none depot);
  faults = subst (λ (lines : List JobLine). FaultsOf lines depot.faults depot.faults) (sym none) (record { misses = omega arith; served = λ _. refl });
  over = λ bytes tells. (
    record {
      ended = subst (AreLinesOfJobs (EndsOver cat (edges_in bytes) depot.calm) []) (sym none) tt;
      reads = λ _. refl;
    },
    omega arith,
  );
}

-- the depot still tells the grid after calls that only read
tells_still : (old now : DepotState) (name : List ℕ) (cat : Catalogue) (bytes : List ℕ) → now.files ≡ old.files
    → TellsGrid old.files name cat bytes → TellsGrid now.files name cat bytes
tells_still old now name cat bytes same tells = subst (λ (files : Option Files). TellsGrid files name cat bytes) (sym same) tells

weight_push : (cat : Catalogue) (edges : List Edge) (jobs : List StatedJob) (job : StatedJob)
    → runs_weight cat edges (jobs ++ job ∷ []) ≡ runs_weight cat edges jobs + run_weight (view_of_job cat edges job) (pass_reads cat)
weight_push cat edges jobs job =
    let both = sum_by-append (λ (j : StatedJob). run_weight (view_of_job cat edges j) (pass_reads cat)) jobs (job ∷ []) in
    omega (arith, both)

-- the jobs that were run take no more than all
pub weight_front : (cat : Catalogue) (edges : List Edge) (jobs done rest : List StatedJob) → jobs ≡ done ++ rest → runs_weight cat edges done ≤ runs_weight cat edges jobs
weight_front cat edges jobs done rest split =
    let both = sum_by-append (λ (j : StatedJob). run_weight (view_of_job cat edges j) (pass_reads cat)) done rest in
    let all = ap (runs_weight cat edges) split in
    omega (arith, both, all)

ends_over : (cat : Catalogue) (edges : List Edge) (job : StatedJob) (old new : DepotState) (calm : Bool) (outcome : Outcome) → old.calm ≡ calm
    → JobEnds (view_of_job cat edges job) (pass_reads cat) old new outcome → EndsOver cat edges calm job outcome
ends_over cat edges job old new calm outcome same (inl alone) = inl alone.0
ends_over cat edges job old new calm outcome same (inr fails) =
    inr (record { chunk = fails.chunk; is = fails.is; needed = fails.needed; not_calm = λ calm. fails.not_calm (same ∙ calm) })

-- without a failed read one job more took exactly its reads more
reads_push : (cat : Catalogue) (edges : List Edge) (old mid new : DepotState) (jobs : List StatedJob) (lines : List JobLine) (job : StatedJob) (line : JobLine)
    → (failed_reads lines ≡ 0 → mid.reads ≡ counted_times (runs_weight cat edges jobs) old.reads)
    → JobEnds (view_of_job cat edges job) (pass_reads cat) mid new line.outcome
    → failed_reads (lines ++ line ∷ []) ≡ 0 → new.reads ≡ counted_times (runs_weight cat edges (jobs ++ job ∷ [])) old.reads
reads_push cat edges old mid new jobs lines job line sofar (inl alone) none =
    let weight = run_weight (view_of_job cat edges job) (pass_reads cat) in
    let pushed = failed_reads-push lines line in
    alone.1 ∙ ap (counted_times weight) (sofar (omega (arith, pushed, none)))
    ∙ sym (counted_times-add (runs_weight cat edges jobs) weight old.reads)
    ∙ ap (λ (n : ℕ). counted_times n old.reads) (sym (weight_push cat edges jobs job))
reads_push cat edges old mid new jobs lines job line sofar (inr fails) none =
    let pushed = failed_reads-push lines line ∙ ap (λ (o : Outcome). failed_reads lines + failed_reads (with_outcome line o ∷ [])) fails.is in
    absurd (omega (arith, pushed, none))

-- what a job's run reads is told of the one catalogue that is shared
pub few_for : (before now : DepotState) (name : List ℕ) (job : StatedJob) (shared cat : Catalogue) → shared ≡ cat
    → ((bytes : List ℕ) → TellsGrid before.files name shared bytes
    → now.reads ≤ before.reads + run_weight (view_of_job shared (edges_in bytes) job) (pass_reads shared))
    → (bytes : List ℕ) → TellsGrid before.files name cat bytes → now.reads ≤ before.reads + run_weight (view_of_job cat (edges_in bytes) job) (pass_reads cat)
few_for before now name job shared cat same few =
    subst (λ (c : Catalogue). (bytes : List ℕ) → TellsGrid before.files name c bytes
    → now.reads ≤ before.reads + run_weight (view_of_job c (edges_in bytes) job) (pass_reads c)) same few

-- .. and how the run ends
pub ends_for : (before now : DepotState) (name : List ℕ) (job : StatedJob) (outcome : Outcome) (shared cat : Catalogue) → shared ≡ cat
    → ((bytes : List ℕ) → TellsGrid before.files name shared bytes → JobEnds (view_of_job shared (edges_in bytes) job) (pass_reads shared) before now outcome)
    → (bytes : List ℕ) → TellsGrid before.files name cat bytes → JobEnds (view_of_job cat (edges_in bytes) job) (pass_reads cat) before now outcome
ends_for before now name job outcome shared cat same ends =
    subst (λ (c : Catalogue). (bytes : List ℕ) → TellsGrid before.files name c bytes
    → JobEnds (view_of_job c (edges_in bytes) job) (pass_reads c) before now outcome) same ends

-- one job more was run
pub one_run : (old mid new : DepotState) (name : List ℕ) (cat : Catalogue) (jobs rest more : List StatedJob) (lines : List JobLine) (job : StatedJob) (line : JobLine)
    → RunSoFar old mid name cat jobs rest lines → rest ≡ job ∷ more
    → line ≡ line_of_job job line.outcome
    → ((bytes : List ℕ) → TellsGrid mid.files name cat bytes → JobEnds (view_of_job cat (edges_in bytes) job) (pass_reads cat) mid new line.outcome)
    → ((bytes : List ℕ) → TellsGrid mid.files name cat bytes → new.reads ≤ mid.reads + run_weight (view_of_job cat (edges_in bytes) job) (pass_reads cat))
    → FaultsFor mid.faults new.faults line.outcome → ReadsSome mid new
    → RunSoFar old new name cat jobs more (lines ++ line ∷ [])
one_run old mid new name cat jobs rest more lines job line sofar first is ends few faults frame = record {
  done = sofar.done ++ job ∷ [];
  split = sofar.split ∙ ap (λ (r : List StatedJob). sofar.done ++ r) first ∙ sym (append_assoc sofar.done (job ∷ []) more);
  told = one_more (λ job outcome. IsTold outcome) sofar.done lines job line sofar.told is (told_by_faults mid.faults new.faults line.outcome faults);
  frame = (sofar.frame.0 + frame.0, only_reads-then 0 sofar.frame.0 0 frame.0 old mid new sofar.frame.1 frame.1);
  faults = faults_push lines line old.faults mid.faults new.faults sofar.faults faults;
  over = over;
}
  where
    over : (bytes : List ℕ) → TellsGrid old.files name cat bytes
        → RunOver cat (edges_in bytes) old new (sofar.done ++ job ∷ []) (lines ++ line ∷ []) × (new.reads ≤ old.reads + runs_weight cat (edges_in bytes) (sofar.done ++ job ∷ []))
    over bytes tells =
        let edges = edges_in bytes in
        let before = sofar.over bytes tells in
        let still = tells_still old mid name cat bytes sofar.frame.1.files tells in
        let end = ends bytes still in
        let most = few bytes still in
        let most_before = before.1 in
        let pushed = weight_push cat edges sofar.done job in (
          record {
            ended = one_more (EndsOver cat edges old.calm) sofar.done lines job line before.0.ended is
                (ends_over cat edges job mid new old.calm line.outcome sofar.frame.1.calm end);
            reads = reads_push cat edges old mid new sofar.done lines job line before.0.reads end;
          },
          omega (arith, most, most_before, pushed),
        )

-- so far no more was read than by all
pub few_sofar : (old now : DepotState) (name : List ℕ) (cat : Catalogue) (jobs rest : List StatedJob) (lines : List JobLine)
    → RunSoFar old now name cat jobs rest lines → (bytes : List ℕ) → TellsGrid old.files name cat bytes
    → now.reads ≤ old.reads + runs_weight cat (edges_in bytes) jobs
few_sofar old now name cat jobs rest lines sofar bytes tells =
    let most = (sofar.over bytes tells).1 in
    let front = weight_front cat (edges_in bytes) jobs sofar.done rest sofar.split in
    omega (arith, most, front)

-- nor with the next one, however it ended
pub few_next : (old mid new : DepotState) (name : List ℕ) (cat : Catalogue) (jobs rest more : List StatedJob) (lines : List JobLine) (job : StatedJob)
    → RunSoFar old mid name cat jobs rest lines → rest ≡ job ∷ more
    → ((bytes : List ℕ) → TellsGrid mid.files name cat bytes → new.reads ≤ mid.reads + run_weight (view_of_job cat (edges_in bytes) job) (pass_reads cat))
    → (bytes : List ℕ) → TellsGrid old.files name cat bytes → new.reads ≤ old.reads + runs_weight cat (edges_in bytes) jobs
few_next old mid new name cat jobs rest more lines job sofar first few bytes tells =
    let edges = edges_in bytes in
    let most = (sofar.over bytes tells).1 in
    let next = few bytes (tells_still old mid name cat bytes sofar.frame.1.files tells) in
    let pushed = weight_push cat edges sofar.done job in
    let front = weight_front cat edges jobs (sofar.done ++ job ∷ []) more
    (sofar.split ∙ ap (λ (r : List StatedJob). sofar.done ++ r) first ∙ sym (append_assoc sofar.done (job ∷ []) more)) in
    omega (arith, most, next, pushed, front)

pub frame_next : (old mid new : DepotState) → ReadsSome old mid → ReadsSome mid new → ReadsSome old new
frame_next old mid new first second = (first.0 + second.0, only_reads-then 0 first.0 0 second.0 old mid new first.1 second.1)

-- none is left
pub all_done : (old now : DepotState) (name : List ℕ) (cat : Catalogue) (jobs rest : List StatedJob) (lines : List JobLine)
    → RunSoFar old now name cat jobs rest lines → rest ≡ []
    → AreLinesOfJobs (λ job outcome. IsTold outcome) jobs lines
    × ((bytes : List ℕ) → TellsGrid old.files name cat bytes → RunOver cat (edges_in bytes) old now jobs lines)
all_done old now name cat jobs rest lines sofar none =
    let all : sofar.done ≡ jobs = sym (sofar.split ∙ ap (λ (r : List StatedJob). sofar.done ++ r) none ∙ append-nil sofar.done) in (
      subst (λ (done : List StatedJob). AreLinesOfJobs (λ job outcome. IsTold outcome) done lines) all sofar.told,
      λ bytes tells. subst (λ (done : List StatedJob). RunOver cat (edges_in bytes) old now done lines) all (sofar.over bytes tells).0,
    )
