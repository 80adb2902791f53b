-- What follows from jobs that were run over the grid that was loaded.
use Rattle.std.specs.Prelude.{◌≡◌, ℕ, suc, ◌+◌, ◌<◌, ◌≤◌, Bool, List, [], ◌∷◌, Option, Some, None, IfSome, Result, Ok, Err, IfOk, All}
use Rattle.std.proofs.lemmas.List.Elements.{All-head, All-tail}
use Rattle.std.proofs.Common.{Vec, Global, inl, inr, sym, ap, ◌∙◌, subst, arith}
use Rattle.gm_base.specs.declared.edge.Edge.{Edge}
use Rattle.gm_base.specs.declared.limits.TheConstants.{MAX_CHUNKS}
use Rattle.gm_base.specs.declared.job.JobLine.{JobLine}
use Rattle.gm_base.specs.declared.job.Spec.{Spec}
use Rattle.gm_base.specs.declared.job.Outcome.{Outcome}
use Rattle.gm_base.specs.declared.job.Outcome.TheVariants.{Rounds}
use Rattle.gm_base.specs.Graph.{IsGraph}
use Rattle.gm_kernel.specs.Runs.{lone_run, most_rounds}
use Rattle.gm_outside.specs.States.{DepotState}
use Rattle.gm_outside.specs.Causes.{counted, counted_times}
use Rattle.gm_outside.specs.CausesRules.{counted_times-add}
use Rattle.gm_outside.specs.Files.{Files}
use Rattle.gm_grid.specs.Format.{IsGrid, edges_of_grid}
use Rattle.gm_grid.specs.GridBytes.{edges_in}
use Rattle.gm_label.specs.Catalogues.{Catalogue}
use Rattle.gm_source.specs.Openings.{IsCatalogueOf, opening_reads}
use Rattle.gm_source.specs.Fetches.{TellsGrid}
use Rattle.gm_job_run.specs.JobLines.{AreLinesOfJobs, EndsOver, FaultsOf, IsTold, RunOver, runs_weight}
use Rattle.gm_jobs.specs.declared.script.Line.{Line}
use Rattle.gm_jobs.specs.StatedJobs.{StatedJob, jobs_of}
use Rattle.gm_scripts.specs.ScriptJobs.{snapshot_of}
use Rattle.gm_versions.specs.Snapshots.{Snapshot, IsSnapshotOver, edges_of}
use Rattle.gm_words.specs.Commands.{RunCommand}
use Rattle.gm_commands.specs.declared.failure.Failure.{Failure}
use Rattle.gm_commands.specs.Readings.{ReadsFiles}
use Rattle.gm_top.specs.RunReadings.{HoldsRun, StatesJobs, files_reading}
use Rattle.gm_top.specs.RunReports.{AreLinesOf, AreReported, EndsInTime, FailsEarly, reads_of_run}

-- the laws of a grid's edges, of its catalogue and of jobs that settle
abbrev pub EdgesBack : Type 0
EdgesBack = (bytes : List ℕ) (n parts : ℕ) (blocks : List (List Edge)) → IsGrid bytes n parts blocks → edges_in bytes ≡ edges_of_grid blocks

abbrev pub Settles : Type 0
Settles = (spec : Spec) (n : ℕ) (edges : List Edge) (rounds : ℕ) → IsGraph n edges → 1 ≤ n → lone_run spec n edges ≡ Rounds rounds → (rounds ≡ most_rounds spec) × (most_rounds spec < n)

-- the law of the graphs that jobs see
abbrev pub Views : Type 0
Views = (n : ℕ) (edges : List Edge) (seen : Snapshot) → IsGraph n edges → IsSnapshotOver n seen → IsGraph n (edges_of edges seen)

abbrev pub SeesVertices : ℕ → List StatedJob → Type 0
SeesVertices n jobs = All (λ (job : StatedJob). IsSnapshotOver n (snapshot_of job)) jobs

abbrev pub Graphs : Type 0
Graphs = (bytes : List ℕ) (size : ℕ) (cat : Catalogue) → IsCatalogueOf bytes size cat → IsGraph cat.dimensions.n (edges_in bytes) × (1 ≤ cat.dimensions.n)

early : (spec : Spec) (n : ℕ) (edges : List Edge) (outcome : Outcome) → Settles → IsGraph n edges → 1 ≤ n → outcome ≡ lone_run spec n edges → FailsEarly n outcome
early spec n edges outcome settles graph some is bound at =
    let end = settles spec n edges bound graph some (sym is ∙ at) in
    let most = end.0 in
    let below = end.1 in
    omega (arith, most, below)

-- a job that ended over what it sees of the grid's edges did so in time
in_time : (cat : Catalogue) (edges : List Edge) (calm : Bool) → Settles → Views → IsGraph cat.dimensions.n edges → 1 ≤ cat.dimensions.n
    → (job : StatedJob) (outcome : Outcome) → IsSnapshotOver cat.dimensions.n (snapshot_of job) → EndsOver cat edges calm job outcome → EndsInTime cat edges calm job outcome
in_time cat edges calm settles views graph some job outcome seen (inl alone) = (
  inl alone,
  early job.spec cat.dimensions.n (edges_of edges (snapshot_of job)) outcome settles (views cat.dimensions.n edges (snapshot_of job) graph seen) some alone,
)
in_time cat edges calm settles views graph some job outcome seen (inr fails) = (inr fails, λ bound at. absurd (let other = sym fails.is ∙ at in cc))

-- the same lines, of whose jobs something else holds
each_ends : (Each : StatedJob → Type 0) (First Second : StatedJob → Outcome → Type 0) → ((job : StatedJob) (outcome : Outcome) → Each job → First job outcome → Second job outcome)
    → (jobs : List StatedJob) (lines : List JobLine) → All Each jobs → AreLinesOfJobs First jobs lines → AreLinesOfJobs Second jobs lines
each_ends Each First Second follows [] [] all are = tt
each_ends Each First Second follows [] (line ∷ lines) all are = absurd are
each_ends Each First Second follows (job ∷ jobs) [] all are = absurd are
each_ends Each First Second follows (job ∷ jobs) (line ∷ lines) all are =
    (are.0, follows job line.outcome (All-head Each job jobs all) are.1, each_ends Each First Second follows jobs lines (All-tail Each job jobs all) are.2)

-- the depot tells the grid that was loaded
tells : (told : Option Files) (held : Files) (command : RunCommand) (cat : Catalogue) (jobs : List StatedJob) (holds : HoldsRun command held cat jobs) → told ≡ Some held
    → TellsGrid told command.grid cat holds.bytes
tells told held command cat jobs holds is =
    record { files = held; is_told = is; there = holds.grid_file; size = command.chunk; catalogue = holds.grid }

-- the reads of the opening, of the job text and of the jobs' runs
all_reads : (cat : Catalogue) (edges : List Edge) (jobs : List StatedJob) (first mid last : ℕ) → mid ≡ counted (counted_times (opening_reads cat.places) first)
    → last ≡ counted_times (runs_weight cat edges jobs) mid → last ≡ counted_times (reads_of_run cat edges jobs) first
all_reads cat edges jobs first mid last opened ran =
    let weight = runs_weight cat edges jobs in
    let order : suc (opening_reads cat.places) + weight ≡ opening_reads cat.places + 1 + weight = omega arith in
    ran ∙ ap (counted_times weight) opened ∙ sym (counted_times-add (suc (opening_reads cat.places)) weight first) ∙ ap (λ (n : ℕ). counted_times n first) order

lines_in : (old mid new : DepotState) (told : Option Files) (command : RunCommand) (cat : Catalogue) (jobs : List StatedJob) (lines : List JobLine)
    → mid.files ≡ told → mid.calm ≡ old.calm → mid.reads ≡ counted (counted_times (opening_reads cat.places) old.reads)
    → EdgesBack → Settles → Views → Graphs → SeesVertices cat.dimensions.n jobs
    → IfSome told (λ held. HoldsRun command held cat jobs)
    → ((bytes : List ℕ) → TellsGrid mid.files command.grid cat bytes → RunOver cat (edges_in bytes) mid new jobs lines)
    → IfSome told (λ held. AreLinesOf command old new held lines)
lines_in old mid new None command cat jobs lines files calm opened back settles views graphs seen holds ran = tt
lines_in old mid new (Some held) command cat jobs lines files calm opened back settles views graphs seen holds ran =
    let is = holds.grid in
    let same = back holds.bytes is.n is.parts is.blocks is.grid in
    let graph = graphs holds.bytes command.chunk cat is in
    let over = ran holds.bytes (tells mid.files held command cat jobs holds files) in
    let ended = each_ends _ _ _ (in_time cat (edges_in holds.bytes) mid.calm settles views graph.0 graph.1) jobs lines seen over.ended in
    record {
      cat = cat;
      jobs = jobs;
      holds = holds;
      ended =
          subst (λ (is_calm : Bool). AreLinesOfJobs (EndsInTime cat (edges_of_grid is.blocks) is_calm) jobs lines) calm
          (subst (λ (edges : List Edge). AreLinesOfJobs (EndsInTime cat edges mid.calm) jobs lines) same ended);
      reads = λ none.
          subst (λ (edges : List Edge). new.reads ≡ counted_times (reads_of_run cat edges jobs) old.reads) same
          (all_reads cat (edges_in holds.bytes) jobs old.reads mid.reads new.reads opened (over.reads none));
    }

-- the lines of the jobs that were loaded, where they have some
pub lines_reported : (old mid new : DepotState) (command : RunCommand) (cat : Catalogue) (script : List Line) (result : Result (Vec JobLine Global) Failure)
    → ReadsFiles {T = Catalogue × List Line} 2 (3 + MAX_CHUNKS) (files_reading command) old mid (Ok (cat, script))
    → mid.reads ≡ counted (counted_times (opening_reads cat.places) old.reads)
    → EdgesBack → Settles → Views → Graphs → SeesVertices cat.dimensions.n (jobs_of script) → StatesJobs cat.dimensions.n (jobs_of script)
    → IfSome old.files (λ held. HoldsRun command held cat (jobs_of script))
    → IfOk result (λ lines. AreLinesOfJobs (λ job outcome. IsTold outcome) (jobs_of script) lines.items)
    → ((bytes : List ℕ) → TellsGrid mid.files command.grid cat bytes
    → IfOk result (λ lines. RunOver cat (edges_in bytes) mid new (jobs_of script) lines.items))
    → IfOk result (λ lines. FaultsOf lines.items mid.faults new.faults)
    → IfOk result (λ lines. AreReported command old new lines.items)
lines_reported old mid new command cat script (Ok lines) files opened back settles views graphs seen states holds told ran faults =
    record {
      some = record { n = cat.dimensions.n; jobs = jobs_of script; states = states; told = told };
      told = lines_in old mid new old.files command cat (jobs_of script) lines.items files.frame.frame.files files.frame.frame.calm opened back settles views graphs seen holds ran;
      faults = subst (λ (before : ℕ). FaultsOf lines.items before new.faults) files.ok.1 faults;
    }
lines_reported old mid new command cat script (Err failure) files opened back settles views graphs seen states holds told ran faults = tt
