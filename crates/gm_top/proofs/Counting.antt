-- How often a run reads its files.
use Rattle.std.specs.Prelude.{◌≡◌, ℕ, suc, ◌+◌, ◌≤◌, ◌⊎◌, List, Option, Some, None, IfSome, Result, Ok, Err, IfErr, MatchResult, refl}
use Rattle.std.proofs.Common.{inl, inr, sym, ap, subst, arith}
use Rattle.gm_base.specs.declared.edge.Edge.{Edge}
use Rattle.gm_base.specs.declared.limits.TheConstants.{MAX_CHUNKS}
use Rattle.gm_outside.specs.Files.{Files}
use Rattle.gm_outside.specs.States.{DepotState}
use Rattle.gm_outside.specs.Causes.{counted, counted_times}
use Rattle.gm_outside.specs.CausesRules.{counted_times-few}
use Rattle.gm_grid.specs.GridBytes.{edges_in}
use Rattle.gm_label.specs.Catalogues.{Catalogue}
use Rattle.gm_source.specs.Openings.{opening_reads}
use Rattle.gm_source.specs.Fetches.{TellsGrid}
use Rattle.gm_outside.specs.Frames.{OnlyReads, Writes}
use Rattle.gm_outside.specs.declared.traits.Trouble.{Trouble}
use Rattle.gm_outside.specs.declared.traits.Trouble.TheVariants as troubles
use Rattle.gm_base.specs.declared.job.JobLine.{JobLine}
use Rattle.gm_report.specs.Report.{report_text}
use Rattle.gm_commands.specs.declared.failure.Refusal.{Refusal}
use Rattle.gm_commands.specs.Readings.{AreTaken, AsksJust, ReadsWithin}
use Rattle.gm_commands.specs.Endings.{Handles, Outside}
use Rattle.gm_tools.specs.Grids.{grid_reading}
use Rattle.gm_job_run.specs.JobLines.{runs_weight}
use Rattle.gm_jobs.specs.StatedJobs.{StatedJob}
use Rattle.gm_commands.specs.declared.failure.Failure.{Failure}
use Rattle.gm_commands.specs.declared.failure.Failure.TheVariants.{OutOfMemory, OutputFailed}
use Rattle.gm_commands.specs.Failures.{failed_by, status_of}
use Rattle.gm_words.specs.Commands.{RunCommand}
use Rattle.gm_top.specs.RunReadings.{HoldsRun, files_reading, run_reading}
use Rattle.gm_top.specs.RunReports.{AreReported}
use Rattle.gm_top.proofs.Loading.{grid_taken, not_stopped}
use Rattle.gm_top.specs.RunEndings.{IsRefusal, OpenedFew, RanFew, ReadsRun, StopsAtGrid, StopsWhereRefused, run_contract}
use Rattle.gm_top.proofs.Running.{EdgesBack}

opened : (told : Option Files) (command : RunCommand) (old new : DepotState) → IfSome told (OpenedFew command old new)
    → IfSome told (λ held. OpenedFew command old new held ⊎ RanFew command old new held)
opened None command old new few = tt
opened (Some held) command old new few = inl few

-- the files couldn't be loaded
pub reads_run-files : (command : RunCommand) (old new : DepotState) (status : ℕ) → ReadsWithin 2 (3 + MAX_CHUNKS) old new
    → IfSome old.files (OpenedFew command old new) → StopsWhereRefused command old new status → ReadsRun command old new status
reads_run-files command old new status frame few stops = record {
  asked = frame.questions;
  most = 3 + MAX_CHUNKS;
  few = frame.few;
  frame = frame.frame;
  whole = opened old.files command old new few;
  refused = λ is. frame.frame.reads;
  refused_told = λ is. few;
  refused_grid = stops;
}

ran : (told : Option Files) (command : RunCommand) (old new : DepotState) (mid : ℕ) (mid_told : Option Files) (cat : Catalogue) (jobs : List StatedJob) → EdgesBack → mid_told ≡ told
    → mid ≡ counted (counted_times (opening_reads cat.places) old.reads)
    → IfSome told (λ held. HoldsRun command held cat jobs)
    → ((bytes : List ℕ) → TellsGrid mid_told command.grid cat bytes → new.reads ≤ mid + runs_weight cat (edges_in bytes) jobs)
    → IfSome told (λ held. OpenedFew command old new held ⊎ RanFew command old new held)
ran None command old new mid mid_told cat jobs back same opening holds few = tt
ran (Some held) command old new mid mid_told cat jobs back same opening holds few =
    let is = holds.grid in
    let told : TellsGrid mid_told command.grid cat holds.bytes = record { files = held; is_told = same; there = holds.grid_file; size = command.chunk; catalogue = is } in
    let here = few holds.bytes told in
    let edges = ap (λ (es : List Edge). runs_weight cat es jobs) (back holds.bytes is.n is.parts is.blocks is.grid) in
    let before = counted_times-few (suc (opening_reads cat.places)) old.reads in
    inr (record { cat = cat; jobs = jobs; holds = holds; few = omega (arith, here, edges, before, opening) })

no_refusal : (status : ℕ) → IsRefusal status → (status ≤ 1) ⊎ (7 ≤ status) → ⊥
no_refusal status is (inl less) = omega (arith, is.low, less)
no_refusal status is (inr more) = omega (arith, is.high, more)

-- the files were loaded and the jobs were run
abbrev pub ReadsRan : DepotState → DepotState → Type 0
ReadsRan old new = (most : ℕ) × OnlyReads 2 most old new

-- the job was run, and the report was written or not
pub reads_run-ran : (command : RunCommand) (old new : DepotState) (status mid : ℕ) (mid_told : Option Files) (cat : Catalogue) (jobs : List StatedJob) → EdgesBack → mid_told ≡ old.files
    → mid ≡ counted (counted_times (opening_reads cat.places) old.reads)
    → IfSome old.files (λ held. HoldsRun command held cat jobs)
    → ((bytes : List ℕ) → TellsGrid mid_told command.grid cat bytes → new.reads ≤ mid + runs_weight cat (edges_in bytes) jobs)
    → ReadsRan old new → (status ≤ 1) ⊎ (7 ≤ status) → AreTaken (files_reading command) old.files → ReadsRun command old new status
reads_run-ran command old new status mid mid_told cat jobs back same opening holds few frame other taken = record {
  asked = 2;
  most = frame.0;
  few = omega arith;
  frame = frame.1;
  whole = ran old.files command old new mid mid_told cat jobs back same opening holds few;
  refused = λ is. absurd (no_refusal status is other);
  refused_told = λ is. absurd (no_refusal status is other);
  refused_grid = not_stopped command old new status (grid_taken command old.files taken);
}

-- where the grid was opened, whatever became of the run then
stops-other : (command : RunCommand) (old new : DepotState) (status : ℕ) → StopsWhereRefused command old new 0 → StopsWhereRefused command old new status
stops-other command old new status stops = each old.files stops
  where
    each : (told : Option Files)
        → IfSome told (λ held. (refusal : Refusal) → (grid_reading command.grid command.chunk).refusal held ≡ Some refusal
        → StopsAtGrid command old new 0 held)
        → IfSome told (λ held. (refusal : Refusal) → (grid_reading command.grid command.chunk).refusal held ≡ Some refusal
        → StopsAtGrid command old new status held)
    each None a = tt
    each (Some held) a = λ refusal is. let at = a refusal is in record {
      few = at.few;
      exact = λ served other. at.exact (λ e. absurd (omega (arith, e))) (λ e. absurd (omega (arith, e)));
    }

-- the same of another such status
pub reads_run-other : (command : RunCommand) (old new : DepotState) (status : ℕ) → (status ≤ 1) ⊎ (7 ≤ status) → ReadsRun command old new 0 → ReadsRun command old new status
reads_run-other command old new status other a = record {
  asked = a.asked;
  most = a.most;
  few = a.few;
  frame = a.frame;
  whole = a.whole;
  refused = λ is. absurd (no_refusal status is other);
  refused_told = λ is. absurd (no_refusal status is other);
  refused_grid = stops-other command old new status a.refused_grid;
}

-- however the job's run ended
pub reads_run-matched : {T : Type 0} (command : RunCommand) (old new : DepotState) (result : Result T Failure) → IfErr result (λ failure. failure ≡ OutOfMemory)
    → ReadsRun command old new 0 → MatchResult result (λ _. ReadsRun command old new 0) (λ failure. ReadsRun command old new (status_of failure))
reads_run-matched command old new (Ok x) memory a = a
reads_run-matched command old new (Err failure) memory a =
    subst (λ (f : Failure). ReadsRun command old new (status_of f)) (sym memory) (reads_run-other command old new 8 (inr (omega arith)) a)

-- and where the report couldn't be written whole
pub reads_run-unwritten : (command : RunCommand) (old new : DepotState) (trouble : Trouble) → ReadsRun command old new 0
    → ReadsRun command old new (status_of (failed_by OutputFailed trouble))
reads_run-unwritten command old new troubles.Failed a = reads_run-other command old new 7 (inr (omega arith)) a
reads_run-unwritten command old new troubles.Memory a = reads_run-other command old new 8 (inr (omega arith)) a

pub reported_partly : (command : RunCommand) (old new : Outside) (lines : List JobLine) (trouble : Trouble)
    → AreTaken (run_reading command) old.depot.files → AsksJust 2 old.depot new.depot → AreReported command old.depot new.depot lines
    → Writes {T = Unit {0}} (report_text lines) old.out new.out (Err trouble)
    → Handles (run_contract command) old new (Err (failed_by OutputFailed trouble))
reported_partly command old new lines troubles.Failed taken asked reported written = record {
  taken = tt;
  performs = tt;
  asked = tt;
  served = tt;
  cause = (written.causes.fault.failed refl, taken, tt, asked);
  leaves = record { lines = lines; reported = reported; written = written.err };
}
reported_partly command old new lines troubles.Memory taken asked reported written = record {
  taken = tt;
  performs = tt;
  asked = tt;
  served = tt;
  cause = (inr (refl, record { taken = taken; asked = asked }), written.causes.fault.kept (λ is. absurd cc));
  leaves = inr (record { lines = lines; reported = reported; written = written.err });
}
