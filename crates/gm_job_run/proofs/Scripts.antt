-- A script that is run entry by entry.
use Rattle.std.specs.Prelude.{◌≡◌, ℕ, ◌+◌, ◌≤◌, List, [], ◌∷◌, ◌++◌, length}
use Rattle.std.proofs.Common.{sym, ap, ◌∙◌, subst}
use Rattle.std.proofs.lemmas.List.{length-append}
use Rattle.gm_base.specs.declared.job.JobLine.{JobLine}
use Rattle.gm_base.specs.declared.job.Spec.{Spec}
use Rattle.gm_outside.specs.States.{DepotState}
use Rattle.gm_grid.specs.GridBytes.{edges_in}
use Rattle.gm_label.specs.Catalogues.{Catalogue}
use Rattle.gm_changes.specs.declared.change.Change.{Change}
use Rattle.gm_source.specs.Fetches.{TellsGrid}
use Rattle.gm_versions.specs.declared.versions.Versions.{Versions}
use Rattle.gm_versions.specs.Kept.{IsOf}
use Rattle.gm_jobs.specs.declared.script.Line.{Line}
use Rattle.gm_jobs.specs.declared.script.Line.TheVariants as lines
use Rattle.gm_jobs.specs.JobBounds.{IsScriptOver}
use Rattle.gm_jobs.specs.StatedJobs.{jobs_below, jobs_of}
use Rattle.gm_work.specs.Weights.{run_weight}
use Rattle.gm_job_run.specs.declared.script_run.Job.{Job}
use Rattle.gm_job_run.specs.JobRuns.{JobEnds, FaultsFor, ReadsSome, pass_reads}
use Rattle.gm_job_run.specs.JobLines.{job_below, line_of_job, runs_weight, view_of_job}
use Rattle.gm_job_run.proofs.Listing.{RunSoFar, few_next, none_yet, one_run}
use Rattle.gm_versions.specs.Snapshots.{IsSnapshotOver}
use Rattle.gm_scripts.specs.ScriptJobs.{snapshot_of}
use Rattle.gm_scripts.specs.BelowRules.{AreBelow, all_below, below_job, below_update, below_wait, job_sees}

-- after some entries of a script: their jobs were run, and their updates were made
pub record ScriptSoFar (old now : DepotState) (name : List ℕ) (cat : Catalogue) (script rest : List Line) (versions : Versions) (lines : List JobLine) : Type 0 where
  pub run : RunSoFar old now name cat (jobs_of script) (jobs_below (length lines) versions.batches rest) lines
  pub below : AreBelow cat.dimensions.n (length lines) versions.batches rest
  pub of : IsOf cat versions

pub script_begins : (depot : DepotState) (name : List ℕ) (cat : Catalogue) (script rest : List Line) (versions : Versions) (lines : List JobLine)
    → rest ≡ script → versions.batches ≡ [] → lines ≡ [] → IsOf cat versions → IsScriptOver cat.dimensions.n script
    → ScriptSoFar depot depot name cat script rest versions lines
script_begins depot name cat script rest versions lines all first none of over = record {
  run = none_yet depot name cat (jobs_of script) (jobs_below (length lines) versions.batches rest) lines
      ((λ i. jobs_below (length (none i)) (first i) (all i))) none;
  below =
      subst (λ (entries : List Line). AreBelow cat.dimensions.n (length lines) versions.batches entries) (sym all)
      (subst (λ (above : List (List Change)). AreBelow cat.dimensions.n (length lines) above script) (sym first)
      (subst (λ (ls : List JobLine). AreBelow cat.dimensions.n (length ls) [] script) (sym none) (all_below cat.dimensions.n script over)));
  of = of;
}

-- the next job, as it is stated
next_job : (versions : Versions) (number : ℕ) (rest more : List Line) (name : List ℕ) (spec : Spec) (own : List Change) → rest ≡ lines.Job name spec own ∷ more
    → jobs_below number versions.batches rest
    ≡ job_below versions (record { number = number; name = name; spec = spec; own = own }) ∷ jobs_below (number + 1) versions.batches more
next_job versions number rest more name spec own is = ap (jobs_below number versions.batches) is

-- .. whose changes are among the vertices
pub script_sees : (old now : DepotState) (grid : List ℕ) (cat : Catalogue) (script rest more : List Line) (versions : Versions) (done : List JobLine)
    (name : List ℕ) (spec : Spec) (own : List Change) (job : Job)
    → ScriptSoFar old now grid cat script rest versions done → rest ≡ lines.Job name spec own ∷ more
    → job ≡ record { number = length done; name = name; spec = spec; own = own }
    → IsSnapshotOver cat.dimensions.n (snapshot_of (job_below versions job))
script_sees old now grid cat script rest more versions done name spec own job sofar is job_is =
    subst (λ (j : Job). IsSnapshotOver cat.dimensions.n (snapshot_of (job_below versions j))) (sym job_is)
    (job_sees cat.dimensions.n (length done) versions.batches name spec own more (subst (AreBelow cat.dimensions.n (length done) versions.batches) is sofar.below))

pub script_job : (old mid new : DepotState) (grid : List ℕ) (cat : Catalogue) (script rest more : List Line) (versions : Versions) (done : List JobLine)
    (name : List ℕ) (spec : Spec) (own : List Change) (job : Job) (line : JobLine)
    → ScriptSoFar old mid grid cat script rest versions done → rest ≡ lines.Job name spec own ∷ more
    → job ≡ record { number = length done; name = name; spec = spec; own = own }
    → line ≡ line_of_job (job_below versions job) line.outcome
    → ((bytes : List ℕ) → TellsGrid mid.files grid cat bytes → JobEnds (view_of_job cat (edges_in bytes) (job_below versions job)) (pass_reads cat) mid new line.outcome)
    → ((bytes : List ℕ) → TellsGrid mid.files grid cat bytes → new.reads ≤ mid.reads + run_weight (view_of_job cat (edges_in bytes) (job_below versions job)) (pass_reads cat))
    → FaultsFor mid.faults new.faults line.outcome → ReadsSome mid new
    → ScriptSoFar old new grid cat script more versions (done ++ line ∷ [])
script_job old mid new grid cat script rest more versions done name spec own job line sofar is job_is line_is ends few faults frame =
    let next = next_job versions (length done) rest more name spec own is in
    let here : jobs_below (length done) versions.batches rest ≡ job_below versions job ∷ jobs_below (length done + 1) versions.batches more =
    next ∙ ap (λ (j : Job). job_below versions j ∷ jobs_below (length done + 1) versions.batches more) (sym job_is) in
    let one : length (done ++ line ∷ []) ≡ length done + 1 = length-append done (line ∷ []) in
    let below = subst (AreBelow cat.dimensions.n (length done) versions.batches) is sofar.below in
    record {
      run = subst (λ (number : ℕ). RunSoFar old new grid cat (jobs_of script) (jobs_below number versions.batches more) (done ++ line ∷ [])) (sym one)
          (one_run old mid new grid cat (jobs_of script) (jobs_below (length done) versions.batches rest) (jobs_below (length done + 1) versions.batches more) done
          (job_below versions job) line sofar.run here line_is ends few faults frame);
      below = subst (λ (number : ℕ). AreBelow cat.dimensions.n number versions.batches more) (sym one) (below_job cat.dimensions.n (length done) versions.batches name spec own more below);
      of = sofar.of;
    }

-- .. and how much is read where it has no line
pub script_few : (old mid new : DepotState) (grid : List ℕ) (cat : Catalogue) (script rest more : List Line) (versions : Versions) (done : List JobLine)
    (name : List ℕ) (spec : Spec) (own : List Change) (job : Job)
    → ScriptSoFar old mid grid cat script rest versions done → rest ≡ lines.Job name spec own ∷ more
    → job ≡ record { number = length done; name = name; spec = spec; own = own }
    → ((bytes : List ℕ) → TellsGrid mid.files grid cat bytes → new.reads ≤ mid.reads + run_weight (view_of_job cat (edges_in bytes) (job_below versions job)) (pass_reads cat))
    → (bytes : List ℕ) → TellsGrid old.files grid cat bytes → new.reads ≤ old.reads + runs_weight cat (edges_in bytes) (jobs_of script)
script_few old mid new grid cat script rest more versions done name spec own job sofar is job_is few =
    few_next old mid new grid cat (jobs_of script) (jobs_below (length done) versions.batches rest) (jobs_below (length done + 1) versions.batches more) done (job_below versions job) sofar.run
    (next_job versions (length done) rest more name spec own is ∙ ap (λ (j : Job). job_below versions j ∷ jobs_below (length done + 1) versions.batches more) (sym job_is)) few

pub script_update : (old now : DepotState) (grid : List ℕ) (cat : Catalogue) (script rest more : List Line) (versions next : Versions) (done : List JobLine) (batch : List Change)
    → ScriptSoFar old now grid cat script rest versions done → rest ≡ lines.Update batch ∷ more
    → next.batches ≡ versions.batches ++ batch ∷ [] → IsOf cat next → ScriptSoFar old now grid cat script more next done
script_update old now grid cat script rest more versions next done batch sofar is made of =
    let below = subst (AreBelow cat.dimensions.n (length done) versions.batches) is sofar.below in
    record {
      run = subst (λ (above : List (List Change)). RunSoFar old now grid cat (jobs_of script) (jobs_below (length done) above more) done) (sym made)
          (subst (λ (entries : List Line). RunSoFar old now grid cat (jobs_of script) (jobs_below (length done) versions.batches entries) done) is sofar.run);
      below = subst (λ (above : List (List Change)). AreBelow cat.dimensions.n (length done) above more) (sym made)
          (below_update cat.dimensions.n (length done) versions.batches batch more below);
      of = of;
    }

pub script_wait : (old now : DepotState) (grid : List ℕ) (cat : Catalogue) (script rest more : List Line) (versions : Versions) (done : List JobLine) (visits : ℕ)
    → ScriptSoFar old now grid cat script rest versions done → rest ≡ lines.Wait visits ∷ more → ScriptSoFar old now grid cat script more versions done
script_wait old now grid cat script rest more versions done visits sofar is = record {
  run = subst (λ (entries : List Line). RunSoFar old now grid cat (jobs_of script) (jobs_below (length done) versions.batches entries) done) is sofar.run;
  below = below_wait cat.dimensions.n (length done) versions.batches visits more (subst (AreBelow cat.dimensions.n (length done) versions.batches) is sofar.below);
  of = sofar.of;
}
