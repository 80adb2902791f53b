use Rattle.std.specs.Arc.{arc_value}
use Rattle.std.specs.Vec.Iter.{into_iter_items}
use Rattle.std.proofs.Common.{◌≡◌, ℕ, ◌+◌, ◌≤◌, List, [], ◌∷◌, ◌++◌, length, sym, ap, ◌∙◌, subst}
use Rattle.std.proofs.lemmas.List.{nil_from_length}
use Rattle.gm_base.specs.declared.job.JobLine.{JobLine}
use Rattle.gm_base.specs.declared.job.Spec.{Spec}
use Rattle.gm_changes.specs.declared.change.Change.{Change}
use Rattle.gm_label.specs.Catalogues.{Catalogue}
use Rattle.gm_versions.specs.Kept.{IsOf}
use Rattle.gm_jobs.specs.declared.script.Line.{Line}
use Rattle.gm_jobs.specs.declared.script.Line.TheVariants as lines
use Rattle.gm_jobs.specs.StatedJobs.{StatedJob, jobs_below, jobs_of}
use Rattle.gm_outside.specs.States.{DepotState}
use Rattle.gm_grid.specs.GridBytes.{edges_in}
use Rattle.gm_source.specs.Fetches.{TellsGrid}
use Rattle.gm_versions.specs.declared.versions.Versions.{Versions}
use Rattle.gm_work.specs.Weights.{run_weight}
use Rattle.gm_job_run.specs.JobRuns.{pass_reads}
use Rattle.gm_job_run.specs.declared.script_run.Job.{Job}
use Rattle.gm_job_run.specs.JobLines.{job_below, runs_weight, view_of_job}
use Rattle.gm_versions.specs.Snapshots.{IsSnapshotOver}
use Rattle.gm_scripts.specs.ScriptJobs.{snapshot_of}
use Rattle.gm_job_run.proofs.Listing.{all_done, ends_for, few_for, few_sofar, frame_next}
use Rattle.gm_job_run.proofs.Scripts.{ScriptSoFar, script_begins, script_job, script_few, script_sees, script_update, script_wait}
use Rattle.gm_job_run.proofs.script_run.run_script.Goals as goal

-- the next entry, by what it is
entry_is : {rest : List Line} {entry is : Line} (more : List Line) → rest ≡ entry ∷ more → entry ≡ is → rest ≡ is ∷ more
entry_is more first same = first ∙ ap (λ (e : Line). e ∷ more) same

-- a job by its number
numbered : {number count : ℕ} (name : List ℕ) (spec : Spec) (own : List Change) → number ≡ count
    → ◌≡◌ {A = Job} (record { number = number; name = name; spec = spec; own = own }) (record { number = count; name = name; spec = spec; own = own })
numbered name spec own same = ap (λ (n : ℕ). record { number = n; name = name; spec = spec; own = own }) same

abbrev job_at : Versions → ℕ → List ℕ → Spec → List Change → StatedJob
job_at versions number name spec own = job_below versions (record { number = number; name = name; spec = spec; own = own })

few_at : (old mid new : DepotState) (grid : List ℕ) (cat : Catalogue) (script rest more : List Line) (versions : Versions) (done : List JobLine)
    (name : List ℕ) (spec : Spec) (own : List Change) (number : ℕ)
    → ScriptSoFar old mid grid cat script rest versions done → rest ≡ lines.Job name spec own ∷ more → number ≡ length done
    → ((bytes : List ℕ) → TellsGrid mid.files grid cat bytes → new.reads ≤ mid.reads
    + run_weight (view_of_job cat (edges_in bytes) (job_at versions number name spec own)) (pass_reads cat))
    → (bytes : List ℕ) → TellsGrid old.files grid cat bytes → new.reads ≤ old.reads + runs_weight cat (edges_in bytes) (jobs_of script)
few_at old mid new grid cat script rest more versions done name spec own number sofar is same few =
    script_few old mid new grid cat script rest more versions done name spec own (record { number = number; name = name; spec = spec; own = own }) sofar is (numbered name spec own same) few

pub loop-entry-init : goal.loop-entry-init
loop-entry-init g c = (
  tt,
  tt,
  script_begins (g.D.Depot.state c.args.depot.now) c.args.grid.now (arc_value c.args.cat.now) c.args.script _ _ _
      (c.into_iter-entry-iterator.ensures.into_iter_gives.0 ∙ c.into_lines-entry-items.ensures) c.new-versions.ensures.batches c.new-lines.ensures.items
      (c.new-versions.ensures.catalogue (arc_value c.args.cat.now)) c.requires.over,
)

pub returns-in_err-cat-in-Job-clause-few : goal.returns-in_err-cat-in-Job-clause-few
returns-in_err-cat-in-Job-clause-few g c = few_sofar _ _ _ _ _ _ _ c.loop-entry.invariant.2.run

pub run_line-requires-clause-over : goal.run_line-requires-clause-over
run_line-requires-clause-over g c =
    let job : Job = record { number = c.len-number.result; name = c.in-Job.name; spec = c.in-Job.spec; own = c.in-Job.own } in
    subst (λ (cat : Catalogue). IsSnapshotOver cat.dimensions.n (snapshot_of (job_below c.loop-entry.versions job))) (sym c.in_ok-cat-in-Job.ensures.cases)
    (script_sees _ _ _ _ _ _ _ c.loop-entry.versions _ c.in-Job.name c.in-Job.spec c.in-Job.own job c.loop-entry.invariant.2
    (entry_is (into_iter_items c.next.new.self) c.in-Some.ensures.steps.0 c.in-Job.is) (numbered c.in-Job.name c.in-Job.spec c.in-Job.own (c.len-number.ensures ∙ c.loop-entry.lines.ok.0)))

pub returns-in_err-line-in-Job-clause-few : goal.returns-in_err-line-in-Job-clause-few
returns-in_err-line-in-Job-clause-few g c =
    few_at _ _ (g.D.Depot.state c.run_line.new.depot) _ _ _ _ _ c.loop-entry.versions _ c.in-Job.name c.in-Job.spec c.in-Job.own c.len-number.result c.loop-entry.invariant.2
    (entry_is (into_iter_items c.next.new.self) c.in-Some.ensures.steps.0 c.in-Job.is) (c.len-number.ensures ∙ c.loop-entry.lines.ok.0)
    (few_for (g.D.Depot.state c.loop-entry.depot) (g.D.Depot.state c.run_line.new.depot) c.args.grid.now (job_at c.loop-entry.versions c.len-number.result c.in-Job.name c.in-Job.spec c.in-Job.own) _ _ c.in_ok-cat-in-Job.ensures.cases c.run_line.ensures.few)

pub returns-in_err-line-in-Job-clause-frame : goal.returns-in_err-line-in-Job-clause-frame
returns-in_err-line-in-Job-clause-frame g c = frame_next _ _ _ c.loop-entry.invariant.2.run.frame c.run_line.ensures.frame

pub returns-in_err-push-in-Job-clause-frame : goal.returns-in_err-push-in-Job-clause-frame
returns-in_err-push-in-Job-clause-frame g c = frame_next _ _ _ c.loop-entry.invariant.2.run.frame c.run_line.ensures.frame

pub returns-in_err-push-in-Job-clause-few : goal.returns-in_err-push-in-Job-clause-few
returns-in_err-push-in-Job-clause-few g c =
    few_at _ _ (g.D.Depot.state c.run_line.new.depot) _ _ _ _ _ c.loop-entry.versions _ c.in-Job.name c.in-Job.spec c.in-Job.own c.len-number.result c.loop-entry.invariant.2
    (entry_is (into_iter_items c.next.new.self) c.in-Some.ensures.steps.0 c.in-Job.is) (c.len-number.ensures ∙ c.loop-entry.lines.ok.0)
    (few_for (g.D.Depot.state c.loop-entry.depot) (g.D.Depot.state c.run_line.new.depot) c.args.grid.now (job_at c.loop-entry.versions c.len-number.result c.in-Job.name c.in-Job.spec c.in-Job.own) _ _ c.in_ok-cat-in-Job.ensures.cases c.run_line.ensures.few)

pub loop-entry-preserved-in-Continue-branch-3 : goal.loop-entry-preserved-in-Continue-branch-3
loop-entry-preserved-in-Continue-branch-3 g c =
    let job : Job = record { number = c.len-number.result; name = c.in-Job.name; spec = c.in-Job.spec; own = c.in-Job.own } in
    let below = job_below c.loop-entry.versions job in
    let cases = c.in_ok-cat-in-Job.ensures.cases in (
      tt,
      tt,
      subst (λ (done : List JobLine). ScriptSoFar (g.D.Depot.state c.args.depot.now) (g.D.Depot.state c.run_line.new.depot) c.args.grid.now (arc_value c.args.cat.now) c.args.script
          (into_iter_items c.next.new.self) c.loop-entry.versions done) (sym c.in_ok-push-in-Job.ensures.items)
          (script_job _ _ _ _ _ _ _ _ c.loop-entry.versions _ c.in-Job.name c.in-Job.spec c.in-Job.own job c.in_ok-line-in-Job.line c.loop-entry.invariant.2
          (entry_is (into_iter_items c.next.new.self) c.in-Some.ensures.steps.0 c.in-Job.is) (numbered c.in-Job.name c.in-Job.spec c.in-Job.own (c.len-number.ensures ∙ c.loop-entry.lines.ok.0)) c.in_ok-line-in-Job.ensures.line
          (ends_for (g.D.Depot.state c.loop-entry.depot) (g.D.Depot.state c.run_line.new.depot) c.args.grid.now below c.in_ok-line-in-Job.line.outcome _ _ cases c.in_ok-line-in-Job.ensures.ends)
          (few_for (g.D.Depot.state c.loop-entry.depot) (g.D.Depot.state c.run_line.new.depot) c.args.grid.now below _ _ cases c.run_line.ensures.few)
          c.in_ok-line-in-Job.ensures.faults c.run_line.ensures.frame),
    )

pub returns-in_err-update-in-Update-clause-few : goal.returns-in_err-update-in-Update-clause-few
returns-in_err-update-in-Update-clause-few g c = few_sofar _ _ _ _ _ _ _ c.loop-entry.invariant.2.run

pub loop-entry-preserved-in-Update : goal.loop-entry-preserved-in-Update
loop-entry-preserved-in-Update g c = (
  tt,
  tt,
  script_update _ _ _ _ _ _ _ c.loop-entry.versions c.update.new.self _ c.in-Update.batch c.loop-entry.invariant.2
      (entry_is (into_iter_items c.next.new.self) c.in-Some.ensures.steps.0 c.in-Update.is)
      (c.in_ok-update-in-Update.ensures.ok ∙ ap (λ (batch : List Change). c.loop-entry.versions.batches ++ batch ∷ []) c.as_slice.ensures)
      (subst (λ (cat : Catalogue). IsOf cat c.update.new.self) c.deref.ensures c.update.ensures.catalogue),
)

pub loop-entry-preserved : goal.loop-entry-preserved
loop-entry-preserved g c = (
  tt,
  tt,
  script_wait _ _ _ _ _ _ _ c.loop-entry.versions _ c.in-Wait.visits c.loop-entry.invariant.2
      (entry_is (into_iter_items c.next.new.self) c.in-Some.ensures.steps.0 c.in-Wait.is),
)

pub returns-clause-lines : goal.returns-clause-lines
returns-clause-lines g c =
    (all_done _ _ _ _ _ _ _ c.loop-entry.invariant.2.run
    (ap (jobs_below (length c.loop-entry.lines.items) c.loop-entry.versions.batches)
    (nil_from_length _ (sym c.loop-entry.entry-iterator.rest.ok.0 ∙ c.in-None.ensures.steps.0)))).0

pub returns-clause-ends : goal.returns-clause-ends
returns-clause-ends g c =
    (all_done _ _ _ _ _ _ _ c.loop-entry.invariant.2.run
    (ap (jobs_below (length c.loop-entry.lines.items) c.loop-entry.versions.batches)
    (nil_from_length _ (sym c.loop-entry.entry-iterator.rest.ok.0 ∙ c.in-None.ensures.steps.0)))).1

pub returns-clause-few : goal.returns-clause-few
returns-clause-few g c = few_sofar _ _ _ _ _ _ _ c.loop-entry.invariant.2.run
