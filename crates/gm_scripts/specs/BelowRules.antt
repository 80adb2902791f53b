-- What proofs need of scripts that are gone through entry by entry: what holds of the entries that are left, and of the updates above them.
use Rattle.std.specs.Prelude.{ℕ, ◌+◌, ◌≤◌, List, [], ◌∷◌, ◌++◌, length, All}
use Rattle.std.proofs.Common.{sym, ap, subst, arith}
use Rattle.std.proofs.lemmas.List.{length-append, length_push}
use Rattle.std.proofs.lemmas.List.Elements.{All-append, All-cons, All-head, All-nil, All-tail}
use Rattle.std.proofs.lemmas.List.Sums.{sum_by-cons}
use Rattle.gm_base.specs.declared.job.Spec.{Spec}
use Rattle.gm_base.specs.declared.limits.TheConstants.{MAX_CHANGES}
use Rattle.gm_changes.specs.declared.change.Change.{Change}
use Rattle.gm_changes.specs.Changes.{ChangesWithin}
use Rattle.gm_versions.specs.Contents.{all_changes}
use Rattle.gm_jobs.specs.declared.limits.TheConstants.{MAX_JOBS}
use Rattle.gm_jobs.specs.declared.script.Line.{Line}
use Rattle.gm_jobs.specs.declared.script.Line.TheVariants.{Job, Update, Wait}
use Rattle.gm_jobs.specs.JobBounds.{MakesSomeRound, IsLineOver, IsScriptOver}
use Rattle.gm_jobs.specs.Scripts.{names_of, change_lines_in, change_lines_of}
use Rattle.gm_jobs.specs.StatedJobs.{StatedJob, jobs_below}
use Rattle.gm_versions.specs.Snapshots.{IsSnapshotOver}
use Rattle.gm_versions.specs.ContentsRules.{all-pushed}
use Rattle.gm_scripts.specs.ScriptJobs.{snapshot_of}

-- entries below so many jobs and below these updates
pub record AreBelow (n number : ℕ) (above : List (List Change)) (rest : List Line) : Type 0 where
  pub lines : All (IsLineOver n) rest
  pub jobs : number + length (names_of rest) ≤ MAX_JOBS
  pub changes : length (all_changes above) + length above + change_lines_of rest ≤ MAX_CHANGES
  pub ends : All (ChangesWithin n) (all_changes above)

pub all_below : (n : ℕ) (entries : List Line) → IsScriptOver n entries → AreBelow n 0 [] entries
all_below n entries over = record {
  lines = over.lines;
  jobs = omega (arith, over.jobs);
  changes = omega (arith, over.changes);
  ends = All-nil (ChangesWithin n);
}

-- below one job more
pub below_job : (n number : ℕ) (above : List (List Change)) (name : List ℕ) (spec : Spec) (own : List Change) (rest : List Line)
    → AreBelow n number above (Job name spec own ∷ rest) → AreBelow n (number + 1) above rest
below_job n number above name spec own rest below =
    let jobs = below.jobs in
    let changes = below.changes in
    let counted = sum_by-cons change_lines_in (Job name spec own) rest in
    record {
      lines = All-tail (IsLineOver n) (Job name spec own) rest below.lines;
      jobs = omega (arith, jobs);
      changes = omega (arith, changes, counted);
      ends = below.ends;
    }

pub job_rounds : (n number : ℕ) (above : List (List Change)) (name : List ℕ) (spec : Spec) (own : List Change) (rest : List Line)
    → AreBelow n number above (Job name spec own ∷ rest) → MakesSomeRound spec
job_rounds n number above name spec own rest below = (All-head (IsLineOver n) (Job name spec own) rest below.lines).0

-- below one update more
pub below_update : (n number : ℕ) (above : List (List Change)) (batch : List Change) (rest : List Line)
    → AreBelow n number above (Update batch ∷ rest) → AreBelow n number (above ++ batch ∷ []) rest
below_update n number above batch rest below =
    let jobs = below.jobs in
    let changes = below.changes in
    let counted = sum_by-cons change_lines_in (Update batch) rest in
    let all = ap length (all-pushed above batch) in
    let joined = length-append (all_changes above) batch in
    let pushed = length_push above batch in
    record {
      lines = All-tail (IsLineOver n) (Update batch) rest below.lines;
      jobs = omega (arith, jobs);
      changes = omega (arith, changes, counted, all, joined, pushed);
      ends = subst (All (ChangesWithin n)) (sym (all-pushed above batch))
          (All-append (ChangesWithin n) (all_changes above) batch below.ends (All-head (IsLineOver n) (Update batch) rest below.lines));
    }

pub below_wait : (n number : ℕ) (above : List (List Change)) (visits : ℕ) (rest : List Line)
    → AreBelow n number above (Wait visits ∷ rest) → AreBelow n number above rest
below_wait n number above visits rest below =
    let jobs = below.jobs in
    let changes = below.changes in
    let counted = sum_by-cons change_lines_in (Wait visits) rest in
    record {
      lines = All-tail (IsLineOver n) (Wait visits) rest below.lines;
      jobs = omega (arith, jobs);
      changes = omega (arith, changes, counted);
      ends = below.ends;
    }

-- what a job sees is among the vertices
pub job_sees : (n number : ℕ) (above : List (List Change)) (name : List ℕ) (spec : Spec) (own : List Change) (rest : List Line) → AreBelow n number above (Job name spec own ∷ rest)
    → IsSnapshotOver n (snapshot_of (record { number = number; name = name; spec = spec; above = above; own = own }))
job_sees n number above name spec own rest below =
    let changes = below.changes in
    let counted = sum_by-cons change_lines_in (Job name spec own) rest in
    let joined = length-append (all_changes above) own in
    record {
      ends = All-append (ChangesWithin n) (all_changes above) own below.ends (All-head (IsLineOver n) (Job name spec own) rest below.lines).2;
      few = omega (arith, changes, counted, joined);
    }

-- what holds of each job line holds of each job
each_job : (P : StatedJob → Type 0) (n : ℕ)
    → ((number : ℕ) (above : List (List Change)) (name : List ℕ) (spec : Spec) (own : List Change) (rest : List Line) → AreBelow n number above (Job name spec own ∷ rest)
    → P (record { number = number; name = name; spec = spec; above = above; own = own }))
    → (number : ℕ) (above : List (List Change)) (entries : List Line) → AreBelow n number above entries → All P (jobs_below number above entries)
each_job P n line number above [] below = All-nil P
each_job P n line number above (Job name spec own ∷ rest) below =
    All-cons P (record { number = number; name = name; spec = spec; above = above; own = own }) (jobs_below (number + 1) above rest)
    (line number above name spec own rest below) (each_job P n line (number + 1) above rest (below_job n number above name spec own rest below))
each_job P n line number above (Update batch ∷ rest) below = each_job P n line number (above ++ batch ∷ []) rest (below_update n number above batch rest below)
each_job P n line number above (Wait visits ∷ rest) below = each_job P n line number above rest (below_wait n number above visits rest below)

pub see_vertices : (n number : ℕ) (above : List (List Change)) (entries : List Line) → AreBelow n number above entries
    → All (λ job. IsSnapshotOver n (snapshot_of job)) (jobs_below number above entries)
see_vertices n = each_job (λ job. IsSnapshotOver n (snapshot_of job)) n (job_sees n)

pub make_rounds : (n number : ℕ) (above : List (List Change)) (entries : List Line) → AreBelow n number above entries
    → All (λ job. MakesSomeRound job.spec) (jobs_below number above entries)
make_rounds n = each_job (λ job. MakesSomeRound job.spec) n (job_rounds n)
