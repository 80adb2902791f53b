-- The jobs of a script by their numbers: what each of them sees, and which contents its keys stand for.
use Rattle.std.specs.Prelude.{◌≡◌, ℕ, zero, suc, ◌+◌, ◌<◌, List, [], ◌∷◌, ◌++◌, length, take, drop, flat_map, slice_index_or, refl}
use Rattle.std.proofs.Common.{sym, ap, ◌∙◌, subst, append_assoc, arith}
use Rattle.std.proofs.Math.Seq.{drop-append_seam, take-append_seam}
use Rattle.std.proofs.lemmas.List.Elements.{All-get_or}
use Rattle.gm_base.specs.declared.edge.Edge.{Edge}
use Rattle.gm_base.specs.Graph.{IsSameGraph}
use Rattle.gm_label.specs.Catalogues.{Catalogue, chunk_numbers}
use Rattle.gm_changes.specs.declared.change.Change.{Change}
use Rattle.gm_versions.specs.Snapshots.{IsSnapshotOver, content_of, edges_of}
use Rattle.gm_versions.specs.Keys.{IsTakenFrom}
use Rattle.gm_versions.specs.SnapshotsRules.{content-looked_up, contents-keyed, contents-view}
use Rattle.gm_jobs.specs.declared.script.Line.{Line}
use Rattle.gm_jobs.specs.declared.script.Line.TheVariants.{Job, Update, Wait}
use Rattle.gm_jobs.specs.StatedJobs.{StatedJob, jobs_below, jobs_of, updates_of}
use Rattle.gm_jobs.specs.JobBounds.{MakesSomeRound}
use Rattle.gm_scripts.specs.ScriptJobs.{IsScriptOverGrid, no_job, job_at, snapshot_of, snapshot_at, job_key, content_in_script}
use Rattle.gm_scripts.specs.BelowRules.{all_below, see_vertices, make_rounds}

-- ---- numbers

numbered_below : (number : ℕ) (above : List (List Change)) (entries : List Line) (i : ℕ) → i < length (jobs_below number above entries)
    → (slice_index_or (jobs_below number above entries) i no_job).number ≡ number + i
numbered_below number above [] i within = absurd (omega (arith, within))
numbered_below number above (Job name spec own ∷ rest) zero within = omega arith
numbered_below number above (Job name spec own ∷ rest) (suc i) within =
    let later = numbered_below (number + 1) above rest i (omega (arith, within)) in
    omega (arith, later)
numbered_below number above (Update batch ∷ rest) i within = numbered_below number (above ++ batch ∷ []) rest i within
numbered_below number above (Wait visits ∷ rest) i within = numbered_below number above rest i within

pub numbered : (entries : List Line) (n : ℕ) → n < length (jobs_of entries) → (job_at entries n).number ≡ n
numbered entries n within = let here = numbered_below 0 [] entries n within in omega (arith, here)

-- ---- updates

-- all updates of the script are those above the job's line, and others
parts_below : (all : List (List Change)) (number : ℕ) (above : List (List Change)) (entries : List Line) (i : ℕ) → above ++ updates_of entries ≡ all
    → let job = slice_index_or (jobs_below number above entries) i no_job in all ≡ job.above ++ drop (length job.above) all
parts_below all number above [] i is = refl
parts_below all number above (Job name spec own ∷ rest) zero is =
    subst (λ (us : List (List Change)). us ≡ above ++ drop (length above) us) is (ap (λ (us : List (List Change)). above ++ us) (sym (drop-append_seam above (updates_of rest))))
parts_below all number above (Job name spec own ∷ rest) (suc i) is = parts_below all (number + 1) above rest i is
parts_below all number above (Update batch ∷ rest) i is = parts_below all number (above ++ batch ∷ []) rest i (append_assoc above (batch ∷ []) (updates_of rest) ∙ is)
parts_below all number above (Wait visits ∷ rest) i is = parts_below all number above rest i is

pub updates_in_parts : (entries : List Line) (n : ℕ) → updates_of entries ≡ (job_at entries n).above ++ drop (length (job_at entries n).above) (updates_of entries)
updates_in_parts entries n = parts_below (updates_of entries) 0 [] entries n refl

-- of them a job sees those above its line
pub taken : (entries : List Line) (n : ℕ) → n < length (jobs_of entries) → IsTakenFrom (updates_of entries) (snapshot_at entries) (snapshot_at entries n)
taken entries n within =
    let above = (job_at entries n).above in
    record {
      numbered = ap (snapshot_at entries) (numbered entries n within);
      above = ap (take (length above)) (updates_in_parts entries n) ∙ take-append_seam above (drop (length above) (updates_of entries));
    }

-- ---- what a script over a grid has of each job

pub sees_vertices : (cat : Catalogue) (edges : List Edge) (entries : List Line) (n : ℕ) → IsScriptOverGrid cat edges entries → n < length (jobs_of entries)
    → IsSnapshotOver cat.dimensions.n (snapshot_at entries n)
sees_vertices cat edges entries n over within =
    All-get_or (λ (j : StatedJob). IsSnapshotOver cat.dimensions.n (snapshot_of j)) (jobs_of entries) n no_job within
    (see_vertices cat.dimensions.n 0 [] entries (all_below cat.dimensions.n entries over.script))

pub makes_round : (cat : Catalogue) (edges : List Edge) (entries : List Line) (n : ℕ) → IsScriptOverGrid cat edges entries → n < length (jobs_of entries)
    → MakesSomeRound (job_at entries n).spec
makes_round cat edges entries n over within =
    All-get_or (λ (j : StatedJob). MakesSomeRound j.spec) (jobs_of entries) n no_job within
    (make_rounds cat.dimensions.n 0 [] entries (all_below cat.dimensions.n entries over.script))

-- ---- contents

-- what a job sees of a chunk is the content of its key
pub content : (cat : Catalogue) (edges : List Edge) (entries : List Line) (n c : ℕ) → n < length (jobs_of entries)
    → content_in_script cat edges entries (job_key cat entries n c) ≡ content_of cat edges (snapshot_at entries n) c
content cat edges entries n c within =
    content-looked_up cat edges (updates_of entries) (snapshot_at entries) (snapshot_at entries n) c (taken entries n within)

pub joined : (cat : Catalogue) (edges : List Edge) (entries : List Line) (n : ℕ) → IsScriptOverGrid cat edges entries → n < length (jobs_of entries)
    → IsSameGraph (flat_map (λ c. content_in_script cat edges entries (job_key cat entries n c)) (chunk_numbers cat)) (edges_of edges (snapshot_at entries n))
joined cat edges entries n over within =
    let s = snapshot_at entries n in
    contents-keyed (job_key cat entries n) cat edges (updates_of entries) (snapshot_at entries) s (λ c. content cat edges entries n c within)
    (contents-view cat edges s over.catalogue over.dimensions (sees_vertices cat edges entries n over within).ends)

-- jobs that have one key of a chunk see the same edges of it
pub shared : (cat : Catalogue) (edges : List Edge) (entries : List Line) (n m c : ℕ) → n < length (jobs_of entries) → m < length (jobs_of entries)
    → job_key cat entries n c ≡ job_key cat entries m c → content_of cat edges (snapshot_at entries n) c ≡ content_of cat edges (snapshot_at entries m) c
shared cat edges entries n m c one other same =
    sym (content cat edges entries n c one) ∙ ap (content_in_script cat edges entries) same ∙ content cat edges entries m c other
