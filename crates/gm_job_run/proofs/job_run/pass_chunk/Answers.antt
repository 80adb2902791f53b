use Rattle.std.proofs.Common.{◌≡◌, ◌+◌, ◌<◌, ◌≤◌, ℕ, List, length, refl, sym, ap, ◌∙◌, subst, arith}
use Rattle.std.specs.Prelude.{slice_set, false}
use Rattle.std.proofs.lemmas.Result.{err_from_is_err_and}
use Rattle.gm_base.specs.declared.copies.Key.{Key}
use Rattle.gm_active.specs.Bits.{is_in}
use Rattle.gm_label.specs.declared.chunk.Overlay.{Overlay}
use Rattle.gm_label.specs.Catalogues.{Catalogue}
use Rattle.gm_label.specs.Overlays.{key_at}
use Rattle.gm_source.specs.Fetches.{TellsGrid}
use Rattle.gm_grid.specs.GridBytes.{edges_in}
use Rattle.gm_base.specs.declared.edge.Edge.{Edge}
use Rattle.gm_kernel.specs.declared.phase.Phase.{Phase}
use Rattle.gm_kernel.specs.declared.phase.Phase.TheVariants.{Counting, Round}
use Rattle.gm_work.specs.JobStates.{JobState, JobContext, state_after_pass_in}
use Rattle.gm_work.specs.HeldJobs.{HeldJob, context_in}
use Rattle.gm_outside.specs.Causes.{counted_times}
use Rattle.gm_job_run.specs.declared.job_run.Stop.{Stop}
use Rattle.gm_job_run.specs.JobRuns.{OfChunk, view_over, pass_reads}
use Rattle.gm_versions.specs.Snapshots.{content_of, overlays_of}
use Rattle.gm_job_run.specs.SeenViews.{seen_in}
use Rattle.gm_job_run.proofs.Copies.{key_at-chunk}
use Rattle.gm_job_run.proofs.JobLemmas.{chunk_passed, stops_by, under_way-needed, under_way-few}
use Rattle.gm_job_run.proofs.Passing.{same_job, same_job-entry, carries-done}
use Rattle.gm_job_run.proofs.Stops.{within_chunks}
use Rattle.gm_job_run.proofs.job_run.pass_chunk.Goals as goal

-- the key of the chunk is of the chunk
at_chunk : (overlays : List Overlay) (chunk : ℕ) (key : Key) → key ≡ key_at overlays chunk → key.chunk ≡ chunk
at_chunk overlays chunk key is = ap (λ (k : Key). k.chunk) is ∙ key_at-chunk overlays chunk

stop_here : (a b : ℕ) (stop : Stop) → a ≡ b → OfChunk a stop → OfChunk b stop
stop_here a b stop same of = subst (λ (n : ℕ). OfChunk n stop) same of

few_here : (reads reads' : ℕ) (cat cat' : Catalogue) (c : ℕ) → cat' ≡ cat → reads' ≤ reads + pass_reads cat' c → reads' ≤ reads + pass_reads cat c
few_here reads reads' cat cat' c same few = subst (λ (known : Catalogue). reads' ≤ reads + pass_reads known c) same few

-- in either phase the chunk isn't owed any more
state_after_pass-owed : (p : Phase) (k : JobContext) (e : JobState) (chunk : ℕ) (edges : List Edge) → (state_after_pass_in p k e chunk edges).owed ≡ slice_set e.owed chunk false
state_after_pass-owed (Counting r) k e chunk edges = refl
state_after_pass-owed (Round r) k e chunk edges = refl

pub fetch_copy-requires-clause-chunk : goal.fetch_copy-requires-clause-chunk
fetch_copy-requires-clause-chunk g c =
    let here = at_chunk c.args.work.now.overlays c.args.chunk c.key-key.result c.key-key.ensures in
    subst (λ (cat : Catalogue). c.key-key.result.chunk < length cat.places) (sym c.catalogue.ensures) (omega (arith, here, c.requires.within))

pub fetch_copy-requires-clause-key : goal.fetch_copy-requires-clause-key
fetch_copy-requires-clause-key g c =
    let seen = seen_in c.args.view.now in
    let here = at_chunk c.args.work.now.overlays c.args.chunk c.key-key.result c.key-key.ensures in
    c.key-key.ensures
    ∙ ap (λ (os : List Overlay). key_at os c.args.chunk) (c.requires.sees.overlays ∙ ap (λ (cat : Catalogue). overlays_of cat seen) (sym c.catalogue.ensures))
    ∙ ap (key_at (overlays_of c.catalogue.result.now seen)) (sym here)

pub returns-in_err-copy-clause-carries : goal.returns-in_err-copy-clause-carries
returns-in_err-copy-clause-carries g c =
    let p = err_from_is_err_and c.from_residual.result c.from_residual.ensures.1 in
    let work = c.args.work.now in
    let seen = seen_in c.args.view.now in
    let name = c.args.view.now.name.now in
    let here = at_chunk work.overlays c.args.chunk c.key-key.result c.key-key.ensures in
    rw p.1 (rw p.2 (record {
      same = same_job work;
      chunk = within_chunks (length work.catalogue.places) c.args.chunk _ c.requires.within (stop_here _ _ _ here c.in_err-copy.ensures.stop);
      stops = λ bytes first told way.
          let told_there = subst (λ (cat : Catalogue). TellsGrid (g.D.Depot.state c.args.depot.now).files name cat bytes) (sym c.catalogue.ensures) told in
          let d = view_over work seen bytes in
          let reads_of = pass_reads work.catalogue in
          let needed = under_way-needed d reads_of first work.state c.args.chunk _ c.determined.ensures.owed c.requires.owed c.owed_chunks.ensures.needed way in
          let read_here = subst (λ (n : ℕ). (g.D.Depot.state c.fetch_copy.new.depot).reads ≤ (g.D.Depot.state c.args.depot.now).reads + pass_reads c.catalogue.result.now n) here c.fetch_copy.ensures.frame.reads in
          let few = under_way-few d reads_of first work.state c.args.chunk _ _ c.determined.ensures.owed c.weight_is_left.ensures.passes c.requires.owed way
          (few_here _ _ work.catalogue _ c.args.chunk c.catalogue.ensures read_here) in
          (stops_by d (g.D.Depot.state c.args.depot.now).calm c.args.chunk _ needed (stop_here _ _ _ here c.in_err-copy.ensures.stop) (c.in_err-copy.ensures.told_stop bytes told_there), few);
      faults = c.in_err-copy.ensures.faults;
      frame = (_, c.fetch_copy.ensures.frame);
    }))

pub pass-requires-clause-owed : goal.pass-requires-clause-owed
pass-requires-clause-owed g c =
    let owed = c.args.work.now.state.owed in
    ap (λ (k : Key). is_in owed k.chunk) c.in_ok-copy.ensures.key
    ∙ ap (is_in owed) (at_chunk c.args.work.now.overlays c.args.chunk c.key-key.result c.key-key.ensures) ∙ c.requires.owed

pub returns-clause-less : goal.returns-clause-less
returns-clause-less g c =
    let work = c.args.work.now in
    let owed = work.state.owed in
    ap (λ (h : HeldJob). h.state.owed) c.pass.ensures
    ∙ state_after_pass-owed work.state.phase (context_in work) work.state c.in_ok-copy.copy.key.chunk c.in_ok-copy.copy.edges
    ∙ ap (λ (k : Key). slice_set owed k.chunk false) c.in_ok-copy.ensures.key
    ∙ ap (λ (n : ℕ). slice_set owed n false) (at_chunk c.args.work.now.overlays c.args.chunk c.key-key.result c.key-key.ensures)

pub returns-clause-under_way : goal.returns-clause-under_way
returns-clause-under_way g c bytes first told way =
    let work = c.args.work.now in
    let seen = seen_in c.args.view.now in
    let here = at_chunk work.overlays c.args.chunk c.key-key.result c.key-key.ensures in
    let told_there = subst (λ (cat : Catalogue). TellsGrid (g.D.Depot.state c.args.depot.now).files c.args.view.now.name.now cat bytes) (sym c.catalogue.ensures) told in
    let key = c.in_ok-copy.ensures.key in
    chunk_passed work c.pass.new.self seen bytes first c.args.chunk _ _ _ c.in_ok-copy.copy.key c.in_ok-copy.copy.edges c.passes.ensures c.determined.ensures.owed c.weight_is_left.ensures.passes
    c.catalogue.ensures c.requires.owed (key ∙ c.key-key.ensures) (ap (λ (k : Key). k.chunk) key ∙ here) c.pass.ensures
    (c.in_ok-copy.ensures.told bytes told_there ∙ ap (content_of c.catalogue.result.now (edges_in bytes) seen) here)
    (subst (λ (n : ℕ). (g.D.Depot.state c.fetch_copy.new.depot).reads ≡ counted_times (pass_reads c.catalogue.result.now n) (g.D.Depot.state c.args.depot.now).reads) here c.in_ok-copy.ensures.read) way

pub returns-clause-carries : goal.returns-clause-carries
returns-clause-carries g c =
    carries-done _ _ c.args.view.now.name.now (seen_in c.args.view.now) _ _ _ (same_job-entry _ _ _ c.pass.ensures) c.in_ok-copy.ensures.faults (_, c.fetch_copy.ensures.frame)

pub pass-requires-clause-key : goal.pass-requires-clause-key
pass-requires-clause-key g c =
    let overlays = c.args.work.now.overlays in
    let is = c.in_ok-copy.ensures.key ∙ c.key-key.ensures in
    is ∙ ap (key_at overlays) (sym (at_chunk overlays c.args.chunk c.in_ok-copy.copy.key is))
