-- A pass, by what it writes into a job's lists. The lists and edges of the calls are those of the job and of the copy.
use Rattle.std.proofs.Common.{◌≡◌, ℕ, ◌+◌, min, Bool, false, List, map, length, get_or, ap, sym, ◌∙◌}
use Rattle.std.specs.Prelude.{slice_set}
use Rattle.std.specs.List.{range_with_len}
use Rattle.std.proofs.lemmas.List.FromFn.{fill_by_all}
use Rattle.gm_rank.specs.declared.passes.TheConstants.{MAX_DEGREE}
use Rattle.gm_base.specs.declared.edge.Edge.{Edge}
use Rattle.gm_base.specs.declared.job.Spec.{Spec}
use Rattle.gm_base.specs.Graph.{out_degree}
use Rattle.gm_kernel.specs.Kernels.{kernel_of}
use Rattle.gm_kernel.specs.Runs.{joined_at}
use Rattle.gm_kernel.specs.declared.phase.Phase.{Phase}
use Rattle.gm_kernel.specs.declared.phase.Phase.TheVariants.{Counting, Round}
use Rattle.gm_work.specs.JobStates.{JobState, state_after_pass, state_after_pass_in}
use Rattle.gm_work.specs.HeldJobs.{HeldJob, context_in}

abbrev with_state : HeldJob → JobState → HeldJob
with_state h e = record h { state = e }

-- out-degrees of n vertices, and the edges counted into them
abbrev degrees_counted : ℕ → List ℕ → List Edge → List ℕ
degrees_counted n degrees edges = map (λ u. min (get_or degrees u 0 + out_degree edges u) MAX_DEGREE) (range_with_len 0 n)

pub state_after_pass-counting : (h : HeldJob) (chunk : ℕ) (edges passed : List Edge) (r : ℕ) (before degrees : List ℕ) (owed : List Bool)
    → h.state.phase ≡ Counting r
    → length before ≡ h.catalogue.dimensions.n
    → before ≡ h.state.degrees
    → passed ≡ edges
    → degrees ≡ map (λ u. min (get_or before u 0 + out_degree passed u) MAX_DEGREE) (range_with_len 0 (length before))
    → owed ≡ slice_set h.state.owed chunk false
    → with_state h (record h.state { degrees = degrees; owed = owed }) ≡ with_state h (state_after_pass (context_in h) h.state chunk edges)
state_after_pass-counting h chunk edges passed r before degrees owed phase long same_degrees same_edges is without =
    let n = h.catalogue.dimensions.n in
    let written : degrees ≡ degrees_counted n h.state.degrees edges =
    is ∙ ap (λ (m : ℕ). degrees_counted m before passed) long ∙ ap (λ (ds : List ℕ). degrees_counted n ds passed) same_degrees ∙ ap (degrees_counted n h.state.degrees) same_edges in
    ap (λ ds. with_state h (record h.state { degrees = ds; owed = owed })) written
    ∙ ap (λ o. with_state h (record h.state { degrees = degrees_counted n h.state.degrees edges; owed = o })) without
    ∙ ap (λ (p : Phase). with_state h (state_after_pass_in p (context_in h) h.state chunk edges)) (sym phase)

-- sums that are joined at each vertex are the list of them, where the job is known by another name
pub joined-each : (spec other : Spec) (degree_of : ℕ → ℕ) (values : List ℕ) (edges : List Edge) (n : ℕ) (sums after : List ℕ) → spec ≡ other → length after ≡ n
    → ((v : ℕ) → get_or after v 0 ≡ joined_at (kernel_of other) degree_of values edges v (get_or sums v 0))
    → after ≡ map (λ v. joined_at (kernel_of spec) degree_of values edges v (get_or sums v 0)) (range_with_len 0 n)
joined-each spec other degree_of values edges n sums after same long each =
    fill_by_all (λ v. joined_at (kernel_of spec) degree_of values edges v (get_or sums v 0)) after n 0 long
    (λ v within. each v ∙ ap (λ (s : Spec). joined_at (kernel_of s) degree_of values edges v (get_or sums v 0)) (sym same))

-- sums of n vertices, and the edges' gifts joined into them
abbrev joined : HeldJob → ℕ → List ℕ → List ℕ → List ℕ → List Edge → List ℕ
joined h n degrees values sums edges = map (λ v. joined_at (kernel_of h.spec) (λ u. get_or degrees u 0) values edges v (get_or sums v 0)) (range_with_len 0 n)

pub state_after_pass-round : (h : HeldJob) (chunk : ℕ) (edges passed : List Edge) (r : ℕ) (degrees values before sums : List ℕ) (owed : List Bool)
    → h.state.phase ≡ Round r
    → length values ≡ h.catalogue.dimensions.n
    → degrees ≡ h.state.degrees
    → values ≡ h.state.values
    → before ≡ h.state.sums
    → passed ≡ edges
    → sums ≡ map (λ v. joined_at (kernel_of h.spec) (λ u. get_or degrees u 0) values passed v (get_or before v 0)) (range_with_len 0 (length values))
    → owed ≡ slice_set h.state.owed chunk false
    → with_state h (record h.state { sums = sums; owed = owed }) ≡ with_state h (state_after_pass (context_in h) h.state chunk edges)
state_after_pass-round h chunk edges passed r degrees values before sums owed phase long same_degrees same_values same_sums same_edges is without =
    let n = h.catalogue.dimensions.n in
    let e = h.state in
    let written : sums ≡ joined h n e.degrees e.values e.sums edges =
    is ∙ ap (λ (m : ℕ). joined h m degrees values before passed) long
    ∙ ap (λ (ds : List ℕ). joined h n ds values before passed) same_degrees
    ∙ ap (λ (xs : List ℕ). joined h n e.degrees xs before passed) same_values
    ∙ ap (λ (ss : List ℕ). joined h n e.degrees e.values ss passed) same_sums
    ∙ ap (joined h n e.degrees e.values e.sums) same_edges in
    ap (λ ss. with_state h (record e { sums = ss; owed = owed })) written
    ∙ ap (λ o. with_state h (record e { sums = joined h n e.degrees e.values e.sums edges; owed = o })) without
    ∙ ap (λ (p : Phase). with_state h (state_after_pass_in p (context_in h) e chunk edges)) (sym phase)
