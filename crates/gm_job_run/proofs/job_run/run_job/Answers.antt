use Rattle.std.specs.Prelude.{◌+◌, ◌≤◌}
use Rattle.std.specs.Arc.{arc_value}
use Rattle.std.proofs.Common.{◌≡◌, inl, sym, ap, ◌∙◌, subst}
use Rattle.gm_base.specs.declared.job.Outcome.{Outcome}
use Rattle.gm_grid.specs.GridBytes.{edges_in}
use Rattle.gm_label.specs.Catalogues.{Catalogue}
use Rattle.gm_work.specs.HeldJobs.{HeldJob}
use Rattle.gm_work.specs.Weights.{run_weight}
use Rattle.gm_job_run.specs.JobRuns.{IsEnd, StopsBy, pass_reads, outcome_of_stop, outcome_of_end, view_over}
use Rattle.gm_versions.specs.Snapshots.{overlays_of}
use Rattle.gm_job_run.specs.SeenViews.{Sees, seen_in}
use Rattle.gm_job_run.proofs.Starting.{where-admitted_job, ok_weaker}
use Rattle.gm_job_run.proofs.Ending.{end_few, stop_ends}
use Rattle.gm_job_run.proofs.job_run.run_job.Goals as goal

pub returns-in-Ok-clause-ends : goal.returns-in-Ok-clause-ends
returns-in-Ok-clause-ends g c bytes told =
    rw c.outcome_of_end.ensures (inl (where-admitted_job (g.D.Depot.state c.args.depot.now) c.args.view.now.name.now c.in_ok-work.work c.job.result c.args.spec (arc_value c.args.cat) _ (seen_in c.args.view.now) bytes
    (λ d reads_of first. IsEnd d reads_of first (outcome_of_end c.make_phases.new.work.state.values c.in-Ok.end) (g.D.Depot.state c.make_phases.new.depot).reads)
    c.in_ok-work.ensures (c.in_ok-overlays.ensures.value ∙ ap (λ (cat : Catalogue). overlays_of cat (seen_in c.args.view.now)) c.deref.ensures) c.requires.some c.begins.ensures c.weight_is_left.ensures.begins told
    (λ bytes first told way. c.in-Ok.ensures.ends bytes first told way)))

pub returns-in-Ok-clause-few : goal.returns-in-Ok-clause-few
returns-in-Ok-clause-few g c bytes told =
    where-admitted_job (g.D.Depot.state c.args.depot.now) c.args.view.now.name.now c.in_ok-work.work c.job.result c.args.spec (arc_value c.args.cat) _ (seen_in c.args.view.now) bytes
    (λ d reads_of first. (g.D.Depot.state c.make_phases.new.depot).reads ≤ first + run_weight d reads_of)
    c.in_ok-work.ensures (c.in_ok-overlays.ensures.value ∙ ap (λ (cat : Catalogue). overlays_of cat (seen_in c.args.view.now)) c.deref.ensures) c.requires.some c.begins.ensures c.weight_is_left.ensures.begins told
    (λ bytes first told way. end_few (view_over c.in_ok-work.work (seen_in c.args.view.now) bytes) (pass_reads c.in_ok-work.work.catalogue) first _ _ (c.in-Ok.ensures.ends bytes first told way))

pub returns-in-Err-clause-ends : goal.returns-in-Err-clause-ends
returns-in-Err-clause-ends g c bytes told =
    let spec = c.args.spec in
    let cat = arc_value c.args.cat in
    let calm = (g.D.Depot.state c.args.depot.now).calm in
    let same : c.catalogue.result.now ≡ cat = c.catalogue.ensures ∙ c.make_phases.ensures.carries.same.catalogue ∙ ap (λ (h : HeldJob). h.catalogue) c.in_ok-work.ensures in
    let stops = where-admitted_job (g.D.Depot.state c.args.depot.now) c.args.view.now.name.now c.in_ok-work.work c.job.result spec cat _ (seen_in c.args.view.now) bytes (λ d reads_of first. StopsBy d calm c.in-Err.stop)
    c.in_ok-work.ensures (c.in_ok-overlays.ensures.value ∙ ap (λ (cat : Catalogue). overlays_of cat (seen_in c.args.view.now)) c.deref.ensures) c.requires.some c.begins.ensures c.weight_is_left.ensures.begins told (λ bytes first told way. (c.in-Err.ensures.carries.stops bytes first told way).0) in
    ok_weaker _ _ c.outcome_of_stop.result
    (λ (outcome : Outcome) ends. stop_ends spec cat (edges_in bytes) (seen_in c.args.view.now) (pass_reads cat) (g.D.Depot.state c.args.depot.now) (g.D.Depot.state c.make_phases.new.depot) c.in-Err.stop outcome
    (ends ∙ ap (λ (known : Catalogue). outcome_of_stop known c.in-Err.stop) same) stops)
    c.outcome_of_stop.ensures.ok

pub returns-in-Err-clause-few : goal.returns-in-Err-clause-few
returns-in-Err-clause-few g c bytes told =
    where-admitted_job (g.D.Depot.state c.args.depot.now) c.args.view.now.name.now c.in_ok-work.work c.job.result c.args.spec (arc_value c.args.cat) _ (seen_in c.args.view.now) bytes
    (λ d reads_of first. (g.D.Depot.state c.make_phases.new.depot).reads ≤ first + run_weight d reads_of)
    c.in_ok-work.ensures (c.in_ok-overlays.ensures.value ∙ ap (λ (cat : Catalogue). overlays_of cat (seen_in c.args.view.now)) c.deref.ensures) c.requires.some c.begins.ensures c.weight_is_left.ensures.begins told
    (λ bytes first told way. (c.in-Err.ensures.carries.stops bytes first told way).1)

pub make_phases-requires-clause-sees : goal.make_phases-requires-clause-sees
make_phases-requires-clause-sees g c =
    let seen = seen_in c.args.view.now in
    subst (λ (h : HeldJob). Sees h seen) (sym c.in_ok-work.ensures) (record {
      overlays = c.in_ok-overlays.ensures.value ∙ ap (λ (cat : Catalogue). overlays_of cat seen) c.deref.ensures;
      over = c.requires.over;
    })
