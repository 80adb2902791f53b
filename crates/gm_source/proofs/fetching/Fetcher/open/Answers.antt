use Rattle.std.proofs.Common.{ℕ, ◌+◌, ◌≤◌, List, length, Option, sym, ap, subst, ◌∙◌, arith}
use Rattle.std.specs.Prelude.{sum_by}
use Rattle.std.proofs.lemmas.Result.{err_from_is_err_and}
use Rattle.gm_base.specs.declared.limits.TheConstants.{MAX_CHUNKS}
use Rattle.gm_outside.specs.Causes.{counted_times}
use Rattle.gm_outside.specs.Files.{Files}
use Rattle.gm_grid.specs.GridBytes.{blocks_in}
use Rattle.gm_label.specs.declared.chunk.Place.{Place}
use Rattle.gm_label.specs.Catalogues.{Catalogue}
use Rattle.gm_source.specs.Openings.{OpensBy, IsTold, HasLabelled, IsCatalogueOf, chunk_reads, opening_reads}
use Rattle.gm_source.specs.OpeningsRules.{opens_by-then, opens_by-more, opens_by-served, opens_by-passed}
use Rattle.gm_source.proofs.Told.{told-weaker}
use Rattle.gm_source.proofs.LabelledChunks.{HasSizes, labelled-taken, labelled-small, labelled-catalogue, few_reads}
use Rattle.gm_outside.specs.CausesRules.{counted_times-add}
use Rattle.gm_source.specs.Openings.{LabelsJust, ReadsUpTo, edge_reads}
use Rattle.gm_grid.specs.GridBytes.{shape_in, edges_in}
use Rattle.gm_source.proofs.ExactReads.{just_few, opened_just, plan_few, planned_few, planned_just, reads_file, told_few, told_just}
use Rattle.gm_source.proofs.fetching.Fetcher.open.Goals as goal

pub returns-in_err-label_plan-clause-opens : goal.returns-in_err-label_plan-clause-opens
returns-in_err-label_plan-clause-opens g c =
    let p = err_from_is_err_and c.from_residual-in_err-label_plan.result c.from_residual-in_err-label_plan.ensures.1 in
    let size = c.args.chunk_size in
    let name = c.args.name.now in
    let cat = c.in_ok-cat.cat in
    let first = subst (λ (r : _). OpensBy 1 2 size name (g.D.Depot.state c.args.depot.now) (g.D.Depot.state c.read_plan.new.depot) r) c.in_ok-cat.was c.read_plan.ensures.opens in
    let told = subst (λ (f : Option Files). IsTold f name (HasLabelled size 0 cat)) (sym first.frame.files) c.in_ok-cat.ensures.planned in
    rw p.1 (rw p.2 (opens_by-more _ _ (2 + sum_by chunk_reads cat.places) (2 + MAX_CHUNKS) size name _ (few_reads size cat c.in_ok-cat.ensures.chunks)
    (opens_by-then _ _ _ 2 (sum_by chunk_reads cat.places) size name cat _ first
    (opens_by-passed _ _ (sum_by chunk_reads cat.places) (sum_by chunk_reads cat.places) size name c.label_plan.result _ (omega arith) c.in_err-label_plan.was
    (c.label_plan.ensures.opens told)))))

pub returns-clause-catalogue : goal.returns-clause-catalogue
returns-clause-catalogue g c =
    let size = c.args.chunk_size in
    let name = c.args.name.now in
    let cat = c.in_ok-cat.cat in
    let now = c.label_plan.new.cat in
    let kept = c.read_plan.ensures.opens.frame.files in
    let told = subst (λ (f : Option Files). IsTold f name (HasLabelled size 0 cat)) (sym kept) c.in_ok-cat.ensures.planned in
    subst (λ (f : Option Files). IsTold f name (λ bytes. IsCatalogueOf bytes size now)) kept
    (told-weaker _ name _ _
    (λ bytes labelled.
    let sizes : HasSizes bytes = c.grid_by_parts.ensures.sizes bytes labelled.index.head.taken labelled.index.taken in
    let past : length _ ≤ length cat.places = omega (arith, ap (λ (known : Catalogue). length known.places) labelled.labels, ap (λ (ps : List Place). length ps) c.label_plan.ensures.cut.1) in
    let grid = c.refused_where_no_grid.ensures.accepted size bytes (labelled-small size (length cat.places) bytes now sizes past labelled)
    (labelled-taken size (length cat.places) bytes now past labelled) in
    labelled-catalogue size (length cat.places) bytes now past labelled grid
    (c.grid_reads_back.ensures.counts bytes _ _ (blocks_in bytes) grid) (c.grid_reads_back.ensures.edges bytes _ _ (blocks_in bytes) grid))
    (c.in_ok-label_plan.ensures.labelled told))

pub returns-clause-opens : goal.returns-clause-opens
returns-clause-opens g c =
    let size = c.args.chunk_size in
    let name = c.args.name.now in
    let cat = c.in_ok-cat.cat in
    let first = subst (λ (r : _). OpensBy 1 2 size name (g.D.Depot.state c.args.depot.now) (g.D.Depot.state c.read_plan.new.depot) r) c.in_ok-cat.was c.read_plan.ensures.opens in
    let told = subst (λ (f : Option Files). IsTold f name (HasLabelled size 0 cat)) (sym first.frame.files) c.in_ok-cat.ensures.planned in
    let second = subst (λ (r : _). OpensBy 0 (sum_by chunk_reads cat.places) size name (g.D.Depot.state c.read_plan.new.depot) (g.D.Depot.state c.label_plan.new.depot) r) c.in_ok-label_plan.was
    (c.label_plan.ensures.opens told) in
    let all = opens_by-more _ _ (2 + sum_by chunk_reads cat.places) (2 + MAX_CHUNKS) size name _ (few_reads size cat c.in_ok-cat.ensures.chunks)
    (opens_by-then _ _ _ 2 (sum_by chunk_reads cat.places) size name cat _ first second) in
    opens_by-served _ _ (2 + MAX_CHUNKS) size name _ all.frame (all.fault.kept (λ is. cc))

pub returns-clause-read : goal.returns-clause-read
returns-clause-read g c =
    let cat = c.in_ok-cat.cat in
    c.in_ok-label_plan.ensures.read
    ∙ ap (counted_times (sum_by chunk_reads cat.places)) c.in_ok-cat.ensures.read
    ∙ sym (counted_times-add 2 (sum_by chunk_reads cat.places) (g.D.Depot.state c.args.depot.now).reads)
    ∙ ap (λ (ps : List Place). counted_times (opening_reads ps) (g.D.Depot.state c.args.depot.now).reads) (sym c.label_plan.ensures.cut.1)

pub returns-in_err-cat-clause-file : goal.returns-in_err-cat-clause-file
returns-in_err-cat-clause-file g c =
    let p = err_from_is_err_and c.from_residual.result c.from_residual.ensures.1 in
    let size = c.args.chunk_size in
    let name = c.args.name.now in
    let old = g.D.Depot.state c.args.depot.now in
    let new = g.D.Depot.state c.read_plan.new.depot in
    rw p.1 (rw p.2 (reads_file size name old new _ (plan_few size old.files name old new c.read_plan.ensures.few_reads) c.in_err-cat.ensures.refused))

pub returns-in_err-label_plan-clause-file : goal.returns-in_err-label_plan-clause-file
returns-in_err-label_plan-clause-file g c =
    let p = err_from_is_err_and c.from_residual-in_err-label_plan.result c.from_residual-in_err-label_plan.ensures.1 in
    let size = c.args.chunk_size in
    let name = c.args.name.now in
    let cat = c.in_ok-cat.cat in
    let old = g.D.Depot.state c.args.depot.now in
    let mid = g.D.Depot.state c.read_plan.new.depot in
    let new = g.D.Depot.state c.label_plan.new.depot in
    let kept = c.read_plan.ensures.opens.frame.files in
    let told = subst (λ (f : Option Files). IsTold f name (HasLabelled size 0 cat)) (sym kept) c.in_ok-cat.ensures.planned in
    let few = subst (λ (f : Option Files). IsTold f name (λ bytes. ReadsUpTo (edge_reads (shape_in bytes) (edges_in bytes) cat.places) mid new)) kept (c.label_plan.ensures.few_reads told) in
    rw p.1 (rw p.2 (reads_file size name old new _
    (told_few size old.files name old new (planned_few size old mid new name cat c.in_ok-cat.ensures.read c.in_ok-cat.ensures.planned few))
    (λ verdict. told_just size old.files name old new (planned_just size old mid new name cat c.in_ok-cat.ensures.read c.in_ok-cat.ensures.planned
    (subst (λ (f : Option Files). IsTold f name (LabelsJust cat.places mid new)) kept (c.in_err-label_plan.ensures.refused told verdict))))))

pub returns-clause-file : goal.returns-clause-file
returns-clause-file g c =
    let size = c.args.chunk_size in
    let name = c.args.name.now in
    let cat = c.in_ok-cat.cat in
    let now = c.label_plan.new.cat in
    let old = g.D.Depot.state c.args.depot.now in
    let new = g.D.Depot.state c.label_plan.new.depot in
    let kept = c.read_plan.ensures.opens.frame.files in
    let told = subst (λ (f : Option Files). IsTold f name (HasLabelled size 0 cat)) (sym kept) c.in_ok-cat.ensures.planned in
    let past : length now.places ≤ length cat.places = omega (arith, ap (λ (ps : List Place). length ps) c.label_plan.ensures.cut.1) in
    let just = told_just size old.files name old new
    (told-weaker old.files name _ _
    (λ bytes labelled. returns-clause-read g c ∙ ap (λ (n : ℕ). counted_times n old.reads) (sym (opened_just size (length cat.places) bytes now past labelled)))
    (subst (λ (f : Option Files). IsTold f name (HasLabelled size (length cat.places) now)) kept (c.in_ok-label_plan.ensures.labelled told))) in
    reads_file size name old new _ (just_few size old.files name old new just) (λ judged. just)
