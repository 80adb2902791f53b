use Rattle.std.proofs.Common.{◌≡◌, ◌+◌, ℕ, List, length, Option, Some, Result, sym, ap, subst, ◌∙◌, arith}
use Rattle.std.specs.Prelude.{Ok}
use Rattle.std.proofs.lemmas.Result.{err_from_is_err_and}
use Rattle.gm_outside.specs.Causes.{counted_times}
use Rattle.gm_outside.specs.States.{DepotState}
use Rattle.gm_outside.specs.Files.{Files}
use Rattle.gm_outside.specs.Frames.{OnlyReads}
use Rattle.gm_grid.specs.GridRefusals.{grid_refusal, refusal_by_chunks}
use Rattle.gm_grid.specs.GridRefusalsRules.{refused_by_chunks}
use Rattle.gm_source.specs.Openings.{OpensBy, IsTold, HasHead, HasIndex, HasLabelled}
use Rattle.gm_source.specs.declared.errors.OpenError.{OpenError}
use Rattle.gm_source.specs.OpeningsRules.{opens_by-then, opens_by-served, opens_by-chunks, opens_by-passed}
use Rattle.gm_source.proofs.Told.{told-weaker}
use Rattle.gm_source.proofs.Heads.{few_chunks, refused_chunks}
use Rattle.gm_source.proofs.LabelledChunks.{labelled-none, planned-chunks}
use Rattle.gm_source.specs.Openings.{ReadsJust, file_reads}
use Rattle.gm_source.proofs.RefusalReads.{head-few, index-few, unread-few}
use Rattle.gm_source.proofs.ExactReads.{file_reads-chunks, missing_just, plan_verdict, told_just, two_just}
use Rattle.gm_source.proofs.opening.read_plan.Goals as goal

-- a call after one that was served
next_call : {X Y : Type 0} {asks more : ℕ} (old mid new : DepotState) (first second size : ℕ) (name : List ℕ) (x : X) (before : Result X OpenError) (after : Result Y OpenError)
    → before ≡ Ok x → OpensBy asks first size name old mid before → OpensBy more second size name mid new after
    → OpensBy (asks + more) (first + second) size name old new after
next_call {X = X} {asks = asks} old mid new first second size name x before after is a b =
    opens_by-then old mid new first second size name x after (subst (λ (r : Result X OpenError). OpensBy asks first size name old mid r) is a) b

served_call : {X : Type 0} {asked : ℕ} (old new : DepotState) (most size : ℕ) (name : List ℕ) (x : X) (result : Result X OpenError) → result ≡ Ok x
    → OpensBy asked most size name old new result → OnlyReads asked most old new × (new.faults ≡ old.faults)
served_call {X = X} {asked = asked} old new most size name x result is a =
    let served = subst (λ (r : Result X OpenError). OpensBy asked most size name old new r) is a in
    (served.frame, served.fault.kept (λ failed. absurd cc))

-- the calls before the plan: the size was told, and head and index were read
three_calls : {X Y Z : Type 0} (old one two new : DepotState) (size : ℕ) (name : List ℕ) (x : X) (y : Y) (first : Result X OpenError)
    (second : Result Y OpenError) (third : Result Z OpenError) → first ≡ Ok x → second ≡ Ok y → OpensBy 1 0 size name old one first
    → OpensBy 0 1 size name one two second → OpensBy 0 1 size name two new third → OpensBy 1 2 size name old new third
three_calls old one two new size name x y first second third is_x is_y a b c =
    next_call old two new 1 1 size name y second third is_y (next_call old one two 0 1 size name x first second is_x a b) c

pub read_shape-requires : goal.read_shape-requires
read_shape-requires g c =
    let kept = (c.file_size.ensures.opens c.args.chunk_size).frame.files in
    record { size = subst (λ (f : Option Files). IsTold f c.args.name.now (λ bytes. length bytes ≡ c.in_ok-size.size)) (sym kept) c.in_ok-size.ensures.size }

pub read_counts-requires-clause-size : goal.read_counts-requires-clause-size
read_counts-requires-clause-size g c =
    let kept = (c.read_shape.ensures.opens c.args.chunk_size).frame.files ∙ (c.file_size.ensures.opens c.args.chunk_size).frame.files in
    subst (λ (f : Option Files). IsTold f c.args.name.now (λ bytes. length bytes ≡ c.in_ok-size.size)) (sym kept) c.in_ok-size.ensures.size

pub read_counts-requires-clause-head : goal.read_counts-requires-clause-head
read_counts-requires-clause-head g c =
    let kept = (c.read_shape.ensures.opens c.args.chunk_size).frame.files in
    subst (λ (f : Option Files). IsTold f c.args.name.now (HasHead c.in_ok-shape.shape)) (sym kept) c.in_ok-shape.ensures.head

pub returns-in-Ok-clause-planned : goal.returns-in-Ok-clause-planned
returns-in-Ok-clause-planned g c =
    let kept = (c.read_shape.ensures.opens c.args.chunk_size).frame.files ∙ (c.file_size.ensures.opens c.args.chunk_size).frame.files in
    let counts = c.counts.ensures in
    subst (λ (f : Option Files). IsTold f c.args.name.now (HasLabelled c.args.chunk_size 0 c.in-Ok.cat)) kept
    (told-weaker _ c.args.name.now _ _
    (λ bytes index. labelled-none c.args.chunk_size c.in_ok-shape.shape c.counts.result.now bytes c.in-Ok.cat c.in-Ok.ensures.ok (few_chunks c.args.chunk_size c.counts.result.now c.in-Ok.ensures.taken)
    (subst (λ (n : List ℕ). HasIndex c.in_ok-shape.shape n bytes) (sym counts) index))
    c.in_ok-index.ensures.index)

pub returns-in-Ok-clause-chunks : goal.returns-in-Ok-clause-chunks
returns-in-Ok-clause-chunks g c =
    planned-chunks c.args.chunk_size c.in_ok-shape.shape c.counts.result.now c.in-Ok.cat c.requires.0 c.in-Ok.ensures.ok
    (few_chunks c.args.chunk_size c.counts.result.now c.in-Ok.ensures.taken)

pub returns-in_err-size-clause-opens : goal.returns-in_err-size-clause-opens
returns-in_err-size-clause-opens g c =
    let p = err_from_is_err_and c.from_residual.result c.from_residual.ensures.1 in
    rw p.1 (rw p.2 (opens_by-passed _ _ 0 2 c.args.chunk_size c.args.name.now c.file_size.result _ (omega arith) c.in_err-size.was
    (c.file_size.ensures.opens c.args.chunk_size)))

pub returns-in_err-shape-clause-opens : goal.returns-in_err-shape-clause-opens
returns-in_err-shape-clause-opens g c =
    let p = err_from_is_err_and c.from_residual-in_err-shape.result c.from_residual-in_err-shape.ensures.1 in
    let size = c.args.chunk_size in
    let name = c.args.name.now in
    let both = next_call _ _ _ 0 1 size name _ _ _ c.in_ok-size.was (c.file_size.ensures.opens size) (c.read_shape.ensures.opens size) in
    rw p.1 (rw p.2 (opens_by-passed _ _ 1 2 size name c.read_shape.result _ (omega arith) c.in_err-shape.was both))

pub returns-in_err-index-clause-opens : goal.returns-in_err-index-clause-opens
returns-in_err-index-clause-opens g c =
    let p = err_from_is_err_and c.from_residual-in_err-index.result c.from_residual-in_err-index.ensures.1 in
    let size = c.args.chunk_size in
    let name = c.args.name.now in
    let all = three_calls _ _ _ _ size name _ _ _ _ _ c.in_ok-size.was c.in_ok-shape.was (c.file_size.ensures.opens size) (c.read_shape.ensures.opens size) (c.read_counts.ensures.opens size) in
    rw p.1 (rw p.2 (opens_by-passed _ _ 2 2 size name c.read_counts.result _ (omega arith) c.in_err-index.was all))

pub returns-in-Ok-clause-opens : goal.returns-in-Ok-clause-opens
returns-in-Ok-clause-opens g c =
    let size = c.args.chunk_size in
    let name = c.args.name.now in
    let all = served_call _ _ 2 size name _ _ c.in_ok-index.was
    (three_calls _ _ _ _ size name _ _ _ _ _ c.in_ok-size.was c.in_ok-shape.was (c.file_size.ensures.opens size) (c.read_shape.ensures.opens size) (c.read_counts.ensures.opens size)) in
    opens_by-served _ _ 2 size name _ all.0 all.1

pub returns-clause-opens : goal.returns-clause-opens
returns-clause-opens g c =
    let size = c.args.chunk_size in
    let name = c.args.name.now in
    let all = served_call _ _ 2 size name _ _ c.in_ok-index.was
    (three_calls _ _ _ _ size name _ _ _ _ _ c.in_ok-size.was c.in_ok-shape.was (c.file_size.ensures.opens size) (c.read_shape.ensures.opens size) (c.read_counts.ensures.opens size)) in
    let kept = (c.read_shape.ensures.opens size).frame.files ∙ (c.file_size.ensures.opens size).frame.files in
    rw c.into.ensures (opens_by-chunks _ _ 2 size name c.counts.result.now c.in-Err.error all.0 all.1
    (refused_chunks size c.counts.result.now c.plan.result c.in-Err.error c.in-Err.is c.plan.ensures.refused)
    (λ e refused. subst (λ (f : Option Files). IsTold f name (λ bytes. grid_refusal size bytes ≡ Some e)) kept
    (told-weaker _ name _ _
    (λ bytes index. refused_by_chunks size bytes e index.head.taken index.taken (ap (refusal_by_chunks size) (sym index.is ∙ sym c.counts.ensures) ∙ refused))
    c.in_ok-index.ensures.index)))

pub returns-in_err-shape-clause-few_reads : goal.returns-in_err-shape-clause-few_reads
returns-in_err-shape-clause-few_reads g c =
    let unread = c.file_size.ensures.unread in
    let most = (c.read_shape.ensures.opens c.args.chunk_size).frame.reads in
    head-few _ c.args.name.now (g.D.Depot.state c.args.depot.now) (g.D.Depot.state c.read_shape.new.depot) c.in_ok-size.size c.in_ok-size.ensures.size (omega (arith, unread, most)) (λ short. c.read_shape.ensures.short short ∙ unread)

pub returns-in_err-index-clause-few_reads : goal.returns-in_err-index-clause-few_reads
returns-in_err-index-clause-few_reads g c =
    let kept = (c.file_size.ensures.opens c.args.chunk_size).frame.files in
    let unread = c.file_size.ensures.unread in
    let first = (c.read_shape.ensures.opens c.args.chunk_size).frame.reads in
    let second = (c.read_counts.ensures.opens c.args.chunk_size).frame.reads in
    index-few _ c.args.name.now (g.D.Depot.state c.args.depot.now) (g.D.Depot.state c.read_counts.new.depot) c.in_ok-shape.shape
    (subst (λ (f : Option Files). IsTold f c.args.name.now (HasHead c.in_ok-shape.shape)) kept c.in_ok-shape.ensures.head) (omega (arith, unread, first, second))

pub returns-in-Ok-clause-few_reads : goal.returns-in-Ok-clause-few_reads
returns-in-Ok-clause-few_reads g c =
    let kept = (c.file_size.ensures.opens c.args.chunk_size).frame.files in
    let unread = c.file_size.ensures.unread in
    let first = (c.read_shape.ensures.opens c.args.chunk_size).frame.reads in
    let second = (c.read_counts.ensures.opens c.args.chunk_size).frame.reads in
    index-few _ c.args.name.now (g.D.Depot.state c.args.depot.now) (g.D.Depot.state c.read_counts.new.depot) c.in_ok-shape.shape
    (subst (λ (f : Option Files). IsTold f c.args.name.now (HasHead c.in_ok-shape.shape)) kept c.in_ok-shape.ensures.head) (omega (arith, unread, first, second))

pub returns-clause-few_reads : goal.returns-clause-few_reads
returns-clause-few_reads g c =
    let kept = (c.file_size.ensures.opens c.args.chunk_size).frame.files in
    let unread = c.file_size.ensures.unread in
    let first = (c.read_shape.ensures.opens c.args.chunk_size).frame.reads in
    let second = (c.read_counts.ensures.opens c.args.chunk_size).frame.reads in
    index-few _ c.args.name.now (g.D.Depot.state c.args.depot.now) (g.D.Depot.state c.read_counts.new.depot) c.in_ok-shape.shape
    (subst (λ (f : Option Files). IsTold f c.args.name.now (HasHead c.in_ok-shape.shape)) kept c.in_ok-shape.ensures.head) (omega (arith, unread, first, second))

pub returns-in_err-size-clause-few_reads : goal.returns-in_err-size-clause-few_reads
returns-in_err-size-clause-few_reads g c = unread-few _ c.args.name.now (g.D.Depot.state c.args.depot.now) (g.D.Depot.state c.file_size.new.depot) c.file_size.ensures.unread

pub returns-in_err-size-clause-refused : goal.returns-in_err-size-clause-refused
returns-in_err-size-clause-refused g c =
    let p = err_from_is_err_and c.from_residual.result c.from_residual.ensures.1 in
    rw p.1 (rw p.2 (λ verdict. missing_just c.args.chunk_size _ c.args.name.now (g.D.Depot.state c.args.depot.now) (g.D.Depot.state c.file_size.new.depot)
    c.file_size.ensures.unread (c.in_err-size.ensures.missing verdict)))

pub returns-in_err-shape-clause-refused : goal.returns-in_err-shape-clause-refused
returns-in_err-shape-clause-refused g c =
    let p = err_from_is_err_and c.from_residual-in_err-shape.result c.from_residual-in_err-shape.ensures.1 in
    let size = c.args.chunk_size in
    let name = c.args.name.now in
    let old = g.D.Depot.state c.args.depot.now in
    let new = g.D.Depot.state c.read_shape.new.depot in
    let kept = (c.file_size.ensures.opens size).frame.files in
    rw p.1 (rw p.2 (λ verdict. told_just size old.files name old new
    (subst (λ (f : Option Files). IsTold f name (λ bytes. ReadsJust (file_reads size bytes) old new)) kept
    (told-weaker _ name _ _ (λ bytes just. just ∙ ap (counted_times (file_reads size bytes)) c.file_size.ensures.unread)
    (c.in_err-shape.ensures.refused size verdict)))))

pub returns-in_err-index-clause-refused : goal.returns-in_err-index-clause-refused
returns-in_err-index-clause-refused g c =
    let p = err_from_is_err_and c.from_residual-in_err-index.result c.from_residual-in_err-index.ensures.1 in
    let size = c.args.chunk_size in
    let name = c.args.name.now in
    let old = g.D.Depot.state c.args.depot.now in
    let new = g.D.Depot.state c.read_counts.new.depot in
    let kept = (c.read_shape.ensures.opens size).frame.files ∙ (c.file_size.ensures.opens size).frame.files in
    rw p.1 (rw p.2 (λ verdict. told_just size old.files name old new
    (two_just size old.files name old new
    (c.in_err-index.ensures.one_read verdict ∙ ap (counted_times 1) (c.in_ok-shape.ensures.read ∙ ap (counted_times 1) c.file_size.ensures.unread))
    (subst (λ (f : Option Files). IsTold f name (λ bytes. file_reads size bytes ≡ 2)) kept (c.in_err-index.ensures.refused size verdict)))))

pub returns-clause-refused : goal.returns-clause-refused
returns-clause-refused g c =
    let size = c.args.chunk_size in
    let name = c.args.name.now in
    let old = g.D.Depot.state c.args.depot.now in
    let new = g.D.Depot.state c.read_counts.new.depot in
    let kept = (c.read_shape.ensures.opens size).frame.files ∙ (c.file_size.ensures.opens size).frame.files in
    rw c.into.ensures (λ verdict. told_just size old.files name old new
    (two_just size old.files name old new
    (c.in_ok-index.ensures.read ∙ ap (counted_times 1) (c.in_ok-shape.ensures.read ∙ ap (counted_times 1) c.file_size.ensures.unread))
    (plan_verdict old.files name size c.counts.result.now c.in-Err.error verdict
    (refused_chunks size c.counts.result.now c.plan.result c.in-Err.error c.in-Err.is c.plan.ensures.refused)
    (λ e refused. subst (λ (f : Option Files). IsTold f name (λ bytes. file_reads size bytes ≡ 2)) kept
    (told-weaker _ name _ _
    (λ bytes index. file_reads-chunks size bytes e index.head.taken index.taken (ap (refusal_by_chunks size) (sym index.is ∙ sym c.counts.ensures) ∙ refused))
    c.in_ok-index.ensures.index)))))
