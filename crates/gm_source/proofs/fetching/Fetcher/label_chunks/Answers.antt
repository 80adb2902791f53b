use Rattle.std.specs.Prelude.{sum_by}
use Rattle.std.proofs.Common.{arith}
use Rattle.std.proofs.lemmas.List.Sums.{sum_by-take-le}
use Rattle.std.proofs.lemmas.Result.{err_from_is_err_and}
use Rattle.gm_source.specs.Openings.{chunk_reads, reads_before}
use Rattle.gm_source.specs.OpeningsRules.{opens_by-more, opens_by-served}
use Rattle.gm_source.proofs.LabelledChunks.{labels-next, labels-refused}
use Rattle.gm_source.proofs.RefusalReads.{labels-few}
use Rattle.gm_source.proofs.ExactReads.{labels-just}
use Rattle.gm_source.proofs.fetching.Fetcher.label_chunks.Goals as goal

pub loop-chunk-preserved : goal.loop-chunk-preserved
loop-chunk-preserved g c =
    let made = c.label_chunk.ensures in
    let ok = c.in_ok-label_chunk.ensures in
    labels-next _ _ _ _ _ _ _ c.loop-chunk.chunk (omega (arith, c.loop-chunk-test.true, c.chunks-chunk-end.ensures.value)) c.loop-chunk.invariant
    made.cut ok.set made.frame ok.served ok.read ok.labelled

pub returns-in_err-label_chunk-clause-opens : goal.returns-in_err-label_chunk-clause-opens
returns-in_err-label_chunk-clause-opens g c size told =
    let p = err_from_is_err_and c.from_residual.result c.from_residual.ensures.1 in
    let k = c.loop-chunk.chunk in
    rw p.1 (rw p.2 (labels-refused _ _ _ size c.args.name.now _ _ k _ (omega (arith, c.loop-chunk-test.true, c.chunks-chunk-end.ensures.value))
    c.loop-chunk.invariant told (λ labelled. c.in_err-label_chunk.ensures.opens size labelled)))

pub returns-clause-opens : goal.returns-clause-opens
returns-clause-opens g c size told =
    let places = c.args.cat.now.places in
    let k = c.loop-chunk.chunk in
    opens_by-more _ _ (reads_before places k) (sum_by chunk_reads places) size c.args.name.now _ (sum_by-take-le chunk_reads places k)
    (opens_by-served _ _ (reads_before places k) size c.args.name.now _ c.loop-chunk.invariant.frame c.loop-chunk.invariant.served)

pub returns-in_err-label_chunk-clause-few_reads : goal.returns-in_err-label_chunk-clause-few_reads
returns-in_err-label_chunk-clause-few_reads g c size told =
    labels-few _ _ (g.D.Depot.state c.label_chunk.new.depot) size c.args.name.now _ _ c.loop-chunk.chunk c.loop-chunk.invariant c.label_chunk.ensures.frame.reads told

pub returns-clause-few_reads : goal.returns-clause-few_reads
returns-clause-few_reads g c size told =
    labels-few _ _ (g.D.Depot.state c.loop-chunk.depot) size c.args.name.now _ _ c.loop-chunk.chunk c.loop-chunk.invariant (omega arith) told

pub returns-in_err-label_chunk-clause-refused : goal.returns-in_err-label_chunk-clause-refused
returns-in_err-label_chunk-clause-refused g c size told =
    let p = err_from_is_err_and c.from_residual.result c.from_residual.ensures.1 in
    let k = c.loop-chunk.chunk in
    rw p.1 (rw p.2 (λ verdict. labels-just _ _ (g.D.Depot.state c.label_chunk.new.depot) size c.args.name.now _ _ k
    (omega (arith, c.loop-chunk-test.true, c.chunks-chunk-end.ensures.value)) c.loop-chunk.invariant
    (c.in_err-label_chunk.ensures.refused_read verdict) told
    (λ labelled. c.in_err-label_chunk.ensures.refused size labelled verdict)))
