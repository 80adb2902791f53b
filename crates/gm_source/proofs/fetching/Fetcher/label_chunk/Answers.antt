use Rattle.std.proofs.Common.{List, length, sym, ap, subst, ◌∙◌, arith}
use Rattle.std.specs.Prelude.{All}
use Rattle.std.proofs.lemmas.Result.{err_from_is_err_and}
use Rattle.gm_base.specs.declared.edge.Edge.{Edge}
use Rattle.gm_label.specs.Catalogues.{with_label}
use Rattle.gm_label.specs.Labels.{label_of}
use Rattle.gm_source.specs.Fetches.{LiesInChunk}
use Rattle.gm_source.specs.OpeningsRules.{opens_by-grid, opens_by-trouble}
use Rattle.gm_source.proofs.Decoding.{none_of_test}
use Rattle.gm_source.proofs.Fetched.{whole}
use Rattle.gm_source.proofs.LabelledChunks.{chunk-labelled, chunk-refused, chunk-stray, chunk-in_range}
use Rattle.gm_source.proofs.fetching.Fetcher.label_chunk.Goals as goal

pub set_label_of-requires-clause-count : goal.set_label_of-requires-clause-count
set_label_of-requires-clause-count g c =
    let all = whole (g.D.Depot.state c.args.depot.now).files c.args.name.now c.args.cat.now c.args.chunk c.read_chunk.new.edges.items c.in_ok-stray.stray
    (none_of_test _ (sym c.is_some.ensures ∙ c.if-is_some.false)) c.in_ok-stray.ensures.reads in
    ap (λ (edges : List Edge). length edges) c.as_slice-edges.ensures.value ∙ all.count

pub set_label_of-requires-clause-placed : goal.set_label_of-requires-clause-placed
set_label_of-requires-clause-placed g c =
    let all = whole (g.D.Depot.state c.args.depot.now).files c.args.name.now c.args.cat.now c.args.chunk c.read_chunk.new.edges.items c.in_ok-stray.stray
    (none_of_test _ (sym c.is_some.ensures ∙ c.if-is_some.false)) c.in_ok-stray.ensures.reads in
    subst (λ (edges : List Edge). All (LiesInChunk c.args.cat.now c.args.chunk) edges) (sym c.as_slice-edges.ensures.value) all.placed

pub returns-clause-labelled : goal.returns-clause-labelled
returns-clause-labelled g c size labelled =
    chunk-labelled (g.D.Depot.state c.args.depot.now).files c.args.name.now size c.args.chunk c.args.cat.now c.set_label_of.new.cat _ c.in_ok-stray.stray
    c.requires.within c.in_ok-stray.ensures.reads (sym c.is_some.ensures ∙ c.if-is_some.false)
    (c.in_ok-set_label_of.ensures.ok ∙ ap (λ (edges : List Edge). with_label c.args.cat.now c.args.chunk (label_of edges)) c.as_slice-edges.ensures.value) labelled

pub returns-then-is_some-clause-opens : goal.returns-then-is_some-clause-opens
returns-then-is_some-clause-opens g c size labelled =
    let place = c.chunk-first.ensures.value in
    opens_by-grid _ _ _ size c.args.name.now _ c.read_chunk.ensures.frame (c.read_chunk.ensures.cause.kept (λ is. cc))
    (chunk-refused (g.D.Depot.state c.args.depot.now).files c.args.name.now size c.args.chunk _ c.args.cat.now c.read_chunk.new.edges.items c.in_ok-stray.stray
    c.requires.within c.in_ok-stray.ensures.reads (sym c.is_some.ensures ∙ c.if-is_some.true)
    (omega (arith, c.len.ensures, ap (λ p. p.first) place)) c.grid_by_parts.ensures.sizes labelled)

pub returns-in_err-stray-clause-opens : goal.returns-in_err-stray-clause-opens
returns-in_err-stray-clause-opens g c size labelled =
    let p = err_from_is_err_and c.from_residual.result c.from_residual.ensures.1 in
    let read = c.in_err-stray.ensures in
    rw p.1 (rw p.2 (opens_by-trouble _ _ _ size c.args.name.now _ _ _ c.read_chunk.ensures.frame read.cause read.calm_range (g.met.D.Depot.calm_tells c.args.depot.now)
    (chunk-in_range (g.D.Depot.state c.args.depot.now).files c.args.name.now size c.args.chunk c.args.cat.now c.requires.within c.grid_by_parts.ensures.sizes labelled)))

pub returns-then-is_some-clause-refused : goal.returns-then-is_some-clause-refused
returns-then-is_some-clause-refused g c size labelled verdict =
    chunk-stray (g.D.Depot.state c.args.depot.now).files c.args.name.now size c.args.chunk c.args.cat.now c.read_chunk.new.edges.items c.in_ok-stray.stray
    c.requires.within c.in_ok-stray.ensures.reads (sym c.is_some.ensures ∙ c.if-is_some.true) labelled
