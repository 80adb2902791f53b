use Rattle.std.proofs.Common.{map, ◌∙◌, subst, sym, ◌+◌, List}
use Rattle.gm_base.specs.declared.edge.Edge.{Edge}
use Rattle.gm_grid.specs.Format.{is_within}
use Rattle.gm_grid.specs.GridBytes.{edge_of_bytes}
use Rattle.gm_source.proofs.Decoding.{DecodesUpTo, decodes-none, decodes-next, decodes-stray, decoded_at, within_map}
use Rattle.gm_source.proofs.reading.decode.Goals as goal

pub loop-bytes-init : goal.loop-bytes-init
loop-bytes-init c =
    subst (λ (kept : List Edge). DecodesUpTo (is_within c.args.ranges.now) (map edge_of_bytes c.args.bytes.now) kept 0)
    (sym (c.reserve_exact.ensures.items ∙ c.clear.ensures.items)) (decodes-none (is_within c.args.ranges.now) (map edge_of_bytes c.args.bytes.now))

pub returns-then-not-contains : goal.returns-then-not-contains
returns-then-not-contains c =
    let within = c.loop-bytes-test.true in
    decodes-stray (is_within c.args.ranges.now) (map edge_of_bytes c.args.bytes.now) _ c.loop-bytes.bytes-index _
    (within_map edge_of_bytes c.args.bytes.now c.loop-bytes.bytes-index within)
    (decoded_at edge_of_bytes c.args.bytes.now c.loop-bytes.bytes-index _ _ within c.read_edge-edge.ensures.value)
    (sym c.contains.ensures ∙ c.if-not-contains.true) c.loop-bytes.invariant

pub loop-bytes-preserved : goal.loop-bytes-preserved
loop-bytes-preserved c =
    let within = c.loop-bytes-test.true in
    subst (λ (kept : List Edge). DecodesUpTo (is_within c.args.ranges.now) (map edge_of_bytes c.args.bytes.now) kept (c.loop-bytes.bytes-index + 1))
    (sym c.in_ok-push.ensures.items)
    (decodes-next (is_within c.args.ranges.now) (map edge_of_bytes c.args.bytes.now) _ c.loop-bytes.bytes-index _
    (within_map edge_of_bytes c.args.bytes.now c.loop-bytes.bytes-index within)
    (decoded_at edge_of_bytes c.args.bytes.now c.loop-bytes.bytes-index _ _ within c.read_edge-edge.ensures.value)
    (sym c.contains.ensures ∙ c.if-not-contains.false) c.loop-bytes.invariant)
