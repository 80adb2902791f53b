use Rattle.std.proofs.Common.{rules}
use Rattle.gm_grid.proofs.RangeTests.{same_test}
use Rattle.gm_grid.proofs.placement.BlockRanges.of.Goals as goal

pub returns : goal.returns
returns c e =
    same_test c.args.shape.now c.args.block e
    c.range_start.result c.range_start-2.result c.range_start-3.result c.range_start-4.result
    c.parts.ensures.dimensions (search rules) (search rules) (search rules) (search rules)
