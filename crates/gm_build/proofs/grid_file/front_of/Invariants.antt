use Rattle.std.proofs.Common.{◌≡◌, ◌++◌, drop}
use Rattle.std.specs.List.{flat_map}
use Rattle.gm_grid.specs.Format.{count_bytes, head_bytes}
use Rattle.gm_build.proofs.grid_file.front_of.Given as goal

abbrev pub invariant-loop-count : goal.invariant-loop-count
invariant-loop-count l = l.front.items ++ flat_map count_bytes (drop l.count-index l.counts) ≡ head_bytes l.shape.n l.shape.parts ++ flat_map count_bytes l.counts
