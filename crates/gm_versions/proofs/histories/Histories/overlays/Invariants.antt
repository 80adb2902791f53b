use Rattle.std.proofs.Common.{◌≡◌, ◌++◌}
use Rattle.gm_versions.specs.Histories.{overlays_in}
use Rattle.gm_versions.proofs.histories.Histories.overlays.Given as goal

-- the overlays so far, and those of the chunks that are left
abbrev pub invariant-loop-chunk : goal.invariant-loop-chunk
invariant-loop-chunk l = l.overlays ++ overlays_in l.version l.chunk-iterator ≡ overlays_in l.version l.self.by_chunk.entries
