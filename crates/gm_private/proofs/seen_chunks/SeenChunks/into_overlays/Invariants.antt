use Rattle.std.proofs.Common.{◌≡◌, ◌++◌}
use Rattle.gm_versions.specs.WalksRules.{told_in}
use Rattle.gm_private.proofs.Overlaying.{one_overlay}
use Rattle.gm_private.proofs.seen_chunks.SeenChunks.into_overlays.Given as goal

-- the overlays so far, and those of the chunks that are left
abbrev pub invariant-loop-chunk : goal.invariant-loop-chunk
invariant-loop-chunk l = l.overlays ++ told_in one_overlay l.chunk-iterator ≡ told_in one_overlay l.fn.self.chunks.entries
