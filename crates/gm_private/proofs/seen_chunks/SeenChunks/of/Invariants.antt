use Rattle.std.proofs.Common.{◌≡◌, ℕ, nat_cmp}
use Rattle.std.specs.BTreeMap.{get}
use Rattle.std.specs.Vec.Iter.{into_iter_items}
use Rattle.gm_label.specs.Overlays.{AscendByChunk}
use Rattle.gm_private.specs.SeenChunks.{seen_among}
use Rattle.gm_private.proofs.Noting.{or_else}
use Rattle.gm_private.proofs.seen_chunks.SeenChunks.of.Given as goal

-- what is in the map, or still among the overlays
abbrev pub invariant-loop-overlay : goal.invariant-loop-overlay
invariant-loop-overlay l =
    (goal.iterator-loop-overlay).can_next l.overlay-iterator ×
    (goal.iterator-loop-overlay).is_finite l.overlay-iterator ×
    AscendByChunk 0 (into_iter_items l.overlay-iterator) ×
    ((c : ℕ) → or_else (seen_among (into_iter_items l.overlay-iterator) c) (get nat_cmp l.chunks c) ≡ seen_among l.fn.overlays c)
