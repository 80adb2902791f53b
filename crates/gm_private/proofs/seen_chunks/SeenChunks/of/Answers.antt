use Rattle.std.proofs.Common.{◌≡◌, ℕ, BTreeMap, false, nat_cmp, List, ◌∷◌, Some, sym, subst, arith}
use Rattle.std.proofs.lemmas.Grind.{common_steps}
use Rattle.std.specs.BTreeMap.{get, is_at, Updates}
use Rattle.std.specs.Vec.Iter.{into_iter_items}
use Rattle.gm_label.specs.declared.chunk.Overlay.{Overlay}
use Rattle.gm_label.specs.Overlays.{AscendByChunk}
use Rattle.gm_private.specs.declared.seen_chunks.SeenChunk.{SeenChunk}
use Rattle.gm_private.specs.SeenChunks.{seen_of, seen_among}
use Rattle.gm_private.proofs.Noting.{or_else, put-next, ascend-next}
use Rattle.gm_private.proofs.seen_chunks.SeenChunks.of.Goals as goal

is_at_other : (u source : ℕ) → (u ≡ source → ⊥) → is_at (nat_cmp u) source ≡ false
is_at_other u source apart = grind (arith, common_steps)

-- what is in the map or left
abbrev IsToldBy : List Overlay → BTreeMap ℕ SeenChunk → List Overlay → Type 0
IsToldBy overlays chunks left = AscendByChunk 0 left × ((c : ℕ) → or_else (seen_among left c) (get nat_cmp chunks c) ≡ seen_among overlays c)

put : (overlays left rest : List Overlay) (overlay : Overlay) (old new : BTreeMap ℕ SeenChunk) → left ≡ overlay ∷ rest
    → Updates nat_cmp old new overlay.key.chunk (Some (seen_of overlay)) → IsToldBy overlays old left → IsToldBy overlays new rest
put overlays left rest overlay old new first updates told =
    let here = subst (IsToldBy overlays old) first told in (
      ascend-next overlay rest here.0,
      put-next overlay rest overlays (get nat_cmp old) (get nat_cmp new) here.0 updates.1
          (λ c apart. updates.2 c (is_at_other overlay.key.chunk c (λ same. apart (sym same)))) here.1,
    )

pub loop-overlay-preserved-in_ok-insert : goal.loop-overlay-preserved-in_ok-insert
loop-overlay-preserved-in_ok-insert c =
    let before = c.loop-overlay.invariant in
    let now = put c.args.overlays _ (into_iter_items c.next.new.self) c.in-Some.overlay c.loop-overlay.chunks c.insert.new.self c.in-Some.ensures.steps.0 c.in_ok-insert.ensures.updates (before.2, before.3) in
    (tt, tt, now.0, now.1)

pub loop-overlay-preserved : goal.loop-overlay-preserved
loop-overlay-preserved c =
    let before = c.loop-overlay.invariant in
    let now = put c.args.overlays _ (into_iter_items c.next.new.self) c.in-Some.overlay c.loop-overlay.chunks c.insert.new.self c.in-Some.ensures.steps.0 c.in_ok-insert.ensures.updates (before.2, before.3) in
    (tt, tt, now.0, now.1)
