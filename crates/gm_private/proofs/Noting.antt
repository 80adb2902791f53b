-- Overlays that are put into a map, chunk by chunk.
use Rattle.std.proofs.Common.{◌≡◌, ℕ, ◌+◌, ◌<◌, eqb, List, [], ◌∷◌, Option, Some, None, inl, inr, sym, ap, ◌∙◌, refl, arith}
use Rattle.std.proofs.lemmas.Bool.{cases_Bool, cond-true, cond-false, eqb-true, eqb-false, ne_eqb}
use Rattle.gm_label.specs.declared.chunk.Overlay.{Overlay}
use Rattle.gm_label.specs.Overlays.{AscendByChunk}
use Rattle.gm_versions.specs.SnapshotsRules.{ascend-lower}
use Rattle.gm_private.specs.declared.seen_chunks.SeenChunk.{SeenChunk}
use Rattle.gm_private.specs.SeenChunks.{seen_of, seen_among}

-- the first of two, or else the second
abbrev pub or_else : Option SeenChunk → Option SeenChunk → Option SeenChunk
or_else None other = other
or_else (Some seen) other = Some seen

absent : (low c : ℕ) (overlays : List Overlay) → c < low → AscendByChunk low overlays → seen_among overlays c ≡ None
absent low c [] below ascend = refl
absent low c (o ∷ overlays) below ascend =
    let first = ascend.0 in
    cond-false (eqb o.key.chunk c) (Some (seen_of o)) (seen_among overlays c) (ne_eqb o.key.chunk c (λ same. omega arith))
    ∙ absent (o.key.chunk + 1) c overlays (omega arith) ascend.1

-- one overlay more is in the map, and the others are left
pub put-next : (overlay : Overlay) (rest overlays : List Overlay) (old new : ℕ → Option SeenChunk) → AscendByChunk 0 (overlay ∷ rest)
    → new overlay.key.chunk ≡ Some (seen_of overlay) → ((c : ℕ) → (c ≡ overlay.key.chunk → ⊥) → new c ≡ old c)
    → ((c : ℕ) → or_else (seen_among (overlay ∷ rest) c) (old c) ≡ seen_among overlays c)
    → (c : ℕ) → or_else (seen_among rest c) (new c) ≡ seen_among overlays c
put-next overlay rest overlays old new ascend here others is c =
    elim (cases_Bool (eqb overlay.key.chunk c)) as (λ _. or_else (seen_among rest c) (new c) ≡ seen_among overlays c) [
      | inl at ↦
          let same = eqb-true overlay.key.chunk c at in
          let none = absent (overlay.key.chunk + 1) c rest (omega arith) ascend.1 in
          ap (λ (seen : Option SeenChunk). or_else seen (new c)) none ∙ ap new (sym same) ∙ here
          ∙ sym (ap (λ (seen : Option SeenChunk). or_else seen (old c)) (cond-true (eqb overlay.key.chunk c) (Some (seen_of overlay)) (seen_among rest c) at)) ∙ is c
      | inr apart ↦
          ap (or_else (seen_among rest c)) (others c (λ same. eqb-false overlay.key.chunk c apart (sym same)))
          ∙ sym (ap (λ (seen : Option SeenChunk). or_else seen (old c)) (cond-false (eqb overlay.key.chunk c) (Some (seen_of overlay)) (seen_among rest c) apart)) ∙ is c
    ]

-- .. and the overlays that are left ascend
pub ascend-next : (overlay : Overlay) (rest : List Overlay) → AscendByChunk 0 (overlay ∷ rest) → AscendByChunk 0 rest
ascend-next overlay rest ascend = ascend-lower 0 (overlay.key.chunk + 1) rest (omega arith) ascend.1
