-- What a job sees of chunks that changes concern: their keys, and the sources that were added to their labels.
use Rattle.std.specs.Prelude.{ℕ, ◌<◌, ◌≤◌, ◌+◌, ◌==◌, if◌then◌else◌, List, [], ◌∷◌, ◌++◌, length, All}
use Rattle.gm_base.specs.declared.copies.Key.{Key}
use Rattle.gm_base.specs.declared.copies.Tag.TheVariants.{Update}
use Rattle.gm_label.specs.declared.chunk.Overlay.{Overlay}
use Rattle.gm_label.specs.Catalogues.{Catalogue, sources_at}

-- the sources that were added to a chunk's label
abbrev pub added_at : List Overlay → ℕ → List ℕ
added_at [] c = []
added_at (overlay ∷ overlays) c = if overlay.key.chunk == c then overlay.added else added_at overlays c

-- a chunk's sources: those of its label, and those that were added
abbrev pub sources_under : Catalogue → List Overlay → ℕ → List ℕ
sources_under cat overlays c = sources_at cat c ++ added_at overlays c

-- the key of the copy that the job sees of a chunk: the grid's own, where no overlay stands
abbrev pub key_at : List Overlay → ℕ → Key
key_at [] c = record { chunk = c; tag = Update 0 }
key_at (overlay ∷ overlays) c = if overlay.key.chunk == c then overlay.key else key_at overlays c

-- overlays ascend by chunk, each chunk once, from this chunk on
abbrev pub AscendByChunk : ℕ → List Overlay → Type 0
AscendByChunk low [] = Unit {0}
AscendByChunk low (overlay ∷ overlays) = (low ≤ overlay.key.chunk) × AscendByChunk (overlay.key.chunk + 1) overlays

-- overlays of these chunks, with sources of this many vertices
pub record AreOverlays (cat : Catalogue) (overlays : List Overlay) : Type 0 where
  pub ascend : AscendByChunk 0 overlays
  pub chunks : All (λ o. o.key.chunk < length cat.places) overlays
  pub sources : All (λ o. All (λ s. s < cat.dimensions.n) o.added) overlays
