-- What a job sees of the chunks that changes concern, while its own changes are noted one after the other.
use Rattle.std.specs.Prelude.{◌≡◌, ℕ, ◌<◌, ◌≤◌, ◌==◌, if◌then◌else◌, List, [], ◌∷◌, ◌++◌, length, fold, Option, Some, None}
use Rattle.std.specs.Ordering.{nat_cmp}
use Rattle.std.specs.BTreeMap.{get}
use Rattle.gm_base.specs.declared.copies.Tag.TheVariants.{Own}
use Rattle.gm_changes.specs.declared.change.Change.{Change}
use Rattle.gm_changes.specs.Concerns.{concerns}
use Rattle.gm_label.specs.declared.chunk.Overlay.{Overlay}
use Rattle.gm_label.specs.Catalogues.{Catalogue}
use Rattle.gm_versions.specs.Contents.{site_at, sources_at_after, added_sources, changes_up_to}
use Rattle.gm_private.specs.OwnChanges.{OwnChanges}
use Rattle.gm_private.specs.declared.seen_chunks.SeenChunk.{SeenChunk}
use Rattle.gm_private.specs.declared.seen_chunks.SeenChunks.{SeenChunks}

-- what is kept of a chunk
abbrev pub seen_at : SeenChunks → ℕ → Option SeenChunk
seen_at seen c = get nat_cmp seen.chunks c

abbrev pub seen_of : Overlay → SeenChunk
seen_of overlay = record { tag = overlay.key.tag; added = overlay.added }

abbrev pub overlay_with : ℕ → SeenChunk → Overlay
overlay_with c seen = record { key = record { chunk = c; tag = seen.tag }; added = seen.added }

-- what overlays tell of a chunk
abbrev pub seen_among : List Overlay → ℕ → Option SeenChunk
seen_among [] c = None
seen_among (overlay ∷ overlays) c = if overlay.key.chunk == c then Some (seen_of overlay) else seen_among overlays c

-- a change of the job's own concerns the chunk, and adds these sources
abbrev pub with_own : ℕ → List ℕ → Option SeenChunk → SeenChunk
with_own job sources None = record { tag = Own job; added = sources }
with_own job sources (Some seen) = record { tag = Own job; added = seen.added ++ sources }

-- Whether a change concerns a chunk is looked at with the sources of the version alone: a chunk that an own change gave a source is the job's own by then.
abbrev pub after_own : Catalogue → List (List Change) → OwnChanges → ℕ → Option SeenChunk → Change → Option SeenChunk
after_own cat updates own c seen change =
    if concerns cat.dimensions (site_at cat c) (sources_at_after cat c (changes_up_to updates own.version)) change
    then Some (with_own own.job (added_sources (change ∷ [])) seen)
    else seen

-- these changes of the job's own were noted
pub record AreNoted (cat : Catalogue) (updates : List (List Change)) (own : OwnChanges) (changes : List Change) (old new : SeenChunks) : Type 0 where
  pub each : (c : ℕ) → c < length cat.places → seen_at new c ≡ fold (after_own cat updates own c) (seen_at old c) changes
  pub beyond : (c : ℕ) → length cat.places ≤ c → seen_at new c ≡ seen_at old c
