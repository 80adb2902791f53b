-- The copy of a chunk that a job sees.
use Rattle.std.specs.Prelude.{◌≡◌, ◌==◌, ℕ, ◌<◌, true, List, [], ◌∷◌, length, All, refl}
use Rattle.std.specs.List.{list_any}
use Rattle.std.proofs.Common.{Bool, false, cond, eqb, sym, ap, ◌∙◌, subst}
use Rattle.std.proofs.lemmas.Bool.{eqb-true}
use Rattle.std.specs.List.{AllByRecursion}
use Rattle.std.proofs.lemmas.List.Elements.{All-weaker, All-from_recursion, recursion_from_All}
use Rattle.gm_base.specs.declared.copies.ChunkCopy.{ChunkCopy}
use Rattle.gm_base.specs.declared.edge.Edge.{Edge}
use Rattle.gm_base.specs.declared.copies.Key.{Key}
use Rattle.gm_base.specs.Graph.{HasEndsBelow}
use Rattle.gm_changes.specs.Concerns.{IsPlaced}
use Rattle.gm_label.specs.declared.chunk.Overlay.{Overlay}
use Rattle.gm_label.specs.declared.chunk.Raw.{Raw}
use Rattle.gm_label.specs.Catalogues.{Catalogue, IsOver, base_at, sources_at}
use Rattle.gm_label.specs.Labels.{sources_of}
use Rattle.gm_label.specs.LabelsRules.{label-lists}
use Rattle.gm_label.specs.Overlays.{key_at}
use Rattle.gm_source.specs.Fetches.{FitsCatalogue, LiesInChunk}
use Rattle.gm_versions.specs.SnapshotsRules.{key_at-overlays}
use Rattle.gm_versions.specs.Contents.{changes_at, site_at}
use Rattle.gm_versions.specs.ContentsRules.{changes_at-within, edges_after-within}
use Rattle.gm_versions.specs.Snapshots.{changes_of, key_of}
use Rattle.gm_private.specs.OwnChanges.{IsSnapshotCopy}
use Rattle.gm_job_run.specs.declared.view.View.{View}
use Rattle.gm_versions.specs.Snapshots.{IsSnapshotOver, content_of, overlays_of}
use Rattle.gm_job_run.specs.SeenViews.{seen_in}

-- a chunk's key is of the chunk
pub key_at-chunk : (overlays : List Overlay) (c : ℕ) → (key_at overlays c).chunk ≡ c
key_at-chunk [] c = refl
key_at-chunk (o ∷ overlays) c = tested o.key (key_at overlays c) c (eqb o.key.chunk c) refl (key_at-chunk overlays c)
  where
    tested : (here later : Key) (c : ℕ) (b : Bool) → eqb here.chunk c ≡ b → later.chunk ≡ c → (cond b here later).chunk ≡ c
    tested here later c true is rest = eqb-true here.chunk c is
    tested here later c false is rest = rest

-- the key of a chunk by what the job sees, of the chunk that was fetched
pub key_seen : (cat : Catalogue) (view : View) (key : Key) (chunk : ℕ) → key.chunk < length cat.places → key ≡ key_at (overlays_of cat (seen_in view)) key.chunk
    → chunk ≡ key.chunk → key ≡ key_of cat (seen_in view) chunk
key_seen cat view key chunk within is same =
    is ∙ key_at-overlays cat (seen_in view) key.chunk within ∙ ap (key_of cat (seen_in view)) (sym same)

both : {X : Type 0} (P Q R : X → Type 0) (xs : List X) → ((x : X) → P x → Q x → R x) → AllByRecursion P xs → AllByRecursion Q xs → AllByRecursion R xs
both P Q R [] each ps qs = tt
both P Q R (x ∷ xs) each ps qs = (each x ps.0 qs.0, both P Q R xs each ps.1 qs.1)

placed-raw : (cat : Catalogue) (raw : Raw) (c : ℕ) → FitsCatalogue cat c raw → All (IsPlaced cat.dimensions (site_at cat c) (sources_at cat c)) raw.edges
placed-raw cat raw c fits =
    let listed : All (λ (e : Edge). list_any (λ s. s == e.from) (sources_at cat c) ≡ true) raw.edges =
    subst (λ label. All (λ (e : Edge). list_any (λ s. s == e.from) (sources_of label) ≡ true) raw.edges) fits.label (label-lists raw.edges) in
    let Listed = λ (e : Edge). list_any (λ s. s == e.from) (sources_at cat c) ≡ true in
    let Placed = IsPlaced cat.dimensions (site_at cat c) (sources_at cat c) in
    All-from_recursion Placed raw.edges
    (both (LiesInChunk cat c) Listed Placed raw.edges (λ e lies source. record { in_block = lies.1; listed = source })
    (recursion_from_All (LiesInChunk cat c) raw.edges fits.placed) (recursion_from_All Listed raw.edges listed))

-- its edges have both ends among the vertices, whatever was fetched
pub copy_within : (cat : Catalogue) (view : View) (key : Key) (raw : Raw) (copy : ChunkCopy) → IsSnapshotOver cat.dimensions.n (seen_in view) → FitsCatalogue cat key.chunk raw
    → IsSnapshotCopy cat (seen_in view) raw.chunk raw.edges key copy → All (HasEndsBelow cat.dimensions.n) copy.edges
copy_within cat view key raw copy over fits made =
    let n = cat.dimensions.n in
    let seen = changes_of (seen_in view) in
    let made_here = subst (λ (c : ℕ). IsSnapshotCopy cat (seen_in view) c raw.edges key copy) fits.number made in
    subst (All (HasEndsBelow n)) (sym (made_here.changed (placed-raw cat raw key.chunk fits)))
    (edges_after-within n (changes_at cat key.chunk seen) raw.edges (changes_at-within cat key.chunk n seen over.ends)
    (All-weaker (LiesInChunk cat key.chunk) (HasEndsBelow n) (λ e lies. lies.0) raw.edges fits.placed))

-- .. and where the grid is told they are what the job sees
pub copy_seen : (cat : Catalogue) (view : View) (key : Key) (raw : Raw) (copy : ChunkCopy) (grid : List Edge)
    → key ≡ key_at (overlays_of cat (seen_in view)) key.chunk → raw.chunk ≡ key.chunk
    → IsSnapshotCopy cat (seen_in view) raw.chunk raw.edges key copy
    → IsOver cat grid → raw.edges ≡ base_at cat grid key.chunk → copy.edges ≡ content_of cat grid (seen_in view) key.chunk
copy_seen cat view key raw copy grid is same made over base =
    let made_here = subst (λ (c : ℕ). IsSnapshotCopy cat (seen_in view) c raw.edges key copy) same made in
    made_here.content grid over base
