-- What fetching a chunk answers: its edges, or what was found in their place.
use Rattle.std.specs.Prelude.{◌≡◌, ◌≢◌, ℕ, ◌+◌, ◌*◌, ◌<◌, Bool, not, List, length, slice_get, All, IsTrue, Option, Some, None, IfSome, Result, IfOk, IsErrOf}
use Rattle.std.specs.List.{position}
use Rattle.std.specs.FinMap.{get}
use Rattle.gm_base.specs.declared.edge.Edge.{Edge}
use Rattle.gm_base.specs.Dimensions.{block_of}
use Rattle.gm_base.specs.Graph.{HasEndsBelow}
use Rattle.gm_outside.specs.declared.traits.Trouble.{Trouble}
use Rattle.gm_outside.specs.declared.traits.Trouble.TheVariants as troubles
use Rattle.gm_outside.specs.Causes.{HasExactCause}
use Rattle.gm_outside.specs.Files.{Files, HasBytesAt, HasRange}
use Rattle.gm_outside.specs.Frames.{OnlyReads}
use Rattle.gm_outside.specs.States.{DepotState}
use Rattle.gm_grid.specs.Format.{is_in_block}
use Rattle.gm_grid.specs.GridBytes.{edges_of_bytes, edges_in, index_end}
use Rattle.gm_label.specs.declared.chunk.Raw.{Raw}
use Rattle.gm_label.specs.Labels.{label_of}
use Rattle.gm_label.specs.Catalogues.{Catalogue, place_at, label_at, base_at}
use Rattle.gm_source.specs.Openings.{IsCatalogueOf, AreBytes, Decodes, ReadsJust, chunk_reads}
use Rattle.gm_source.specs.declared.fetching.Found.{Found}
use Rattle.gm_source.specs.declared.fetching.Found.TheVariants.{Stray, Labels}
use Rattle.gm_source.specs.declared.fetching.FetchError.{FetchError}
use Rattle.gm_source.specs.declared.fetching.FetchError.TheVariants.{Fault, Changed, Memory}

abbrev pub fetch_error_of : Trouble → FetchError
fetch_error_of troubles.Failed = Fault
fetch_error_of troubles.Memory = Memory

-- the depot tells the file of this name, which has these bytes, and the catalogue is that of them
pub record TellsGrid (told : Option Files) (name : List ℕ) (cat : Catalogue) (bytes : List ℕ) : Type 0 where
  pub files : Files
  pub is_told : told ≡ Some files
  pub there : get files name ≡ Some bytes
  pub size : ℕ
  pub catalogue : IsCatalogueOf bytes size cat

-- where a chunk's first edge stands in the file
abbrev pub chunk_start : Catalogue → ℕ → ℕ
chunk_start cat c = index_end cat.dimensions + 12 * (place_at cat c).first

-- these edges were read for the chunk, as many as it has: where the depot tells, those of the file's bytes at its place
pub record WasRead (told : Option Files) (name : List ℕ) (cat : Catalogue) (c : ℕ)
    (read : List Edge) : Type 0 where
  pub bytes : List ℕ
  pub is : read ≡ edges_of_bytes bytes
  pub long : length bytes ≡ 12 * (place_at cat c).count
  pub small : AreBytes bytes
  pub place : 0 < (place_at cat c).count → IfSome told (λ held.
      HasBytesAt held name (chunk_start cat c) bytes)

-- the file is there, and holds all of the chunk's edges
abbrev pub HoldsChunk : Files → List ℕ → Catalogue → ℕ → Type 0
HoldsChunk held name cat c = HasRange held name (chunk_start cat c) (12 * (place_at cat c).count)

abbrev pub is_in_chunk : Catalogue → ℕ → Edge → Bool
is_in_chunk cat c e = is_in_block cat.dimensions (place_at cat c).block e

-- both ends are vertices, and the edge lies in the chunk's block
abbrev pub LiesInChunk : Catalogue → ℕ → Edge → Type 0
LiesInChunk cat c e = HasEndsBelow cat.dimensions.n e × (block_of cat.dimensions e ≡ (place_at cat c).block)

-- a chunk whose edges are as the catalogue tells
pub record FitsCatalogue (cat : Catalogue) (c : ℕ) (raw : Raw) : Type 0 where
  pub number : raw.chunk ≡ c
  pub count : length raw.edges ≡ (place_at cat c).count
  pub placed : All (LiesInChunk cat c) raw.edges
  pub label : label_of raw.edges ≡ label_at cat c

-- why edges that were read aren't the chunk's: the first that isn't in its block, by its number in the file, or their label, which isn't the
-- catalogue's
abbrev pub Differs : Catalogue → ℕ → List Edge → Found → Type 0
Differs cat c read (Stray index edge) =
    (place : ℕ) × (position (λ e. not (is_in_chunk cat c e)) read ≡ Some place)
    × (index ≡ (place_at cat c).first + place)
    × (slice_get read place ≡ Some edge)
Differs cat c read (Labels kept found) =
    All (LiesInChunk cat c) read × (kept ≡ label_at cat c) × (found ≡ label_of read) × (kept ≢ found)

-- this was found in what was read for the chunk
pub record WasFound (told : Option Files) (name : List ℕ) (cat : Catalogue) (c : ℕ)
    (found : Found) : Type 0 where
  pub read : List Edge
  pub from : WasRead told name cat c read
  pub differs : Differs cat c read found

-- what was read for the chunk was decoded up to the first edge that isn't in its block
pub record ReadsChunk (told : Option Files) (name : List ℕ) (cat : Catalogue) (c : ℕ)
    (kept : List Edge) (stray : Option Edge) : Type 0 where
  pub read : List Edge
  pub from : WasRead told name cat c read
  pub decoded : Decodes (is_in_chunk cat c) read kept stray

-- the edges that were read up to the first stray one are those of the chunk of these bytes, and none is stray
pub record IsUnchanged (bytes : List ℕ) (cat : Catalogue) (c : ℕ) (kept : List Edge)
    (stray : Option Edge) : Type 0 where
  pub none : stray ≡ None
  pub base : kept ≡ base_at cat (edges_in bytes) c
  pub label : label_of kept ≡ label_at cat c

-- a call that fetches a chunk, by the catalogue of the grid in the file of this name
pub record Fetches (name : List ℕ) (cat : Catalogue) (c : ℕ) (old new : DepotState)
    (result : Result Raw FetchError) : Type 0 where
  pub ok : IfOk result (FitsCatalogue cat c)
  pub from : IfOk result (λ raw. WasRead old.files name cat c raw.edges)
  pub told : (bytes : List ℕ) → TellsGrid old.files name cat bytes
      → IfOk result (λ raw. raw.edges ≡ base_at cat (edges_in bytes) c)
  pub changed : (found : Found) → IsErrOf result (Changed found) → WasFound old.files name cat c found
  pub unchanged : (bytes : List ℕ) (found : Found) → TellsGrid old.files name cat bytes
      → IsErrOf result (Changed found) → ⊥
  pub cause : HasExactCause Fault old.faults new.faults result
  pub calm : (bytes : List ℕ) → IsTrue old.calm → TellsGrid old.files name cat bytes
      → IsErrOf result Fault → ⊥
  pub read : (IsErrOf result Memory → ⊥) → ReadsJust (chunk_reads (place_at cat c)) old new
  pub frame : OnlyReads 0 (chunk_reads (place_at cat c)) old new
