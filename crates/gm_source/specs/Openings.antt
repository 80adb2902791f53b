-- What opening a grid answers, and what is known of its file then.
use Rattle.std.specs.Prelude.{◌≡◌, ◌≢◌, ℕ, min, ◌+◌, ◌*◌, ◌<◌, ◌≤◌, Bool, not, ◌&&◌, is_none, nat_lt, if◌then◌else◌, List, [], ◌∷◌, length, take, map, flat_map, sum_by, slice_get, All, IsTrue, Option, Some, None, IfSome, IsSomeAnd, Result, Ok, Err, IsErrOf}
use Rattle.std.specs.List.{position}
use Rattle.std.specs.FinMap.{get}
use Rattle.gm_base.specs.declared.edge.Edge.{Edge}
use Rattle.gm_base.specs.declared.limits.TheConstants.{MAX_CHUNKS}
use Rattle.gm_base.specs.Dimensions.{Dimensions}
use Rattle.gm_outside.specs.declared.traits.Trouble.{Trouble}
use Rattle.gm_outside.specs.declared.traits.Trouble.TheVariants as troubles
use Rattle.gm_outside.specs.Causes.{HasExactCause, counted_times}
use Rattle.gm_outside.specs.Files.{Files}
use Rattle.gm_outside.specs.Frames.{OnlyReads}
use Rattle.gm_outside.specs.States.{DepotState}
use Rattle.gm_grid.specs.declared.grid_error.GridError.TheVariants as grid_errors
use Rattle.gm_grid.specs.declared.grid_error.IndexError.{IndexError}
use Rattle.gm_grid.specs.declared.grid_error.IndexError.TheVariants as index_errors
use Rattle.gm_grid.specs.declared.sizes.TheConstants.{HEAD_SIZE}
use Rattle.gm_grid.specs.Format.{IsGrid, dimensions_of, edges_of_grid}
use Rattle.gm_grid.specs.GridBytes.{index_end, shape_in, counts_in, edges_in}
use Rattle.gm_grid.specs.GridRefusals.{grid_refusal, refusal_by_head, refusal_by_index, refusal_by_chunks, is_misplaced}
use Rattle.gm_label.specs.declared.chunk.Place.{Place}
use Rattle.gm_label.specs.declared.plan.PlanError.{PlanError}
use Rattle.gm_label.specs.declared.plan.PlanError.TheVariants as plan_errors
use Rattle.gm_label.specs.Chunks.{chunks_of, base_of}
use Rattle.gm_label.specs.Catalogues.{Catalogue, catalogue_of, labelled_up_to, label_at, place_at}
use Rattle.gm_source.specs.declared.errors.OpenError.{OpenError}
use Rattle.gm_source.specs.declared.errors.OpenError.TheVariants.{Missing, Grid, Fault, Memory}

abbrev pub error_of_trouble : Trouble → OpenError
error_of_trouble troubles.Failed = Fault
error_of_trouble troubles.Memory = Memory

abbrev pub error_of_index : IndexError → OpenError
error_of_index (index_errors.Grid error) = Grid error
error_of_index index_errors.Memory = Memory

abbrev pub error_of_plan : PlanError → OpenError
error_of_plan (plan_errors.TooManyChunks chunks) = Grid (grid_errors.TooManyChunks chunks)
error_of_plan plan_errors.Memory = Memory

-- the catalogue of the grid that these bytes are, cut into chunks of this size
pub record IsCatalogueOf (bytes : List ℕ) (size : ℕ) (cat : Catalogue) : Type 0 where
  pub n : ℕ
  pub parts : ℕ
  pub blocks : List (List Edge)
  pub grid : IsGrid bytes n parts blocks
  pub few : refusal_by_chunks size (map (λ edges. length edges) blocks) ≡ None
  pub all : cat ≡ catalogue_of (dimensions_of n parts) size (map (λ edges. length edges) blocks)
      (edges_of_grid blocks)

-- where the files are told, the file of this name is there, and this holds of its bytes
abbrev pub IsTold : Option Files → List ℕ → (List ℕ → Type 0) → Type 0
IsTold files name Holds = IfSome files (λ held. IsSomeAnd (get held name) Holds)

-- why a file, if it is one, isn't opened with chunks of this size
abbrev pub IsRefusedWith : ℕ → Option (List ℕ) → OpenError → Type 0
IsRefusedWith size found Missing = found ≡ None
IsRefusedWith size found (Grid error) = IsSomeAnd found (λ bytes. grid_refusal size bytes ≡ Some error)
IsRefusedWith size found Fault = Unit {0}
IsRefusedWith size found Memory = Unit {0}

abbrev pub IsRefusedIn : {T : Type 0} → ℕ → Option (List ℕ) → Result T OpenError → Type 0
IsRefusedIn size found (Ok value) = Unit {0}
IsRefusedIn size found (Err error) = IsRefusedWith size found error

-- A call that reads a file of this name by at most so many reads, and asks for its size so often, to open it with chunks of this size. It fails
-- only where the depot did, never over a calm one, and refuses the file only for its first reason.
pub record OpensBy {T : Type 0} (asked most size : ℕ) (name : List ℕ) (old new : DepotState)
    (result : Result T OpenError) : Type 0 where
  pub frame : OnlyReads asked most old new
  pub fault : HasExactCause Fault old.faults new.faults result
  pub calm : IsTrue old.calm → IsErrOf result Fault → ⊥
  pub refused : IfSome old.files (λ held. IsRefusedIn size (get held name) result)

-- the depot was read just so often
abbrev pub ReadsJust : ℕ → DepotState → DepotState → Type 0
ReadsJust count old new = new.reads ≡ counted_times count old.reads

-- .. at most so often
abbrev pub ReadsUpTo : ℕ → DepotState → DepotState → Type 0
ReadsUpTo most old new = new.reads ≤ old.reads + most

abbrev pub AreBytes : List ℕ → Type 0
AreBytes bytes = All (λ byte. byte < 256) bytes

-- why an index wasn't read in a file of so many bytes: it is refused, or there was no memory
abbrev pub IsRefusedByIndex : ℕ → List ℕ → IndexError → Type 0
IsRefusedByIndex size counts (index_errors.Grid e) = refusal_by_index size counts ≡ Some e
IsRefusedByIndex size counts index_errors.Memory = Unit {0}

-- why chunks of this size weren't planned: there are too many, or there was no memory
abbrev pub IsRefusedByChunks : ℕ → List ℕ → PlanError → Type 0
IsRefusedByChunks size counts (plan_errors.TooManyChunks chunks) =
    refusal_by_chunks size counts ≡ Some (grid_errors.TooManyChunks chunks)
IsRefusedByChunks size counts plan_errors.Memory = Unit {0}

-- these bytes aren't refused by their head, and this is their shape
pub record HasHead (shape : Dimensions) (bytes : List ℕ) : Type 0 where
  pub taken : refusal_by_head (length bytes) (take 16 bytes) ≡ None
  pub is : shape ≡ shape_in bytes
  pub small : AreBytes (take 16 bytes)

-- nor by their index, and their blocks have so many edges
pub record HasIndex (shape : Dimensions) (counts : List ℕ) (bytes : List ℕ) : Type 0 where
  pub head : HasHead shape bytes
  pub taken : refusal_by_index (length bytes) (counts_in bytes) ≡ None
  pub is : counts ≡ counts_in bytes
  pub small : AreBytes (take (index_end shape) bytes)

-- a chunk's edges, each with the number of its block
abbrev pub placed_of : List Edge → Place → List (ℕ × Edge)
placed_of edges place = map (λ e. (place.block, e)) (base_of edges place)

-- how many edges so many first chunks have
abbrev pub edges_before : List Place → ℕ → ℕ
edges_before places k = sum_by (λ place. place.count) (take k places)

-- so many first chunks of these bytes have their labels, and all of their edges lie in their blocks
pub record HasLabelled (size k : ℕ) (cat : Catalogue) (bytes : List ℕ) : Type 0 where
  pub index : HasIndex (shape_in bytes) (counts_in bytes) bytes
  pub few : refusal_by_chunks size (counts_in bytes) ≡ None
  pub labels : cat ≡ labelled_up_to (shape_in bytes) (chunks_of size (counts_in bytes)) (edges_in bytes) k
  pub placed : position (is_misplaced (shape_in bytes)) (flat_map (placed_of (edges_in bytes)) (take k (chunks_of size (counts_in bytes)))) ≡ None
  pub small : AreBytes (take (index_end (shape_in bytes) + 12 * edges_before (chunks_of size (counts_in bytes)) k) bytes)

-- two catalogues of the same chunks
abbrev pub IsSameCut : Catalogue → Catalogue → Type 0
IsSameCut old new = (new.dimensions ≡ old.dimensions) × (new.places ≡ old.places)

-- at most this chunk has another label
abbrev pub IsSetAt : ℕ → Catalogue → Catalogue → Type 0
IsSetAt chunk old new = (c : ℕ) → c ≢ chunk → label_at new c ≡ label_at old c

-- chunks from this one on have no label yet
abbrev pub IsFreshFrom : ℕ → Catalogue → Type 0
IsFreshFrom k cat = (c : ℕ) → k ≤ c → label_at cat c ≡ []

-- chunks of this size at most, not too many, none of which has a label yet
pub record IsPlanned (size : ℕ) (cat : Catalogue) : Type 0 where
  pub fresh : IsFreshFrom 0 cat
  pub few : length cat.places ≤ MAX_CHUNKS
  pub short : (c : ℕ) → (place_at cat c).count ≤ size

-- edges up to the first that isn't in the block, which is kept apart
abbrev pub Decodes : (Edge → Bool) → List Edge → List Edge → Option Edge → Type 0
Decodes is_in read kept None = (kept ≡ read) × (position (λ e. not (is_in e)) read ≡ None)
Decodes is_in read kept (Some stray) =
    (position (λ e. not (is_in e)) read ≡ Some (length kept)) × (slice_get read (length kept) ≡ Some stray)

-- a chunk takes one read, and none where it has no edges
abbrev pub chunk_reads : Place → ℕ
chunk_reads place = min 1 place.count

-- how many reads so many first chunks take
abbrev pub reads_before : List Place → ℕ → ℕ
reads_before places k = sum_by chunk_reads (take k places)

-- how many reads opening these chunks takes: the head, the index, and each chunk with edges
abbrev pub opening_reads : List Place → ℕ
opening_reads places = 2 + sum_by chunk_reads places

-- whether neither a file's head nor its index is refused, nor its number of chunks: then its chunks are read
abbrev pub are_chunks_read : ℕ → List ℕ → Bool
are_chunks_read size bytes =
    is_none (refusal_by_head (length bytes) (take 16 bytes))
    && is_none (refusal_by_index (length bytes) (counts_in bytes))
    && is_none (refusal_by_chunks size (counts_in bytes))

-- how many reads its chunks take up to the first edge that isn't in its block: one for each chunk with edges
unfoldable pub edge_reads : Dimensions → List Edge → List Place → ℕ
edge_reads d edges [] = 0
edge_reads d edges (place ∷ places) =
    chunk_reads place
    + (if is_none (position (is_misplaced d) (placed_of edges place)) then edge_reads d edges places else 0)

-- no more was read than these chunks of these bytes take up to the first such edge
abbrev pub LabelsBy : List Place → DepotState → DepotState → List ℕ → Type 0
LabelsBy places old new bytes = ReadsUpTo (edge_reads (shape_in bytes) (edges_in bytes) places) old new

-- .. and just as much
abbrev pub LabelsJust : List Place → DepotState → DepotState → List ℕ → Type 0
LabelsJust places old new bytes = ReadsJust (edge_reads (shape_in bytes) (edges_in bytes) places) old new

-- how many reads its head and its index take: none where it is too short for a head, one where that refuses it
abbrev pub head_reads : List ℕ → ℕ
head_reads bytes =
    if nat_lt (length bytes) HEAD_SIZE then 0
    else if is_none (refusal_by_head (length bytes) (take 16 bytes)) then 2
    else 1

-- how many reads opening a file takes, up to the one that shows its refusal
abbrev pub file_reads : ℕ → List ℕ → ℕ
file_reads size bytes =
    if are_chunks_read size bytes then 2 + edge_reads (shape_in bytes) (edges_in bytes) (chunks_of size (counts_in bytes))
    else head_reads bytes
