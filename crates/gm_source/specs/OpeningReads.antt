-- How often a file is read that is opened, and what refuses it before each of these reads.
use Rattle.std.specs.Prelude.{◌≡◌, ℕ, zero, suc, ◌+◌, ◌≤◌, Bool, nat_lt, List, length, take, filter, flat_map, option_map, Option, Some, None, IfSome, IsSome, Result, Ok, Err}
use Rattle.std.proofs.Common.{get_or}
use Rattle.std.specs.List.{position}
use Rattle.std.specs.Option.{option_or}
use Rattle.std.specs.FinMap.{get}
use Rattle.gm_base.specs.declared.edge.Edge.{Edge}
use Rattle.gm_base.specs.Dimensions.{Dimensions}
use Rattle.gm_outside.specs.States.{DepotState}
use Rattle.gm_grid.specs.declared.grid_error.GridError.{GridError}
use Rattle.gm_grid.specs.declared.grid_error.GridError.TheVariants.{BadEdge}
use Rattle.gm_grid.specs.declared.sizes.TheConstants.{HEAD_SIZE}
use Rattle.gm_grid.specs.GridBytes.{shape_in, counts_in, edges_in}
use Rattle.gm_grid.specs.GridRefusals.{short_refusal, refusal_by_head, refusal_by_index, refusal_by_chunks, is_misplaced}
use Rattle.gm_label.specs.declared.chunk.Place.{Place}
use Rattle.gm_label.specs.Chunks.{chunks_of}
use Rattle.gm_label.specs.Catalogues.{no_place}
use Rattle.gm_source.specs.declared.errors.OpenError.{OpenError}
use Rattle.gm_source.specs.declared.errors.OpenError.TheVariants.{Missing, Grid, Fault, Memory}
use Rattle.gm_source.specs.Openings.{ReadsJust, ReadsUpTo, file_reads, head_reads, placed_of}

-- an error that refuses the file, and is neither a fault nor want of memory
abbrev pub IsVerdict : OpenError → Type 0
IsVerdict Missing = Unit {0}
IsVerdict (Grid error) = Unit {0}
IsVerdict Fault = ⊥
IsVerdict Memory = ⊥

-- the file was opened, or it is refused
abbrev pub IsJudged : {T : Type 0} → Result T OpenError → Type 0
IsJudged (Ok value) = Unit {0}
IsJudged (Err error) = IsVerdict error

-- how many reads the head and the index of a file take, if there is one
abbrev pub reads_to_plan : Option (List ℕ) → ℕ
reads_to_plan None = 0
reads_to_plan (Some bytes) = head_reads bytes

-- how many reads opening a file takes, if there is one, up to the one that shows its refusal
abbrev pub reads_to_open : ℕ → Option (List ℕ) → ℕ
reads_to_open size None = 0
reads_to_open size (Some bytes) = file_reads size bytes

-- an edge of the chunk of this number isn't in its block
abbrev pub HasStray : ℕ → ℕ → List ℕ → Type 0
HasStray size k bytes = IsSome (position (is_misplaced (shape_in bytes))
    (placed_of (edges_in bytes) (get_or (chunks_of size (counts_in bytes)) k no_place)))

abbrev pub has_edges : Place → Bool
has_edges place = nat_lt 0 place.count

-- why the edges of so many chunks with edges are refused: the first of them that isn't in its block
abbrev pub refusal_by_first_edges : Dimensions → List Edge → List Place → ℕ → Option GridError
refusal_by_first_edges d edges places k =
    option_map BadEdge (position (is_misplaced d) (flat_map (placed_of edges) (take k (filter has_edges places))))

-- why a file is refused by what was known of it before the read of this number, counted from 1: its length, then its head, then its index
-- and the number of its chunks, and then the edges of one chunk after the other
abbrev pub refusal_before_read : ℕ → List ℕ → ℕ → Option GridError
refusal_before_read size bytes zero = None
refusal_before_read size bytes (suc zero) = short_refusal (length bytes) HEAD_SIZE
refusal_before_read size bytes (suc (suc zero)) = refusal_by_head (length bytes) (take HEAD_SIZE bytes)
refusal_before_read size bytes (suc (suc (suc chunks))) =
    option_or (refusal_by_head (length bytes) (take HEAD_SIZE bytes))
    (option_or (refusal_by_index (length bytes) (counts_in bytes))
    (option_or (refusal_by_chunks size (counts_in bytes))
    (refusal_by_first_edges (shape_in bytes) (edges_in bytes) (chunks_of size (counts_in bytes)) chunks)))

-- the file was there, and wasn't refused by what was known of it, before the read of this number
abbrev pub IsReadOn : ℕ → ℕ → Option (List ℕ) → Type 0
IsReadOn size number None = number ≡ 0
IsReadOn size number (Some bytes) = refusal_before_read size bytes number ≡ None

-- before each read that was made so far the file wasn't refused by what was known of it
abbrev pub IsReadSoFar : ℕ → DepotState → DepotState → Option (List ℕ) → Type 0
IsReadSoFar size old new found = (number : ℕ) → old.reads + number ≤ new.reads → IsReadOn size number found

-- Where the files are told, no read was made behind the file's refusal; and just as many as it takes to open it where it was opened or is
-- refused.
pub record ReadsFile {T : Type 0} (size : ℕ) (name : List ℕ) (old new : DepotState) (result : Result T OpenError) : Type 0 where
  pub few : IfSome old.files (λ held. ReadsUpTo (reads_to_open size (get held name)) old new)
  pub exact : IsJudged result → IfSome old.files (λ held. ReadsJust (reads_to_open size (get held name)) old new)
  pub unrefused : IfSome old.files (λ held. IsReadSoFar size old new (get held name))
