-- How a command opens its grid: chunk by chunk, for its places and labels.
use Rattle.std.specs.Prelude.{◌≢◌, ℕ, zero, suc, ◌+◌, List, Option, Some, None, IfSome}
use Rattle.std.specs.Option.{option_map}
use Rattle.std.specs.FinMap.{get}
use Rattle.gm_base.specs.declared.limits.TheConstants.{MAX_CHUNKS}
use Rattle.gm_outside.specs.States.{DepotState}
use Rattle.gm_grid.specs.GridRefusals.{grid_refusal}
use Rattle.gm_source.specs.declared.errors.OpenError.{OpenError}
use Rattle.gm_source.specs.declared.errors.OpenError.TheVariants.{Missing, Fault, Memory}
use Rattle.gm_source.specs.declared.errors.OpenError.TheVariants as opened
use Rattle.gm_source.specs.Openings.{ReadsJust, ReadsUpTo}
use Rattle.gm_source.specs.OpeningReads.{reads_to_open, refusal_before_read}
use Rattle.gm_commands.specs.declared.failure.Operand.TheVariants as operand
use Rattle.gm_commands.specs.declared.failure.Refusal.{Refusal}
use Rattle.gm_commands.specs.declared.failure.Refusal.TheVariants.{Grid}
use Rattle.gm_commands.specs.declared.failure.Refusal.TheVariants as refusals
use Rattle.gm_commands.specs.declared.failure.Failure.{Failure}
use Rattle.gm_commands.specs.declared.failure.Failure.TheVariants.{Refused, ReadFailed, OutOfMemory}
use Rattle.gm_commands.specs.Readings.{AsksJust, Reading, ReadsWithin, reading_of_file}

-- the failure that an opening's error is
abbrev pub opening_failure : OpenError → Failure
opening_failure Missing = Refused (refusals.Missing operand.Grid)
opening_failure (opened.Grid error) = Refused (Grid error)
opening_failure Fault = ReadFailed operand.Grid
opening_failure Memory = OutOfMemory

-- why these bytes are no grid that can be cut into chunks of this size
abbrev pub chunked_refusal : ℕ → List ℕ → Option Refusal
chunked_refusal size bytes = option_map Grid (grid_refusal size bytes)

-- why a file, if there is one, is refused by what was known of it before the read of this number, counted from 1
abbrev pub refusal_before_grid_read : ℕ → Option (List ℕ) → ℕ → Option Refusal
refusal_before_grid_read size None zero = None
refusal_before_grid_read size None (suc number) = Some (refusals.Missing operand.Grid)
refusal_before_grid_read size (Some bytes) number = option_map Grid (refusal_before_read size bytes number)

-- the reading of the grid of this name, in chunks of this size
abbrev pub grid_reading : List ℕ → ℕ → Reading
grid_reading name size = record (reading_of_file operand.Grid name (chunked_refusal size)) {
  refusal_before = λ asked number files. refusal_before_grid_read size (get files name) number;
}

-- How a grid is opened by a command that ends with this status. It reads the head, the index and, where these aren't refused, each chunk with
-- edges once, up to the read that shows its refusal, and changes no file. It asks for one size. No more of it is done where a call failed or
-- memory was wanted.
pub record OpensGrid (name : List ℕ) (size : ℕ) (old new : DepotState) (status : ℕ) : Type 0 where
  pub frame : ReadsWithin 1 (2 + MAX_CHUNKS) old new
  pub asked : status ≢ 8 → AsksJust 1 old new
  pub few : IfSome old.files (λ held. ReadsUpTo (reads_to_open size (get held name)) old new)
  pub exact : status ≢ 6 → status ≢ 8 → IfSome old.files (λ held. ReadsJust (reads_to_open size (get held name)) old new)
