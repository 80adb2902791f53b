-- What opening a grid comes to, as a command's reading.
use Rattle.std.specs.Prelude.{◌≡◌, ℕ, zero, suc, ◌+◌, ◌≤◌, List, Option, Some, None, IfSome, IsSomeAnd, Err, refl}
use Rattle.std.specs.Option.{option_map}
use Rattle.std.specs.FinMap.{get}
use Rattle.std.proofs.Common.{ap, arith}
use Rattle.gm_base.specs.declared.limits.TheConstants.{MAX_CHUNKS}
use Rattle.gm_outside.specs.Files.{Files}
use Rattle.gm_outside.specs.States.{DepotState}
use Rattle.gm_grid.specs.declared.grid_error.GridError.{GridError}
use Rattle.gm_grid.specs.GridRefusals.{grid_refusal}
use Rattle.gm_label.specs.Catalogues.{Catalogue}
use Rattle.gm_source.specs.declared.errors.OpenError.{OpenError}
use Rattle.gm_source.specs.declared.errors.OpenError.TheVariants.{Missing, Fault, Memory}
use Rattle.gm_source.specs.declared.errors.OpenError.TheVariants as opened
use Rattle.gm_source.specs.Openings.{OpensBy}
use Rattle.gm_source.specs.OpeningReads.{IsReadOn, IsReadSoFar, ReadsFile}
use Rattle.gm_commands.specs.declared.failure.Operand.TheVariants as operand
use Rattle.gm_commands.specs.declared.failure.Refusal.TheVariants.{Grid}
use Rattle.gm_commands.specs.declared.failure.Refusal.TheVariants as refusals
use Rattle.gm_commands.specs.Readings.{ReadsFiles, refusal_of_file}
use Rattle.gm_tools.specs.Grids.{OpensGrid, chunked_refusal, grid_reading, opening_failure, refusal_before_grid_read}

-- a read that was made on wasn't made behind a refusal
on_unrefused : (size number : ℕ) (found : Option (List ℕ)) → IsReadOn size number found → refusal_before_grid_read size found number ≡ None
on_unrefused size zero None on = refl
on_unrefused size (suc number) None on = absurd (omega (arith, on))
on_unrefused size number (Some bytes) on = ap (option_map Grid) on

unrefused_in : (size : ℕ) (name : List ℕ) (told : Option Files) (old new : DepotState)
    → IfSome told (λ held. IsReadSoFar size old new (get held name)) → (number : ℕ) → old.reads + number ≤ new.reads
    → IfSome told (λ held. (grid_reading name size).refusal_before operand.Grid number held ≡ None)
unrefused_in size name None old new so_far number made = tt
unrefused_in size name (Some held) old new so_far number made = on_unrefused size number (get held name) (so_far number made)

-- the refusal of a file that isn't there, or is no grid in chunks of this size
missing_in : (size : ℕ) (name : List ℕ) (told : Option Files) → IfSome told (λ held. get held name ≡ None)
    → IfSome told (λ held. (grid_reading name size).refusal held ≡ Some (refusals.Missing operand.Grid))
missing_in size name None none = tt
missing_in size name (Some held) none = ap (refusal_of_file operand.Grid (chunked_refusal size)) none

found_refused : (size : ℕ) (error : GridError) (found : Option (List ℕ)) → IsSomeAnd found (λ bytes. grid_refusal size bytes ≡ Some error)
    → refusal_of_file operand.Grid (chunked_refusal size) found ≡ Some (Grid error)
found_refused size error None refused = absurd refused
found_refused size error (Some bytes) refused = ap (option_map Grid) refused

refused_in : (size : ℕ) (name : List ℕ) (error : GridError) (told : Option Files)
    → IfSome told (λ held. IsSomeAnd (get held name) (λ bytes. grid_refusal size bytes ≡ Some error))
    → IfSome told (λ held. (grid_reading name size).refusal held ≡ Some (Grid error))
refused_in size name error None refused = tt
refused_in size name error (Some held) refused = found_refused size error (get held name) refused

-- a grid that wasn't opened is refused, or a call failed or found no memory
pub not_opened : (old new : DepotState) (name : List ℕ) (size : ℕ) (error : OpenError)
    → OpensBy {T = Catalogue} 1 (2 + MAX_CHUNKS) size name old new (Err error) → ReadsFile {T = Catalogue} size name old new (Err error)
    → ReadsFiles {T = Catalogue} 1 (2 + MAX_CHUNKS) (grid_reading name size) old new (Err (opening_failure error))
not_opened old new name size Missing a reads = record {
  frame = record { questions = 1; few = omega arith; frame = a.frame };
  ok = tt;
  asked = tt;
  err = (refl, a.fault.kept (λ is. absurd cc), missing_in size name old.files a.refused, a.frame.sizes);
}
not_opened old new name size (opened.Grid error) a reads = record {
  frame = record { questions = 1; few = omega arith; frame = a.frame };
  ok = tt;
  asked = tt;
  err = (refl, a.fault.kept (λ is. absurd cc), refused_in size name error old.files a.refused, a.frame.sizes);
}
not_opened old new name size Fault a reads = record {
  frame = record { questions = 1; few = omega arith; frame = a.frame };
  ok = tt;
  asked = tt;
  err = (
    refl,
    (a.fault.failed refl, λ calm. a.calm calm refl),
    λ number made. unrefused_in size name old.files old new reads.unrefused number made,
    a.frame.sizes,
  );
}
not_opened old new name size Memory a reads = record {
  frame = record { questions = 1; few = omega arith; frame = a.frame };
  ok = tt;
  asked = tt;
  err = a.fault.kept (λ is. absurd cc);
}

-- where it was opened, whatever became of the command then
pub opened_grid-then : (old new : DepotState) (name : List ℕ) (size : ℕ) → OpensGrid name size old new 0
    → (status : ℕ) → OpensGrid name size old new status
opened_grid-then old new name size a status = record {
  frame = a.frame;
  asked = λ other. a.asked (λ is. absurd (omega (arith, is)));
  few = a.few;
  exact = λ served other. a.exact (λ is. absurd (omega (arith, is))) (λ is. absurd (omega (arith, is)));
}
