-- What follows from the files that a run loaded.
use Rattle.std.specs.Prelude.{◌≡◌, ◌≢◌, ℕ, ◌+◌, ◌≤◌, List, Option, Some, None, IfSome, IsSomeAnd, Result, Ok, Err, IfErr, refl}
use Rattle.std.specs.FinMap.{get}
use Rattle.std.proofs.Common.{sym, ap, ◌∙◌, inl, inr, subst, arith}
use Rattle.std.proofs.lemmas.Option.{none-some}
use Rattle.gm_outside.specs.Files.{Files}
use Rattle.gm_grid.specs.Format.{IsGrid, dimensions_of}
use Rattle.gm_grid.specs.GridBytes.{shape_in}
use Rattle.gm_base.specs.declared.edge.Edge.{Edge}
use Rattle.gm_label.specs.Catalogues.{Catalogue}
use Rattle.gm_grid.specs.GridRefusalsRules.{option_or-split}
use Rattle.gm_source.specs.Openings.{IsTold, IsCatalogueOf, ReadsJust, ReadsUpTo}
use Rattle.gm_jobs.specs.StatedJobs.{StatedJob}
use Rattle.gm_words.specs.Commands.{RunCommand}
use Rattle.gm_base.specs.declared.limits.TheConstants.{MAX_CHUNKS}
use Rattle.gm_outside.specs.States.{DepotState}
use Rattle.gm_commands.specs.declared.failure.Failure.{Failure}
use Rattle.gm_commands.specs.declared.failure.Operand.TheVariants.{Edges, Grid, Jobs}
use Rattle.gm_commands.specs.declared.failure.Failure.TheVariants.{Refused, ReadFailed, WriteFailed, OutputFailed, OutOfMemory}
use Rattle.gm_commands.specs.declared.failure.Refusal.{Refusal}
use Rattle.gm_commands.specs.Readings.{AreTaken, AsksJust, IsReadingFailure, Reading, ReadsFiles}
use Rattle.gm_commands.specs.ReadingsRules.{AreApart, reads_files-refused, reads_files-then, reads_files-same}
use Rattle.gm_tools.specs.Grids.{OpensGrid, grid_reading}
use Rattle.gm_top.specs.RunEndings.{IsRunFailure, OpenedFew, StopsAtGrid, StopsWhereRefused, grid_reads}
use Rattle.gm_top.specs.RunReadings.{HoldsRun, TellsJobs, files_reading, jobs_reading, jobs_reading_by_grid, vertices_of_file}

there : {P : List ℕ → Type 0} (found : Option (List ℕ)) → IsSomeAnd found P → (bytes : List ℕ) × (found ≡ Some bytes) × P bytes
there None told = absurd told
there (Some bytes) told = (bytes, refl, told)

-- both files were loaded from the same ones
pub holds_run : (told told' : Option Files) (command : RunCommand) (cat : Catalogue) (n : ℕ) (jobs : List StatedJob) → told' ≡ told → n ≡ cat.dimensions.n
    → IsTold told command.grid (λ bytes. IsCatalogueOf bytes command.chunk cat) → IfSome told' (λ held. TellsJobs held command.jobs n jobs)
    → IfSome told (λ held. HoldsRun command held cat jobs)
holds_run None told' command cat n jobs same count grid tells = tt
holds_run (Some held) told' command cat n jobs same count grid tells =
    let here = there (get held command.grid) grid in
    let told_jobs = subst (λ (told : Option Files). IfSome told (λ files. TellsJobs files command.jobs n jobs)) same tells in
    record {
      bytes = here.0;
      grid_file = here.1;
      grid = here.2;
      told_jobs = subst (λ (m : ℕ). TellsJobs held command.jobs m jobs) count told_jobs;
    }

-- the law of a grid's shape
abbrev pub Shapes : Type 0
Shapes = (bytes : List ℕ) (n parts : ℕ) (blocks : List (List Edge)) → IsGrid bytes n parts blocks → shape_in bytes ≡ dimensions_of n parts

-- the jobs' reading goes by as many vertices as the grid's file tells
pub by_grid : (told : Option Files) (command : RunCommand) (cat : Catalogue) (n : ℕ) → Shapes → n ≡ cat.dimensions.n
    → IsTold told command.grid (λ bytes. IsCatalogueOf bytes command.chunk cat)
    → IfSome told (λ held. (jobs_reading_by_grid command).refusal held ≡ (jobs_reading command n).refusal held)
by_grid None command cat n shapes count grid = tt
by_grid (Some held) command cat n shapes count grid =
    let here = there (get held command.grid) grid in
    let is = here.2 in
    let vertices : vertices_of_file (get held command.grid) ≡ n =
    ap vertices_of_file here.1
    ∙ ap (λ d. d.n) (shapes here.0 is.n is.parts is.blocks is.grid)
    ∙ sym (count ∙ ap (λ (known : Catalogue). known.dimensions.n) is.all) in
    ap (λ (m : ℕ). (jobs_reading command m).refusal held) vertices

-- the two files of a run are two
apart : (command : RunCommand) → AreApart (grid_reading command.grid command.chunk) (jobs_reading_by_grid command)
apart command Edges reads = refl
apart command Grid reads = absurd cc
apart command Jobs reads = refl

-- the same reading with another answer of the same kind
reads-ok : {X Y : Type 0} (files most : ℕ) (reading : Reading) (old new : DepotState) (x : X) (y : Y)
    → ReadsFiles files most reading old new (Ok x) → ReadsFiles files most reading old new (Ok y)
reads-ok files most reading old new x y a = record { frame = a.frame; ok = a.ok; asked = a.asked; err = tt }

reads-err : {X Y : Type 0} (files most : ℕ) (reading : Reading) (old new : DepotState) (failure : Failure)
    → ReadsFiles {T = X} files most reading old new (Err failure) → ReadsFiles {T = Y} files most reading old new (Err failure)
reads-err files most reading old new failure a = record { frame = a.frame; ok = tt; asked = tt; err = a.err }

-- the grid was opened, and then the job text was read, or couldn't be
pub loaded : {X Y : Type 0} (old mid new : DepotState) (command : RunCommand) (cat : Catalogue) (n : ℕ) (x : X) (y : Y) → Shapes → n ≡ cat.dimensions.n
    → IsTold old.files command.grid (λ bytes. IsCatalogueOf bytes command.chunk cat)
    → ReadsFiles 1 (2 + MAX_CHUNKS) (grid_reading command.grid command.chunk) old mid (Ok cat)
    → ReadsFiles 1 1 (jobs_reading command n) mid new (Ok x)
    → ReadsFiles 2 (3 + MAX_CHUNKS) (files_reading command) old new (Ok y)
loaded old mid new command cat n x y shapes count grid first second =
    let told = subst (λ (files : Option Files). IsTold files command.grid (λ bytes. IsCatalogueOf bytes command.chunk cat)) (sym first.frame.frame.files) grid in
    let by_file = reads_files-same mid new 1 1 (jobs_reading command n) (jobs_reading_by_grid command).refusal (Ok x) (by_grid mid.files command cat n shapes count told) second in
    reads_files-then old mid new 1 (2 + MAX_CHUNKS) 1 1 (grid_reading command.grid command.chunk) (jobs_reading_by_grid command) cat (Ok y) (apart command) refl first
    (reads-ok 1 1 (jobs_reading_by_grid command) mid new x y by_file)

pub not_loaded : {X Y : Type 0} (old mid new : DepotState) (command : RunCommand) (cat : Catalogue) (n : ℕ) (failure : Failure) → Shapes → n ≡ cat.dimensions.n
    → IsTold old.files command.grid (λ bytes. IsCatalogueOf bytes command.chunk cat)
    → ReadsFiles 1 (2 + MAX_CHUNKS) (grid_reading command.grid command.chunk) old mid (Ok cat)
    → ReadsFiles {T = X} 1 1 (jobs_reading command n) mid new (Err failure)
    → ReadsFiles {T = Y} 2 (3 + MAX_CHUNKS) (files_reading command) old new (Err failure)
not_loaded {X = X} {Y = Y} old mid new command cat n failure shapes count grid first second =
    let told = subst (λ (files : Option Files). IsTold files command.grid (λ bytes. IsCatalogueOf bytes command.chunk cat)) (sym first.frame.frame.files) grid in
    let by_file = reads_files-same {T = X} mid new 1 1 (jobs_reading command n) (jobs_reading_by_grid command).refusal (Err failure) (by_grid mid.files command cat n shapes count told) second in
    reads_files-then old mid new 1 (2 + MAX_CHUNKS) 1 1 (grid_reading command.grid command.chunk) (jobs_reading_by_grid command) cat (Err failure) (apart command) refl first
    (reads-err {X = X} {Y = Y} 1 1 (jobs_reading_by_grid command) mid new failure by_file)

-- the grid wasn't opened, and so the files weren't loaded
pub not_opened : {X Y : Type 0} (old new : DepotState) (command : RunCommand) (failure : Failure)
    → ReadsFiles {T = X} 1 (2 + MAX_CHUNKS) (grid_reading command.grid command.chunk) old new (Err failure)
    → ReadsFiles {T = Y} 2 (3 + MAX_CHUNKS) (files_reading command) old new (Err failure)
not_opened {X = X} {Y = Y} old new command failure a =
    reads_files-refused {X = X} {Y = Y} old new 1 (2 + MAX_CHUNKS) 2 (3 + MAX_CHUNKS) (grid_reading command.grid command.chunk)
    (jobs_reading_by_grid command) (Err failure) (Err failure) (omega arith) (omega arith) refl refl a

-- the grid was opened, and then the job text was read at most
pub opened_more : (told : Option Files) (command : RunCommand) (old mid new : DepotState)
    → IfSome told (λ held. ReadsUpTo (grid_reads command held) old mid) → new.reads ≤ mid.reads + 1 → IfSome told (OpenedFew command old new)
opened_more None command old mid new few more = tt
opened_more (Some held) command old mid new few more = omega (arith, few, more)

-- the grid wasn't opened
pub stopped_at : (command : RunCommand) (old new : DepotState) (status : ℕ) → OpensGrid command.grid command.chunk old new status
    → StopsWhereRefused command old new status
stopped_at command old new status a = stopped old.files a.few a.exact
  where
    stopped : (told : Option Files) → IfSome told (λ held. ReadsUpTo (grid_reads command held) old new)
        → (status ≢ 6 → status ≢ 8 → IfSome told (λ held. ReadsJust (grid_reads command held) old new))
        → IfSome told (λ held. (refusal : Refusal) → (grid_reading command.grid command.chunk).refusal held ≡ Some refusal
        → StopsAtGrid command old new status held)
    stopped None few exact = tt
    stopped (Some held) few exact = λ refusal is. record { few = few; exact = exact }

-- the grid is taken
pub not_stopped : (command : RunCommand) (old new : DepotState) (status : ℕ) → AreTaken (grid_reading command.grid command.chunk) old.files
    → StopsWhereRefused command old new status
not_stopped command old new status taken = going old.files taken
  where
    going : (told : Option Files) → AreTaken (grid_reading command.grid command.chunk) told
        → IfSome told (λ held. (refusal : Refusal) → (grid_reading command.grid command.chunk).refusal held ≡ Some refusal
        → StopsAtGrid command old new status held)
    going None taken = tt
    going (Some held) taken = λ refusal is. absurd (none-some refusal (sym taken ∙ is))

-- and so where the files are
pub grid_taken : (command : RunCommand) (told : Option Files) → AreTaken (files_reading command) told
    → AreTaken (grid_reading command.grid command.chunk) told
grid_taken command None taken = tt
grid_taken command (Some held) taken =
    (option_or-split ((grid_reading command.grid command.chunk).refusal held) ((jobs_reading_by_grid command).refusal held) taken).0

-- a failure of the files is one of the run, and want of memory behind them another
pub files_failure : (command : RunCommand) (old new : DepotState) (failure : Failure) → IsReadingFailure (files_reading command) old new failure
    → IsRunFailure command old new failure
files_failure command old new (Refused refusal) is = is
files_failure command old new (ReadFailed operand) is = is
files_failure command old new (WriteFailed operand) is = is
files_failure command old new OutputFailed is = is
files_failure command old new OutOfMemory is = inl is

pub memory_failure : {X : Type 0} (command : RunCommand) (old new : DepotState) (result : Result X Failure)
    → IfErr result (λ failure. failure ≡ OutOfMemory) → AreTaken (files_reading command) old.files → AsksJust 2 old new
    → IfErr result (IsRunFailure command old new)
memory_failure command old new (Ok x) memory taken asked = tt
memory_failure command old new (Err failure) memory taken asked =
    subst (λ (f : Failure). IsRunFailure command old new f) (sym memory) (inr (refl, record { taken = taken; asked = asked }))
