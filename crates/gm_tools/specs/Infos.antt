-- What an info does, and how it ends.
use Rattle.std.specs.Prelude.{◌≡◌, ℕ, ◌++◌, length, sum_by, List, Option, codes, decimal}
use Rattle.gm_outside.specs.Files.{Files}
use Rattle.gm_outside.specs.Growth.{GrewBy, GrewByPrefix}
use Rattle.gm_output.specs.Lines.{end_of_line}
use Rattle.gm_grid.specs.GridBytes.{edges_in}
use Rattle.gm_label.specs.Catalogues.{Catalogue}
use Rattle.gm_source.specs.Openings.{IsTold, IsCatalogueOf}
use Rattle.gm_words.specs.Commands.{InfoCommand}
use Rattle.gm_commands.specs.Endings.{CommandContract, KeepsAllFiles, LeavesPart, Outside}
use Rattle.gm_tools.specs.Grids.{OpensGrid, grid_reading}

-- what is written of a grid: its size, its edges, its chunks, and the pairs of all labels
unfoldable pub info_text : ℕ → ℕ → ℕ → ℕ → ℕ → List ℕ
info_text n parts edges chunks pairs =
    codes "vertices " ++ decimal n ++ codes "\nparts " ++ decimal parts ++ codes "\nedges " ++ decimal edges
    ++ codes "\nchunks " ++ decimal chunks ++ codes "\nlabels " ++ decimal pairs ++ end_of_line

-- the text of a catalogue over so many edges
abbrev pub text_of_catalogue : Catalogue → ℕ → List ℕ
text_of_catalogue cat edges =
    info_text cat.dimensions.n cat.dimensions.parts edges (length cat.places) (sum_by (λ label. length label) cat.labels)

-- This is the catalogue of the command's grid, which has so many edges, where the files are told.
abbrev pub IsOfGrid : InfoCommand → Option Files → Catalogue → ℕ → Type 0
IsOfGrid command files cat edges =
    IsTold files command.grid (λ bytes. IsCatalogueOf bytes command.chunk cat × (edges ≡ length (edges_in bytes)))

-- the numbers of the grid were written, or a first part of them, as the growth says
pub record Informs (Grew : Option (List ℕ) → Option (List ℕ) → List ℕ → Type 0)
    (command : InfoCommand) (old new : Outside) : Type 0 where
  pub cat : Catalogue
  pub edges : ℕ
  pub is : IsOfGrid command old.depot.files cat edges
  pub written : Grew old.out.written new.out.written (text_of_catalogue cat edges)

-- what an info promises: it reads the grid, and writes its numbers
abbrev pub info_contract : InfoCommand → CommandContract
info_contract command = record {
  reading = grid_reading command.grid command.chunk;
  Performs = λ old new status. (status ≡ 0) × Informs GrewBy command old new;
  most_success = 0;
  Leaves = LeavesPart (Informs GrewByPrefix command);
  Reads = OpensGrid command.grid command.chunk;
  KeepsFiles = KeepsAllFiles;
}
