-- What a build does, and how it ends.
use Rattle.std.specs.Prelude.{◌≡◌, ℕ, ◌*◌, ◌++◌, length, ◌⊎◌, List, Option, IfSome, codes, decimal}
use Rattle.gm_base.specs.declared.edge.Edge.{Edge}
use Rattle.gm_outside.specs.Files.{Files}
use Rattle.gm_outside.specs.Changes.{with_file}
use Rattle.gm_outside.specs.Growth.{GrewBy, GrewByPrefix}
use Rattle.gm_outside.specs.States.{DepotState}
use Rattle.gm_output.specs.Lines.{end_of_line}
use Rattle.gm_build.specs.Blocks.{HoldsGrid, HoldsPart, IsBuiltGrid, KeepsGraph}
use Rattle.gm_commands.specs.declared.failure.Operand.TheVariants.{Grid}
use Rattle.gm_commands.specs.declared.failure.Failure.{Failure}
use Rattle.gm_commands.specs.declared.failure.Failure.TheVariants.{Refused, ReadFailed, WriteFailed, OutputFailed, OutOfMemory}
use Rattle.gm_words.specs.Commands.{BuildCommand}
use Rattle.gm_commands.specs.Endings.{CommandContract, Outside, WritesNothing}
use Rattle.gm_tools.specs.EdgeReadings.{edges_reading, ListsEdges, ReadsInPieces}

-- what is written of so many edges and blocks
unfoldable pub output_text : ℕ → ℕ → List ℕ
output_text edges blocks = codes "edges " ++ decimal edges ++ codes " blocks " ++ decimal blocks ++ end_of_line

-- these are the edges that the command's text lists, where the files are told
abbrev pub AreEdges : BuildCommand → Option Files → List Edge → Type 0
AreEdges command files edges = IfSome files (λ held. ListsEdges held command.edges command.shape.n edges)

-- The file of the command's grid is the grid of these edges, in each block in their order, and no other file has changed.
pub record MakesGrid (command : BuildCommand) (old new : DepotState) (edges : List Edge) : Type 0 where
  pub file : HoldsGrid old new command.grid command.shape edges
  pub grid : IsBuiltGrid command.shape edges
  pub graph : KeepsGraph command.shape edges

-- the command's output for these edges
abbrev pub output_of : BuildCommand → List Edge → List ℕ
output_of command edges = output_text (length edges) (command.shape.parts * command.shape.parts)

-- The grid of the text's edges was built, and the output was written, or a first part of it, as the growth says.
pub record Builds (Grew : Option (List ℕ) → Option (List ℕ) → List ℕ → Type 0)
    (command : BuildCommand) (old new : Outside) : Type 0 where
  pub edges : List Edge
  pub lists : AreEdges command old.depot.files edges
  pub built : MakesGrid command old.depot new.depot edges
  pub written : Grew old.out.written new.out.written (output_of command edges)

-- The text's edges were read, and nothing is written of their grid yet or a first part of its file; and no output.
pub record BuildsPartly (command : BuildCommand) (old new : Outside) : Type 0 where
  pub edges : List Edge
  pub lists : AreEdges command old.depot.files edges
  pub left : HoldsPart old.depot new.depot command.grid command.shape edges
  pub output : new.out.written ≡ old.out.written

-- what a build leaves of the files and of standard output after this failure
abbrev pub BuildLeaves : BuildCommand → Outside → Outside → Failure → Type 0
BuildLeaves command old new (Refused refusal) = WritesNothing old new
BuildLeaves command old new (ReadFailed operand) = WritesNothing old new
BuildLeaves command old new (WriteFailed operand) = (operand ≡ Grid) × BuildsPartly command old new
BuildLeaves command old new OutputFailed = Builds GrewByPrefix command old new
BuildLeaves command old new OutOfMemory =
    WritesNothing old new ⊎ BuildsPartly command old new ⊎ Builds GrewByPrefix command old new

-- at most the file of this name has changed
pub record KeepsOthers (name : List ℕ) (old new : DepotState) : Type 0 where
  pub kept : (new.files ≡ old.files) ⊎ ((bytes : List ℕ) × (new.files ≡ with_file old.files name bytes))

-- what a build promises: it reads the file of edges, and makes the grid of these
abbrev pub build_contract : BuildCommand → CommandContract
build_contract command = record {
  reading = edges_reading command.shape.n command.edges;
  Performs = λ old new status. (status ≡ 0) × Builds GrewBy command old new;
  most_success = 0;
  Leaves = BuildLeaves command;
  Reads = ReadsInPieces command.shape.n command.edges;
  KeepsFiles = KeepsOthers command.grid;
}
