-- How a build reads its file of edges: piece by piece, up to the first refused line.
use Rattle.std.specs.Prelude.{◌≡◌, ◌≢◌, false, ℕ, ◌+◌, ◌-◌, ◌*◌, ◌≤◌, List, length, take, Option, Some, None, Result, Ok, Err, IfSome, IsSomeAnd, IsOk}
use Rattle.std.specs.Int.{div_ceil}
use Rattle.std.specs.FinMap.{get}
use Rattle.gm_base.specs.declared.edge.Edge.{Edge}
use Rattle.gm_outside.specs.Files.{Files}
use Rattle.gm_outside.specs.States.{DepotState}
use Rattle.gm_edges.specs.declared.edge_error.EdgeError.{EdgeError}
use Rattle.gm_edges.specs.declared.edge_error.EdgeListRefusal.{EdgeListRefusal}
use Rattle.gm_edges.specs.EdgeText.{edge_list_of, ended_edges_of}
use Rattle.gm_edges.specs.EdgeErrors.{refusal_of}
use Rattle.gm_edges.specs.ReaderStates.{ReaderState, HasRead}
use Rattle.gm_commands.specs.declared.failure.Operand.TheVariants.{Edges}
use Rattle.gm_commands.specs.declared.failure.Refusal.{Refusal}
use Rattle.gm_commands.specs.declared.failure.Refusal.TheVariants.{Missing, EdgeList}
use Rattle.gm_commands.specs.declared.failure.Failure.{Failure}
use Rattle.gm_commands.specs.declared.failure.Failure.TheVariants.{Refused, OutOfMemory}
use Rattle.gm_commands.specs.Readings.{AsksJust, Reading, is_operand, IsUnrefusedBefore}
use Rattle.gm_tools.specs.declared.edge_reading.TheConstants.{TEXT_PIECE}

-- why a text lists no graph
abbrev pub list_refusal : Result (List Edge) EdgeListRefusal → Option Refusal
list_refusal (Ok edges) = None
list_refusal (Err refusal) = Some (EdgeList refusal)

-- why these bytes, if there is a file, list no graph of n vertices
abbrev pub edges_refusal : ℕ → Option (List ℕ) → Option Refusal
edges_refusal n None = Some (Missing Edges)
edges_refusal n (Some text) = list_refusal (edge_list_of text n)

-- why the lines are refused that ended in the pieces before the piece of this number, counted from 1
abbrev pub refusal_before_piece : ℕ → ℕ → Option (List ℕ) → Option Refusal
refusal_before_piece n number None = None
refusal_before_piece n number (Some text) = list_refusal (ended_edges_of (take ((number - 1) * TEXT_PIECE) text) n)

-- the reading of the file of this name, for a graph of n vertices
abbrev pub edges_reading : ℕ → List ℕ → Reading
edges_reading n name = record {
  reads = is_operand Edges;
  files = 1;
  asked = λ operand. 1;
  refusal = λ files. edges_refusal n (get files name);
  refusal_before = λ operand number files. refusal_before_piece n number (get files name);
  fetches = false;
}

-- no read was made of a file that isn't there, and at most one for each piece of a text
abbrev pub ReadsAtMostPieces : DepotState → DepotState → Option (List ℕ) → Type 0
ReadsAtMostPieces old new None = new.reads ≡ old.reads
ReadsAtMostPieces old new (Some text) = new.reads ≤ old.reads + div_ceil (length text) TEXT_PIECE

-- The file's size is asked for once, by a command that ends with this status: at most once after want of memory. It is read by at most as many
-- reads as it has pieces, up to and with the one in which its first refused line ends.
pub record ReadsInPieces (n : ℕ) (name : List ℕ) (old new : DepotState) (status : ℕ) : Type 0 where
  pub asked : new.sizes ≤ old.sizes + 1
  pub asked_once : status ≢ 8 → AsksJust 1 old new
  pub few : IfSome old.files (λ held. ReadsAtMostPieces old new (get held name))
  pub unrefused : IsUnrefusedBefore (edges_reading n name) old new Edges

abbrev pub failure_by : Option EdgeListRefusal → Failure
failure_by (Some refusal) = Refused (EdgeList refusal)
failure_by None = OutOfMemory

-- the failure that a reader's error is
abbrev pub failure_of : EdgeError → Failure
failure_of error = failure_by (refusal_of error)

-- the file of this name is a text that lists these edges of n vertices
pub record ListsEdges (files : Files) (name : List ℕ) (n : ℕ) (edges : List Edge) : Type 0 where
  pub text : List ℕ
  pub file : get files name ≡ Some text
  pub lists : edge_list_of text n ≡ Ok edges

-- the file of this name has so many bytes, and these are its first
abbrev pub IsFront : Files → List ℕ → ℕ → ℕ → List ℕ → Type 0
IsFront files name size pos text = IsSomeAnd (get files name) (λ bytes. (length bytes ≡ size) × (text ≡ take pos bytes))

-- the reader has read a text over n vertices: where the files are told, the first bytes of the file of this name and size
pub record HasReadFront (n : ℕ) (files : Option Files) (name : List ℕ) (size pos : ℕ) (reader : ReaderState) : Type 0 where
  pub text : List ℕ
  pub read : HasRead n text reader
  pub front : IfSome files (λ held. IsFront held name size pos text)

-- where the files are told, no line is refused that ended in the first bytes of the file of this name
abbrev pub AreLinesTaken : ℕ → Option Files → List ℕ → ℕ → Type 0
AreLinesTaken n files name pos = IfSome files (λ held. IsSomeAnd (get held name) (λ text. IsOk (ended_edges_of (take pos text) n)))
