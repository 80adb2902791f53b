-- A reader of edge lists, byte by byte: what it knows of a text so far. That this is the text's list of edges is a law.
use Rattle.std.specs.Prelude.{ℕ, if◌then◌else◌, List, [], Result, Ok, Err, fold}
use Rattle.gm_base.specs.declared.edge.Edge.{Edge}
use Rattle.gm_base.specs.declared.limits.TheConstants.{MAX_EDGES}
use Rattle.gm_text.specs.Texts.{is_line_end}
use Rattle.gm_edges.specs.declared.edge_error.EdgeError.{EdgeError}
use Rattle.gm_edges.specs.declared.edge_error.EdgeListRefusal.{EdgeListRefusal}
use Rattle.gm_edges.specs.declared.scanner.Scanner.{Scanner}
use Rattle.gm_edges.specs.declared.line_state.WordPlace.TheVariants.{First}
use Rattle.gm_edges.specs.EdgeText.{edges_after, next_line_number}
use Rattle.gm_edges.specs.EdgeErrors.{IsUnlessMemory}
use Rattle.gm_edges.specs.LineStates.{line_at, line_after, meaning_at_end}

-- what a text so far gives: what is known of it, or its refusal
abbrev pub Scanned : Type 0
Scanned = Result Scanner EdgeListRefusal

-- at the beginning of a text over n vertices
abbrev pub scanner_at_start : ℕ → Scanner
scanner_at_start n = record { n = n; number = 1; line = line_at First; edges = [] }

-- at the beginning of the next line, after these edges or a refusal
abbrev pub at_next_line : Scanner → Result (List Edge) EdgeListRefusal → Scanned
at_next_line scanner (Ok edges) = Ok (record scanner { number = next_line_number scanner.number; line = line_at First; edges = edges })
at_next_line scanner (Err refusal) = Err refusal

-- the edges, if the line ends here
abbrev pub edges_at_end : Scanner → Result (List Edge) EdgeListRefusal
edges_at_end scanner = edges_after scanner.n MAX_EDGES scanner.number scanner.edges (meaning_at_end scanner.line)

-- what is known after one more byte. A refusal stays
abbrev pub after_byte : Scanned → ℕ → Scanned
after_byte (Ok scanner) byte =
    if is_line_end byte then at_next_line scanner (edges_at_end scanner)
    else Ok (record scanner { line = line_after scanner.line byte })
after_byte (Err refusal) byte = Err refusal

-- what is known after these bytes
abbrev pub after_bytes : Scanned → List ℕ → Scanned
after_bytes scanned bytes = fold after_byte scanned bytes

-- the edges, if the text ends here
abbrev pub edges_of_scanned : Scanned → Result (List Edge) EdgeListRefusal
edges_of_scanned (Ok scanner) = edges_at_end scanner
edges_of_scanned (Err refusal) = Err refusal

-- what contracts see of a reader: what it knows of the text so far, or the error that it answers from now on
abbrev pub ReaderState : Type 0
ReaderState = Result Scanner EdgeError

-- the reader has read this text over n vertices, or memory ran out on the way
pub record HasRead (n : ℕ) (text : List ℕ) (reader : ReaderState) : Type 0 where
  pub state : IsUnlessMemory reader (after_bytes (Ok (scanner_at_start n)) text)
