-- What a text lists by its lines is what the reader makes of it byte by byte.
use Rattle.std.proofs.Common.{ℕ, ◌<◌, ◌≡◌, Bool, true, false, List, [], ◌∷◌, length, Result, Ok, Err, refl, ap, sym, ◌∙◌, arith}
use Rattle.std.specs.Prelude.{if◌then◌else◌}
use Rattle.std.specs.List.{slice_split, onto_first, fold}
use Rattle.std.proofs.lemmas.List.Splits.{length-slice_split}
use Rattle.gm_base.specs.declared.edge.Edge.{Edge}
use Rattle.gm_base.specs.declared.limits.TheConstants.{MAX_EDGES}
use Rattle.gm_text.specs.Texts.{is_line_end, without_empty_rest, without_rest}
use Rattle.gm_edges.specs.declared.edge_error.EdgeListRefusal.{EdgeListRefusal}
use Rattle.gm_edges.specs.declared.line_state.WordPlace.TheVariants.{First}
use Rattle.gm_edges.specs.declared.scanner.Scanner.{Scanner}
use Rattle.gm_edges.specs.EdgeText.{edges_after, edges_after_line, next_line_number, edges_of_lines, edge_list_of, ended_edges_of}
use Rattle.gm_edges.specs.LineStates.{line_at, line_after, meaning_at_end}
use Rattle.gm_edges.specs.ReaderStates.{Scanned, scanner_at_start, at_next_line, edges_at_end, edges_of_scanned, after_byte, after_bytes}
use Rattle.gm_edges.proofs.RefusedReaders.{refusal_stays}
use Rattle.gm_edges.proofs.LinesByByte.{line_means}

-- the edges after the present line, that goes on with this part
abbrev edges_with : Scanner → List ℕ → Result (List Edge) EdgeListRefusal
edges_with scanner part = edges_after scanner.n MAX_EDGES scanner.number scanner.edges (meaning_at_end (fold line_after scanner.line part))

-- the edges of a text that goes on with these parts, each but the last a line that has ended
abbrev edges_of_parts : Scanner → List (List ℕ) → Result (List Edge) EdgeListRefusal
edges_of_parts scanner [] = edges_with scanner []
edges_of_parts scanner (part ∷ parts) = edges_of_lines scanner.n MAX_EDGES (next_line_number scanner.number) (edges_with scanner part) parts

still_refused : (n most number : ℕ) (refusal : EdgeListRefusal) (lines : List (List ℕ)) → edges_of_lines n most number (Err refusal) lines ≡ Err refusal
still_refused n most number refusal [] = refl
still_refused n most number refusal (line ∷ lines) = still_refused n most (next_line_number number) refusal lines

-- a byte of the present line belongs to the first part
onto_parts : (scanner : Scanner) (byte : ℕ) (parts : List (List ℕ))
    → edges_of_parts scanner (onto_first byte parts) ≡ edges_of_parts (record scanner { line = line_after scanner.line byte }) parts
onto_parts scanner byte [] = refl
onto_parts scanner byte (part ∷ parts) = refl

-- after a line end the parts begin a new line
next_parts : (n number : ℕ) (edges : List Edge) (parts : List (List ℕ))
    → edges_of_lines n MAX_EDGES number (Ok edges) parts
    ≡ edges_of_parts (record { n = n; number = number; line = line_at First; edges = edges }) parts
next_parts n number edges [] = refl
next_parts n number edges (part ∷ parts) =
    ap (λ meaning. edges_of_lines n MAX_EDGES (next_line_number number) (edges_after n MAX_EDGES number edges meaning) parts) (sym (line_means part))

-- after a line end the reader is at the next line, or refused
line_step : (scanner : Scanner) (edges : Result (List Edge) EdgeListRefusal) (bytes : List ℕ) (parts : List (List ℕ))
    → ((next : Scanner) → edges_of_scanned (after_bytes (Ok next) bytes) ≡ edges_of_parts next parts)
    → edges_of_scanned (after_bytes (at_next_line scanner edges) bytes) ≡ edges_of_lines scanner.n MAX_EDGES (next_line_number scanner.number) edges parts
line_step scanner (Ok edges) bytes parts law =
    law (record scanner { number = next_line_number scanner.number; line = line_at First; edges = edges })
    ∙ sym (next_parts scanner.n (next_line_number scanner.number) edges parts)
line_step scanner (Err refusal) bytes parts law =
    ap edges_of_scanned (refusal_stays refusal bytes) ∙ sym (still_refused scanner.n MAX_EDGES (next_line_number scanner.number) refusal parts)

byte_step : (line_end : Bool) (scanner : Scanner) (byte : ℕ) (bytes : List ℕ) (parts : List (List ℕ)) → is_line_end byte ≡ line_end
    → ((next : Scanner) → edges_of_scanned (after_bytes (Ok next) bytes) ≡ edges_of_parts next parts)
    → edges_of_scanned (after_bytes (after_byte (Ok scanner) byte) bytes)
    ≡ edges_of_parts scanner (if is_line_end byte then [] ∷ parts else onto_first byte parts)
byte_step true scanner byte bytes parts e law = rw e (line_step scanner (edges_at_end scanner) bytes parts law)
byte_step false scanner byte bytes parts e law =
    rw e (law (record scanner { line = line_after scanner.line byte }) ∙ sym (onto_parts scanner byte parts))

parts_law : (scanner : Scanner) (bytes : List ℕ) → edges_of_scanned (after_bytes (Ok scanner) bytes) ≡ edges_of_parts scanner (slice_split is_line_end bytes)
parts_law scanner [] = refl
parts_law scanner (byte ∷ bytes) =
    byte_step (is_line_end byte) scanner byte bytes (slice_split is_line_end bytes) refl (λ next. parts_law next bytes)

-- an empty rest lists nothing
empty_rest : (n number : ℕ) (before : Result (List Edge) EdgeListRefusal) (parts : List (List ℕ))
    → edges_of_lines n MAX_EDGES number before (without_empty_rest parts) ≡ edges_of_lines n MAX_EDGES number before parts
empty_rest n number before [] = refl
empty_rest n number (Ok edges) ([] ∷ []) = refl
empty_rest n number (Err refusal) ([] ∷ []) = refl
empty_rest n number before ((byte ∷ rest) ∷ []) = refl
empty_rest n number before (line ∷ next ∷ more) =
    empty_rest n (next_line_number number) (edges_after_line n MAX_EDGES number before line) (next ∷ more)

-- a reader that has read the whole text answers its edges
pub text_law : (n : ℕ) (text : List ℕ) → edges_of_scanned (after_bytes (Ok (scanner_at_start n)) text) ≡ edge_list_of text n
text_law n text =
    parts_law (scanner_at_start n) text
    ∙ sym (next_parts n 1 [] (slice_split is_line_end text))
    ∙ sym (empty_rest n 1 (Ok []) (slice_split is_line_end text))

-- the edges of the lines that have ended
abbrev pub ended_of : Scanned → Result (List Edge) EdgeListRefusal
ended_of (Ok scanner) = Ok scanner.edges
ended_of (Err refusal) = Err refusal

abbrev ended_of_parts : Scanner → List (List ℕ) → Result (List Edge) EdgeListRefusal
ended_of_parts scanner [] = Ok scanner.edges
ended_of_parts scanner (part ∷ []) = Ok scanner.edges
ended_of_parts scanner (part ∷ next ∷ more) =
    edges_of_lines scanner.n MAX_EDGES (next_line_number scanner.number) (edges_with scanner part) (without_rest (next ∷ more))

ended_onto : (scanner : Scanner) (byte : ℕ) (parts : List (List ℕ))
    → ended_of_parts scanner (onto_first byte parts) ≡ ended_of_parts (record scanner { line = line_after scanner.line byte }) parts
ended_onto scanner byte [] = refl
ended_onto scanner byte (part ∷ []) = refl
ended_onto scanner byte (part ∷ next ∷ more) = refl

ended_next : (n number : ℕ) (edges : List Edge) (parts : List (List ℕ))
    → edges_of_lines n MAX_EDGES number (Ok edges) (without_rest parts)
    ≡ ended_of_parts (record { n = n; number = number; line = line_at First; edges = edges }) parts
ended_next n number edges [] = refl
ended_next n number edges (part ∷ []) = refl
ended_next n number edges (part ∷ next ∷ more) =
    ap (λ meaning. edges_of_lines n MAX_EDGES (next_line_number number) (edges_after n MAX_EDGES number edges meaning) (without_rest (next ∷ more)))
    (sym (line_means part))

ended_by_line : (scanner : Scanner) (edges : Result (List Edge) EdgeListRefusal) (bytes : List ℕ) (parts : List (List ℕ))
    → ((next : Scanner) → ended_of (after_bytes (Ok next) bytes) ≡ ended_of_parts next parts)
    → ended_of (after_bytes (at_next_line scanner edges) bytes)
    ≡ edges_of_lines scanner.n MAX_EDGES (next_line_number scanner.number) edges (without_rest parts)
ended_by_line scanner (Ok edges) bytes parts law =
    law (record scanner { number = next_line_number scanner.number; line = line_at First; edges = edges })
    ∙ sym (ended_next scanner.n (next_line_number scanner.number) edges parts)
ended_by_line scanner (Err refusal) bytes parts law =
    ap ended_of (refusal_stays refusal bytes) ∙ sym (still_refused scanner.n MAX_EDGES (next_line_number scanner.number) refusal (without_rest parts))

ended_byte : (line_end : Bool) (scanner : Scanner) (byte : ℕ) (bytes : List ℕ) (parts : List (List ℕ)) → is_line_end byte ≡ line_end → 0 < length parts
    → ((next : Scanner) → ended_of (after_bytes (Ok next) bytes) ≡ ended_of_parts next parts)
    → ended_of (after_bytes (after_byte (Ok scanner) byte) bytes)
    ≡ ended_of_parts scanner (if is_line_end byte then [] ∷ parts else onto_first byte parts)
ended_byte true scanner byte bytes [] e some law = absurd (omega arith)
ended_byte true scanner byte bytes (part ∷ parts) e some law = rw e (ended_by_line scanner (edges_at_end scanner) bytes (part ∷ parts) law)
ended_byte false scanner byte bytes parts e some law =
    rw e (law (record scanner { line = line_after scanner.line byte }) ∙ sym (ended_onto scanner byte parts))

ended_parts_law : (scanner : Scanner) (bytes : List ℕ) → ended_of (after_bytes (Ok scanner) bytes) ≡ ended_of_parts scanner (slice_split is_line_end bytes)
ended_parts_law scanner [] = refl
ended_parts_law scanner (byte ∷ bytes) =
    ended_byte (is_line_end byte) scanner byte bytes (slice_split is_line_end bytes) refl
    (omega (arith, length-slice_split is_line_end bytes)) (λ next. ended_parts_law next bytes)

-- a reader of a text so far has the edges of the lines that have ended in it, or their first refusal
pub ended_law : (n : ℕ) (text : List ℕ) → ended_of (after_bytes (Ok (scanner_at_start n)) text) ≡ ended_edges_of text n
ended_law n text = ended_parts_law (scanner_at_start n) text ∙ sym (ended_next n 1 [] (slice_split is_line_end text))
