-- What a reader has read, and what follows of its answers.
use Rattle.std.proofs.Common.{ℕ, ◌≡◌, List, ◌++◌, Option, Some, None, Result, Ok, Err, IfSome, refl, ap, sym, ◌∙◌}
use Rattle.std.specs.Prelude.{IfErr, IfOk, IsOk, MatchResult}
use Rattle.std.proofs.lemmas.List.Sums.{fold-append}
use Rattle.gm_base.specs.declared.edge.Edge.{Edge}
use Rattle.gm_edges.specs.declared.edge_error.EdgeError.{EdgeError}
use Rattle.gm_edges.specs.declared.edge_error.EdgeListRefusal.{EdgeListRefusal}
use Rattle.gm_edges.specs.declared.scanner.Scanner.{Scanner}
use Rattle.gm_edges.specs.EdgeText.{edge_list_of, ended_edges_of}
use Rattle.gm_edges.specs.EdgeErrors.{refusal_of, IsRefusalUnlessMemory, IsRefusedAs, IsUnlessMemory}
use Rattle.gm_edges.specs.ReaderStates.{Scanned, ReaderState, HasRead, scanner_at_start, edges_at_end, edges_of_scanned, after_byte, after_bytes}
use Rattle.gm_edges.proofs.RefusedReaders.{refusal_stays}
use Rattle.gm_edges.proofs.TextsByByte.{text_law, ended_of, ended_law}
use Rattle.gm_edges.proofs.ListedGraphs.{IsListed, listed_text}

-- what is known after a text
abbrev after_text : ℕ → List ℕ → Scanned
after_text n text = after_bytes (Ok (scanner_at_start n)) text

after_text-append : (n : ℕ) (text piece : List ℕ) → after_text n (text ++ piece) ≡ after_bytes (after_text n text) piece
after_text-append n text piece = fold-append after_byte (Ok (scanner_at_start n)) text piece

-- a reader that isn't refused reads on
pub reads_on : (n : ℕ) (text piece : List ℕ) (scanner : Scanner) (new : ReaderState) → HasRead n text (Ok scanner)
    → IsUnlessMemory new (after_bytes (Ok scanner) piece) → HasRead n (text ++ piece) new
reads_on n text piece scanner new read fed = record { state = rw (after_text-append n text piece, read.state) fed }

-- a reader that is refused stays so
refusal_decides : (n : ℕ) (text piece : List ℕ) (refusal : Option EdgeListRefusal) → IfSome refusal (λ it. after_text n text ≡ Err it)
    → IfSome refusal (λ it. after_text n (text ++ piece) ≡ Err it)
refusal_decides n text piece None refused = tt
refusal_decides n text piece (Some it) refused = rw (after_text-append n text piece, refused) (refusal_stays it piece)

pub stays_read : (n : ℕ) (text piece : List ℕ) (error : EdgeError) → HasRead n text (Err error) → HasRead n (text ++ piece) (Err error)
stays_read n text piece error read = record { state = refusal_decides n text piece (refusal_of error) read.state }

-- what is told of a text that is refused
told : {A : Type 0} (f : Scanned → Result A EdgeListRefusal) → ((it : EdgeListRefusal) → f (Err it) ≡ Err it)
    → (scanned : Scanned) (expected : Result A EdgeListRefusal) → f scanned ≡ expected
    → (refusal : Option EdgeListRefusal) → IfSome refusal (λ it. scanned ≡ Err it) → IfSome refusal (λ it. expected ≡ Err it)
told f stays scanned expected law None refused = tt
told f stays scanned expected law (Some it) refused = sym law ∙ ap f refused ∙ stays it

-- the refusals of a reader are those of the lines that have ended
pub refused_as_ended : {A : Type 0} (n : ℕ) (text : List ℕ) (reader : ReaderState) (result : Result A EdgeError) → HasRead n text reader
    → MatchResult result (λ _. IsOk reader) (λ error. reader ≡ Err error) → IsRefusedAs result (ended_edges_of text n)
refused_as_ended n text (Ok scanner) (Ok value) read answer = rw (sym (ended_law n text) ∙ ap ended_of read.state) refl
refused_as_ended n text (Err error) (Ok value) read answer = cc
refused_as_ended n text reader (Err error) read answer =
    let refused : HasRead n text (Err error) = rw answer at read in
    told ended_of (λ _. refl) (after_text n text) (ended_edges_of text n) (ended_law n text) (refusal_of error) refused.state

-- the error of a reader is the refusal of its text, where memory didn't run out
pub reads_refusal : (n : ℕ) (text : List ℕ) (error : EdgeError) → HasRead n text (Err error) → IsRefusalUnlessMemory error (edge_list_of text n)
reads_refusal n text error read =
    told edges_of_scanned (λ _. refl) (after_text n text) (edge_list_of text n) (text_law n text) (refusal_of error) read.state

-- what a reader of a whole text answers is the text's list of edges
pub reads_all : (n : ℕ) (text : List ℕ) (scanner : Scanner) (result : Result (List Edge) EdgeError) → HasRead n text (Ok scanner)
    → IsUnlessMemory result (edges_at_end scanner) → IsUnlessMemory result (edge_list_of text n)
reads_all n text scanner result read answer = rw (sym (text_law n text) ∙ ap edges_of_scanned read.state) answer

-- the edges of an answer are a graph
pub listed_answer : (n : ℕ) (text : List ℕ) (result : Result (List Edge) EdgeError) → IsUnlessMemory result (edge_list_of text n) → IfOk result (IsListed n)
listed_answer n text (Ok edges) answer = rw answer at (listed_text n text)
listed_answer n text (Err error) answer = tt

-- the refusal of a reader is that of each text that goes on from there
pub decided : {A : Type 0} (n : ℕ) (text rest : List ℕ) (reader : ReaderState) (result : Result A EdgeError) → HasRead n text reader
    → MatchResult result (λ _. IsOk reader) (λ error. reader ≡ Err error)
    → IfErr result (λ error. IsRefusalUnlessMemory error (edge_list_of (text ++ rest) n))
decided n text rest reader (Ok value) read answer = tt
decided n text rest reader (Err error) read answer =
    reads_refusal n (text ++ rest) error (stays_read n text rest error (rw answer at read))
