-- Refusals stay.
use Rattle.std.proofs.Common.{ℕ, suc, ◌≡◌, ◌<◌, List, length, get_or, drop, drop-cons, Option, Some, None, Result, Ok, Err, IfSome, refl, ap, ◌∙◌}
use Rattle.std.proofs.lemmas.List.Folds.{fold_stays}
use Rattle.gm_base.specs.declared.edge.Edge.{Edge}
use Rattle.gm_edges.specs.declared.edge_error.EdgeError.{EdgeError}
use Rattle.gm_edges.specs.declared.edge_error.EdgeListRefusal.{EdgeListRefusal}
use Rattle.gm_edges.specs.declared.scanner.Scanner.{Scanner}
use Rattle.gm_edges.specs.EdgeErrors.{refusal_of, IsRefusalUnlessMemory}
use Rattle.gm_edges.specs.ReaderStates.{after_byte, after_bytes, at_next_line, edges_at_end}

-- a text that is refused stays so, whatever follows
pub refusal_stays : (refusal : EdgeListRefusal) (bytes : List ℕ) → after_bytes (Err refusal) bytes ≡ Err refusal
refusal_stays refusal bytes = fold_stays after_byte (Err refusal) (λ _. refl) bytes

-- a line that is refused refuses the bytes that it begins in
refused_within : (refusal : Option EdgeListRefusal) (scanner : Scanner) (edges : Result (List Edge) EdgeListRefusal) (bytes : List ℕ)
    → IfSome refusal (λ it. edges ≡ Err it) → IfSome refusal (λ it. after_bytes (at_next_line scanner edges) bytes ≡ Err it)
refused_within None scanner edges bytes refused = tt
refused_within (Some it) scanner edges bytes refused = ap (λ x. after_bytes (at_next_line scanner x) bytes) refused ∙ refusal_stays it bytes

-- and so does a line that is refused at its end anywhere in the bytes
pub refused_at : (error : EdgeError) (scanner : Scanner) (bytes : List ℕ) (i : ℕ) → i < length bytes → get_or bytes i 0 ≡ 10
    → IsRefusalUnlessMemory error (edges_at_end scanner) → IsRefusalUnlessMemory error (after_bytes (Ok scanner) (drop i bytes))
refused_at error scanner bytes i inside line_end refused =
    rw (drop-cons bytes i 0 inside, line_end) (refused_within (refusal_of error) scanner (edges_at_end scanner) (drop (suc i) bytes) refused)
