-- What a reader answers in place of edges, or of a piece that was read: the refusal of its text, or want of memory.
use Rattle.std.specs.Prelude.{◌≡◌, Option, Some, None, Result, Err, IfSome, IsOk, MatchResult, Ok}
use Rattle.gm_edges.specs.declared.edge_error.EdgeError.{EdgeError}
use Rattle.gm_edges.specs.declared.edge_error.EdgeError.TheVariants as EdgeErrors
use Rattle.gm_edges.specs.declared.edge_error.EdgeListRefusal.{EdgeListRefusal}
use Rattle.gm_edges.specs.declared.edge_error.EdgeListRefusal.TheVariants.{BadLine, NoVertex, TooManyEdges}

-- the text's refusal, where memory didn't run out
abbrev pub refusal_of : EdgeError → Option EdgeListRefusal
refusal_of (EdgeErrors.BadLine line) = Some (BadLine line)
refusal_of (EdgeErrors.NoVertex line) = Some (NoVertex line)
refusal_of (EdgeErrors.TooManyEdges line) = Some (TooManyEdges line)
refusal_of EdgeErrors.Memory = None

-- the error is the expected refusal, where memory didn't run out
abbrev pub IsRefusalUnlessMemory : {A : Type 0} → EdgeError → Result A EdgeListRefusal → Type 0
IsRefusalUnlessMemory error expected = IfSome (refusal_of error) (λ refusal. expected ≡ Err refusal)

-- the answer is the expected one, where memory didn't run out
abbrev pub IsUnlessMemory : {A : Type 0} → Result A EdgeError → Result A EdgeListRefusal → Type 0
IsUnlessMemory answer expected = MatchResult answer (λ value. expected ≡ Ok value) (λ error. IsRefusalUnlessMemory error expected)

-- refused as expected, where memory didn't run out, and not refused where no refusal is expected
abbrev pub IsRefusedAs : {A B : Type 0} → Result A EdgeError → Result B EdgeListRefusal → Type 0
IsRefusedAs answer expected = MatchResult answer (λ _. IsOk expected) (λ error. IsRefusalUnlessMemory error expected)
