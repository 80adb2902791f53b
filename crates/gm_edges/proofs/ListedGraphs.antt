-- A text that isn't refused lists a graph of n vertices, not of too many edges.
use Rattle.std.proofs.Common.{ℕ, ◌≤◌, ◌<◌, ◌≡◌, Bool, true, false, ◌&&◌, List, [], ◌∷◌, length, length-append, Result, Ok, Err, refl, arith}
use Rattle.std.specs.Prelude.{nat_lt, IfOk}
use Rattle.std.proofs.lemmas.List.Elements.{All-push}
use Rattle.std.proofs.lemmas.Bool.Decides.{nat_tests}
use Rattle.gm_base.specs.declared.edge.Edge.{Edge}
use Rattle.gm_base.specs.declared.limits.TheConstants.{MAX_EDGES}
use Rattle.gm_base.specs.Graph.{edge, HasEndsBelow, IsGraph}
use Rattle.gm_text.specs.Texts.{lines_of}
use Rattle.gm_edges.specs.declared.edge_error.EdgeListRefusal.{EdgeListRefusal}
use Rattle.gm_edges.specs.declared.line_state.Meaning.{Meaning}
use Rattle.gm_edges.specs.declared.line_state.Meaning.TheVariants.{Nothing, Lists, Refused}
use Rattle.gm_edges.specs.EdgeText.{meaning_of, edges_after, edges_after_line, next_line_number, edges_of_lines, edge_list_of}

pub record IsListed (n : ℕ) (edges : List Edge) : Type 0 where
  pub graph : IsGraph n edges
  pub few : length edges ≤ MAX_EDGES

listed_edge : (ends room : Bool) (n number from to weight : ℕ) (edges : List Edge) → IsListed n edges
    → (nat_lt from n && nat_lt to n) ≡ ends → nat_lt (length edges) MAX_EDGES ≡ room
    → IfOk (edges_after n MAX_EDGES number edges (Lists from to weight)) (IsListed n)
listed_edge false room n number from to weight edges listed e r = rw e tt
listed_edge true false n number from to weight edges listed e r = rw (e, r) tt
listed_edge true true n number from to weight edges listed e r =
    let below : from < n = grind (arith, nat_tests) in
    let to_below : to < n = grind (arith, nat_tests) in
    let some_room : length edges < MAX_EDGES = grind (arith, nat_tests) in
    rw (e, r)
    (record {
      graph = All-push (HasEndsBelow n) edges (edge from to weight) listed.graph (below, to_below);
      few = omega (arith, length-append edges (edge from to weight ∷ []));
    })

listed_after : (n number : ℕ) (edges : List Edge) (meaning : Meaning) → IsListed n edges → IfOk (edges_after n MAX_EDGES number edges meaning) (IsListed n)
listed_after n number edges Nothing listed = listed
listed_after n number edges Refused listed = tt
listed_after n number edges (Lists from to weight) listed =
    listed_edge (nat_lt from n && nat_lt to n) (nat_lt (length edges) MAX_EDGES) n number from to weight edges listed refl refl

listed_line : (n number : ℕ) (before : Result (List Edge) EdgeListRefusal) (line : List ℕ) → IfOk before (IsListed n)
    → IfOk (edges_after_line n MAX_EDGES number before line) (IsListed n)
listed_line n number (Ok edges) line listed = listed_after n number edges (meaning_of line) listed
listed_line n number (Err refusal) line listed = listed

listed_lines : (n number : ℕ) (before : Result (List Edge) EdgeListRefusal) (lines : List (List ℕ)) → IfOk before (IsListed n)
    → IfOk (edges_of_lines n MAX_EDGES number before lines) (IsListed n)
listed_lines n number before [] listed = listed
listed_lines n number before (line ∷ lines) listed =
    listed_lines n (next_line_number number) (edges_after_line n MAX_EDGES number before line) lines (listed_line n number before line listed)

-- the edges of a text are a graph
pub listed_text : (n : ℕ) (text : List ℕ) → IfOk (edge_list_of text n) (IsListed n)
listed_text n text =
    listed_lines n 1 (Ok []) (lines_of text) (record { graph = λ k d inside. absurd (omega arith); few = omega arith })
