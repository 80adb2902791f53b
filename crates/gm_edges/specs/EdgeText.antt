-- The text of an edge list. A line's words are nothing, a comment, an edge or refused.
use Rattle.std.specs.Prelude.{ℕ, ◌+◌, ◌^◌, min, nat_lt, ◌&&◌, if◌then◌else◌, List, [], ◌∷◌, ◌++◌, length, Option, Some, None, Result, Ok, Err}
use Rattle.gm_base.specs.declared.edge.Edge.{Edge}
use Rattle.gm_base.specs.declared.limits.TheConstants.{MAX_EDGES, TOP}
use Rattle.gm_base.specs.Graph.{edge}
use Rattle.gm_text.specs.Texts.{lines_of, ended_lines_of, words_of, number_in, begins_comment}
use Rattle.gm_edges.specs.declared.edge_error.EdgeListRefusal.{EdgeListRefusal}
use Rattle.gm_edges.specs.declared.edge_error.EdgeListRefusal.TheVariants.{BadLine, NoVertex, TooManyEdges}
use Rattle.gm_edges.specs.declared.line_state.Meaning.{Meaning}
use Rattle.gm_edges.specs.declared.line_state.Meaning.TheVariants.{Nothing, Lists, Refused}

abbrev pub cons_number : Option ℕ → Option (List ℕ) → Option (List ℕ)
cons_number None numbers = None
cons_number (Some number) None = None
cons_number (Some number) (Some numbers) = Some (number ∷ numbers)

-- the numbers that the words write, where each word writes one
abbrev pub numbers_in : List (List ℕ) → Option (List ℕ)
numbers_in [] = Some []
numbers_in (word ∷ more) = cons_number (number_in word) (numbers_in more)

-- two numbers are an edge with weight 1, three an edge with that weight below 2^32
abbrev pub meaning_of_numbers : Option (List ℕ) → Meaning
meaning_of_numbers (Some (from ∷ to ∷ [])) = Lists from to 1
meaning_of_numbers (Some (from ∷ to ∷ weight ∷ [])) = if nat_lt weight (2 ^ 32) then Lists from to weight else Refused
meaning_of_numbers _ = Refused

-- what a line of these words means
abbrev pub meaning_of_words : List (List ℕ) → Meaning
meaning_of_words [] = Nothing
meaning_of_words (word ∷ more) = if begins_comment word then Nothing else meaning_of_numbers (numbers_in (word ∷ more))

abbrev pub meaning_of : List ℕ → Meaning
meaning_of line = meaning_of_words (words_of line)

-- the edges after a line of this meaning, or why the line is refused: it's none of the forms, an end is n or more, or the edge is one too many
abbrev pub edges_after : (n most number : ℕ) → List Edge → Meaning → Result (List Edge) EdgeListRefusal
edges_after n most number edges Nothing = Ok edges
edges_after n most number edges Refused = Err (BadLine number)
edges_after n most number edges (Lists from to weight) =
    if nat_lt from n && nat_lt to n
    then (if nat_lt (length edges) most then Ok (edges ++ edge from to weight ∷ []) else Err (TooManyEdges number))
    else Err (NoVertex number)

-- the first refused line decides
abbrev pub edges_after_line : (n most number : ℕ) → Result (List Edge) EdgeListRefusal → List ℕ → Result (List Edge) EdgeListRefusal
edges_after_line n most number (Ok edges) line = edges_after n most number edges (meaning_of line)
edges_after_line n most number (Err refusal) line = Err refusal

-- the count of lines stands still at 2^64 - 1
abbrev pub next_line_number : ℕ → ℕ
next_line_number number = min (number + 1) TOP

-- the edges of these lines, of which the first has this number, behind those of the lines before
abbrev pub edges_of_lines : (n most number : ℕ) → Result (List Edge) EdgeListRefusal → List (List ℕ) → Result (List Edge) EdgeListRefusal
edges_of_lines n most number before [] = before
edges_of_lines n most number before (line ∷ more) =
    edges_of_lines n most (next_line_number number) (edges_after_line n most number before line) more

-- the edges of a text over n vertices, of which there may be so many, or its first refusal
abbrev pub edge_list_up_to : ℕ → List ℕ → ℕ → Result (List Edge) EdgeListRefusal
edge_list_up_to most text n = edges_of_lines n most 1 (Ok []) (lines_of text)

-- the list of edges of a text over n vertices, or its first refusal
abbrev pub edge_list_of : List ℕ → ℕ → Result (List Edge) EdgeListRefusal
edge_list_of text n = edge_list_up_to MAX_EDGES text n

-- the edges of the lines that have ended in a text so far, or the first refusal among them
abbrev pub ended_edges_of : List ℕ → ℕ → Result (List Edge) EdgeListRefusal
ended_edges_of text n = edges_of_lines n MAX_EDGES 1 (Ok []) (ended_lines_of text)
