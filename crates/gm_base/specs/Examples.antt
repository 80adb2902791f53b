-- Small graphs whose runs were worked out by hand.
use Rattle.std.specs.Prelude.{List, [], ◌∷◌}
use Rattle.gm_base.specs.declared.edge.Edge.{Edge}
use Rattle.gm_base.specs.Graph.{edge}

-- four vertices: a path 0, 1, 2, 3 with weights of 1, and a dear edge from 0 to 2
abbrev pub path_with_shortcut : List Edge
path_with_shortcut = edge 0 1 1 ∷ edge 1 2 1 ∷ edge 0 2 5 ∷ edge 2 3 1 ∷ []

-- four vertices: vertex 1 is joined to the others only against the direction of edges
abbrev pub joined_backwards : List Edge
joined_backwards = edge 3 0 1 ∷ edge 3 2 1 ∷ edge 1 2 1 ∷ []
