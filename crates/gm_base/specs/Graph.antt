-- Graphs as lists of edges, GridGraph's edge list: a number of vertices and the edges, each as often as it stands there.
use Rattle.std.specs.Prelude.{◌≡◌, ℕ, ◌<◌, Bool, ◌&&◌, ◌==◌, List, All, count_by}
use Rattle.gm_base.specs.declared.edge.Edge.{Edge}

-- an edge by its source, its destination and its weight
abbrev pub edge : ℕ → ℕ → ℕ → Edge
edge from to weight = record { from = from; to = to; weight = weight }

abbrev pub is_same_edge : Edge → Edge → Bool
is_same_edge a b = (a.from == b.from) && (a.to == b.to) && (a.weight == b.weight)

-- each edge stands in both lists equally often
abbrev pub IsSameGraph : List Edge → List Edge → Type 0
IsSameGraph xs ys = (e : Edge) → count_by (is_same_edge e) xs ≡ count_by (is_same_edge e) ys

-- both ends are below n
abbrev pub HasEndsBelow : ℕ → Edge → Type 0
HasEndsBelow n e = (e.from < n) × (e.to < n)

-- a graph of n vertices
abbrev pub IsGraph : ℕ → List Edge → Type 0
IsGraph n edges = All (HasEndsBelow n) edges

-- how many edges leave a vertex
abbrev pub out_degree : List Edge → ℕ → ℕ
out_degree edges v = count_by (λ e. e.from == v) edges
