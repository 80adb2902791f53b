-- Small files of grids, written byte by byte.
use Rattle.std.specs.Prelude.{ℕ, List, [], ◌∷◌, ◌++◌, take, drop}
use Rattle.gm_base.specs.declared.edge.Edge.{Edge}
use Rattle.gm_base.specs.Graph.{edge}

-- GGRID001
abbrev pub good_magic : List ℕ
good_magic = 71 ∷ 71 ∷ 82 ∷ 73 ∷ 68 ∷ 48 ∷ 48 ∷ 49 ∷ []

-- 4 vertices, 2 ranges
abbrev pub four_by_two : List ℕ
four_by_two = 4 ∷ 0 ∷ 0 ∷ 0 ∷ 2 ∷ 0 ∷ 0 ∷ 0 ∷ []

-- blocks of 1, 2, 0 and 1 edges
abbrev pub one_two_none_one : List ℕ
one_two_none_one =
    1 ∷ 0 ∷ 0 ∷ 0 ∷ 0 ∷ 0 ∷ 0 ∷ 0 ∷
    2 ∷ 0 ∷ 0 ∷ 0 ∷ 0 ∷ 0 ∷ 0 ∷ 0 ∷
    0 ∷ 0 ∷ 0 ∷ 0 ∷ 0 ∷ 0 ∷ 0 ∷ 0 ∷
    1 ∷ 0 ∷ 0 ∷ 0 ∷ 0 ∷ 0 ∷ 0 ∷ 0 ∷ []

-- 0 to 1, 1 to 2, 0 to 2 of weight 5, 2 to 3
abbrev pub path_edges : List ℕ
path_edges =
    0 ∷ 0 ∷ 0 ∷ 0 ∷ 1 ∷ 0 ∷ 0 ∷ 0 ∷ 1 ∷ 0 ∷ 0 ∷ 0 ∷
    1 ∷ 0 ∷ 0 ∷ 0 ∷ 2 ∷ 0 ∷ 0 ∷ 0 ∷ 1 ∷ 0 ∷ 0 ∷ 0 ∷
    0 ∷ 0 ∷ 0 ∷ 0 ∷ 2 ∷ 0 ∷ 0 ∷ 0 ∷ 5 ∷ 0 ∷ 0 ∷ 0 ∷
    2 ∷ 0 ∷ 0 ∷ 0 ∷ 3 ∷ 0 ∷ 0 ∷ 0 ∷ 1 ∷ 0 ∷ 0 ∷ 0 ∷ []

-- 96 bytes
abbrev pub path_file : List ℕ
path_file = good_magic ++ four_by_two ++ one_two_none_one ++ path_edges

abbrev pub path_blocks : List (List Edge)
path_blocks = (edge 0 1 1 ∷ []) ∷ (edge 1 2 1 ∷ edge 0 2 5 ∷ []) ∷ [] ∷ (edge 2 3 1 ∷ []) ∷ []

-- one vertex, one range, no edges: 24 bytes
abbrev pub one_vertex_file : List ℕ
one_vertex_file = good_magic ++ (1 ∷ 0 ∷ 0 ∷ 0 ∷ 1 ∷ 0 ∷ 0 ∷ 0 ∷ 0 ∷ 0 ∷ 0 ∷ 0 ∷ 0 ∷ 0 ∷ 0 ∷ 0 ∷ [])

-- GGRID002, and nothing behind the head
abbrev pub head_of_another_kind : List ℕ
head_of_another_kind = (71 ∷ 71 ∷ 82 ∷ 73 ∷ 68 ∷ 48 ∷ 48 ∷ 50 ∷ []) ++ four_by_two

-- no vertices, 2 ranges
abbrev pub file_without_vertices : List ℕ
file_without_vertices = good_magic ++ (0 ∷ 0 ∷ 0 ∷ 0 ∷ 2 ∷ 0 ∷ 0 ∷ 0 ∷ []) ++ one_two_none_one ++ path_edges

-- 2 vertices, 3 ranges
abbrev pub head_of_too_many_ranges : List ℕ
head_of_too_many_ranges = good_magic ++ (2 ∷ 0 ∷ 0 ∷ 0 ∷ 3 ∷ 0 ∷ 0 ∷ 0 ∷ [])

-- 2^63 edges in each of the first two blocks
abbrev pub file_of_vast_blocks : List ℕ
file_of_vast_blocks = good_magic ++ four_by_two ++
    (0 ∷ 0 ∷ 0 ∷ 0 ∷ 0 ∷ 0 ∷ 0 ∷ 128 ∷
    0 ∷ 0 ∷ 0 ∷ 0 ∷ 0 ∷ 0 ∷ 0 ∷ 128 ∷
    0 ∷ 0 ∷ 0 ∷ 0 ∷ 0 ∷ 0 ∷ 0 ∷ 0 ∷
    0 ∷ 0 ∷ 0 ∷ 0 ∷ 0 ∷ 0 ∷ 0 ∷ 0 ∷ []) ++ path_edges

-- another second edge in place of 1 to 2
abbrev pub file_with_second_edge : List ℕ → List ℕ
file_with_second_edge bytes = take 60 path_file ++ bytes ++ drop 72 path_file

-- 1 to 1, which lies in the last block
abbrev pub edge_of_last_block : List ℕ
edge_of_last_block = 1 ∷ 0 ∷ 0 ∷ 0 ∷ 1 ∷ 0 ∷ 0 ∷ 0 ∷ 1 ∷ 0 ∷ 0 ∷ 0 ∷ []

-- 1 to 4
abbrev pub edge_to_no_vertex : List ℕ
edge_to_no_vertex = 1 ∷ 0 ∷ 0 ∷ 0 ∷ 4 ∷ 0 ∷ 0 ∷ 0 ∷ 1 ∷ 0 ∷ 0 ∷ 0 ∷ []
