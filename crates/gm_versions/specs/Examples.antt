-- A small grid whose chunks were changed by hand.
use Rattle.std.specs.Prelude.{ℕ, List, [], ◌∷◌, map, length}
use Rattle.gm_base.specs.declared.edge.Edge.{Edge}
use Rattle.gm_base.specs.declared.copies.Tag.{Tag}
use Rattle.gm_base.specs.Graph.{edge}
use Rattle.gm_base.specs.Examples.{path_with_shortcut}
use Rattle.gm_changes.specs.declared.change.Change.{Change}
use Rattle.gm_changes.specs.declared.change.Change.TheVariants.{Add, Cut}
use Rattle.gm_label.specs.declared.chunk.Overlay.{Overlay}
use Rattle.gm_label.specs.Catalogues.{Catalogue, catalogue_of, chunk_numbers}
use Rattle.gm_label.specs.Examples.{two_ranges, path_counts}
use Rattle.gm_versions.specs.Snapshots.{Snapshot, version_of, edges_of, content_of, sources_of, tag_of, overlays_of}
use Rattle.gm_versions.specs.Keys.{content_of_key}

-- a path over four vertices with a shortcut, in five chunks of at most one edge: 0>1; 1>2; 0>2, the last of its block; one without edges; 2>3
abbrev pub path_catalogue : Catalogue
path_catalogue = catalogue_of two_ranges 1 path_counts path_with_shortcut

-- what a job sees of the path: all edges, the edges and the sources of one chunk, its tag of each chunk, and its overlays
abbrev pub path_edges : Snapshot → List Edge
path_edges s = edges_of path_with_shortcut s

abbrev pub path_content : Snapshot → ℕ → List Edge
path_content s c = content_of path_catalogue path_with_shortcut s c

abbrev pub path_sources : Snapshot → ℕ → List ℕ
path_sources s c = sources_of path_catalogue s c

abbrev pub path_tags : Snapshot → List Tag
path_tags s = map (tag_of path_catalogue s) (chunk_numbers path_catalogue)

abbrev pub path_overlays : Snapshot → List Overlay
path_overlays s = overlays_of path_catalogue s

-- what is seen of one changed chunk
abbrev pub overlay : ℕ → Tag → List ℕ → Overlay
overlay c tag added = record { key = record { chunk = c; tag = tag }; added = added }

-- what is seen below these updates, and below one update of these changes
abbrev pub below : List (List Change) → Snapshot
below updates = version_of updates (length updates)

abbrev pub below_one : List Change → Snapshot
below_one changes = below (changes ∷ [])

-- one update, which joins 0 and 3
abbrev pub joined_ends : List (List Change)
joined_ends = (Add (edge 0 3 1) ∷ []) ∷ []

-- the job with number 0 below it, which cuts that edge again
abbrev pub parted_ends : Snapshot
parted_ends = record { job = 0; updates = joined_ends; own = Cut 0 3 ∷ [] }

-- the edges that a tag stands for in a chunk, where every job sees that
abbrev pub path_content_of_tag : ℕ → Tag → List Edge
path_content_of_tag c tag =
    content_of_key path_catalogue path_with_shortcut joined_ends (λ job. parted_ends) (record { chunk = c; tag = tag })
