use Rattle.std.proofs.Common.{ap, ◌∙◌}
use Rattle.std.specs.Option.{option_map}
use Rattle.gm_grid.specs.declared.grid_error.GridError.TheVariants.{BadEdge}
use Rattle.gm_grid.specs.GridBytes.{shape_in, counts_in, edges_in}
use Rattle.gm_grid.specs.GridRefusalsRules.{refused_by_edges, refusal_by_edges-position}
use Rattle.gm_grid.proofs.GridReadings.{AreBytes-from_All, IsGrid-from_blocks, edges_of_grid-blocks_in, sizes-passes}
use Rattle.gm_grid.proofs.laws.grid_by_parts.Goals as goal

pub returns-clause-grid : goal.returns-clause-grid
returns-clause-grid c bytes all head index placed =
    IsGrid-from_blocks bytes (AreBytes-from_All bytes all) (record { by_head = head; by_index = index }) placed

pub returns-clause-edges : goal.returns-clause-edges
returns-clause-edges c bytes head index = edges_of_grid-blocks_in bytes (record { by_head = head; by_index = index })

pub returns-clause-sizes : goal.returns-clause-sizes
returns-clause-sizes c bytes head index = sizes-passes bytes (record { by_head = head; by_index = index })

pub returns-clause-bad_edge : goal.returns-clause-bad_edge
returns-clause-bad_edge c chunk_size place bytes head index chunks is =
    refused_by_edges chunk_size bytes head index chunks
    ∙ refusal_by_edges-position (shape_in bytes) (counts_in bytes) (edges_in bytes)
    ∙ ap (option_map BadEdge) is
