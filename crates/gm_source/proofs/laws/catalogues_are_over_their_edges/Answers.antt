use Rattle.std.proofs.Common.{◌≡◌, ℕ, List, length, map, sym, ap, subst, arith}
use Rattle.gm_base.specs.declared.edge.Edge.{Edge}
use Rattle.gm_base.specs.Graph.{IsGraph}
use Rattle.gm_base.specs.Dimensions.{AreDimensions}
use Rattle.gm_grid.specs.Format.{IsGrid, dimensions_of, edges_of_grid}
use Rattle.gm_grid.specs.GridBytes.{shape_in, edges_in, grid_file_size}
use Rattle.gm_label.specs.Catalogues.{Catalogue, IsOver}
use Rattle.gm_label.specs.CataloguesRules.{catalogue-is_over}
use Rattle.gm_source.specs.Openings.{IsCatalogueOf}
use Rattle.gm_source.proofs.ToldChunks.{ReadsBack, cut, ends}
use Rattle.gm_source.proofs.laws.catalogues_are_over_their_edges.Goals as goal

-- what a law says of a grid's bytes, for those of a catalogue
read_back : (bytes : List ℕ) (size : ℕ) (cat : Catalogue) → (is : IsCatalogueOf bytes size cat)
    → ((bytes : List ℕ) (n parts : ℕ) (blocks : List (List Edge)) → IsGrid bytes n parts blocks → shape_in bytes ≡ dimensions_of n parts)
    → ((bytes : List ℕ) (n parts : ℕ) (blocks : List (List Edge)) → IsGrid bytes n parts blocks → edges_in bytes ≡ edges_of_grid blocks)
    → ((bytes : List ℕ) (n parts : ℕ) (blocks : List (List Edge)) → IsGrid bytes n parts blocks → length bytes ≡ grid_file_size (length blocks) (length (edges_of_grid blocks)))
    → ReadsBack bytes is.n is.parts is.blocks
read_back bytes size cat is shape edges long = record {
  shape = shape bytes is.n is.parts is.blocks is.grid;
  edges = edges bytes is.n is.parts is.blocks is.grid;
  size = long bytes is.n is.parts is.blocks is.grid;
}

pub returns-clause-over : goal.returns-clause-over
returns-clause-over c bytes size cat is =
    let read = c.grid_reads_back.ensures in
    let back = read_back bytes size cat is read.shape read.edges read.size in
    let counts = map (λ (edges : List Edge). length edges) is.blocks in
    let over = catalogue-is_over (dimensions_of is.n is.parts) size counts (edges_of_grid is.blocks) (cut bytes is.n is.parts size 0 is.blocks is.grid back) in
    subst (λ (edges : List Edge). IsOver cat edges) (sym back.edges) (subst (λ (known : Catalogue). IsOver known (edges_of_grid is.blocks)) (sym is.all) over)

pub returns-clause-graph : goal.returns-clause-graph
returns-clause-graph c bytes size cat is =
    let read = c.grid_reads_back.ensures in
    let back = read_back bytes size cat is read.shape read.edges read.size in
    subst (λ (edges : List Edge). IsGraph cat.dimensions.n edges) (sym back.edges)
    (subst (λ (known : Catalogue). IsGraph known.dimensions.n (edges_of_grid is.blocks)) (sym is.all) (ends bytes is.n is.parts size 0 is.blocks is.grid back))

pub returns-clause-few : goal.returns-clause-few
returns-clause-few c bytes size cat is =
    let same = ap (λ (edges : List Edge). length edges) (c.grid_reads_back.ensures.edges bytes is.n is.parts is.blocks is.grid) in
    let most = is.grid.most in
    omega (arith, same, most)

pub returns-clause-dimensions : goal.returns-clause-dimensions
returns-clause-dimensions c bytes size cat is =
    subst (λ (known : Catalogue). AreDimensions known.dimensions.n known.dimensions.parts) (sym is.all) is.grid.shape
