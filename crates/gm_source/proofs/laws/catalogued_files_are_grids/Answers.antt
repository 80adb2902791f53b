use Rattle.std.proofs.Common.{◌≡◌, ℕ, List, [], ◌∷◌, length, map, refl, sym, ap, ◌∙◌, length-append, arith}
use Rattle.std.specs.Prelude.{sum, sum_by, flat_map}
use Rattle.std.proofs.lemmas.List.Sums.{sum_by-cons}
use Rattle.gm_base.specs.declared.edge.Edge.{Edge}
use Rattle.gm_label.specs.Catalogues.{Catalogue}
use Rattle.gm_label.specs.ChunksRules.{chunks-count_edges}
use Rattle.gm_source.proofs.laws.catalogued_files_are_grids.Goals as goal

lengths : (blocks : List (List Edge)) → sum (map (λ (edges : List Edge). length edges) blocks) ≡ length (flat_map (λ (edges : List Edge). edges) blocks)
lengths [] = refl
lengths (edges ∷ blocks) =
    let rest = lengths blocks in
    let all = sum_by-cons (λ (n : ℕ). n) (length edges) (map (λ (e : List Edge). length e) blocks) in
    let both = length-append edges (flat_map (λ (e : List Edge). e) blocks) in
    omega arith

pub returns-clause-taken : goal.returns-clause-taken
returns-clause-taken c bytes size cat is = c.refused_where_no_grid.ensures.grid size bytes is.n is.parts is.blocks is.grid ∙ is.few

pub returns-clause-edges : goal.returns-clause-edges
returns-clause-edges c bytes size cat is =
    ap (λ (known : Catalogue). sum_by (λ place. place.count) known.places) is.all
    ∙ chunks-count_edges size (map (λ edges. length edges) is.blocks)
    ∙ lengths is.blocks
    ∙ ap (λ (edges : List Edge). length edges) (sym (c.grid_reads_back.ensures.edges bytes is.n is.parts is.blocks is.grid))
