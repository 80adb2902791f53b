-- A grid's chunks cut it as a job sees it.
use Rattle.std.specs.Prelude.{◌≡◌, ℕ, ◌≤◌, true, List, [], ◌++◌, length, drop, count_by, All}
use Rattle.std.specs.List.{list_any}
use Rattle.std.proofs.Common.{eqb, append-nil, sym, ap, ◌∙◌, arith}
use Rattle.std.proofs.lemmas.List.Elements.{All-weaker, All-take, All-drop}
use Rattle.gm_base.specs.declared.edge.Edge.{Edge}
use Rattle.gm_base.specs.declared.job.Spec.{Spec}
use Rattle.gm_base.specs.declared.limits.TheConstants.{MAX_EDGES}
use Rattle.gm_base.specs.Dimensions.{AreDimensions}
use Rattle.gm_base.specs.Graph.{HasEndsBelow, IsGraph, is_same_edge}
use Rattle.gm_label.specs.Catalogues.{Catalogue, place_at, sources_at, base_at, IsOver}
use Rattle.gm_work.specs.Views.{IsCutIntoChunks}
use Rattle.gm_work.specs.ViewsRules.{blocks-in_columns}
use Rattle.gm_work.specs.HeldJobs.{grid_view}

listed : (u : ℕ) (sources : List ℕ) → list_any (λ s. eqb s u) sources ≡ true → list_any (λ s. eqb s u) (sources ++ []) ≡ true
listed u sources h = ap (list_any (λ s. eqb s u)) (append-nil sources) ∙ h

pub grid_is_cut : (spec : Spec) (cat : Catalogue) (edges : List Edge) → AreDimensions cat.dimensions.n cat.dimensions.parts → IsGraph cat.dimensions.n edges
    → length edges ≤ MAX_EDGES → IsOver cat edges → IsCutIntoChunks (grid_view spec cat edges)
grid_is_cut spec cat edges dims graph few over =
    let base_ends : (c : ℕ) → All (HasEndsBelow cat.dimensions.n) (base_at cat edges c) =
    λ c. All-take (HasEndsBelow cat.dimensions.n) (place_at cat c).count (drop (place_at cat c).first edges) (All-drop (HasEndsBelow cat.dimensions.n) (place_at cat c).first edges graph) in
    record {
      dimensions = dims;
      few = omega (arith, few);
      graph = graph;
      whole = λ e. ap (λ (es : List Edge). count_by (is_same_edge e) es) (sym over.joined);
      ends = base_ends;
      sources = λ c. All-weaker (λ e. list_any (λ s. eqb s e.from) (sources_at cat c) ≡ true) (λ e. list_any (λ s. eqb s e.from) (sources_at cat c ++ []) ≡ true)
          (λ e h. listed e.from (sources_at cat c) h) (base_at cat edges c) (over.listed c);
      columns = λ c. blocks-in_columns cat.dimensions (place_at cat c).block (base_at cat edges c) dims (base_ends c) (over.in_block c);
    }
