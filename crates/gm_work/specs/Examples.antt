-- Jobs over small graphs, cut into chunks of one edge.
use Rattle.std.specs.Prelude.{ℕ, List, [], ◌∷◌}
use Rattle.gm_base.specs.declared.job.Spec.{Spec}
use Rattle.gm_base.specs.Examples.{path_with_shortcut}
use Rattle.gm_base.specs.declared.edge.Edge.{Edge}
use Rattle.gm_base.specs.Graph.{edge}
use Rattle.gm_label.specs.Catalogues.{catalogue_of}
use Rattle.gm_label.specs.Examples.{two_ranges, path_counts}
use Rattle.gm_kernel.specs.declared.phase.Phase.TheVariants.{Round}
use Rattle.gm_work.specs.Views.{JobView, state_in}
use Rattle.gm_work.specs.Weights.{run_weight}
use Rattle.gm_work.specs.HeldJobs.{grid_view}

abbrev pub over_path : Spec → JobView
over_path spec = grid_view spec (catalogue_of two_ranges 1 path_counts path_with_shortcut) path_with_shortcut

-- 1>2 lies in the second block, 3>0 in the third and 3>2 in the fourth
abbrev pub backwards_in_blocks : List Edge
backwards_in_blocks = edge 1 2 1 ∷ edge 3 0 1 ∷ edge 3 2 1 ∷ []

abbrev pub over_backwards : Spec → JobView
over_backwards spec = grid_view spec (catalogue_of two_ranges 1 (0 ∷ 1 ∷ 1 ∷ 1 ∷ []) backwards_in_blocks) backwards_in_blocks

-- how many chunks a job passes in all its phases
abbrev pub passes_of : JobView → ℕ
passes_of d = run_weight d (λ c. 1)

-- the sums in a round after these chunks were passed, the last one first
abbrev pub sums_of : JobView → ℕ → List ℕ → List ℕ
sums_of d round passed = (state_in d (Round round) passed).sums
