-- What proofs need of views: edges of a block go to the block's column. A job stays the same from step to step.
use Rattle.std.specs.Prelude.{◌≡◌, ℕ, ◌*◌, ◌%◌, ◌<◌, ◌≤◌, List, [], ◌∷◌, All}
use Rattle.std.specs.List.{AllByRecursion}
use Rattle.std.proofs.Common.{sym, ap, ◌∙◌, arith}
use Rattle.std.proofs.Math.Nat.{div-mul-le_self, div-add-mod}
use Rattle.std.proofs.lemmas.Nat.{mod-mul-add}
use Rattle.std.proofs.lemmas.List.Elements.{All-from_recursion, recursion_from_All}
use Rattle.gm_base.specs.declared.edge.Edge.{Edge}
use Rattle.gm_base.specs.Dimensions.{Dimensions, AreDimensions, width_of, range_of, block_of}
use Rattle.gm_base.specs.DimensionsRules.{width_above, range_below}
use Rattle.gm_base.specs.Graph.{HasEndsBelow}
use Rattle.gm_active.specs.Needs.{first_destination_of, end_destination_of}
use Rattle.gm_work.specs.HeldJobs.{HeldJob, IsSameJob}

-- each edge goes to its block's column
in_column : (d : Dimensions) (block : ℕ) (e : Edge) → AreDimensions d.n d.parts → HasEndsBelow d.n e → block_of d e ≡ block
    → (first_destination_of d block ≤ e.to) × (e.to < end_destination_of d block)
in_column d block e dims ends is =
    let width = width_of d in
    let column : block % d.parts ≡ range_of d e.to = ap (λ (b : ℕ). b % d.parts) (sym is) ∙ mod-mul-add (range_of d e.from) d.parts (range_of d e.to) (range_below d e.to dims ends.1) in
    let first : first_destination_of d block ≡ range_of d e.to * width = ap (λ (r : ℕ). r * width) column in
    let low = div-mul-le_self e.to width in
    let some = width_above d dims in
    let parts = div-add-mod e.to width in
    let below = ends.1 in
    (omega arith, omega arith)

columns : (d : Dimensions) (block : ℕ) (es : List Edge) → AreDimensions d.n d.parts → AllByRecursion (HasEndsBelow d.n) es → AllByRecursion (λ e. block_of d e ≡ block) es
    → AllByRecursion (λ e. (first_destination_of d block ≤ e.to) × (e.to < end_destination_of d block)) es
columns d block [] dims ends blocks = tt
columns d block (e ∷ es) dims ends blocks = (in_column d block e dims ends.0 blocks.0, columns d block es dims ends.1 blocks.1)

pub blocks-in_columns : (d : Dimensions) (block : ℕ) (edges : List Edge) → AreDimensions d.n d.parts → All (HasEndsBelow d.n) edges
    → All (λ e. block_of d e ≡ block) edges → All (λ e. (first_destination_of d block ≤ e.to) × (e.to < end_destination_of d block)) edges
blocks-in_columns d block edges dims ends blocks =
    All-from_recursion _ edges
    (columns d block edges dims (recursion_from_All (HasEndsBelow d.n) edges ends) (recursion_from_All (λ e. block_of d e ≡ block) edges blocks))

pub same_job-then : (a b c : HeldJob) → IsSameJob a b → IsSameJob b c → IsSameJob a c
same_job-then a b c p q = record { job = q.job ∙ p.job; spec = q.spec ∙ p.spec; catalogue = q.catalogue ∙ p.catalogue; overlays = q.overlays ∙ p.overlays }
