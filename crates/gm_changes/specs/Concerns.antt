-- Which changes concern a chunk. Changes are gone through in order, and the chunk's sources grow with the edges that it is given.
use Rattle.std.specs.Prelude.{◌≡◌, ℕ, ◌<◌, ◌≤◌, Bool, true, ◌&&◌, ◌==◌, if◌then◌else◌, List, [], ◌∷◌, count_by}
use Rattle.std.specs.List.{filter, list_any}
use Rattle.gm_base.specs.declared.edge.Edge.{Edge}
use Rattle.gm_base.specs.Dimensions.{Dimensions, block_of}
use Rattle.gm_base.specs.Graph.{edge}
use Rattle.gm_changes.specs.declared.change.Change.{Change}
use Rattle.gm_changes.specs.declared.change.Change.TheVariants.{Add, Cut}

-- where a chunk stands: in which block, and whether it is the block's last
pub record Site : Type 0 where
  pub block : ℕ
  pub is_last : Bool

abbrev pub site_of : ℕ → Bool → Site
site_of block is_last = record { block = block; is_last = is_last }

abbrev pub lists : List ℕ → ℕ → Bool
lists sources u = list_any (λ s. s == u) sources

-- an added edge concerns the last chunk of its block, a cut each chunk of its block that has edges from the source, as far as its sources tell
abbrev pub concerns : Dimensions → Site → List ℕ → Change → Bool
concerns d site sources (Add e) = site.is_last && (block_of d e == site.block)
concerns d site sources (Cut from to) = (block_of d (edge from to 0) == site.block) && lists sources from

abbrev pub sources_after_one : Change → List ℕ → List ℕ
sources_after_one (Add e) sources = e.from ∷ sources
sources_after_one (Cut from to) sources = sources

-- the sources after these changes, which all concern the chunk
abbrev pub sources_after : List Change → List ℕ → List ℕ
sources_after [] sources = sources
sources_after (change ∷ changes) sources = sources_after changes (sources_after_one change sources)

-- those of the changes that concern the chunk
abbrev pub concerning_changes : Dimensions → Site → List ℕ → List Change → List Change
concerning_changes d site sources [] = []
concerning_changes d site sources (change ∷ changes) =
    if concerns d site sources change
    then change ∷ concerning_changes d site (sources_after_one change sources) changes
    else concerning_changes d site sources changes

-- an edge that may stand in a chunk at this site with these sources
pub record IsPlaced (d : Dimensions) (site : Site) (sources : List ℕ) (e : Edge) : Type 0 where
  pub in_block : block_of d e ≡ site.block
  pub listed : lists sources e.from ≡ true

-- where edges that are added to this block go
abbrev pub takes_adds_of : ℕ → Site → Bool
takes_adds_of block site = site.is_last && (block == site.block)

-- all cuts, and the edges that are added here
abbrev pub is_cut_or_added_here : Dimensions → Site → Change → Bool
is_cut_or_added_here d site (Add e) = takes_adds_of (block_of d e) site
is_cut_or_added_here d site (Cut from to) = true

-- what may concern a chunk here, whatever its sources are: an edge that is added here, or a cut in its block
abbrev pub may_concern : Dimensions → Site → Change → Bool
may_concern d site (Add e) = takes_adds_of (block_of d e) site
may_concern d site (Cut from to) = block_of d (edge from to 0) == site.block

abbrev pub possible_changes : Dimensions → Site → List Change → List Change
possible_changes d site changes = filter (may_concern d site) changes

-- each added edge lies in one of so many blocks
abbrev pub AddsWithin : Dimensions → ℕ → Change → Type 0
AddsWithin d blocks (Add e) = block_of d e < blocks
AddsWithin d blocks (Cut from to) = Unit {0}

-- among these chunks each of so many blocks has one last chunk, and there are no other blocks
pub record HasOneLastEach (blocks : ℕ) (site : ℕ → Site) (chunks : List ℕ) : Type 0 where
  pub one : (block : ℕ) → block < blocks → count_by (λ c. takes_adds_of block (site c)) chunks ≡ 1
  pub none : (block : ℕ) → blocks ≤ block → count_by (λ c. takes_adds_of block (site c)) chunks ≡ 0
