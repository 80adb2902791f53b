-- Which chunks a change may concern.
use Rattle.std.specs.Prelude.{◌≡◌, ℕ, ◌<◌, ◌≤◌, ◌⊎◌, false, List, length}
use Rattle.gm_changes.specs.declared.change.Change.{Change}
use Rattle.gm_changes.specs.Concerns.{concerns}
use Rattle.gm_label.specs.Catalogues.{Catalogue}
use Rattle.gm_versions.specs.Contents.{site_at}

-- from here on and before there stand all chunks that the change concerns, whatever their sources are
pub record IsReachOf (cat : Catalogue) (change : Change) (first end : ℕ) : Type 0 where
  pub within : end ≤ length cat.places
  pub outside : (c : ℕ) (sources : List ℕ) → c < length cat.places → (c < first) ⊎ (end ≤ c)
      → concerns cat.dimensions (site_at cat c) sources change ≡ false
