-- What is known of a fetched chunk where the grid was opened in a depot that tells.
use Rattle.std.specs.Prelude.{ℕ, List, Option, Some, None, IsSomeAnd, refl}
use Rattle.std.specs.FinMap.{get}
use Rattle.std.proofs.Common.{◌≡◌}
use Rattle.gm_outside.specs.Files.{Files}
use Rattle.gm_label.specs.Catalogues.{Catalogue}
use Rattle.gm_source.specs.Openings.{IsTold, IsCatalogueOf}
use Rattle.gm_source.specs.Fetches.{TellsGrid}

-- the depot tells the grid that was opened
pub tells_grid : (told : Option Files) (name : List ℕ) (size : ℕ) (cat : Catalogue) → IsTold told name (λ bytes. IsCatalogueOf bytes size cat)
    → IsTold told name (TellsGrid told name cat)
tells_grid None name size cat opened = tt
tells_grid (Some held) name size cat opened = in_file (get held name) refl opened
  where
    in_file : (file : Option (List ℕ)) → get held name ≡ file → IsSomeAnd file (λ bytes. IsCatalogueOf bytes size cat)
        → IsSomeAnd file (TellsGrid (Some held) name cat)
    in_file None there is = is
    in_file (Some bytes) there is = record { files = held; is_told = refl; there = there; size = size; catalogue = is }
