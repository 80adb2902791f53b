-- How the bytes that a sink holds grow, where they are told.
use Rattle.std.specs.Prelude.{◌≡◌, ℕ, List, ◌++◌, Option, Some}

-- what was held, and then this text
pub record GrewBy (old new : Option (List ℕ)) (text : List ℕ) : Type 0 where
  pub grown : (held : List ℕ) → old ≡ Some held → new ≡ Some (held ++ text)

-- what was held, and then a first part of this text
pub record GrewByPrefix (old new : Option (List ℕ)) (text : List ℕ) : Type 0 where
  pub added : List ℕ
  pub rest : List ℕ
  pub parts : added ++ rest ≡ text
  pub grown : GrewBy old new added
