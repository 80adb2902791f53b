-- What the calls that write do to the files of a depot.
use Rattle.std.specs.Prelude.{◌≡◌, ℕ, List, ◌++◌, Option}
use Rattle.std.specs.Option.{option_map, option_map_or}
use Rattle.std.specs.FinMap.{get, insert}
use Rattle.gm_outside.specs.Files.{Files}

-- these bytes stand at the end of the file of this name, where there is one
unfoldable pub append_to : Files → List ℕ → List ℕ → Files
append_to files name piece = option_map_or (λ held. insert files name (held ++ piece)) (get files name) files

-- where the files are told: the file of this name holds these bytes, and no other file is changed
unfoldable pub with_file : Option Files → List ℕ → List ℕ → Option Files
with_file told name bytes = option_map (λ files. insert files name bytes) told

-- where the files are told: these bytes were added to the file of this name, and no other file is changed
unfoldable pub with_appended : Option Files → List ℕ → List ℕ → Option Files
with_appended told name piece = option_map (λ files. append_to files name piece) told

-- where the files are told: a first part of these bytes was added to the file of this name
pub record AppendedPrefix (old new : Option Files) (name piece : List ℕ) : Type 0 where
  pub added : List ℕ
  pub rest : List ℕ
  pub parts : added ++ rest ≡ piece
  pub grown : new ≡ with_appended old name added

-- where the files are told: the file of this name holds a first part of these bytes, and no other file is changed
pub record HoldsPrefix (old new : Option Files) (name text : List ℕ) : Type 0 where
  pub added : List ℕ
  pub rest : List ℕ
  pub parts : added ++ rest ≡ text
  pub held : new ≡ with_file old name added
