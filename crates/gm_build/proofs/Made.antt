-- A file that was just made is there.
use Rattle.std.proofs.Common.{◌≡◌, ℕ, List, Option, Some, None, ap, ◌∙◌}
use Rattle.std.specs.Option.{IsSome, IfSome, is_some}
use Rattle.std.specs.FinMap.{get, insert}
use Rattle.std.proofs.lemmas.Bool.{false≢true}
use Rattle.gm_outside.specs.Files.{Files}
use Rattle.gm_outside.specs.Changes.{with_file}
use Rattle.gm_outside.specs.ChangesRules.{with_file-told, get-insert_same}

pub there_now : (old new : Option Files) (name bytes : List ℕ) (P : Type 0) → new ≡ with_file old name bytes → IsSome old
    → IfSome new (λ held. IsSome (get held name) → P) → P
there_now None new name bytes P is some fact = absurd (false≢true some)
there_now (Some files) new name bytes P is some fact =
    let told = is ∙ with_file-told files name bytes in
    let held : IsSome (get (insert files name bytes) name) → P = rw told at fact in
    held (ap is_some (get-insert_same files name bytes))
