-- What is told of a file, where the files are told.
use Rattle.std.proofs.Common.{◌≡◌, ℕ, List, [], ◌∷◌, length, take, drop, ◌+◌, ◌<◌, ◌≤◌, Option, Some, None, IfSome, refl, subst, arith}
use Rattle.std.specs.Prelude.{IsSomeAnd}
use Rattle.std.specs.FinMap.{get}
use Rattle.gm_outside.specs.Files.{Files, HasBytesAt}
use Rattle.gm_source.specs.Openings.{IsTold}

weaker_of : (found : Option (List ℕ)) (P Q : List ℕ → Type 0) → ((bytes : List ℕ) → P bytes → Q bytes) → IsSomeAnd found P → IsSomeAnd found Q
weaker_of None P Q weaker told = told
weaker_of (Some bytes) P Q weaker told = weaker bytes told

pub told-weaker : (files : Option Files) (name : List ℕ) (P Q : List ℕ → Type 0) → ((bytes : List ℕ) → P bytes → Q bytes)
    → IsTold files name P → IsTold files name Q
told-weaker None name P Q weaker told = tt
told-weaker (Some held) name P Q weaker told = weaker_of (get held name) P Q weaker told

both_of : (found : Option (List ℕ)) (P Q : List ℕ → Type 0) → IsSomeAnd found P → IsSomeAnd found Q → IsSomeAnd found (λ bytes. P bytes × Q bytes)
both_of None P Q p q = p
both_of (Some bytes) P Q p q = (p, q)

pub told-both : (files : Option Files) (name : List ℕ) (P Q : List ℕ → Type 0) → IsTold files name P → IsTold files name Q
    → IsTold files name (λ bytes. P bytes × Q bytes)
told-both None name P Q p q = tt
told-both (Some held) name P Q p q = both_of (get held name) P Q p q

piece_of : (found : Option (List ℕ)) (P : List ℕ → Type 0) (room pos : ℕ) (piece : List ℕ) → length piece ≡ room → IsSomeAnd found P
    → (0 < room → IsSomeAnd found (λ bytes. (pos + length piece ≤ length bytes) × (piece ≡ take (length piece) (drop pos bytes))))
    → IsSomeAnd found (λ bytes. piece ≡ take (length piece) (drop pos bytes))
piece_of None P room pos piece long there read = there
piece_of (Some bytes) P room pos [] long there read = refl
piece_of (Some bytes) P room pos (byte ∷ piece) long there read = (read (omega arith)).1

piece_in : (files : Option Files) (name : List ℕ) (P : List ℕ → Type 0) (room pos : ℕ) (piece : List ℕ) → length piece ≡ room → IsTold files name P
    → IfSome files (λ held. 0 < room → HasBytesAt held name pos piece) → IsTold files name (λ bytes. piece ≡ take (length piece) (drop pos bytes))
piece_in None name P room pos piece long told read = tt
piece_in (Some held) name P room pos piece long told read = piece_of (get held name) P room pos piece long told read

-- what was read of a file that is there, or what wasn't since it is nothing
pub told-piece : (files : Option Files) (name : List ℕ) (P : List ℕ → Type 0) (room from pos : ℕ) (piece : List ℕ) → length piece ≡ room → from ≡ pos
    → IsTold files name P → IfSome files (λ held. 0 < room → HasBytesAt held name from piece)
    → IsTold files name (λ bytes. piece ≡ take (length piece) (drop pos bytes))
told-piece files name P room from pos piece long at told read =
    subst (λ (n : ℕ). IsTold files name (λ bytes. piece ≡ take (length piece) (drop n bytes))) at (piece_in files name P room from piece long told read)
