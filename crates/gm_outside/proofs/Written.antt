-- What a writer's own words say of the growth of what it holds.
use Rattle.std.proofs.Common.{◌≡◌, ℕ, ◌+◌, ◌-◌, List, [], take, drop, length, Option, Some, None, sym, subst, append-nil, arith, take-add, take-append-drop}
use Rattle.std.proofs.lemmas.Grind.{common_steps}
use Rattle.std.specs.Io.KnownBytes.{Appends, Keeps}
use Rattle.gm_outside.specs.Growth.{GrewBy, GrewByPrefix}
use Rattle.gm_outside.specs.GrowthRules.{grew_by-then, grew_by-told, grew_by-nothing}

pub grew_by-appends : (old new : Option (List ℕ)) (text : List ℕ) → Appends old new text → GrewBy old new text
grew_by-appends None new text h = record { grown = λ held is. cc }
grew_by-appends (Some xs) None text h = absurd h
grew_by-appends (Some xs) (Some ys) text h = grew_by-told h

pub grew_by-keeps : (old new : Option (List ℕ)) → Keeps old new → GrewBy old new []
grew_by-keeps None new h = record { grown = λ held is. cc }
grew_by-keeps (Some xs) None h = absurd h
grew_by-keeps (Some xs) (Some ys) h = let P : List ℕ → Type 0 = λ zs. GrewBy (Some xs) (Some zs) [] in subst P (sym h) (grew_by-nothing (Some xs))

rest_of : (piece : List ℕ) (at : ℕ) → take (length piece - at) (drop at piece) ≡ drop at piece
rest_of piece at = grind (arith, common_steps)

whole_of : (piece : List ℕ) (at : ℕ) → at ≡ length piece → take at piece ≡ piece
whole_of piece at is = grind (arith, common_steps)

-- some more bytes of a piece were written, from the slice that was left of it
pub grew_by-more : {old mid new : Option (List ℕ)} (piece : List ℕ) (at count : ℕ) → GrewBy old mid (take at piece)
    → GrewBy mid new (take count (take (length piece - at) (drop at piece))) → GrewBy old new (take (at + count) piece)
grew_by-more {old} {mid} {new} piece at count front back =
    let P : List ℕ → Type 0 = GrewBy old new in
    let Q : List ℕ → Type 0 = λ rest. GrewBy mid new (take count rest) in
    subst P (sym (take-add at count piece)) (grew_by-then front (subst Q (rest_of piece at) back))

-- and these were the last
pub grew_by-last : {old mid new : Option (List ℕ)} (piece : List ℕ) (at count : ℕ) → at + count ≡ length piece → GrewBy old mid (take at piece)
    → GrewBy mid new (take count (take (length piece - at) (drop at piece))) → GrewBy old new piece
grew_by-last {old} {mid} {new} piece at count all front back =
    let P : List ℕ → Type 0 = GrewBy old new in
    subst P (whole_of piece (at + count) all) (grew_by-more piece at count front back)

-- what stands of a piece is a first part of it
pub grew_by_prefix-take : {old new : Option (List ℕ)} (piece : List ℕ) (at : ℕ) → GrewBy old new (take at piece) → GrewByPrefix old new piece
grew_by_prefix-take piece at grew = record { added = take at piece; rest = drop at piece; parts = take-append-drop at piece; grown = grew }

-- and nothing more
pub grew_by_prefix-stop : {old mid new : Option (List ℕ)} (piece : List ℕ) (at : ℕ)
    → GrewBy old mid (take at piece) → GrewBy mid new [] → GrewByPrefix old new piece
grew_by_prefix-stop {old} {mid} {new} piece at front back =
    let P : List ℕ → Type 0 = GrewBy old new in
    grew_by_prefix-take piece at (subst P (append-nil (take at piece)) (grew_by-then front back))
