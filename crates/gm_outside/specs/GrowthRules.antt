-- What writes to a sink, one after the other, come to.
use Rattle.std.specs.Prelude.{◌≡◌, ℕ, List, ◌++◌, [], Option, Some, take, drop, refl}
use Rattle.std.specs.Option.{option_map}
use Rattle.std.proofs.Common.{take-append-drop, append_assoc, append-nil, sym, ap, ◌∙◌}
use Rattle.gm_outside.specs.Growth.{GrewBy, GrewByPrefix}

-- where what is held is told
pub grew_by-told : {held new text : List ℕ} → new ≡ held ++ text → GrewBy (Some held) (Some new) text
grew_by-told {text = text} is =
    record { grown = λ bytes same. ap Some is ∙ ap (option_map (λ bytes. bytes ++ text)) same }

pub grew_by_prefix-told : {held new text : List ℕ} (count : ℕ) → new ≡ held ++ take count text → GrewByPrefix (Some held) (Some new) text
grew_by_prefix-told {text = text} count is =
    record { added = take count text; rest = drop count text; parts = take-append-drop count text; grown = grew_by-told is }

-- nothing was added
pub grew_by-nothing : (held : Option (List ℕ)) → GrewBy held held []
grew_by-nothing held = record { grown = λ bytes is. is ∙ ap Some (sym (append-nil bytes)) }

-- one text was added and then another
pub grew_by-then : {old mid new : Option (List ℕ)} {first second : List ℕ}
    → GrewBy old mid first → GrewBy mid new second → GrewBy old new (first ++ second)
grew_by-then {first = first} {second = second} a b =
    record { grown = λ held is. b.grown (held ++ first) (a.grown held is) ∙ ap Some (append_assoc held first second) }

-- nothing of it was added
pub grew_by_prefix-none : (held : Option (List ℕ)) (text : List ℕ) → GrewByPrefix held held text
grew_by_prefix-none held text = record { added = []; rest = text; parts = refl; grown = grew_by-nothing held }

-- all of it was added
pub grew_by_prefix-all : {old new : Option (List ℕ)} {text : List ℕ} → GrewBy old new text → GrewByPrefix old new text
grew_by_prefix-all {text = text} a = record { added = text; rest = []; parts = append-nil text; grown = a }

-- the refusal came in the first of two texts
pub grew_by_prefix-first : {old new : Option (List ℕ)} {first : List ℕ} (second : List ℕ)
    → GrewByPrefix old new first → GrewByPrefix old new (first ++ second)
grew_by_prefix-first second a = record {
  added = a.added;
  rest = a.rest ++ second;
  parts = sym (append_assoc a.added a.rest second) ∙ ap (λ text. text ++ second) a.parts;
  grown = a.grown;
}

-- the refusal came in the second of two texts
pub grew_by_prefix-then : {old mid new : Option (List ℕ)} {first second : List ℕ}
    → GrewBy old mid first → GrewByPrefix mid new second → GrewByPrefix old new (first ++ second)
grew_by_prefix-then {first = first} a b = record {
  added = first ++ b.added;
  rest = b.rest;
  parts = append_assoc first b.added b.rest ∙ ap (λ text. first ++ text) b.parts;
  grown = grew_by-then a b.grown;
}

-- all of these
pub ruleset growth = (grew_by-told, grew_by_prefix-told, grew_by-nothing, grew_by-then, grew_by_prefix-none, grew_by_prefix-all, grew_by_prefix-first, grew_by_prefix-then)
