-- What proofs need of needed chunks: sources that come together are needed where one part is, and what a chunk's need comes to where
-- the column of its block is active, isn't, or nothing is.
use Rattle.std.specs.Prelude.{◌≡◌, ℕ, ◌<◌, Bool, true, false, ◌||◌, List, [], ◌∷◌, ◌++◌, length, All}
use Rattle.std.specs.List.{list_any}
use Rattle.std.proofs.Common.{ap, sym, ◌∙◌, refl, append-nil, arith}
use Rattle.std.proofs.lemmas.List.Elements.{All-weaker}
use Rattle.std.proofs.lemmas.List.Folds.{list_any-append, list_any_none}
use Rattle.std.proofs.lemmas.List.FromFn.{get_or-map-range_with_len, length-map-range_with_len}
use Rattle.gm_base.specs.Dimensions.{Dimensions}
use Rattle.gm_label.specs.Catalogues.{first_source_of, end_source_of, IsSourceIn}
use Rattle.gm_active.specs.Bits.{is_in, any_between}
use Rattle.gm_active.specs.BitsRules.{none_from_any}
use Rattle.gm_active.specs.Needs.{has_source, is_column_active, is_needed, needed_chunks, counted_chunks}

or_false : (b : Bool) → (b || false) ≡ b
or_false true = refl
or_false false = refl

or_true : (b : Bool) → (b || true) ≡ true
or_true true = refl
or_true false = refl

or_of_parts : (a b column : Bool) → ((a || b) || column) ≡ ((a || column) || (b || column))
or_of_parts true b column = refl
or_of_parts false true true = refl
or_of_parts false true false = refl
or_of_parts false false true = refl
or_of_parts false false false = refl

pub has_source-append : (xs ys : List ℕ) → has_source (xs ++ ys) ≡ (has_source xs || has_source ys)
has_source-append [] ys = refl
has_source-append (x ∷ xs) ys = refl

-- a chunk is needed for two lists of sources where it is needed for one of them
pub is_needed-append : (d : Dimensions) (is_two_way : Bool) (is_active : ℕ → Bool) (block : ℕ) (xs ys : List ℕ)
    → is_needed d is_two_way is_active block (xs ++ ys) ≡ (is_needed d is_two_way is_active block xs || is_needed d is_two_way is_active block ys)
is_needed-append d is_two_way is_active block [] ys = refl
is_needed-append d is_two_way is_active block (x ∷ xs) [] =
    ap (is_needed d is_two_way is_active block) (append-nil (x ∷ xs)) ∙ sym (or_false (is_needed d is_two_way is_active block (x ∷ xs)))
is_needed-append d is_two_way is_active block (x ∷ xs) (y ∷ ys) =
    ap (λ (b : Bool). b || is_column_active d is_two_way is_active block) (list_any-append is_active (x ∷ xs) (y ∷ ys))
    ∙ or_of_parts (list_any is_active (x ∷ xs)) (list_any is_active (y ∷ ys)) (is_column_active d is_two_way is_active block)

pub needed_with_column : (d : Dimensions) (is_two_way : Bool) (is_active : ℕ → Bool) (block : ℕ) (sources : List ℕ)
    → is_column_active d is_two_way is_active block ≡ true → is_needed d is_two_way is_active block sources ≡ has_source sources
needed_with_column d is_two_way is_active block [] column = refl
needed_with_column d is_two_way is_active block (source ∷ sources) column =
    ap (λ (b : Bool). list_any is_active (source ∷ sources) || b) column ∙ or_true (list_any is_active (source ∷ sources))

pub needed_without_column : (d : Dimensions) (is_two_way : Bool) (is_active : ℕ → Bool) (block : ℕ) (sources : List ℕ)
    → is_column_active d is_two_way is_active block ≡ false → is_needed d is_two_way is_active block sources ≡ list_any is_active sources
needed_without_column d is_two_way is_active block [] column = refl
needed_without_column d is_two_way is_active block (source ∷ sources) column =
    ap (λ (b : Bool). list_any is_active (source ∷ sources) || b) column ∙ or_false (list_any is_active (source ∷ sources))

-- no source of a block's row is active where no vertex of the row is
pub none_in_row : (d : Dimensions) (is_active : ℕ → Bool) (block : ℕ) (sources : List ℕ) → All (IsSourceIn d block) sources
    → any_between is_active (first_source_of d block) (end_source_of d block) ≡ false → list_any is_active sources ≡ false
none_in_row d is_active block sources placed quiet =
    let none = none_from_any is_active (first_source_of d block) (end_source_of d block) quiet in
    list_any_none is_active sources (All-weaker (IsSourceIn d block) (λ s. is_active s ≡ false) (λ s within. none s within.0 within.1) sources placed)

-- each chunk's mark among the needed ones
pub needed_at : (d : Dimensions) (is_two_way : Bool) (is_active : ℕ → Bool) (chunks : ℕ) (block_at : ℕ → ℕ) (sources_at : ℕ → List ℕ) (c : ℕ) → c < chunks
    → is_in (needed_chunks d is_two_way is_active chunks block_at sources_at) c ≡ is_needed d is_two_way is_active (block_at c) (sources_at c)
needed_at d is_two_way is_active chunks block_at sources_at c within =
    get_or-map-range_with_len (λ k. is_needed d is_two_way is_active (block_at k) (sources_at k)) 0 chunks c c false within (omega arith)

pub counted_at : (chunks : ℕ) (sources_at : ℕ → List ℕ) (c : ℕ) → c < chunks → is_in (counted_chunks chunks sources_at) c ≡ has_source (sources_at c)
counted_at chunks sources_at c within = get_or-map-range_with_len (λ k. has_source (sources_at k)) 0 chunks c c false within (omega arith)

pub length-needed_chunks : (d : Dimensions) (is_two_way : Bool) (is_active : ℕ → Bool) (chunks : ℕ) (block_at : ℕ → ℕ) (sources_at : ℕ → List ℕ)
    → length (needed_chunks d is_two_way is_active chunks block_at sources_at) ≡ chunks
length-needed_chunks d is_two_way is_active chunks block_at sources_at =
    length-map-range_with_len (λ c. is_needed d is_two_way is_active (block_at c) (sources_at c)) 0 chunks

pub length-counted_chunks : (chunks : ℕ) (sources_at : ℕ → List ℕ) → length (counted_chunks chunks sources_at) ≡ chunks
length-counted_chunks chunks sources_at = length-map-range_with_len (λ c. has_source (sources_at c)) 0 chunks

pub ruleset needing = (has_source-append, is_needed-append, needed_with_column, needed_without_column, none_in_row, needed_at, counted_at, length-needed_chunks, length-counted_chunks)
