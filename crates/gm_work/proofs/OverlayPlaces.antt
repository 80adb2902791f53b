-- Overlays by place: the one of a chunk gives its key.
use Rattle.std.proofs.Common.{◌≡◌, ℕ, zero, suc, ◌+◌, ◌<◌, ◌≤◌, eqb, List, [], ◌∷◌, length, get_or, Result, Ok, Err, MatchResult, inl, inr, ap, ◌∙◌, refl, arith}
use Rattle.std.specs.List.Sorted.{IsBinarySearchResult, IsNonDecreasingBy, IsSearchInRange}
use Rattle.std.specs.Ordering.{nat_cmp}
use Rattle.std.proofs.lemmas.List.Sorted.{IsNonDecreasingBy-from_default}
use Rattle.std.proofs.lemmas.Bool.{cases_lt, ne_eqb, eq-eqb, cond-true, cond-false}
use Rattle.gm_base.specs.declared.copies.Key.{Key}
use Rattle.gm_base.specs.declared.copies.Tag.TheVariants.{Update}
use Rattle.gm_label.specs.declared.chunk.Overlay.{Overlay}
use Rattle.gm_label.specs.Overlays.{key_at, AscendByChunk}
use Rattle.gm_label.specs.SearchRules.{searched}

abbrev pub grid_key : ℕ → Key
grid_key c = record { chunk = c; tag = Update 0 }

pub none : Overlay
none = record { key = grid_key 0; added = [] }

abbrev chunk_at : List Overlay → ℕ → ℕ
chunk_at overlays k = (get_or overlays k none).key.chunk

chunk_at-le : (low : ℕ) (overlays : List Overlay) (k : ℕ) → AscendByChunk low overlays → k < length overlays → low ≤ chunk_at overlays k
chunk_at-le low [] k ascends within = absurd (omega arith)
chunk_at-le low (o ∷ overlays) zero ascends within = ascends.0
chunk_at-le low (o ∷ overlays) (suc k) ascends within =
    let rest = chunk_at-le (o.key.chunk + 1) overlays k ascends.1 (omega arith) in let first = ascends.0 in omega arith

chunk_at-lt : (low : ℕ) (overlays : List Overlay) (i j : ℕ) → AscendByChunk low overlays → i < j → j < length overlays
    → chunk_at overlays i < chunk_at overlays j
chunk_at-lt low [] i j ascends less within = absurd (omega arith)
chunk_at-lt low (o ∷ overlays) i zero ascends less within = absurd (omega arith)
chunk_at-lt low (o ∷ overlays) zero (suc j) ascends less within =
    let rest = chunk_at-le (o.key.chunk + 1) overlays j ascends.1 (omega arith) in omega arith
chunk_at-lt low (o ∷ overlays) (suc i) (suc j) ascends less within = chunk_at-lt (o.key.chunk + 1) overlays i j ascends.1 (omega arith) (omega arith)

chunks_rise : (overlays : List Overlay) → AscendByChunk 0 overlays → IsNonDecreasingBy (λ o. o.key.chunk) overlays
chunks_rise overlays ascend = IsNonDecreasingBy-from_default (λ o. o.key.chunk) overlays none (λ i j low within.
    elim (cases_lt i j) as (λ _. chunk_at overlays i ≤ chunk_at overlays j) [
      | inl less ↦ let rises = chunk_at-lt 0 overlays i j ascend less within in omega arith
      | inr not_less ↦ let same : i ≡ j = omega arith in let at = ap (chunk_at overlays) same in omega arith
    ])

key_at-none : (overlays : List Overlay) (c : ℕ) → ((k : ℕ) → k < length overlays → chunk_at overlays k ≡ c → ⊥) → key_at overlays c ≡ grid_key c
key_at-none [] c none_is = refl
key_at-none (o ∷ overlays) c none_is =
    cond-false (eqb o.key.chunk c) o.key (key_at overlays c) (ne_eqb o.key.chunk c (none_is 0 (omega arith)))
    ∙ key_at-none overlays c (λ k within. none_is (suc k) (omega arith))

key_at-found : (low : ℕ) (overlays : List Overlay) (c k : ℕ) → AscendByChunk low overlays → k < length overlays → chunk_at overlays k ≡ c
    → key_at overlays c ≡ (get_or overlays k none).key
key_at-found low [] c k ascends within here = absurd (omega arith)
key_at-found low (o ∷ overlays) c zero ascends within here =
    cond-true (eqb o.key.chunk c) o.key (key_at overlays c) (eq-eqb o.key.chunk c here)
key_at-found low (o ∷ overlays) c (suc k) ascends within here =
    let above = chunk_at-le (o.key.chunk + 1) overlays k ascends.1 (omega arith) in
    cond-false (eqb o.key.chunk c) o.key (key_at overlays c) (ne_eqb o.key.chunk c (λ same. omega arith))
    ∙ key_at-found (o.key.chunk + 1) overlays c k ascends.1 (omega arith) here

-- a search by chunk finds the chunk's key, or there is none
pub search_tells : (overlays : List Overlay) (c : ℕ) (r : Result ℕ ℕ) → AscendByChunk 0 overlays → IsSearchInRange r (length overlays)
    → IsBinarySearchResult (λ o. nat_cmp o.key.chunk c) overlays r
    → MatchResult r (λ at. key_at overlays c ≡ (get_or overlays at none).key) (λ _. key_at overlays c ≡ grid_key c)
search_tells overlays c (Ok at) ascend within by_chunk =
    let found = searched (λ o. o.key.chunk) overlays c (chunks_rise overlays ascend) (Ok at) within by_chunk in
    key_at-found 0 overlays c at ascend found.0 (found.1 none)
search_tells overlays c (Err at) ascend within by_chunk =
    let missing = searched (λ o. o.key.chunk) overlays c (chunks_rise overlays ascend) (Err at) within by_chunk in
    key_at-none overlays c (λ k below. missing k none below)
