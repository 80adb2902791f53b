-- Whether a word is a command's name.
use Rattle.std.proofs.Common.{◌≡◌, ◌∙◌, ℕ, Bool, true, false, refl, sym, List, codes, true≢false}
use Rattle.std.specs.Prelude.{bytes_eq}
use Rattle.std.proofs.lemmas.Slice.Eq.{bytes_eq-Decides}

-- the two tests by which a word isn't this name
pub record Differs (word name : List ℕ) : Type 0 where
  pub here : bytes_eq word name ≡ false
  pub there : bytes_eq name word ≡ false

pub data Named (word : List ℕ) : Type 0 where
  run : word ≡ codes "run" → Named word
  build : word ≡ codes "build" → Named word
  info : word ≡ codes "info" → Named word
  other : Differs word (codes "run") → Differs word (codes "build") → Differs word (codes "info") → Named word

by_test : (b : Bool) (P : Type 0) → (b ≡ true → P) → (b ≡ false → P) → P
by_test true P t f = t refl
by_test false P t f = f refl

same : (a b : List ℕ) → bytes_eq a b ≡ true → a ≡ b
same a b h = (bytes_eq-Decides a b).0 h

swapped : (a b : List ℕ) → bytes_eq a b ≡ false → bytes_eq b a ≡ false
swapped a b h = by_test (bytes_eq b a) (bytes_eq b a ≡ false)
    (λ t. absurd (true≢false (sym ((bytes_eq-Decides a b).1 (sym (same b a t))) ∙ h))) (λ f. f)

differs : (a b : List ℕ) → bytes_eq a b ≡ false → Differs a b
differs a b h = record { here = h; there = swapped a b h }

pub named : (word : List ℕ) → Named word
named word =
    by_test (bytes_eq word (codes "run")) (Named word) (λ t. run (same word (codes "run") t)) (λ no_run.
    by_test (bytes_eq word (codes "build")) (Named word) (λ t. build (same word (codes "build") t)) (λ no_build.
    by_test (bytes_eq word (codes "info")) (Named word) (λ t. info (same word (codes "info") t)) (λ no_info.
    other (differs word (codes "run") no_run) (differs word (codes "build") no_build) (differs word (codes "info") no_info))))
