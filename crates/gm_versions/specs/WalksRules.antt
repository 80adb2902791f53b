-- What proofs need of walks over chunks that take a step for each of them, and of maps from chunks.
use Rattle.std.proofs.Common.{◌≡◌, ℕ, zero, suc, ◌+◌, ◌<◌, ◌≤◌, Bool, true, false, cond, eqb, ltb, nat_cmp, List, [], ◌∷◌, ◌++◌, map, Option, Some, None, inl, inr, sym, ap, ◌∙◌, refl, subst, arith}
use Rattle.std.specs.List.{filter, range_with_len, AllByRecursion}
use Rattle.std.specs.List.Sorted.{IsStrictlySortedBy}
use Rattle.std.specs.Map.{lookup}
use Rattle.std.specs.declared.cmp.Ordering.TheVariants.{Less, Equal, Greater}
use Rattle.std.specs.BTreeMap.{is_at}
use Rattle.std.specs.Cmp.{unsigned_tied}
use Rattle.std.proofs.lemmas.Bool.{cases_Bool, cases_lt, eqb-true, eq-eqb, eqb-false, ne_eqb, ltb-true, lt-ltb, le-ltb, cond-true, cond-false}

-- one chunk further: those before it had their step, and the others are as they were
pub walked : {H : Type 0} (step : ℕ → H → H) (start old new : ℕ → H) (c q : ℕ)
    → old q ≡ cond (ltb q c) (step q (start q)) (start q) → new q ≡ cond (eqb q c) (step q (old q)) (old q)
    → new q ≡ cond (ltb q (c + 1)) (step q (start q)) (start q)
walked {H} step start old new c q before now =
    let stepped = step q (start q) in
    elim (cases_lt q c) as (λ _. new q ≡ cond (ltb q (c + 1)) stepped (start q)) [
      | inl less ↦
          let apart : eqb q c ≡ false = ne_eqb q c (λ same. omega arith) in
          now ∙ cond-false (eqb q c) _ _ apart ∙ before ∙ cond-true (ltb q c) _ _ (lt-ltb q c less)
          ∙ sym (cond-true (ltb q (c + 1)) stepped (start q) (lt-ltb q (c + 1) (omega arith)))
      | inr not_less ↦
          let kept : old q ≡ start q = before ∙ cond-false (ltb q c) _ _ (le-ltb q c not_less) in
          elim (cases_lt c q) as (λ _. new q ≡ cond (ltb q (c + 1)) stepped (start q)) [
            | inl more ↦
                let apart : eqb q c ≡ false = ne_eqb q c (λ same. omega arith) in
                now ∙ cond-false (eqb q c) _ _ apart ∙ kept ∙ sym (cond-false (ltb q (c + 1)) stepped (start q) (le-ltb q (c + 1) (omega arith)))
            | inr not_more ↦
                let here : eqb q c ≡ true = eq-eqb q c (omega arith) in
                now ∙ cond-true (eqb q c) _ _ here ∙ ap (step q) kept
                ∙ sym (cond-true (ltb q (c + 1)) stepped (start q) (lt-ltb q (c + 1) (omega arith)))
          ]
    ]

less : (x y : ℕ) → nat_cmp x y ≡ Less → x < y
less x y is =
    let at : (b t : Bool) → ltb x y ≡ b → cond b Less (cond t Equal Greater) ≡ Less → x < y = elim [
      | true ↦ λ t h _. ltb-true x y h
      | false ↦ elim [ true ↦ λ h e. absurd (cc) | false ↦ λ h e. absurd (cc) ]
    ] in
    at (ltb x y) (eqb x y) refl is

module _ {V : Type 0} where
  -- what a map has of a chunk, by its entries
  abbrev pub found : ℕ → List (ℕ × V) → Option V
  found c [] = None
  found c (e ∷ es) = cond (eqb c e.0) (Some e.1) (found c es)

  pub found-is : (c : ℕ) (es : List (ℕ × V)) → lookup (is_at (nat_cmp c)) es ≡ found c es
  found-is c [] = refl
  found-is c (e ∷ es) =
      let rest = lookup (is_at (nat_cmp c)) es in
      ap (λ (b : Bool). cond b (Some e.1) rest) (unsigned_tied c e.0) ∙ ap (cond (eqb c e.0) (Some e.1)) (found-is c es)

  -- entries ascend from this number on
  Ascends : ℕ → List (ℕ × V) → Type 0
  Ascends low [] = Unit {0}
  Ascends low (e ∷ es) = (low ≤ e.0) × Ascends (e.0 + 1) es

  above : (k : ℕ) (es : List (ℕ × V)) → AllByRecursion (λ y. nat_cmp k y ≡ Less) (map (λ e. e.0) es) → AllByRecursion (λ e. k + 1 ≤ e.0) es
  above k [] h = tt
  above k (e ∷ es) h = let more = less k e.0 h.0 in (omega arith, above k es h.1)

  ascends-from : (low : ℕ) (es : List (ℕ × V)) → AllByRecursion (λ e. low ≤ e.0) es → IsStrictlySortedBy nat_cmp (map (λ e. e.0) es) → Ascends low es
  unfolding Ascends IsStrictlySortedBy
  ascends-from low [] from sorted = tt
  ascends-from low (e ∷ es) from sorted = (from.0, ascends-from (e.0 + 1) es (above e.0 es sorted.0) sorted.1)

  from-zero : (es : List (ℕ × V)) → AllByRecursion (λ e. 0 ≤ e.0) es
  from-zero [] = tt
  from-zero (e ∷ es) = (omega arith, from-zero es)

  found-below : (c low : ℕ) (es : List (ℕ × V)) → Ascends low es → c < low → found c es ≡ None
  unfolding Ascends
  found-below c low [] h below = refl
  found-below c low (e ∷ es) h below =
      let first = h.0 in
      cond-false (eqb c e.0) (Some e.1) (found c es) (ne_eqb c e.0 (λ same. omega arith)) ∙ found-below c (e.0 + 1) es h.1 (omega arith)

  -- the entries behind a number from which all ascend
  after : ℕ → List (ℕ × V) → List (ℕ × V)
  after low [] = []
  after low (e ∷ es) = cond (eqb low e.0) es (e ∷ es)

  module _ {X : Type 0} (told : ℕ → V → List X) where
    -- what is told of a chunk, if it is in the map, and of all chunks of a map
    abbrev pub told_of : ℕ → Option V → List X
    told_of c None = []
    told_of c (Some value) = told c value

    abbrev pub told_in : List (ℕ × V) → List X
    told_in [] = []
    told_in (e ∷ es) = told e.0 e.1 ++ told_in es

    record Parted (low : ℕ) (es : List (ℕ × V)) : Type 0 where
      split : told_in es ≡ told_of low (found low es) ++ told_in (after low es)
      ascends : Ascends (low + 1) (after low es)
      found_in : (c : ℕ) → low < c → found c (after low es) ≡ found c es

    parted : (low : ℕ) (es : List (ℕ × V)) → Ascends low es → Parted low es
    unfolding Ascends after
    parted low [] h = record { split = refl; ascends = tt; found_in = λ c more. refl }
    parted low (e ∷ es) h =
        elim (cases_Bool (eqb low e.0)) as (λ _. Parted low (e ∷ es)) [
          | inl here ↦
              let is = eqb-true low e.0 here in
              let rest : after low (e ∷ es) ≡ es = cond-true (eqb low e.0) es (e ∷ es) here in
              let first : found low (e ∷ es) ≡ Some e.1 = cond-true (eqb low e.0) (Some e.1) (found low es) here in
              record {
                split = ap (λ (c : ℕ). told c e.1 ++ told_in es) (sym is)
                    ∙ ap (λ (v : Option V). told_of low v ++ told_in es) (sym first)
                    ∙ ap (λ (xs : List (ℕ × V)). told_of low (found low (e ∷ es)) ++ told_in xs) (sym rest);
                ascends = subst (λ (xs : List (ℕ × V)). Ascends (low + 1) xs) (sym rest) (subst (λ (k : ℕ). Ascends (k + 1) es) (sym is) h.1);
                found_in = λ c more.
                    let other : eqb c e.0 ≡ false = ne_eqb c e.0 (λ same. omega arith) in
                    ap (found c) rest ∙ sym (cond-false (eqb c e.0) (Some e.1) (found c es) other);
              }
          | inr other ↦
              let first = h.0 in
              let apart = eqb-false low e.0 other in
              let more : low < e.0 = elim (cases_lt low e.0) as (λ _. low < e.0) [ inl before ↦ before | inr behind ↦ absurd (apart (omega arith)) ] in
              let rest : after low (e ∷ es) ≡ e ∷ es = cond-false (eqb low e.0) es (e ∷ es) other in
              let nothing : found low (e ∷ es) ≡ None = cond-false (eqb low e.0) (Some e.1) (found low es) other ∙ found-below low (e.0 + 1) es h.1 (omega arith) in
              record {
                split = sym (ap (λ (v : Option V). told_of low v ++ told_in (after low (e ∷ es))) nothing ∙ ap told_in rest);
                ascends = subst (λ (xs : List (ℕ × V)). Ascends (low + 1) xs) (sym rest) (omega arith, h.1);
                found_in = λ c later. ap (found c) rest;
              }
        ]

    none-past : (low : ℕ) (es : List (ℕ × V)) → Ascends low es → ((c : ℕ) → low ≤ c → told_of c (found c es) ≡ []) → told_in es ≡ []
    unfolding Ascends
    none-past low [] h none = refl
    none-past low (e ∷ es) h none =
        let first = h.0 in
        let here : told e.0 e.1 ≡ [] =
        ap (told_of e.0) (sym (cond-true (eqb e.0 e.0) (Some e.1) (found e.0 es) (eq-eqb e.0 e.0 refl))) ∙ none e.0 first in
        ap (λ (os : List X). os ++ told_in es) here
        ∙ none-past (e.0 + 1) es h.1 (λ c more.
        ap (told_of c) (sym (cond-false (eqb c e.0) (Some e.1) (found c es) (ne_eqb c e.0 (λ same. omega arith)))) ∙ none c (omega arith))

    filtered-first : (item : ℕ → X) (is_one : ℕ → Bool) (c : ℕ) (cs : List ℕ)
        → map item (filter is_one (c ∷ cs)) ≡ cond (is_one c) (item c ∷ []) [] ++ map item (filter is_one cs)
    filtered-first item is_one c cs =
        let rest = filter is_one cs in
        let at : (b : Bool) → map item (cond b (c ∷ rest) rest) ≡ cond b (item c ∷ []) [] ++ map item rest = elim [ true ↦ refl | false ↦ refl ] in
        at (is_one c)

    entries-match : (low n : ℕ) (es : List (ℕ × V)) (item : ℕ → X) (is_one : ℕ → Bool) → Ascends low es
        → ((c : ℕ) → low ≤ c → c < low + n → told_of c (found c es) ≡ cond (is_one c) (item c ∷ []) [])
        → ((c : ℕ) → low + n ≤ c → told_of c (found c es) ≡ [])
        → told_in es ≡ map item (filter is_one (range_with_len low n))
    entries-match low zero es item is_one ascends inside outside =
        none-past low es ascends (λ c more. outside c (omega arith))
    entries-match low (suc n) es item is_one ascends inside outside =
        let parts = parted low es ascends in
        let rest = entries-match (low + 1) n (after low es) item is_one parts.ascends
        (λ c more less. ap (told_of c) (parts.found_in c (omega arith)) ∙ inside c (omega arith) (omega arith))
        (λ c more. ap (told_of c) (parts.found_in c (omega arith)) ∙ outside c (omega arith)) in
        parts.split
        ∙ ap (λ (os : List X). os ++ told_in (after low es)) (inside low (omega arith) (omega arith))
        ∙ ap (λ (os : List X). cond (is_one low) (item low ∷ []) [] ++ os) rest
        ∙ sym (filtered-first item is_one low (range_with_len (low + 1) n))

    -- What a map tells of its chunks in order is what is told of each chunk, where it has nothing of the chunks that fail a test, nor of
    -- numbers that no chunk has.
    pub told-filtered : (n : ℕ) (es : List (ℕ × V)) (item : ℕ → X) (is_one : ℕ → Bool) → IsStrictlySortedBy nat_cmp (map (λ e. e.0) es)
        → ((c : ℕ) → c < n → told_of c (lookup (is_at (nat_cmp c)) es) ≡ cond (is_one c) (item c ∷ []) [])
        → ((c : ℕ) → n ≤ c → told_of c (lookup (is_at (nat_cmp c)) es) ≡ [])
        → told_in es ≡ map item (filter is_one (range_with_len 0 n))
    told-filtered n es item is_one sorted inside outside =
        entries-match 0 n es item is_one (ascends-from 0 es (from-zero es) sorted)
        (λ c low within. ap (told_of c) (sym (found-is c es)) ∙ inside c (omega arith))
        (λ c past. ap (told_of c) (sym (found-is c es)) ∙ outside c (omega arith))
