-- Sets to which the numbers that pass a test are added, one after the other.
use Rattle.std.proofs.Common.{◌≡◌, ◌≢◌, ℕ, ◌+◌, ◌<◌, ◌≤◌, Bool, true, false, not, ◌||◌, eqb, List, [], ◌∷◌, length, get_or, map, replicate, sym, ap, refl, ◌∙◌, subst, inl, inr, arith, le-leb, lt-ltb, le-ltb, eq-eqb, ne_eqb}
use Rattle.std.proofs.Math.ListN.{set}
use Rattle.std.specs.List.{range_with_len, list_any, All}
use Rattle.std.proofs.lemmas.Bool.{cases_lt, cases_eq, lt-leb}
use Rattle.std.proofs.lemmas.List.{length-replicate, length-map, get_or-map, get_or-set_same, get_or-set_other, length-set}
use Rattle.std.proofs.lemmas.List.FromFn.{length-map-range_with_len, get_or-map-range_with_len, fill_by_all}
use Rattle.gm_base.specs.Dimensions.{Dimensions}
use Rattle.gm_label.specs.Labels.{sources_of}
use Rattle.gm_label.specs.Catalogues.{IsSourceIn}
use Rattle.gm_label.specs.declared.chunk.Overlay.{Overlay}
use Rattle.gm_label.specs.Overlays.{added_at, AscendByChunk}
use Rattle.gm_active.specs.Bits.{is_in}
use Rattle.gm_active.specs.BitsRules.{no_marks}
use Rattle.gm_active.specs.Needs.{has_source}
use Rattle.gm_active.specs.Adding.{with_all, between}

pub length-with_all : (marks : List Bool) (test : ℕ → Bool) → length (with_all marks test) ≡ length marks
unfolding with_all
length-with_all marks test = length-map-range_with_len (λ k. is_in marks k || test k) 0 (length marks)

pub with_all_at : (marks : List Bool) (test : ℕ → Bool) (k : ℕ) → k < length marks → is_in (with_all marks test) k ≡ (is_in marks k || test k)
unfolding with_all
with_all_at marks test k within = get_or-map-range_with_len (λ j. is_in marks j || test j) 0 (length marks) k k false within (omega arith)

-- a set is another with all that pass a test if each mark is
pub with_all_by : (marks others : List Bool) (test : ℕ → Bool) → length others ≡ length marks → ((k : ℕ) → k < length marks → is_in others k ≡ (is_in marks k || test k)) → others ≡ with_all marks test
unfolding with_all
with_all_by marks others test long each = fill_by_all (λ k. is_in marks k || test k) others (length marks) false long each

pub with_all_same : (marks : List Bool) (test other : ℕ → Bool) → ((k : ℕ) → k < length marks → test k ≡ other k) → with_all marks test ≡ with_all marks other
with_all_same marks test other same =
    with_all_by marks (with_all marks test) other (length-with_all marks test)
    (λ k within. with_all_at marks test k within ∙ ap (λ (b : Bool). is_in marks k || b) (same k within))

or_false : (b : Bool) → b ≡ (b || false)
or_false true = refl
or_false false = refl

or_true : (b : Bool) → true ≡ (b || true)
or_true true = refl
or_true false = refl

-- where the second is true only if the first is
or_inside : (a b : Bool) → (b ≡ true → a ≡ true) → (a || b) ≡ a
or_inside true b h = refl
or_inside false true h = sym (h refl)
or_inside false false h = refl

or_assoc : (a b c : Bool) → ((a || b) || c) ≡ (a || (b || c))
or_assoc true b c = refl
or_assoc false b c = refl

pub with_none : (marks : List Bool) (test : ℕ → Bool) → ((k : ℕ) → k < length marks → test k ≡ false) → marks ≡ with_all marks test
with_none marks test none = with_all_by marks marks test refl (λ k within. or_false (is_in marks k) ∙ ap (λ (b : Bool). is_in marks k || b) (sym (none k within)))

-- one that passes is added
pub with_one_more : (marks : List Bool) (test other : ℕ → Bool) (c : ℕ) → c < length marks → other c ≡ true → ((k : ℕ) → k ≢ c → test k ≡ other k)
    → set (with_all marks test) c true ≡ with_all marks other
with_one_more marks test other c within passes same =
    let long = length-with_all marks test in
    with_all_by marks (set (with_all marks test) c true) other (length-set (with_all marks test) c true ∙ long) (λ k below.
    elim (cases_eq k c) as (λ _. get_or (set (with_all marks test) c true) k false ≡ (is_in marks k || other k)) [
      | inl equal ↦
          subst (λ (at : ℕ). get_or (set (with_all marks test) c true) at false ≡ (is_in marks at || other at)) (sym equal)
          (get_or-set_same (with_all marks test) c true false (omega arith) ∙ or_true (is_in marks c) ∙ ap (λ (b : Bool). is_in marks c || b) (sym passes))
      | inr differ ↦ get_or-set_other (with_all marks test) c k true false differ ∙ with_all_at marks test k below ∙ ap (λ (b : Bool). is_in marks k || b) (same k differ)
    ])

pub with_all_twice : (marks : List Bool) (first second both : ℕ → Bool) → ((k : ℕ) → k < length marks → (first k || second k) ≡ both k) → with_all (with_all marks first) second ≡ with_all marks both
with_all_twice marks first second both joined =
    let long = length-with_all marks first in
    with_all_by marks (with_all (with_all marks first) second) both (length-with_all (with_all marks first) second ∙ long) (λ k below.
    with_all_at (with_all marks first) second k (omega arith) ∙ ap (λ (b : Bool). b || second k) (with_all_at marks first k below)
    ∙ or_assoc (is_in marks k) (first k) (second k) ∙ ap (λ (b : Bool). is_in marks k || b) (joined k below))

-- tests of a range

pub between_inside : (from end : ℕ) (test : ℕ → Bool) (k : ℕ) → from ≤ k → k < end → between from end test k ≡ test k
between_inside from end test k low high = rw (le-leb from k low, lt-ltb k end high) refl

pub between_before : (from end : ℕ) (test : ℕ → Bool) (k : ℕ) → k < from → between from end test k ≡ false
between_before from end test k low = rw (lt-leb from k low) refl

pub between_behind : (from end : ℕ) (test : ℕ → Bool) (k : ℕ) → end ≤ k → between from end test k ≡ false
between_behind from end test k high =
    elim (cases_lt k from) as (λ _. between from end test k ≡ false) [
      | inl before ↦ between_before from end test k before
      | inr inside ↦ rw (le-leb from k inside, le-ltb k end high) refl
    ]

pub between_none : (marks : List Bool) (from : ℕ) (test : ℕ → Bool) → marks ≡ with_all marks (between from from test)
between_none marks from test =
    with_none marks (between from from test) (λ k within.
    elim (cases_lt k from) as (λ _. between from from test k ≡ false) [
      | inl before ↦ between_before from from test k before
      | inr behind ↦ between_behind from from test k behind
    ])

between_other : (from at : ℕ) (test : ℕ → Bool) (k : ℕ) → k ≢ at → between from at test k ≡ between from (at + 1) test k
between_other from at test k differ =
    elim (cases_lt k from) as (λ _. between from at test k ≡ between from (at + 1) test k) [
      | inl before ↦ between_before from at test k before ∙ sym (between_before from (at + 1) test k before)
      | inr low ↦ elim (cases_lt k at) as (λ _. between from at test k ≡ between from (at + 1) test k) [
        | inl high ↦ between_inside from at test k low high ∙ sym (between_inside from (at + 1) test k low (omega arith))
        | inr behind ↦ between_behind from at test k behind ∙ sym (between_behind from (at + 1) test k (omega arith))
      ]
    ]

pub between_yes : (marks : List Bool) (from at : ℕ) (test : ℕ → Bool) → from ≤ at → at < length marks → test at ≡ true
    → set (with_all marks (between from at test)) at true ≡ with_all marks (between from (at + 1) test)
between_yes marks from at test low within passes =
    with_one_more marks (between from at test) (between from (at + 1) test) at within
    (between_inside from (at + 1) test at low (omega arith) ∙ passes) (between_other from at test)

pub between_no : (marks : List Bool) (from at : ℕ) (test : ℕ → Bool) → from ≤ at → test at ≡ false → with_all marks (between from at test) ≡ with_all marks (between from (at + 1) test)
between_no marks from at test low fails =
    with_all_same marks (between from at test) (between from (at + 1) test) (λ k within.
    elim (cases_eq k at) as (λ _. between from at test k ≡ between from (at + 1) test k) [
      | inl equal ↦
          subst (λ (j : ℕ). between from at test j ≡ between from (at + 1) test j) (sym equal)
          (between_behind from at test at (omega arith) ∙ sym (between_inside from (at + 1) test at low (omega arith) ∙ fails))
      | inr differ ↦ between_other from at test k differ
    ])

inside_only : (P : Bool → Bool → Type 0) (from end : ℕ) (test other : ℕ → Bool) (k : ℕ) → P false false → (from ≤ k → k < end → P (test k) (other k)) → P (between from end test k) (between from end other k)
inside_only P from end test other k outside inside =
    elim (cases_lt k from) as (λ _. P (between from end test k) (between from end other k)) [
      | inl before ↦ rw (between_before from end test k before, between_before from end other k before) outside
      | inr low ↦ elim (cases_lt k end) as (λ _. P (between from end test k) (between from end other k)) [
        | inl high ↦ rw (between_inside from end test k low high, between_inside from end other k low high) (inside low high)
        | inr behind ↦ rw (between_behind from end test k behind, between_behind from end other k behind) outside
      ]
    ]

-- tests that say the same within the range add the same
pub between_same : (marks : List Bool) (from end : ℕ) (test other : ℕ → Bool) → ((k : ℕ) → from ≤ k → k < end → test k ≡ other k)
    → with_all marks (between from end test) ≡ with_all marks (between from end other)
between_same marks from end test other same =
    with_all_same marks (between from end test) (between from end other) (λ k within. inside_only (λ a b. a ≡ b) from end test other k refl (same k))

pub between_nothing : (marks : List Bool) (from end : ℕ) (test : ℕ → Bool) → ((k : ℕ) → from ≤ k → k < end → test k ≡ false) → marks ≡ with_all marks (between from end test)
between_nothing marks from end test none =
    with_none marks (between from end test) (λ k within. inside_only (λ a b. a ≡ false) from end test test k refl (none k))

passes_inside : (from end : ℕ) (test : ℕ → Bool) (k : ℕ) → between from end test k ≡ true → test k ≡ true
passes_inside from end test k passes =
    elim (cases_lt k from) as (λ _. test k ≡ true) [
      | inl before ↦ let fails = between_before from end test k before in cc
      | inr low ↦ elim (cases_lt k end) as (λ _. test k ≡ true) [
        | inl high ↦ sym (between_inside from end test k low high) ∙ passes
        | inr behind ↦ let fails = between_behind from end test k behind in cc
      ]
    ]

-- a range, and another that begins within it or where it ends
pub between_joined : (first at end : ℕ) (test : ℕ → Bool) (k : ℕ) → first ≤ at → at ≤ end → (between 0 at test k || between first end test k) ≡ between 0 end test k
between_joined first at end test k starts ends =
    elim (cases_lt k at) as (λ _. (between 0 at test k || between first end test k) ≡ between 0 end test k) [
      | inl before ↦
          ap (λ (b : Bool). b || between first end test k) (between_inside 0 at test k (omega arith) before)
          ∙ or_inside (test k) (between first end test k) (passes_inside first end test k)
          ∙ sym (between_inside 0 end test k (omega arith) (omega arith))
      | inr after ↦
          ap (λ (b : Bool). b || between first end test k) (between_behind 0 at test k after)
          ∙ elim (cases_lt k end) as (λ _. between first end test k ≡ between 0 end test k) [
            | inl high ↦ between_inside first end test k (omega arith) high ∙ sym (between_inside 0 end test k (omega arith) high)
            | inr behind ↦ between_behind first end test k behind ∙ sym (between_behind 0 end test k behind)
          ]
    ]

pub between_whole : (marks : List Bool) (test : ℕ → Bool) → with_all marks (between 0 (length marks) test) ≡ with_all marks test
between_whole marks test = with_all_same marks (between 0 (length marks) test) test (λ k within. between_inside 0 (length marks) test k (omega arith) within)

-- sources of labels

pub has_source_by : (sources : List ℕ) (empty : Bool) → empty ≡ eqb (length sources) 0 → has_source sources ≡ not empty
has_source_by [] empty is = sym (ap not is)
has_source_by (source ∷ sources) empty is = sym (ap not (is ∙ ne_eqb (length (source ∷ sources)) 0 (λ same. omega arith)))

pub label_has_source : (label : List (ℕ × ℕ)) (empty : Bool) → empty ≡ eqb (length label) 0 → has_source (sources_of label) ≡ not empty
label_has_source label empty is = has_source_by (sources_of label) empty (is ∙ ap (λ (n : ℕ). eqb n 0) (sym (length-map label (λ (pair : ℕ × ℕ). pair.0))))

pub any_in_label : (test : ℕ → Bool) (label : List (ℕ × ℕ)) → list_any (λ pair. test pair.0) label ≡ list_any test (sources_of label)
any_in_label test [] = refl
any_in_label test (pair ∷ label) = ap (λ (b : Bool). test pair.0 || b) (any_in_label test label)

-- the sources of a block's label are below the number of vertices
pub label_below : (d : Dimensions) (block n : ℕ) (label : List (ℕ × ℕ)) → n ≡ d.n → All (IsSourceIn d block) (sources_of label) → All (λ pair. pair.0 < n) label
label_below d block n label vertices placed =
    λ k e less.
    let at : get_or (sources_of label) k e.0 ≡ (get_or label k e).0 = get_or-map (λ (pair : ℕ × ℕ). pair.0) label k e e.0 less in
    let within = placed k e.0 (omega (arith, length-map label (λ (pair : ℕ × ℕ). pair.0))) in
    let end = within.1 in
    omega arith

-- two tests after another from the empty set: the marks of a third that is the two together
pub with_both : (size chunks : ℕ) (first second both : ℕ → Bool) → size ≡ chunks → ((k : ℕ) → (first k || second k) ≡ both k)
    → with_all (with_all (replicate size false) first) second ≡ map both (range_with_len 0 chunks)
with_both size chunks first second both long joined =
    let none : List Bool = replicate size false in
    let empty = length-replicate size false in
    let all = with_all_twice none first second both (λ k below. joined k) in
    fill_by_all both (with_all (with_all none first) second) chunks false
    (length-with_all (with_all none first) second ∙ length-with_all none first ∙ empty ∙ long)
    (λ k below. ap (λ (marks : List Bool). is_in marks k) all ∙ with_all_at none both k (omega arith) ∙ ap (λ (b : Bool). b || both k) (no_marks size k))

-- overlays, one after the other

pub none_added_before : (low c : ℕ) (overlays : List Overlay) → AscendByChunk low overlays → c < low → added_at overlays c ≡ []
none_added_before low c [] ascend before = refl
none_added_before low c (overlay ∷ overlays) ascend before =
    let differ : overlay.key.chunk ≢ c = λ same. let above = ascend.0 in omega arith in
    rw (ne_eqb overlay.key.chunk c differ) (none_added_before (overlay.key.chunk + 1) c overlays ascend.1 (let above = ascend.0 in omega arith))

pub ascend_from_zero : (low : ℕ) (overlays : List Overlay) → AscendByChunk low overlays → AscendByChunk 0 overlays
ascend_from_zero low [] ascend = tt
ascend_from_zero low (overlay ∷ overlays) ascend = (omega arith, ascend.1)

added_here : (overlay : Overlay) (overlays : List Overlay) → added_at (overlay ∷ overlays) overlay.key.chunk ≡ overlay.added
added_here overlay overlays = rw (eq-eqb overlay.key.chunk overlay.key.chunk refl) refl

added_elsewhere : (overlay : Overlay) (overlays : List Overlay) (c : ℕ) → c ≢ overlay.key.chunk → added_at (overlay ∷ overlays) c ≡ added_at overlays c
added_elsewhere overlay overlays c differ = rw (ne_eqb overlay.key.chunk c (λ same. differ (sym same))) refl

-- for a test that no chunk passes without sources: what the first overlay and the others add
pub overlay_yes : (test : ℕ → List ℕ → Bool) (marks : List Bool) (low : ℕ) (overlay : Overlay) (overlays : List Overlay) → AscendByChunk low (overlay ∷ overlays)
    → overlay.key.chunk < length marks → test overlay.key.chunk overlay.added ≡ true
    → with_all (set marks overlay.key.chunk true) (λ c. test c (added_at overlays c)) ≡ with_all marks (λ c. test c (added_at (overlay ∷ overlays) c))
overlay_yes test marks low overlay overlays ascend within passes =
    let here : ℕ = overlay.key.chunk in
    let more : List Bool = set marks here true in
    let long : length more ≡ length marks = length-set marks here true in
    let rest : ℕ → Bool = λ c. test c (added_at overlays c) in
    let all : ℕ → Bool = λ c. test c (added_at (overlay ∷ overlays) c) in
    with_all_by marks (with_all more rest) all (length-with_all more rest ∙ long) (λ k below.
    with_all_at more rest k (omega arith)
    ∙ elim (cases_eq k here) as (λ _. (is_in more k || rest k) ≡ (is_in marks k || all k)) [
      | inl equal ↦
          subst (λ (at : ℕ). (is_in more at || rest at) ≡ (is_in marks at || all at)) (sym equal)
          (ap (λ (b : Bool). b || rest here) (get_or-set_same marks here true false within)
          ∙ or_true (is_in marks here) ∙ ap (λ (b : Bool). is_in marks here || b) (sym (ap (test here) (added_here overlay overlays) ∙ passes)))
      | inr differ ↦ ap (λ (b : Bool). b || rest k) (get_or-set_other marks here k true false differ)
          ∙ ap (λ (b : Bool). is_in marks k || b) (sym (ap (test k) (added_elsewhere overlay overlays k differ)))
    ])

pub overlay_no : (test : ℕ → List ℕ → Bool) (marks : List Bool) (low : ℕ) (overlay : Overlay) (overlays : List Overlay) → AscendByChunk low (overlay ∷ overlays)
    → ((c : ℕ) → test c [] ≡ false) → test overlay.key.chunk overlay.added ≡ false
    → with_all marks (λ c. test c (added_at overlays c)) ≡ with_all marks (λ c. test c (added_at (overlay ∷ overlays) c))
overlay_no test marks low overlay overlays ascend none fails =
    with_all_same marks (λ c. test c (added_at overlays c)) (λ c. test c (added_at (overlay ∷ overlays) c)) (λ k below.
    elim (cases_eq k overlay.key.chunk) as (λ _. test k (added_at overlays k) ≡ test k (added_at (overlay ∷ overlays) k)) [
      | inl equal ↦
          subst (λ (at : ℕ). test at (added_at overlays at) ≡ test at (added_at (overlay ∷ overlays) at)) (sym equal)
          (ap (test overlay.key.chunk) (none_added_before (overlay.key.chunk + 1) overlay.key.chunk overlays ascend.1 (omega arith)) ∙ none overlay.key.chunk
          ∙ sym (ap (test overlay.key.chunk) (added_here overlay overlays) ∙ fails))
      | inr differ ↦ ap (test k) (sym (added_elsewhere overlay overlays k differ))
    ])
