-- What proofs need of labels: what they count, that they ascend, and that nothing else counts the same.
use Rattle.std.specs.Prelude.{◌≡◌, ℕ, ◌+◌, ◌<◌, ◌≤◌, Bool, true, false, ◌||◌, cond, ◌==◌, nat_lt, List, [], ◌∷◌, map, length, sum_by, count_by, All, refl}
use Rattle.std.specs.List.{list_any, AllByRecursion}
use Rattle.std.proofs.Common.{inl, inr, sym, ap, ◌∙◌, subst, arith, eqb}
use Rattle.std.proofs.lemmas.Bool.{cases_lt, eqb-true, eqb-false, eq-eqb, ne_eqb, ltb-true, ltb-false, lt-ltb, le-ltb, or_left, or_right, or_cases}
use Rattle.std.proofs.lemmas.List.{length-map}
use Rattle.std.proofs.lemmas.List.Sums.{sum_by-cons}
use Rattle.std.proofs.lemmas.List.Elements.{All-from_recursion, All-head, All-tail}
use Rattle.gm_base.specs.declared.edge.Edge.{Edge}
use Rattle.gm_base.specs.Graph.{out_degree}
use Rattle.gm_label.specs.Labels.{with_source, label_of_sources, label_of, sources_of, count_in, counted_edges, AscendsFrom, IsLabel}

abbrev told : ℕ → ℕ × ℕ → ℕ
told u pair = cond (eqb pair.0 u) pair.1 0

pub count_in-cons : (u : ℕ) (pair : ℕ × ℕ) (label : List (ℕ × ℕ)) → count_in (pair ∷ label) u ≡ cond (eqb pair.0 u) pair.1 0 + count_in label u
count_in-cons u pair label = sum_by-cons (told u) pair label

raised : (u v k : ℕ) (b : Bool) → cond b (k + 1) 0 ≡ cond b 1 0 + cond b k 0
raised u v k true = omega arith
raised u v k false = refl

with_source-counts : (v u : ℕ) (label : List (ℕ × ℕ)) → count_in (with_source v label) u ≡ cond (eqb v u) 1 0 + count_in label u
with_source-counts v u [] = count_in-cons u (v, 1) []
with_source-counts v u (pair ∷ label) =
    let old = count_in-cons u pair label in
    let goal-at = λ (less equal : Bool).
    count_in (cond less ((v, 1) ∷ pair ∷ label) (cond equal ((v, pair.1 + 1) ∷ label) (pair ∷ with_source v label))) u
    ≡ cond (eqb v u) 1 0 + count_in (pair ∷ label) u in
    let at : (less equal : Bool) → eqb v pair.0 ≡ equal → goal-at less equal = elim [
      | true ↦ λ equal h. count_in-cons u (v, 1) (pair ∷ label)
      | false ↦ elim [
        | true ↦ λ h.
            let same : v ≡ pair.0 = eqb-true v pair.0 h in
            let first : cond (eqb pair.0 u) pair.1 0 ≡ cond (eqb v u) pair.1 0 = ap (λ n. cond (eqb n u) pair.1 0) (sym same) in
            let more = raised u v pair.1 (eqb v u) in
            count_in-cons u (v, pair.1 + 1) label ∙ omega arith
        | false ↦ λ h.
            let rest = with_source-counts v u label in
            count_in-cons u pair (with_source v label) ∙ omega arith
      ]
    ] in
    at (nat_lt v pair.0) (eqb v pair.0) refl

-- a label tells how often each source occurs
pub source_counts : (sources : List ℕ) (u : ℕ) → count_in (label_of_sources sources) u ≡ count_by (λ s. eqb s u) sources
source_counts [] u = refl
source_counts (v ∷ sources) u =
    with_source-counts v u (label_of_sources sources)
    ∙ ap (λ n. cond (eqb v u) 1 0 + n) (source_counts sources u)
    ∙ sym (sum_by-cons (λ (s : ℕ). cond (eqb s u) 1 0) v sources)

pub sum_by-map : {X Y : Type 0} (f : Y → ℕ) (g : X → Y) (xs : List X) → sum_by f (map g xs) ≡ sum_by (λ x. f (g x)) xs
sum_by-map f g [] = refl
sum_by-map f g (x ∷ xs) =
    sum_by-cons f (g x) (map g xs) ∙ ap (λ rest. f (g x) + rest) (sum_by-map f g xs) ∙ sym (sum_by-cons (λ x. f (g x)) x xs)

pub label-counts : (edges : List Edge) (u : ℕ) → count_in (label_of edges) u ≡ out_degree edges u
label-counts edges u =
    source_counts (map (λ (e : Edge). e.from) edges) u ∙ sum_by-map (λ (s : ℕ). cond (eqb s u) 1 0) (λ (e : Edge). e.from) edges

with_source-total : (v : ℕ) (label : List (ℕ × ℕ)) → counted_edges (with_source v label) ≡ 1 + counted_edges label
with_source-total v [] = refl
with_source-total v (pair ∷ label) =
    let cons = λ (q : ℕ × ℕ) (rest : List (ℕ × ℕ)). sum_by-cons (λ (p : ℕ × ℕ). p.1) q rest in
    let old = cons pair label in
    let goal-at = λ (less equal : Bool).
    counted_edges (cond less ((v, 1) ∷ pair ∷ label) (cond equal ((v, pair.1 + 1) ∷ label) (pair ∷ with_source v label))) ≡ 1 + counted_edges (pair ∷ label) in
    let at : (less equal : Bool) → goal-at less equal = elim [
      | true ↦ λ equal. cons (v, 1) (pair ∷ label)
      | false ↦ elim [
        | true ↦ cons (v, pair.1 + 1) label ∙ omega arith
        | false ↦ let rest = with_source-total v label in cons pair (with_source v label) ∙ omega arith
      ]
    ] in
    at (nat_lt v pair.0) (eqb v pair.0)

total_of_sources : (sources : List ℕ) → counted_edges (label_of_sources sources) ≡ length sources
total_of_sources [] = refl
total_of_sources (v ∷ sources) = let rest = total_of_sources sources in with_source-total v (label_of_sources sources) ∙ omega arith

pub label-total : (edges : List Edge) → counted_edges (label_of edges) ≡ length edges
label-total edges = total_of_sources (map (λ (e : Edge). e.from) edges) ∙ length-map edges (λ e. e.from)

with_source-ascends : (low v : ℕ) (label : List (ℕ × ℕ)) → low ≤ v → AscendsFrom low label → AscendsFrom low (with_source v label)
with_source-ascends low v [] small ascends = (small, omega arith, tt)
with_source-ascends low v (pair ∷ label) small ascends =
    let goal-at = λ (less equal : Bool).
    AscendsFrom low (cond less ((v, 1) ∷ pair ∷ label) (cond equal ((v, pair.1 + 1) ∷ label) (pair ∷ with_source v label))) in
    let at : (less equal : Bool) → nat_lt v pair.0 ≡ less → eqb v pair.0 ≡ equal → goal-at less equal = elim [
      | true ↦ λ equal hl he. (small, omega arith, (omega (arith, ltb-true v pair.0 hl), ascends.1, ascends.2))
      | false ↦ elim [
        | true ↦ λ hl he. (small, omega arith, subst (λ (n : ℕ). AscendsFrom (n + 1) label) (sym (eqb-true v pair.0 he)) ascends.2)
        | false ↦ λ hl he.
            let above : pair.0 + 1 ≤ v =
            let not_less = ltb-false v pair.0 hl in
            elim (cases_lt pair.0 v) as (λ _. pair.0 + 1 ≤ v) [
              | inl more ↦ omega arith
              | inr not_more ↦ let same : v ≡ pair.0 = omega arith in absurd (eqb-false v pair.0 he same)
            ] in
            (ascends.0, ascends.1, with_source-ascends (pair.0 + 1) v label above ascends.2)
      ]
    ] in
    at (nat_lt v pair.0) (eqb v pair.0) refl refl

-- a label of sources ascends from where they do
pub sources-ascend : (low : ℕ) (sources : List ℕ) → AllByRecursion (λ s. low ≤ s) sources → AscendsFrom low (label_of_sources sources)
sources-ascend low [] above = tt
sources-ascend low (v ∷ sources) above = with_source-ascends low v (label_of_sources sources) above.0 (sources-ascend low sources above.1)

every_number : (sources : List ℕ) → AllByRecursion (λ s. 0 ≤ s) sources
every_number [] = tt
every_number (v ∷ sources) = (omega arith, every_number sources)

pub label_of_sources-is_label : (sources : List ℕ) → IsLabel (label_of_sources sources)
label_of_sources-is_label sources = sources-ascend 0 sources (every_number sources)

pub label_of-is_label : (edges : List Edge) → IsLabel (label_of edges)
label_of-is_label edges = label_of_sources-is_label (map (λ (e : Edge). e.from) edges)

abbrev has : List ℕ → ℕ → Bool
has sources u = list_any (λ s. eqb s u) sources

with_source-lists : (v u : ℕ) (label : List (ℕ × ℕ)) → (eqb v u || has (sources_of label) u) ≡ true → has (sources_of (with_source v label)) u ≡ true
with_source-lists v u [] h = h
with_source-lists v u (pair ∷ label) h =
    let goal-at = λ (less equal : Bool).
    has (sources_of (cond less ((v, 1) ∷ pair ∷ label) (cond equal ((v, pair.1 + 1) ∷ label) (pair ∷ with_source v label)))) u ≡ true in
    let at : (less equal : Bool) → eqb v pair.0 ≡ equal → goal-at less equal = elim [
      | true ↦ λ equal he. h
      | false ↦ elim [
        | true ↦ λ he.
            elim (or_cases (eqb v u) (eqb pair.0 u || has (sources_of label) u) h) as (λ _. (eqb v u || has (sources_of label) u) ≡ true) [
              | inl now ↦ or_left (eqb v u) (has (sources_of label) u) now
              | inr rest ↦ ap (λ n. eqb n u || has (sources_of label) u) (eqb-true v pair.0 he) ∙ rest
            ]
        | false ↦ λ he.
            elim (or_cases (eqb v u) (eqb pair.0 u || has (sources_of label) u) h) as (λ _. (eqb pair.0 u || has (sources_of (with_source v label)) u) ≡ true) [
              | inl now ↦ or_right (eqb pair.0 u) _ (with_source-lists v u label (or_left (eqb v u) (has (sources_of label) u) now))
              | inr rest ↦ elim (or_cases (eqb pair.0 u) (has (sources_of label) u) rest) as (λ _. (eqb pair.0 u || has (sources_of (with_source v label)) u) ≡ true) [
                | inl first ↦ or_left (eqb pair.0 u) _ first
                | inr later ↦ or_right (eqb pair.0 u) _ (with_source-lists v u label (or_right (eqb v u) (has (sources_of label) u) later))
              ]
            ]
      ]
    ] in
    at (nat_lt v pair.0) (eqb v pair.0) refl

all-weaker : {X : Type 0} (P Q : X → Type 0) (xs : List X) → ((x : X) → P x → Q x) → AllByRecursion P xs → AllByRecursion Q xs
all-weaker P Q [] each all = tt
all-weaker P Q (x ∷ xs) each all = (each x all.0, all-weaker P Q xs each all.1)

listed : (edges : List Edge) → AllByRecursion (λ e. has (sources_of (label_of edges)) e.from ≡ true) edges
listed [] = tt
listed (e ∷ edges) = (
  with_source-lists e.from e.from (label_of edges) (or_left (eqb e.from e.from) _ (eq-eqb e.from e.from refl)),
  all-weaker (λ x. has (sources_of (label_of edges)) x.from ≡ true) (λ x. has (sources_of (with_source e.from (label_of edges))) x.from ≡ true) edges
      (λ x was. with_source-lists e.from x.from (label_of edges) (or_right (eqb e.from x.from) _ was)) (listed edges),
)

pub label-lists : (edges : List Edge) → All (λ e. list_any (λ s. s == e.from) (sources_of (label_of edges)) ≡ true) edges
label-lists edges = All-from_recursion (λ (e : Edge). has (sources_of (label_of edges)) e.from ≡ true) edges (listed edges)

-- what holds of each edge's source holds of each of the label's
with_source-keeps : (P : ℕ → Type 0) (v : ℕ) (label : List (ℕ × ℕ)) → P v → AllByRecursion P (sources_of label) → AllByRecursion P (sources_of (with_source v label))
with_source-keeps P v [] here all = (here, tt)
with_source-keeps P v (pair ∷ label) here all =
    let goal-at = λ (less equal : Bool).
    AllByRecursion P (sources_of (cond less ((v, 1) ∷ pair ∷ label) (cond equal ((v, pair.1 + 1) ∷ label) (pair ∷ with_source v label)))) in
    let at : (less equal : Bool) → goal-at less equal = elim [
      | true ↦ λ equal. (here, all)
      | false ↦ elim [
        | true ↦ (here, all.1)
        | false ↦ (all.0, with_source-keeps P v label here all.1)
      ]
    ] in
    at (nat_lt v pair.0) (eqb v pair.0)

keeps : (P : ℕ → Type 0) (edges : List Edge) → All (λ e. P e.from) edges → AllByRecursion P (sources_of (label_of edges))
keeps P [] all = tt
keeps P (e ∷ edges) all =
    with_source-keeps P e.from (label_of edges) (All-head (λ (x : Edge). P x.from) e edges all) (keeps P edges (All-tail (λ (x : Edge). P x.from) e edges all))

pub label-sources : (P : ℕ → Type 0) (edges : List Edge) → All (λ e. P e.from) edges → All P (sources_of (label_of edges))
label-sources P edges all = All-from_recursion P (sources_of (label_of edges)) (keeps P edges all)

-- below where a label begins it counts nothing
pub below_is_none : (low u : ℕ) (label : List (ℕ × ℕ)) → AscendsFrom low label → u < low → count_in label u ≡ 0
below_is_none low u [] ascends less = refl
below_is_none low u (pair ∷ label) ascends less =
    let other : eqb pair.0 u ≡ false = ne_eqb pair.0 u (λ same. let above = ascends.0 in omega arith) in
    let rest = below_is_none (pair.0 + 1) u label ascends.2 (let above = ascends.0 in omega arith) in
    count_in-cons u pair label ∙ ap (λ b. cond b pair.1 0 + count_in label u) other ∙ omega arith

first_counts : (pair : ℕ × ℕ) (label : List (ℕ × ℕ)) → AscendsFrom (pair.0 + 1) label → count_in (pair ∷ label) pair.0 ≡ pair.1
first_counts pair label ascends =
    let rest = below_is_none (pair.0 + 1) pair.0 label ascends (omega arith) in
    count_in-cons pair.0 pair label ∙ ap (λ b. cond b pair.1 0 + count_in label pair.0) (eq-eqb pair.0 pair.0 refl) ∙ omega arith

-- no label that counts what this one counts begins later
not_later : (low : ℕ) (p q : ℕ × ℕ) (xs ys : List (ℕ × ℕ)) → AscendsFrom low (p ∷ xs) → AscendsFrom low (q ∷ ys)
    → ((u : ℕ) → count_in (p ∷ xs) u ≡ count_in (q ∷ ys) u) → p.0 < q.0 → ⊥
not_later low p q xs ys up_xs up_ys same less =
    let none = below_is_none q.0 p.0 (q ∷ ys) (omega arith, up_ys.1, up_ys.2) less in
    let some = first_counts p xs up_xs.2 in
    let equal = same p.0 in
    let one = up_xs.1 in
    omega arith

one_label_from : (low : ℕ) (xs ys : List (ℕ × ℕ)) → AscendsFrom low xs → AscendsFrom low ys → ((u : ℕ) → count_in xs u ≡ count_in ys u) → xs ≡ ys
one_label_from low [] [] up_xs up_ys same = refl
one_label_from low [] (q ∷ ys) up_xs up_ys same =
    let some = first_counts q ys up_ys.2 in
    let none : 0 ≡ count_in (q ∷ ys) q.0 = same q.0 in
    let one = up_ys.1 in
    absurd (omega arith)
one_label_from low (p ∷ xs) [] up_xs up_ys same =
    let some = first_counts p xs up_xs.2 in
    let none : count_in (p ∷ xs) p.0 ≡ 0 = same p.0 in
    let one = up_xs.1 in
    absurd (omega arith)
one_label_from low (p ∷ xs) (q ∷ ys) up_xs up_ys same =
    let source : p.0 ≡ q.0 =
    elim (cases_lt p.0 q.0) as (λ _. p.0 ≡ q.0) [
      | inl less ↦ absurd (not_later low p q xs ys up_xs up_ys same less)
      | inr not_less ↦ elim (cases_lt q.0 p.0) as (λ _. p.0 ≡ q.0) [
        | inl more ↦ absurd (not_later low q p ys xs up_ys up_xs (λ u. sym (same u)) more)
        | inr not_more ↦ omega arith
      ]
    ] in
    let count : p.1 ≡ q.1 = sym (first_counts p xs up_xs.2) ∙ same p.0 ∙ ap (λ u. count_in (q ∷ ys) u) source ∙ first_counts q ys up_ys.2 in
    let told_same : (u : ℕ) → told u p ≡ told u q = λ u. ap (λ n. cond (eqb n u) p.1 0) source ∙ ap (λ k. cond (eqb q.0 u) k 0) count in
    let rest = one_label_from (p.0 + 1) xs ys up_xs.2 (subst (λ (n : ℕ). AscendsFrom (n + 1) ys) (sym source) up_ys.2) (λ u.
    let left = count_in-cons u p xs in
    let right = count_in-cons u q ys in
    let all = same u in
    let heads = told_same u in
    omega arith) in
    ap (λ n. (n, p.1) ∷ xs) source ∙ ap (λ k. (q.0, k) ∷ xs) count ∙ ap (λ zs. q ∷ zs) rest

-- labels that count the same are one
pub one_label : (xs ys : List (ℕ × ℕ)) → IsLabel xs → IsLabel ys → ((u : ℕ) → count_in xs u ≡ count_in ys u) → xs ≡ ys
one_label xs ys up_xs up_ys same = one_label_from 0 xs ys up_xs up_ys same

-- a source before all others is the first of the label
pub with_source-first : (v : ℕ) (label : List (ℕ × ℕ)) → AscendsFrom (v + 1) label → with_source v label ≡ (v, 1) ∷ label
with_source-first v [] ascends = refl
with_source-first v (pair ∷ label) ascends = rw (lt-ltb v pair.0 (omega (arith, ascends.0))) refl

pub with_source-again : (v k : ℕ) (label : List (ℕ × ℕ)) → with_source v ((v, k) ∷ label) ≡ (v, k + 1) ∷ label
with_source-again v k label = rw (le-ltb v v (omega arith), eq-eqb v v refl) refl

-- no label has more sources than edges
pub sources-le-edges : (low : ℕ) (label : List (ℕ × ℕ)) → AscendsFrom low label → length label ≤ counted_edges label
sources-le-edges low [] ascends = omega arith
sources-le-edges low (pair ∷ label) ascends =
    let rest = sources-le-edges (pair.0 + 1) label ascends.2 in
    let one = ascends.1 in
    let all = sum_by-cons (λ (p : ℕ × ℕ). p.1) pair label in
    omega arith
