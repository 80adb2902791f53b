-- What proofs need of changes taken in order: changes in two parts, and how often an edge stands in a list after changes.
use Rattle.std.proofs.Common.{◌≡◌, ℕ, zero, ◌+◌, ◌≤◌, length, Bool, true, false, cond, not, List, [], ◌∷◌, ◌++◌, inl, inr, sym, ap, ◌∙◌, refl, arith}
use Rattle.std.specs.List.{filter}
use Rattle.std.proofs.lemmas.Bool.{cases_Bool}
use Rattle.std.proofs.lemmas.List.{length-append}
use Rattle.std.proofs.lemmas.List.Filters.{length-filter_both}
use Rattle.gm_base.specs.declared.edge.Edge.{Edge}
use Rattle.gm_base.specs.Graph.{is_same_edge, IsSameGraph}
use Rattle.gm_base.specs.GraphRules.{same_edge_is, count_of, count_of-cons, count_of-append}
use Rattle.gm_changes.specs.declared.change.Change.{Change}
use Rattle.gm_changes.specs.declared.change.Change.TheVariants.{Add, Cut}
use Rattle.gm_changes.specs.Changes.{is_between, edges_after_one, edges_after}

-- changes in two parts are the first part and then the second
pub edges-parts : (first second : List Change) (edges : List Edge) → edges_after (first ++ second) edges ≡ edges_after second (edges_after first edges)
edges-parts [] second edges = refl
edges-parts (c ∷ first) second edges = edges-parts first second (edges_after_one c edges)

-- one where the edges are the same, else nothing
abbrev pub same : Edge → Edge → ℕ
same e x = cond (is_same_edge e x) 1 0

-- an edge that isn't cut with e is another than e, or e isn't cut either
same_is_cut : (from to : ℕ) (e x : Edge) → is_between from to e ≡ not (is_between from to x) → is_same_edge e x ≡ false
same_is_cut from to e x differ =
    elim (cases_Bool (is_same_edge e x)) as (λ _. is_same_edge e x ≡ false) [
      | inl here ↦
          let is : is_between from to e ≡ is_between from to x = ap (is_between from to) (same_edge_is e x here) in
          let contrary : (b : Bool) → b ≡ not b → is_same_edge e x ≡ false = elim [ true ↦ λ h. cc | false ↦ λ h. cc ] in
          contrary (is_between from to x) (sym is ∙ differ)
      | inr other ↦ other
    ]

count-filter : (e : Edge) (from to : ℕ) (xs : List Edge)
    → count_of e (filter (λ x. not (is_between from to x)) xs) ≡ cond (is_between from to e) 0 (count_of e xs)
count-filter e from to [] =
    let at : (b : Bool) → zero ≡ cond b zero zero = elim [ true ↦ refl | false ↦ refl ] in at (is_between from to e)
count-filter e from to (x ∷ xs) =
    let left = filter (λ x. not (is_between from to x)) xs in
    let ih = count-filter e from to xs in
    let goal-at = λ (cut_x cut_e : Bool). count_of e (cond (not cut_x) (x ∷ left) left) ≡ cond cut_e 0 (count_of e (x ∷ xs)) in
    let at : (cut_x cut_e : Bool) → is_between from to x ≡ cut_x → is_between from to e ≡ cut_e
    → count_of e left ≡ cond cut_e 0 (count_of e xs) → goal-at cut_x cut_e = elim [
      | true ↦ elim [
        | true ↦ λ hx he h. h
        | false ↦ λ hx he h.
            let other = same_is_cut from to e x (he ∙ sym (ap not hx)) in
            h ∙ sym (count_of-cons e x xs ∙ ap (λ b. cond b 1 0 + count_of e xs) other ∙ omega arith)
      ]
      | false ↦ elim [
        | true ↦ λ hx he h.
            let other = same_is_cut from to e x (he ∙ sym (ap not hx)) in
            count_of-cons e x left ∙ ap (λ b. cond b 1 0 + count_of e left) other ∙ omega arith
        | false ↦ λ hx he h. count_of-cons e x left ∙ ap (λ n. same e x + n) h ∙ sym (count_of-cons e x xs)
      ]
    ] in
    at (is_between from to x) (is_between from to e) refl refl ih

-- how often e stands there after the changes, if it stood there so often before
abbrev pub count_after : Edge → List Change → ℕ → ℕ
count_after e [] n = n
count_after e (Add x ∷ changes) n = count_after e changes (n + same e x)
count_after e (Cut from to ∷ changes) n = count_after e changes (cond (is_between from to e) 0 n)

-- how many of them are left by the cuts
abbrev pub left_after : Edge → List Change → ℕ → ℕ
left_after e [] n = n
left_after e (Add x ∷ changes) n = left_after e changes n
left_after e (Cut from to ∷ changes) n = left_after e changes (cond (is_between from to e) 0 n)

pub count-edges_after : (e : Edge) (changes : List Change) (xs : List Edge) → count_of e (edges_after changes xs) ≡ count_after e changes (count_of e xs)
count-edges_after e [] xs = refl
count-edges_after e (Add x ∷ changes) xs =
    count-edges_after e changes (xs ++ x ∷ [])
    ∙ ap (count_after e changes) (count_of-append e xs (x ∷ []) ∙ ap (λ n. count_of e xs + n) (count_of-cons e x []) ∙ omega arith)
count-edges_after e (Cut from to ∷ changes) xs =
    count-edges_after e changes (filter (λ x. not (is_between from to x)) xs) ∙ ap (count_after e changes) (count-filter e from to xs)

cond-add : (b : Bool) (n m : ℕ) → cond b 0 (n + m) ≡ cond b 0 n + cond b 0 m
cond-add true n m = omega arith
cond-add false n m = refl

pub left_after-add : (e : Edge) (changes : List Change) (n m : ℕ) → left_after e changes (n + m) ≡ left_after e changes n + left_after e changes m
left_after-add e [] n m = refl
left_after-add e (Add x ∷ changes) n m = left_after-add e changes n m
left_after-add e (Cut from to ∷ changes) n m =
    ap (left_after e changes) (cond-add (is_between from to e) n m) ∙ left_after-add e changes _ _

pub left_after-none : (e : Edge) (changes : List Change) → left_after e changes 0 ≡ 0
left_after-none e [] = refl
left_after-none e (Add x ∷ changes) = left_after-none e changes
left_after-none e (Cut from to ∷ changes) =
    let none : (b : Bool) → cond b zero zero ≡ zero = elim [ true ↦ refl | false ↦ refl ] in
    ap (left_after e changes) (none (is_between from to e)) ∙ left_after-none e changes

pub count_after-add : (e : Edge) (changes : List Change) (n m : ℕ) → count_after e changes (n + m) ≡ left_after e changes n + count_after e changes m
count_after-add e [] n m = refl
count_after-add e (Add x ∷ changes) n m =
    let regroup : n + m + same e x ≡ n + (m + same e x) = omega arith in
    ap (count_after e changes) regroup ∙ count_after-add e changes n (m + same e x)
count_after-add e (Cut from to ∷ changes) n m =
    ap (count_after e changes) (cond-add (is_between from to e) n m) ∙ count_after-add e changes _ _

pub same_after : (changes : List Change) (xs ys : List Edge) → IsSameGraph xs ys → IsSameGraph (edges_after changes xs) (edges_after changes ys)
same_after changes xs ys equal e =
    count-edges_after e changes xs ∙ ap (count_after e changes) (equal e) ∙ sym (count-edges_after e changes ys)

-- there are at most as many edges more as changes
pub edges_after-few : (changes : List Change) (edges : List Edge) → length (edges_after changes edges) ≤ length edges + length changes
edges_after-few [] edges = omega arith
edges_after-few (Add e ∷ changes) edges =
    let rest = edges_after-few changes (edges ++ e ∷ []) in
    let one = length-append edges (e ∷ []) in
    omega (arith, rest, one)
edges_after-few (Cut from to ∷ changes) edges =
    let p = λ (e : Edge). not (is_between from to e) in
    let rest = edges_after-few changes (filter p edges) in
    let both = length-filter_both p (λ (e : Edge). not (p e)) (λ x. refl) edges in
    omega (arith, rest, both)

pub ruleset changes_in_order = (edges-parts)
