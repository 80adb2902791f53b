-- What proofs need of the chunks' edges after changes, joined.
use Rattle.std.proofs.Common.{◌≡◌, ℕ, zero, suc, ◌+◌, ◌<◌, ◌≤◌, Bool, true, false, cond, List, [], ◌∷◌, inl, inr, sym, ap, ◌∙◌, refl, arith}
use Rattle.std.specs.List.{filter, flat_map, count_by, AllByRecursion}
use Rattle.std.proofs.lemmas.Bool.{cases_Bool, cases_lt, both_ways}
use Rattle.std.proofs.lemmas.List.Sums.{sum_by-cons}
use Rattle.gm_base.specs.declared.edge.Edge.{Edge}
use Rattle.gm_base.specs.Dimensions.{Dimensions, block_of}
use Rattle.gm_base.specs.Graph.{is_same_edge, IsSameGraph}
use Rattle.gm_changes.specs.declared.change.Change.{Change}
use Rattle.gm_changes.specs.declared.change.Change.TheVariants.{Add, Cut}
use Rattle.gm_changes.specs.Changes.{is_between, edges_after}
use Rattle.gm_changes.specs.Concerns.{Site, concerning_changes, IsPlaced, AddsWithin, takes_adds_of, is_cut_or_added_here, HasOneLastEach}
use Rattle.gm_base.specs.GraphRules.{same_edge_is, count_of, count_of-append}
use Rattle.gm_changes.specs.ChangesRules.{same, count_after, left_after, count-edges_after, left_after-add, left_after-none, count_after-add}
use Rattle.gm_changes.specs.ConcernsRules.{left_out}

-- what the changes make of the count of an edge in a chunk: where such edges are added all, elsewhere the cuts alone
abbrev count_by_place : Bool → Edge → List Change → ℕ → ℕ
count_by_place takes e changes n = cond takes (count_after e changes n) (left_after e changes n)

other_edge : (d : Dimensions) (site : Site) (e x : Edge) → takes_adds_of (block_of d e) site ≡ false → takes_adds_of (block_of d x) site ≡ true → is_same_edge e x ≡ false
other_edge d site e x not_e yes_x =
    elim (cases_Bool (is_same_edge e x)) as (λ _. is_same_edge e x ≡ false) [
      | inl here ↦ absurd (both_ways _ not_e (ap (λ (y : Edge). takes_adds_of (block_of d y) site) (same_edge_is e x here) ∙ yes_x))
      | inr other ↦ other
    ]

same_takes : (d : Dimensions) (site : Site) (e x : Edge) → takes_adds_of (block_of d e) site ≡ true → takes_adds_of (block_of d x) site ≡ false → is_same_edge e x ≡ false
same_takes d site e x yes_e not_x =
    elim (cases_Bool (is_same_edge e x)) as (λ _. is_same_edge e x ≡ false) [
      | inl here ↦ absurd (both_ways _ not_x (sym (ap (λ (y : Edge). takes_adds_of (block_of d y) site) (same_edge_is e x here)) ∙ yes_e))
      | inr other ↦ other
    ]

more_of : (e x : Edge) (n : ℕ) → is_same_edge e x ≡ false → n + same e x ≡ n
more_of e x n other = ap (λ b. n + cond b 1 0) other ∙ omega arith

at_place : (d : Dimensions) (site : Site) (e : Edge) (changes : List Change) (n : ℕ) (takes : Bool) → takes_adds_of (block_of d e) site ≡ takes
    → count_after e (filter (is_cut_or_added_here d site) changes) n ≡ count_by_place takes e changes n
at_place d site e [] n takes is =
    let at : (b : Bool) → n ≡ cond b n n = elim [ true ↦ refl | false ↦ refl ] in at takes
at_place d site e (Cut from to ∷ changes) n takes is =
    at_place d site e changes (cond (is_between from to e) 0 n) takes is
at_place d site e (Add x ∷ changes) n takes is =
    let here = filter (is_cut_or_added_here d site) changes in
    let goal-at = λ (x_here : Bool) (e_here : Bool).
    count_after e (cond x_here (Add x ∷ here) here) n ≡ count_by_place e_here e (Add x ∷ changes) n in
    let at : (x_here e_here : Bool) → takes_adds_of (block_of d x) site ≡ x_here → takes_adds_of (block_of d e) site ≡ e_here → goal-at x_here e_here = elim [
      | true ↦ elim [
        | true ↦ λ hx he. at_place d site e changes (n + same e x) true he
        | false ↦ λ hx he. ap (count_after e here) (more_of e x n (other_edge d site e x he hx)) ∙ at_place d site e changes n false he
      ]
      | false ↦ elim [
        | true ↦ λ hx he. at_place d site e changes n true he ∙ ap (count_after e changes) (sym (more_of e x n (same_takes d site e x he hx)))
        | false ↦ λ hx he. at_place d site e changes n false he
      ]
    ] in
    at (takes_adds_of (block_of d x) site) takes refl is

-- an edge that is nowhere added stands where it is left
never_added : (d : Dimensions) (blocks : ℕ) (e : Edge) (changes : List Change) (n : ℕ) → AllByRecursion (AddsWithin d blocks) changes
    → blocks ≤ block_of d e → left_after e changes n ≡ count_after e changes n
never_added d blocks e [] n within beyond = refl
never_added d blocks e (Cut from to ∷ changes) n within beyond = never_added d blocks e changes _ within.1 beyond
never_added d blocks e (Add x ∷ changes) n within beyond =
    let other : is_same_edge e x ≡ false =
    elim (cases_Bool (is_same_edge e x)) as (λ _. is_same_edge e x ≡ false) [
      | inl here ↦
          let equal : block_of d e ≡ block_of d x = ap (block_of d) (same_edge_is e x here) in
          let small : block_of d x < blocks = within.0 in
          absurd (omega arith)
      | inr other ↦ other
    ] in
    never_added d blocks e changes n within.1 beyond ∙ ap (count_after e changes) (sym (more_of e x n other))

module _ (d : Dimensions) (site : ℕ → Site) (sources : ℕ → List ℕ) (base : ℕ → List Edge) (changes : List Change) (e : Edge) where
  abbrev content : ℕ → List Edge
  content c = edges_after (concerning_changes d (site c) (sources c) changes) (base c)

  abbrev takes : ℕ → Bool
  takes c = takes_adds_of (block_of d e) (site c)

  count_at : (c : ℕ) → AllByRecursion (IsPlaced d (site c) (sources c)) (base c)
      → count_of e (content c) ≡ count_by_place (takes c) e changes (count_of e (base c))
  count_at c placed =
      ap (count_of e) (left_out d (site c) (sources c) changes (base c) placed)
      ∙ count-edges_after e (filter (is_cut_or_added_here d (site c)) changes) (base c)
      ∙ at_place d (site c) e changes (count_of e (base c)) (takes c) refl

  -- what the changes make of the count in all chunks, where so many take edges such as e
  abbrev all_of : ℕ → ℕ → ℕ
  all_of zero n = left_after e changes n
  all_of (suc more) n = count_after e changes n

  counts : (chunks : List ℕ) (last : ℕ) → ((c : ℕ) → AllByRecursion (IsPlaced d (site c) (sources c)) (base c))
      → last < 2 → count_by takes chunks ≡ last
      → count_of e (flat_map content chunks) ≡ all_of last (count_of e (flat_map base chunks))
  counts [] zero placed few is = sym (left_after-none e changes)
  counts [] (suc more) placed few is = absurd (omega arith)
  counts (c ∷ chunks) last placed few is =
      let total : cond (takes c) 1 0 + count_by takes chunks ≡ last = sym (sum_by-cons (λ x. cond (takes x) 1 0) c chunks) ∙ is in
      let n = count_of e (base c) in
      let m = count_of e (flat_map base chunks) in
      let here = count_at c (placed c) in
      let joined = count_of-append e (content c) (flat_map content chunks) in
      let before = count_of-append e (base c) (flat_map base chunks) in
      let at : (b : Bool) (l : ℕ) → takes c ≡ b → cond b 1 0 + count_by takes chunks ≡ l → l < 2
      → count_of e (content c) ≡ count_by_place b e changes n
      → count_of e (flat_map content (c ∷ chunks)) ≡ all_of l (n + m) = elim [
        | true ↦ λ l hb ht hl hc.
            elim l as (λ l. 1 + count_by takes chunks ≡ l → l < 2 → count_of e (flat_map content (c ∷ chunks)) ≡ all_of l (n + m)) [
              | zero ↦ λ ht hl. absurd (omega arith)
              | suc k ↦ λ ht hl.
                  let rest = counts chunks 0 placed (omega arith) (omega arith) in
                  let sum = count_after-add e changes m n in
                  let turn : n + m ≡ m + n = omega arith in
                  joined ∙ ap (λ t. t + count_of e (flat_map content chunks)) hc ∙ ap (λ t. count_after e changes n + t) rest
                  ∙ omega arith ∙ sym sum ∙ ap (count_after e changes) (sym turn)
            ] ht hl
        | false ↦ λ l hb ht hl hc.
            let rest = counts chunks l placed hl (omega arith) in
            let sum : (k : ℕ) → all_of k (n + m) ≡ left_after e changes n + all_of k m =
            λ k. elim k as (λ k. all_of k (n + m) ≡ left_after e changes n + all_of k m) [
              | zero ↦ left_after-add e changes n m
              | suc j ↦ count_after-add e changes n m
            ] in
            joined ∙ ap (λ t. t + count_of e (flat_map content chunks)) hc ∙ ap (λ t. left_after e changes n + t) rest ∙ sym (sum l)
      ] in
      at (takes c) last refl total few here ∙ ap (all_of last) (sym before)

pub joined_over_chunks : (d : Dimensions) (blocks : ℕ) (site : ℕ → Site) (sources : ℕ → List ℕ) (base : ℕ → List Edge)
    (chunks : List ℕ) (changes : List Change)
    → ((c : ℕ) → AllByRecursion (IsPlaced d (site c) (sources c)) (base c))
    → HasOneLastEach blocks site chunks
    → AllByRecursion (AddsWithin d blocks) changes
    → IsSameGraph (flat_map (λ c. edges_after (concerning_changes d (site c) (sources c) changes) (base c)) chunks) (edges_after changes (flat_map base chunks))
joined_over_chunks d blocks site sources base chunks changes placed one_last within e =
    let n = count_of e (flat_map base chunks) in
    let after = count-edges_after e changes (flat_map base chunks) in
    elim (cases_lt (block_of d e) blocks) as (λ _. count_of e (flat_map (λ c. edges_after (concerning_changes d (site c) (sources c) changes) (base c)) chunks) ≡ count_of e (edges_after changes (flat_map base chunks))) [
      | inl inside ↦ counts d site sources base changes e chunks 1 placed (omega arith) (one_last.one (block_of d e) inside) ∙ sym after
      | inr beyond ↦
          counts d site sources base changes e chunks 0 placed (omega arith) (one_last.none (block_of d e) beyond)
          ∙ never_added d blocks e changes n within beyond ∙ sym after
    ]
