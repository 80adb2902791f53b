-- What proofs need of the changes that concern a chunk.
use Rattle.std.proofs.Common.{◌≡◌, ℕ, Bool, true, false, cond, not, eqb, List, [], ◌∷◌, ◌++◌, inl, inr, sym, ap, ◌∙◌, refl}
use Rattle.std.specs.List.{filter, AllByRecursion}
use Rattle.std.proofs.lemmas.Bool.{cases_Bool, and_parts, and_from, or_left, or_right, eqb-true, eq-eqb, both_ways}
use Rattle.gm_base.specs.declared.edge.Edge.{Edge}
use Rattle.gm_base.specs.Dimensions.{Dimensions, block_of}
use Rattle.gm_base.specs.Graph.{edge}
use Rattle.gm_changes.specs.declared.change.Change.{Change}
use Rattle.gm_changes.specs.declared.change.Change.TheVariants.{Add, Cut}
use Rattle.gm_changes.specs.Changes.{is_between, edges_after_one, edges_after}
use Rattle.gm_changes.specs.Concerns.{Site, lists, concerns, sources_after_one, sources_after, concerning_changes, IsPlaced, is_cut_or_added_here, may_concern}

pub sources-parts : (first second : List Change) (sources : List ℕ) → sources_after (first ++ second) sources ≡ sources_after second (sources_after first sources)
sources-parts [] second sources = refl
sources-parts (c ∷ first) second sources = sources-parts first second (sources_after_one c sources)

pub concerning_changes-parts : (d : Dimensions) (site : Site) (sources : List ℕ) (first second : List Change)
    → concerning_changes d site sources (first ++ second)
    ≡ concerning_changes d site sources first ++ concerning_changes d site (sources_after (concerning_changes d site sources first) sources) second
concerning_changes-parts d site sources [] second = refl
concerning_changes-parts d site sources (c ∷ first) second =
    let grown = sources_after_one c sources in
    let goal-at = λ (b : Bool).
    cond b (c ∷ concerning_changes d site grown (first ++ second)) (concerning_changes d site sources (first ++ second))
    ≡ cond b (c ∷ concerning_changes d site grown first) (concerning_changes d site sources first)
    ++ concerning_changes d site (sources_after (cond b (c ∷ concerning_changes d site grown first) (concerning_changes d site sources first)) sources) second in
    let at : (b : Bool) → goal-at b = elim [
      | true ↦ ap (λ cs. c ∷ cs) (concerning_changes-parts d site grown first second)
      | false ↦ concerning_changes-parts d site sources first second
    ] in
    at (concerns d site sources c)

All-append : {X : Type 0} (P : X → Type 0) (xs ys : List X) → AllByRecursion P xs → AllByRecursion P ys → AllByRecursion P (xs ++ ys)
All-append P [] ys hx hy = hy
All-append P (x ∷ xs) ys hx hy = (hx.0, All-append P xs ys hx.1 hy)

pub All-filter : {X : Type 0} (P : X → Type 0) (p : X → Bool) (xs : List X) → AllByRecursion P xs → AllByRecursion P (filter p xs)
All-filter P p [] h = tt
All-filter P p (x ∷ xs) h =
    let at : (b : Bool) → AllByRecursion P (cond b (x ∷ filter p xs) (filter p xs)) = elim [
      | true ↦ (h.0, All-filter P p xs h.1)
      | false ↦ All-filter P p xs h.1
    ] in
    at (p x)

pub All-map : {X : Type 0} (P Q : X → Type 0) (xs : List X) → ((x : X) → P x → Q x) → AllByRecursion P xs → AllByRecursion Q xs
All-map P Q [] each all = tt
All-map P Q (x ∷ xs) each all = (each x all.0, All-map P Q xs each all.1)

-- with one source more an edge is placed as before
more_sources : (d : Dimensions) (site : Site) (sources : List ℕ) (u : ℕ) (e : Edge) → IsPlaced d site sources e → IsPlaced d site (u ∷ sources) e
more_sources d site sources u e placed = record { in_block = placed.in_block; listed = or_right (eqb u e.from) (lists sources e.from) placed.listed }

-- an edge that comes to the chunk is placed in it
added_placed : (d : Dimensions) (site : Site) (sources : List ℕ) (e : Edge) → concerns d site sources (Add e) ≡ true → IsPlaced d site (e.from ∷ sources) e
added_placed d site sources e concerned = record {
  in_block = eqb-true (block_of d e) site.block (and_parts site.is_last _ concerned).1;
  listed = or_left (eqb e.from e.from) (lists sources e.from) (eq-eqb e.from e.from refl);
}

block-between : (d : Dimensions) (from to : ℕ) (e : Edge) → is_between from to e ≡ true → (block_of d (edge from to 0) ≡ block_of d e) × (e.from ≡ from)
block-between d from to e h =
    let ends = and_parts (eqb e.from from) (eqb e.to to) h in
    let is_from = eqb-true e.from from ends.0 in
    let is_to = eqb-true e.to to ends.1 in
    (sym (ap (λ n. block_of d (edge n e.to 0)) is_from ∙ ap (λ n. block_of d (edge from n 0)) is_to), is_from)

not_cut : (d : Dimensions) (site : Site) (sources : List ℕ) (from to : ℕ) (e : Edge) → IsPlaced d site sources e
    → concerns d site sources (Cut from to) ≡ false → is_between from to e ≡ false
not_cut d site sources from to e placed elsewhere =
    elim (cases_Bool (is_between from to e)) as (λ _. is_between from to e ≡ false) [
      | inl here ↦
          let ends = block-between d from to e here in
          let block : eqb (block_of d (edge from to 0)) site.block ≡ true = eq-eqb _ _ (ends.0 ∙ placed.in_block) in
          let listed : lists sources from ≡ true = ap (lists sources) (sym ends.1) ∙ placed.listed in
          absurd (both_ways _ elsewhere (and_from _ _ block listed))
      | inr other ↦ other
    ]

pub cut_elsewhere : (d : Dimensions) (site : Site) (sources : List ℕ) (from to : ℕ) (edges : List Edge)
    → AllByRecursion (IsPlaced d site sources) edges
    → concerns d site sources (Cut from to) ≡ false
    → edges_after_one (Cut from to) edges ≡ edges
cut_elsewhere d site sources from to [] placed elsewhere = refl
cut_elsewhere d site sources from to (e ∷ edges) placed elsewhere =
    let left = filter (λ x. not (is_between from to x)) edges in
    ap (λ b. cond (not b) (e ∷ left) left) (not_cut d site sources from to e placed.0 elsewhere)
    ∙ ap (λ xs. e ∷ xs) (cut_elsewhere d site sources from to edges placed.1 elsewhere)

-- what holds of a chunk's edges after one change that concerns it
pub placed_after_one : (d : Dimensions) (site : Site) (sources : List ℕ) (c : Change) (edges : List Edge)
    → AllByRecursion (IsPlaced d site sources) edges → concerns d site sources c ≡ true
    → AllByRecursion (IsPlaced d site (sources_after_one c sources)) (edges_after_one c edges)
placed_after_one d site sources (Add e) edges placed concerned =
    All-append _ edges (e ∷ [])
    (All-map _ (IsPlaced d site (e.from ∷ sources)) edges (more_sources d site sources e.from) placed)
    (added_placed d site sources e concerned, tt)
placed_after_one d site sources (Cut from to) edges placed concerned = All-filter _ (λ x. not (is_between from to x)) edges placed

pub placed_after : (d : Dimensions) (site : Site) (sources : List ℕ) (changes : List Change) (edges : List Edge)
    → AllByRecursion (IsPlaced d site sources) edges
    → AllByRecursion (IsPlaced d site (sources_after (concerning_changes d site sources changes) sources)) (edges_after (concerning_changes d site sources changes) edges)
placed_after d site sources [] edges placed = placed
placed_after d site sources (c ∷ changes) edges placed =
    let grown = sources_after_one c sources in
    let walked = λ (b : Bool). cond b (c ∷ concerning_changes d site grown changes) (concerning_changes d site sources changes) in
    let goal-at = λ (b : Bool). AllByRecursion (IsPlaced d site (sources_after (walked b) sources)) (edges_after (walked b) edges) in
    let at : (b : Bool) → concerns d site sources c ≡ b → goal-at b = elim [
      | true ↦ λ h. placed_after d site grown changes (edges_after_one c edges) (placed_after_one d site sources c edges placed h)
      | false ↦ λ h. placed_after d site sources changes edges placed
    ] in
    at (concerns d site sources c) refl

-- to take what concerns a chunk is to take whatever else says the same of added edges and no less of cuts
module _ (d : Dimensions) (site : Site) (takes : Change → Bool)
    (adds : (sources : List ℕ) (e : Edge) → takes (Add e) ≡ concerns d site sources (Add e))
    (cuts : (sources : List ℕ) (from to : ℕ) → concerns d site sources (Cut from to) ≡ true → takes (Cut from to) ≡ true) where
  taken : (sources : List ℕ) (changes : List Change) (edges : List Edge)
      → AllByRecursion (IsPlaced d site sources) edges
      → edges_after (concerning_changes d site sources changes) edges ≡ edges_after (filter takes changes) edges
  taken sources [] edges placed = refl
  taken sources (Add e ∷ changes) edges placed =
      let c = Add e in
      let grown = sources_after_one c sources in
      let rest = filter takes changes in
      let goal-at = λ (b t : Bool). edges_after (cond b (c ∷ concerning_changes d site grown changes) (concerning_changes d site sources changes)) edges ≡ edges_after (cond t (c ∷ rest) rest) edges in
      let at : (b : Bool) → concerns d site sources c ≡ b → goal-at b b = elim [
        | true ↦ λ h. taken grown changes (edges_after_one c edges) (placed_after_one d site sources c edges placed h)
        | false ↦ λ h. taken sources changes edges placed
      ] in
      at (concerns d site sources c) refl ∙ ap (λ t. edges_after (cond t (c ∷ rest) rest) edges) (sym (adds sources e))
  taken sources (Cut from to ∷ changes) edges placed =
      let c = Cut from to in
      let rest = filter takes changes in
      let goal-at = λ (b t : Bool). edges_after (cond b (c ∷ concerning_changes d site sources changes) (concerning_changes d site sources changes)) edges ≡ edges_after (cond t (c ∷ rest) rest) edges in
      let at : (b t : Bool) → concerns d site sources c ≡ b → takes c ≡ t → goal-at b t = elim [
        | true ↦ elim [
          | true ↦ λ h t. taken sources changes (edges_after_one c edges) (placed_after_one d site sources c edges placed h)
          | false ↦ λ h t. absurd (both_ways _ t (cuts sources from to h))
        ]
        | false ↦ elim [
          | true ↦ λ h t. taken sources changes edges placed ∙ ap (edges_after rest) (sym (cut_elsewhere d site sources from to edges placed h))
          | false ↦ λ h t. taken sources changes edges placed
        ]
      ] in
      at (concerns d site sources c) (takes c) refl refl

pub left_out : (d : Dimensions) (site : Site) (sources : List ℕ) (changes : List Change) (edges : List Edge)
    → AllByRecursion (IsPlaced d site sources) edges
    → edges_after (concerning_changes d site sources changes) edges ≡ edges_after (filter (is_cut_or_added_here d site) changes) edges
left_out d site = taken d site (is_cut_or_added_here d site) (λ sources e. refl) (λ sources from to h. refl)

pub left_out_by_block : (d : Dimensions) (site : Site) (sources : List ℕ) (changes : List Change) (edges : List Edge)
    → AllByRecursion (IsPlaced d site sources) edges
    → edges_after (concerning_changes d site sources changes) edges ≡ edges_after (filter (may_concern d site) changes) edges
left_out_by_block d site = taken d site (may_concern d site) (λ sources e. refl) (λ sources from to h. (and_parts _ (lists sources from) h).0)

pub ruleset changes_of_a_chunk = (sources-parts, concerning_changes-parts, cut_elsewhere, placed_after, left_out, left_out_by_block)
