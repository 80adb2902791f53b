-- What proofs need of changes made in one walk.
use Rattle.std.proofs.Common.{◌≡◌, Bool, true, false, ◌||◌, cond, not, List, [], ◌∷◌, ◌++◌, sym, ap, ◌∙◌, refl}
use Rattle.std.specs.List.{filter}
use Rattle.std.proofs.lemmas.List.{append-nil, append_assoc}
use Rattle.std.proofs.lemmas.List.Elements.{filter-append}
use Rattle.gm_base.specs.declared.edge.Edge.{Edge}
use Rattle.gm_changes.specs.declared.change.Change.{Change}
use Rattle.gm_changes.specs.declared.change.Change.TheVariants.{Add, Cut}
use Rattle.gm_changes.specs.Changes.{is_between, edges_after}
use Rattle.gm_changes.specs.Kept.{is_cut, uncut_edges, kept_adds}

uncut_edges-none : (edges : List Edge) → edges ≡ uncut_edges [] edges
uncut_edges-none [] = refl
uncut_edges-none (e ∷ edges) = ap (λ rest. e ∷ rest) (uncut_edges-none edges)

-- a cut before other changes
uncut_edges-cut : (first then : Edge → Bool) (edges : List Edge)
    → filter (λ e. not (then e)) (filter (λ e. not (first e)) edges) ≡ filter (λ e. not (first e || then e)) edges
uncut_edges-cut first then [] = refl
uncut_edges-cut first then (e ∷ edges) =
    let left = filter (λ e. not (first e)) edges in
    let both = filter (λ e. not (first e || then e)) edges in
    let ih = uncut_edges-cut first then edges in
    let at : (b : Bool) → filter (λ e. not (then e)) (cond (not b) (e ∷ left) left) ≡ cond (not (b || then e)) (e ∷ both) both = elim [
      | true ↦ ih
      | false ↦ ap (λ rest. cond (not (then e)) (e ∷ rest) rest) ih
    ] in
    at (first e)

pub in_one_walk : (changes : List Change) (edges : List Edge) → edges_after changes edges ≡ uncut_edges changes edges ++ kept_adds changes
in_one_walk [] edges = uncut_edges-none edges ∙ sym (append-nil (uncut_edges [] edges))
in_one_walk (Add x ∷ changes) edges =
    let left = uncut_edges changes edges in
    let kept = kept_adds changes in
    let at : (b : Bool) → (left ++ cond (not b) (x ∷ []) []) ++ kept ≡ left ++ cond b kept (x ∷ kept) = elim [
      | true ↦ ap (λ xs. xs ++ kept) (append-nil left)
      | false ↦ append_assoc left (x ∷ []) kept
    ] in
    in_one_walk changes (edges ++ x ∷ [])
    ∙ ap (λ xs. xs ++ kept) (filter-append (λ e. not (is_cut changes e)) edges (x ∷ []))
    ∙ at (is_cut changes x)
in_one_walk (Cut from to ∷ changes) edges =
    in_one_walk changes (filter (λ e. not (is_between from to e)) edges)
    ∙ ap (λ xs. xs ++ kept_adds changes) (uncut_edges-cut (is_between from to) (is_cut changes) edges)

pub ruleset one_walk = (in_one_walk)
