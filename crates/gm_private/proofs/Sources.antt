-- What a job's own changes add to a chunk, and whether they concern it.
use Rattle.std.proofs.Common.{◌≡◌, ℕ, Bool, true, false, cond, List, [], ◌∷◌, ◌++◌, Option, Some, None, append_assoc, append-nil, sym, ap, ◌∙◌, refl}
use Rattle.std.specs.List.{fold}
use Rattle.gm_base.specs.declared.copies.Tag.TheVariants.{Own}
use Rattle.gm_base.specs.Dimensions.{Dimensions}
use Rattle.gm_changes.specs.declared.change.Change.{Change}
use Rattle.gm_changes.specs.declared.change.Change.TheVariants.{Add, Cut}
use Rattle.gm_changes.specs.Concerns.{Site, concerns, concerning_changes, sources_after_one}
use Rattle.gm_label.specs.Catalogues.{Catalogue}
use Rattle.gm_versions.specs.Contents.{site_at, sources_at_after, next_changes_at, added_sources, changes_up_to, is_some_change}
use Rattle.gm_versions.specs.ContentsRules.{added_sources-append, none_is}
use Rattle.gm_private.specs.declared.seen_chunks.SeenChunk.{SeenChunk}
use Rattle.gm_private.specs.OwnChanges.{OwnChanges}
use Rattle.gm_private.specs.SeenChunks.{with_own, after_own}

-- a cut adds nothing, whether it concerns the chunk or not
cut_adds_nothing : (d : Dimensions) (site : Site) (sources : List ℕ) (from to : ℕ) (changes : List Change)
    → added_sources (concerning_changes d site sources (Cut from to ∷ changes)) ≡ added_sources (concerning_changes d site sources changes)
cut_adds_nothing d site sources from to changes =
    let later = concerning_changes d site sources changes in
    let at : (b : Bool) → added_sources (cond b (Cut from to ∷ later) later) ≡ added_sources later = elim [ true ↦ refl | false ↦ refl ] in
    at (concerns d site sources (Cut from to))

-- whatever the chunk's sources are, the same edges are added
pub added-same : (d : Dimensions) (site : Site) (s t : List ℕ) (changes : List Change)
    → added_sources (concerning_changes d site s changes) ≡ added_sources (concerning_changes d site t changes)
added-same d site s t [] = refl
added-same d site s t (Add e ∷ changes) =
    let at : (b : Bool) → added_sources (cond b (Add e ∷ concerning_changes d site (e.from ∷ s) changes) (concerning_changes d site s changes))
    ≡ added_sources (cond b (Add e ∷ concerning_changes d site (e.from ∷ t) changes) (concerning_changes d site t changes)) = elim [
      | true ↦ ap (λ (ss : List ℕ). e.from ∷ ss) (added-same d site (e.from ∷ s) (e.from ∷ t) changes)
      | false ↦ added-same d site s t changes
    ] in
    at (concerns d site s (Add e))
added-same d site s t (Cut from to ∷ changes) =
    cut_adds_nothing d site s from to changes ∙ added-same d site s t changes ∙ sym (cut_adds_nothing d site t from to changes)

abbrev pub added_of : Option SeenChunk → List ℕ
added_of None = []
added_of (Some seen) = seen.added

with_own-is : (job : ℕ) (sources : List ℕ) (seen : Option SeenChunk) → with_own job sources seen ≡ record { tag = Own job; added = added_of seen ++ sources }
with_own-is job sources None = refl
with_own-is job sources (Some seen) = refl

-- what is kept of a chunk after own changes: the job's own tag, where one of them concerns the chunk, and all sources that they add
abbrev pub own_after : Catalogue → ℕ → ℕ → List Change → Option SeenChunk → List Change → Option SeenChunk
own_after cat c job updates before changes =
    let next = next_changes_at cat c updates changes in
    cond (is_some_change next) (Some (record { tag = Own job; added = added_of before ++ added_sources next })) before

pub fold-own : (cat : Catalogue) (updates : List (List Change)) (own : OwnChanges) (c : ℕ) (before : Option SeenChunk) (changes : List Change)
    → fold (after_own cat updates own c) before changes ≡ own_after cat c own.job (changes_up_to updates own.version) before changes
fold-own cat updates own c before [] = refl
fold-own cat updates own c before (change ∷ changes) =
    let d = cat.dimensions in
    let site = site_at cat c in
    let sources = sources_at_after cat c (changes_up_to updates own.version) in
    let later = concerning_changes d site sources changes in
    let further = concerning_changes d site (sources_after_one change sources) changes in
    let one = λ (added : List ℕ). let seen : SeenChunk = record { tag = Own own.job; added = added } in Some seen in
    let here = added_sources (change ∷ []) in
    let noted : SeenChunk = with_own own.job here before in
    let all : added_of before ++ added_sources (change ∷ further) ≡ (added_of before ++ here) ++ added_sources later =
    ap (λ (ss : List ℕ). added_of before ++ ss) (added_sources-append (change ∷ []) further ∙ ap (λ (ss : List ℕ). here ++ ss) (added-same d site (sources_after_one change sources) sources changes))
    ∙ sym (append_assoc (added_of before) here (added_sources later)) in
    let ended : (b : Bool) → is_some_change later ≡ b → cond b (one (added_of (Some noted) ++ added_sources later)) (Some noted) ≡ one (added_of before ++ added_sources (change ∷ further)) = elim [
      | true ↦ λ some.
          ap (λ (seen : SeenChunk). one (seen.added ++ added_sources later)) (with_own-is own.job here before) ∙ ap one (sym all)
      | false ↦ λ none.
          ap Some (with_own-is own.job here before)
          ∙ ap one (sym (append-nil (added_of before ++ here)) ∙ ap (λ (cs : List Change). (added_of before ++ here) ++ added_sources cs) (sym (none_is later none)) ∙ sym all)
    ] in
    let at : (b : Bool) → fold (after_own cat updates own c) (cond b (Some noted) before) changes
    ≡ cond (is_some_change (cond b (change ∷ further) later)) (one (added_of before ++ added_sources (cond b (change ∷ further) later))) before = elim [
      | true ↦ fold-own cat updates own c (Some noted) changes ∙ ended (is_some_change later) refl
      | false ↦ fold-own cat updates own c before changes
    ] in
    at (concerns d site sources change)
