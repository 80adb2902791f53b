-- Chunks and how many of their edges have no label yet.
use Rattle.std.proofs.Common.{◌≡◌, ℕ, zero, suc, ◌+◌, ◌-◌, ◌<◌, ◌≤◌, List, [], ◌∷◌, map, length, get_or, set, replicate, sym, ap, ◌∙◌, refl, subst, arith, inl, inr, get_or-set_same, get_or-set_other}
use Rattle.std.specs.List.{All, sum_by, sum}
use Rattle.std.proofs.lemmas.List.{length-replicate, length-set}
use Rattle.std.proofs.lemmas.List.Sums.{sum_by-cons}
use Rattle.std.proofs.lemmas.List.Elements.{All-nil, All-set, All-replicate}
use Rattle.std.proofs.lemmas.Bool.{cases_eq}
use Rattle.gm_base.specs.Dimensions.{Dimensions}
use Rattle.gm_label.specs.declared.chunk.Place.{Place}
use Rattle.gm_label.specs.Chunks.{chunks_of}
use Rattle.gm_label.specs.ChunksRules.{chunks-count_edges}
use Rattle.gm_label.specs.Labels.{sources_of, IsLabel, counted_edges}
use Rattle.gm_label.specs.Catalogues.{no_place, IsSourceIn}
use Rattle.gm_label.specs.Stored.{LabelTable, unlabelled_edges, AreLabelled}

abbrev pub no_label : List (ℕ × ℕ)
no_label = []

-- a chunk without a label is among them
pub unlabelled-at : (places : List Place) (labels : List (List (ℕ × ℕ))) (c : ℕ) → length labels ≡ length places → c < length places → get_or labels c [] ≡ []
    → (get_or places c no_place).count ≤ unlabelled_edges places labels
unlabelled-at [] labels c long within fresh = absurd (omega arith)
unlabelled-at (place ∷ places) [] c long within fresh = absurd (omega arith)
unlabelled-at (place ∷ places) ([] ∷ labels) zero long within fresh = omega arith
unlabelled-at (place ∷ places) ((pair ∷ label) ∷ labels) zero long within fresh = cc
unlabelled-at (place ∷ places) ([] ∷ labels) (suc c) long within fresh =
    let rest = unlabelled-at places labels c (omega arith) (omega arith) fresh in omega arith
unlabelled-at (place ∷ places) ((pair ∷ label) ∷ labels) (suc c) long within fresh =
    unlabelled-at places labels c (omega arith) (omega arith) fresh

-- and is it no more once it has a label of all its edges
pub unlabelled-set : (places : List Place) (labels : List (List (ℕ × ℕ))) (c : ℕ) (label : List (ℕ × ℕ)) → length labels ≡ length places → c < length places
    → get_or labels c [] ≡ [] → counted_edges label ≡ (get_or places c no_place).count
    → unlabelled_edges places (set labels c label) + (get_or places c no_place).count ≡ unlabelled_edges places labels
unlabelled-set [] labels c label long within fresh counted = absurd (omega arith)
unlabelled-set (place ∷ places) [] c label long within fresh counted = absurd (omega arith)
unlabelled-set (place ∷ places) ([] ∷ labels) zero [] long within fresh counted = omega arith
unlabelled-set (place ∷ places) ([] ∷ labels) zero (pair ∷ label) long within fresh counted = omega arith
unlabelled-set (place ∷ places) ((first ∷ others) ∷ labels) zero label long within fresh counted = cc
unlabelled-set (place ∷ places) ([] ∷ labels) (suc c) label long within fresh counted =
    let rest = unlabelled-set places labels c label (omega arith) (omega arith) fresh counted in omega arith
unlabelled-set (place ∷ places) ((first ∷ others) ∷ labels) (suc c) label long within fresh counted =
    unlabelled-set places labels c label (omega arith) (omega arith) fresh counted

abbrev InRows : Dimensions → List Place → List (List (ℕ × ℕ)) → ℕ → Type 0
InRows d places lists c = All (IsSourceIn d (get_or places c no_place).block) (sources_of (get_or lists c no_label))

rows-set : (d : Dimensions) (places : List Place) (lists : List (List (ℕ × ℕ))) (c : ℕ) (label : List (ℕ × ℕ)) → c < length lists
    → All (IsSourceIn d (get_or places c no_place).block) (sources_of label) → ((k : ℕ) → InRows d places lists k) → (k : ℕ) → InRows d places (set lists c label) k
rows-set d places lists c label within here others k =
    elim (cases_eq k c) as (λ _. InRows d places (set lists c label) k) [
      | inl same ↦
          subst (λ (j : ℕ). InRows d places (set lists c label) j) (sym same)
          (subst (λ (l : List (ℕ × ℕ)). All (IsSourceIn d (get_or places c no_place).block) (sources_of l)) (sym (get_or-set_same lists c label no_label within)) here)
      | inr apart ↦
          subst (λ (l : List (ℕ × ℕ)). All (IsSourceIn d (get_or places k no_place).block) (sources_of l)) (sym (get_or-set_other lists c k label no_label apart)) (others k)
    ]

pub labelled-set : (d : Dimensions) (places : List Place) (lists : List (List (ℕ × ℕ))) (left : ℕ) (now : LabelTable) (c : ℕ) (label : List (ℕ × ℕ))
    → AreLabelled d places (record { lists = lists; left = left }) → c < length places
    → get_or lists c [] ≡ [] → IsLabel label → counted_edges label ≡ (get_or places c no_place).count
    → All (IsSourceIn d (get_or places c no_place).block) (sources_of label)
    → now ≡ record { lists = set lists c label; left = left - (get_or places c no_place).count } → AreLabelled d places now
labelled-set d places lists left now c label kept within fresh is_label counted in_rows is =
    let same = unlabelled-set places lists c label kept.labelled within fresh counted in
    let was : left ≡ unlabelled_edges places lists = kept.left in
    let long = kept.labelled in
    subst (AreLabelled d places) (sym is) (record {
      labelled = length-set lists c label ∙ kept.labelled;
      are_labels = All-set IsLabel lists c label is_label kept.are_labels;
      in_rows = rows-set d places lists c label (omega arith) in_rows kept.in_rows;
      left = omega arith;
    })

unlabelled-none : (places : List Place) → unlabelled_edges places (replicate (length places) []) ≡ sum_by (λ (p : Place). p.count) places
unlabelled-none [] = refl
unlabelled-none (place ∷ places) =
    let rest = unlabelled-none places in let all = sum_by-cons (λ (p : Place). p.count) place places in omega arith

-- chunks that were just cut
none_listed : (n c : ℕ) → get_or (replicate n no_label) c no_label ≡ no_label
none_listed zero c = refl
none_listed (suc n) zero = refl
none_listed (suc n) (suc c) = none_listed n c

pub labelled-none : (d : Dimensions) (size : ℕ) (counts : List ℕ) (places : List Place) (now : LabelTable) (n left : ℕ) → places ≡ chunks_of size counts → n ≡ length places
    → left ≡ sum counts → now ≡ record { lists = replicate n []; left = left } → AreLabelled d places now
labelled-none d size counts places now n left cut long whole is =
    let lists_are : replicate n [] ≡ replicate (length places) no_label = ap (λ (k : ℕ). replicate k no_label) long in
    let all : unlabelled_edges places (replicate n []) ≡ sum counts =
    ap (unlabelled_edges places) lists_are ∙ unlabelled-none places ∙ ap (sum_by (λ (p : Place). p.count)) cut ∙ chunks-count_edges size counts in
    subst (AreLabelled d places) (sym is) (record {
      labelled = length-replicate n [] ∙ long;
      are_labels = All-replicate IsLabel n [] tt;
      in_rows = λ c.
          subst (λ (l : List (ℕ × ℕ)). All (IsSourceIn d (get_or places c no_place).block) (sources_of l)) (sym (none_listed n c))
          (All-nil (IsSourceIn d (get_or places c no_place).block));
      left = whole ∙ sym all;
    })

each_empty : (places : List Place) → replicate (length places) no_label ≡ map (λ place. []) places
each_empty [] = refl
each_empty (place ∷ places) = ap (λ (ls : List (List (ℕ × ℕ))). [] ∷ ls) (each_empty places)

pub no_labels : (size n : ℕ) (counts : List ℕ) (places : List Place) → places ≡ chunks_of size counts → n ≡ length places
    → replicate n no_label ≡ map (λ place. []) (chunks_of size counts)
no_labels size n counts places cut long =
    ap (λ (k : ℕ). replicate k no_label) long ∙ each_empty places ∙ ap (λ (ps : List Place). map (λ place. []) ps) cut
