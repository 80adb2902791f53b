-- Labels that stand in one list.
use Rattle.std.proofs.Common.{◌≡◌, ℕ, zero, suc, ◌+◌, ◌-◌, ◌<◌, ◌≤◌, List, [], ◌∷◌, ◌++◌, map, length, get_or, set, take, drop, replicate, sym, ap, ◌∙◌, refl, subst, arith, length-append}
use Rattle.std.specs.List.{All, sum_by}
use Rattle.std.proofs.lemmas.List.{map-set, get_or-map, length-map, length-take-le, length-drop, take-append-le, drop-append-le, drop_at, take_all}
use Rattle.std.proofs.lemmas.List.Sums.{sum_by-cons, sum_by-set}
use Rattle.std.proofs.lemmas.List.Elements.{All-head, All-tail, All-get_or, All-set, All-weaker, All-replicate}
use Rattle.gm_base.specs.declared.limits.TheConstants.{MAX_EDGES}
use Rattle.gm_label.specs.declared.labels.Span.{Span}
use Rattle.gm_label.specs.Stored.{stretch, AreStretches}

abbrev no_span : Span
no_span = record { start = 0; count = 0 }

abbrev IsInside : List (ℕ × ℕ) → Span → Type 0
IsInside pairs span = span.start + span.count ≤ length pairs

empty_lists : (n : ℕ) → map (stretch []) (replicate n no_span) ≡ replicate n []
empty_lists zero = refl
empty_lists (suc n) = ap (λ (ls : List (List (ℕ × ℕ))). [] ∷ ls) (empty_lists n)

empty_total : (n : ℕ) → 0 ≡ sum_by (λ (span : Span). span.count) (replicate n no_span)
empty_total zero = refl
empty_total (suc n) = let rest = empty_total n in let all = sum_by-cons (λ (span : Span). span.count) no_span (replicate n no_span) in omega arith

length-stretch : (pairs : List (ℕ × ℕ)) (span : Span) → IsInside pairs span → length (stretch pairs span) ≡ span.count
length-stretch pairs span inside =
    let long = length-drop span.start pairs in
    length-take-le span.count (drop span.start pairs) (omega arith)

-- all labels have as many pairs as the spans count
pub total_lists : (pairs : List (ℕ × ℕ)) (spans : List Span) → All (IsInside pairs) spans
    → sum_by (λ (label : List (ℕ × ℕ)). length label) (map (stretch pairs) spans) ≡ sum_by (λ (span : Span). span.count) spans
total_lists pairs [] inside = refl
total_lists pairs (span ∷ spans) inside =
    let left = sum_by-cons (λ (label : List (ℕ × ℕ)). length label) (stretch pairs span) (map (stretch pairs) spans) in
    let right = sum_by-cons (λ (s : Span). s.count) span spans in
    let here = length-stretch pairs span (All-head (IsInside pairs) span spans inside) in
    let rest = total_lists pairs spans (All-tail (IsInside pairs) span spans inside) in
    left ∙ omega arith

-- pairs that are added behind change no label
same_stretch : (pairs label : List (ℕ × ℕ)) (span : Span) → IsInside pairs span → stretch (pairs ++ label) span ≡ stretch pairs span
same_stretch pairs label span inside =
    let long = length-drop span.start pairs in
    ap (take span.count) (drop-append-le span.start pairs label (omega arith)) ∙ take-append-le span.count (drop span.start pairs) label (omega arith)

same_lists : (pairs label : List (ℕ × ℕ)) (spans : List Span) → All (IsInside pairs) spans → map (stretch (pairs ++ label)) spans ≡ map (stretch pairs) spans
same_lists pairs label [] inside = refl
same_lists pairs label (span ∷ spans) inside =
    ap (λ (l : List (ℕ × ℕ)). l ∷ map (stretch (pairs ++ label)) spans) (same_stretch pairs label span (All-head (IsInside pairs) span spans inside))
    ∙ ap (λ (ls : List (List (ℕ × ℕ))). stretch pairs span ∷ ls) (same_lists pairs label spans (All-tail (IsInside pairs) span spans inside))

new_stretch : (pairs label : List (ℕ × ℕ)) (start count : ℕ) → start ≡ length pairs → count ≡ length label → take count (drop start (pairs ++ label)) ≡ label
new_stretch pairs label start count at long =
    ap (take count) (drop_at pairs label start (sym at)) ∙ take_all count label (omega arith)

-- a label that was added to the pairs, and where it stands among them
pub record IsAdded (pairs label pairs_now : List (ℕ × ℕ)) (start count : ℕ) : Type 0 where
  pub joined : pairs_now ≡ pairs ++ label
  pub at : start ≡ length pairs
  pub long : count ≡ length label

-- first room was taken
pub added_behind : (pairs roomy label pairs_now : List (ℕ × ℕ)) (start end : ℕ) → start ≡ length pairs → roomy ≡ pairs → pairs_now ≡ roomy ++ label → end ≡ length pairs_now
    → IsAdded pairs label pairs_now start (end - start)
added_behind pairs roomy label pairs_now start end at same is all =
    let joined : pairs_now ≡ pairs ++ label = is ∙ ap (λ (ps : List (ℕ × ℕ)). ps ++ label) same in
    let both : length pairs_now ≡ length pairs + length label = ap length joined ∙ length-append pairs label in
    record { joined = joined; at = at; long = omega arith }

-- the labels with a new one behind the others
pub new_lists : (pairs label pairs_now : List (ℕ × ℕ)) (spans : List Span) (chunk start count : ℕ) → All (IsInside pairs) spans → IsAdded pairs label pairs_now start count
    → map (stretch pairs_now) (set spans chunk (record { start = start; count = count })) ≡ set (map (stretch pairs) spans) chunk label
new_lists pairs label pairs_now spans chunk start count inside added =
    let span : Span = record { start = start; count = count } in
    ap (λ (ps : List (ℕ × ℕ)). map (stretch ps) (set spans chunk span)) added.joined
    ∙ map-set (stretch (pairs ++ label)) spans chunk span
    ∙ ap (λ (ls : List (List (ℕ × ℕ))). set ls chunk (stretch (pairs ++ label) span)) (same_lists pairs label spans inside)
    ∙ ap (set (map (stretch pairs) spans) chunk) (new_stretch pairs label start count added.at added.long)

pub new_stretches : (pairs label pairs_now : List (ℕ × ℕ)) (spans : List Span) (chunk start count left edges : ℕ) → AreStretches pairs spans left
    → chunk < length (map (stretch pairs) spans) → get_or (map (stretch pairs) spans) chunk [] ≡ [] → length label ≤ edges → edges ≤ left
    → IsAdded pairs label pairs_now start count → AreStretches pairs_now (set spans chunk (record { start = start; count = count })) (left - edges)
new_stretches pairs label pairs_now spans chunk start count left edges kept within fresh few room added =
    let span : Span = record { start = start; count = count } in
    let at = added.at in
    let long = added.long in
    let both : length pairs_now ≡ length pairs + length label = ap length added.joined ∙ length-append pairs label in
    let below : chunk < length spans = let same = length-map spans (stretch pairs) in omega arith in
    let old = get_or spans chunk no_span in
    let old_list : length (stretch pairs old) ≡ 0 = ap length (sym (get_or-map (stretch pairs) spans chunk no_span [] below) ∙ fresh) in
    let old_count = length-stretch pairs old (All-get_or (IsInside pairs) spans chunk no_span below kept.inside) in
    let counted = sum_by-set (λ (s : Span). s.count) spans chunk span no_span below in
    let total = kept.total in
    let most = kept.few in
    record {
      inside = All-set (IsInside pairs_now) spans chunk span (omega arith)
          (All-weaker (IsInside pairs) (IsInside pairs_now) (λ s h. omega arith) spans kept.inside);
      total = omega arith;
      few = omega arith;
    }

resized : (n len : ℕ) (spans old : List Span) → old ≡ [] → len ≡ 0 → spans ≡ take n old ++ replicate (n - len) no_span → spans ≡ replicate n no_span
resized n len spans old none zero_long is =
    let less : n - len ≡ n = omega arith in
    let nothing : take n old ≡ [] = take_all n old (omega (arith, ap length none)) ∙ none in
    is ∙ ap (λ (xs : List Span). xs ++ replicate (n - len) no_span) nothing ∙ ap (λ (k : ℕ). replicate k no_span) less

-- no labels yet
pub made_lists : (n len : ℕ) (pairs : List (ℕ × ℕ)) (spans old : List Span) → pairs ≡ [] → old ≡ [] → len ≡ 0
    → spans ≡ take n old ++ replicate (n - len) no_span → map (stretch pairs) spans ≡ replicate n []
made_lists n len pairs spans old no_pairs none zero_long is =
    ap (λ (ps : List (ℕ × ℕ)). map (stretch ps) spans) no_pairs ∙ ap (map (stretch [])) (resized n len spans old none zero_long is) ∙ empty_lists n

pub made_stretches : (n len left : ℕ) (pairs : List (ℕ × ℕ)) (spans old : List Span) → pairs ≡ [] → old ≡ [] → len ≡ 0
    → spans ≡ take n old ++ replicate (n - len) no_span → left ≤ MAX_EDGES → AreStretches pairs spans left
made_stretches n len left pairs spans old no_pairs none zero_long is few =
    let all = resized n len spans old none zero_long is in
    let long = ap length no_pairs in
    record {
      inside = subst (λ (ss : List Span). All (IsInside pairs) ss) (sym all) (All-replicate (IsInside pairs) n no_span (omega arith));
      total = long ∙ empty_total n ∙ ap (sum_by (λ (span : Span). span.count)) (sym all);
      few = omega arith;
    }
