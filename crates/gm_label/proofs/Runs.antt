-- Sources in order, run by run.
use Rattle.std.proofs.Common.{◌≡◌, ◌≢◌, ℕ, zero, suc, ◌+◌, ◌-◌, ◌<◌, ◌≤◌, List, [], ◌∷◌, ◌++◌, length, get_or, take, drop, inl, inr, sym, ap, ◌∙◌, subst, arith, append_assoc}
use Rattle.std.specs.List.{AllByRecursion}
use Rattle.std.specs.List.Sorted.{IsNonDecreasing}
use Rattle.std.proofs.lemmas.Bool.{cases_lt}
use Rattle.std.proofs.lemmas.List.{get_or-drop, drop-drop, length-drop, take_rest}
use Rattle.gm_label.specs.Labels.{with_source, label_of_sources, AscendsFrom}
use Rattle.gm_label.specs.LabelsRules.{with_source-first, with_source-again, sources-ascend}

by_index : (P : ℕ → Type 0) (xs : List ℕ) → ((k : ℕ) → k < length xs → P (get_or xs k 0)) → AllByRecursion P xs
by_index P [] each = tt
by_index P (x ∷ xs) each = (each 0 (omega arith), by_index P xs (λ k h. each (suc k) (omega arith)))

-- a run of one source, before greater ones
run_first : (sources : List ℕ) (source more : ℕ) → suc more ≤ length sources → ((k : ℕ) → k < suc more → get_or sources k 0 ≡ source)
    → AscendsFrom (source + 1) (label_of_sources (drop (suc more) sources))
    → label_of_sources sources ≡ (source, suc more) ∷ label_of_sources (drop (suc more) sources)
run_first [] source more within same greater = absurd (omega arith)
run_first (x ∷ xs) source zero within same greater =
    ap (λ (v : ℕ). with_source v (label_of_sources xs)) (same 0 (omega arith)) ∙ with_source-first source (label_of_sources xs) greater
run_first (x ∷ xs) source (suc more) within same greater =
    let rest = run_first xs source more (omega arith) (λ k h. same (suc k) (omega arith)) greater in
    let count : suc more + 1 ≡ suc (suc more) = omega arith in
    ap (λ (v : ℕ). with_source v (label_of_sources xs)) (same 0 (omega arith))
    ∙ ap (with_source source) rest
    ∙ with_source-again source (suc more) (label_of_sources (drop (suc more) xs))
    ∙ ap (λ (n : ℕ). (source, n) ∷ label_of_sources (drop (suc more) xs)) count

-- a run in the middle of sources in order
next_run : (sources : List ℕ) (at run : ℕ) (before pairs all : List (ℕ × ℕ)) → IsNonDecreasing sources → at < length sources
    → run ≤ length (drop at sources)
    → ((k : ℕ) → k < run → get_or (drop at sources) k 0 ≡ get_or sources at 0)
    → (run < length (drop at sources) → get_or (drop at sources) run 0 ≢ get_or sources at 0)
    → pairs ≡ before ++ (get_or sources at 0, run) ∷ []
    → before ++ label_of_sources (drop at sources) ≡ all
    → (at < at + run) × (at + run ≤ length sources) × (pairs ++ label_of_sources (drop (at + run) sources) ≡ all)
next_run sources at zero before pairs all ascending within short same other pushed joined =
    let long = length-drop at sources in
    let here : get_or (drop at sources) 0 0 ≡ get_or sources at 0 = get_or-drop at sources 0 0 ∙ ap (λ (k : ℕ). get_or sources k 0) (omega arith) in
    absurd (other (omega arith) here)
next_run sources at (suc more) before pairs all ascending within short same other pushed joined =
    let source = get_or sources at 0 in
    let run : ℕ = suc more in
    let long = length-drop at sources in
    let rest_is : drop run (drop at sources) ≡ drop (at + run) sources = drop-drop run at sources in
    let rest_long = length-drop (at + run) sources in
    let greater : AllByRecursion (λ s. source + 1 ≤ s) (drop (at + run) sources) =
    by_index (λ s. source + 1 ≤ s) (drop (at + run) sources) (λ k h.
    let next : get_or (drop (at + run) sources) k 0 ≡ get_or sources (at + run + k) 0 = get_or-drop (at + run) sources k 0 in
    let first : get_or (drop at sources) run 0 ≡ get_or sources (at + run) 0 = get_or-drop at sources run 0 in
    let up : source ≤ get_or sources (at + run) 0 = ascending at (at + run) 0 (omega arith) (omega arith) in
    let further : get_or sources (at + run) 0 ≤ get_or sources (at + run + k) 0 = ascending (at + run) (at + run + k) 0 (omega arith) (omega arith) in
    let apart = other (omega arith) in
    elim (cases_lt source (get_or sources (at + run) 0)) as (λ _. source + 1 ≤ get_or (drop (at + run) sources) k 0) [
      | inl less ↦ omega arith
      | inr not_less ↦ absurd (apart (omega arith))
    ]) in
    let ascends : AscendsFrom (source + 1) (label_of_sources (drop run (drop at sources))) =
    subst (λ (xs : List ℕ). AscendsFrom (source + 1) (label_of_sources xs)) (sym rest_is) (sources-ascend (source + 1) (drop (at + run) sources) greater) in
    let split = run_first (drop at sources) source more short same ascends in (
      omega arith,
      omega arith,
      ap (λ (ps : List (ℕ × ℕ)). ps ++ label_of_sources (drop (at + run) sources)) pushed
          ∙ append_assoc before ((source, run) ∷ []) (label_of_sources (drop (at + run) sources))
          ∙ ap (λ (xs : List ℕ). before ++ ((source, run) ∷ label_of_sources xs)) (sym rest_is)
          ∙ ap (λ (ps : List (ℕ × ℕ)). before ++ ps) (sym split) ∙ joined,
    )

-- the same as the code has what is left
pub next_run_left : (sources : List ℕ) (at run : ℕ) (before pairs all : List (ℕ × ℕ)) → IsNonDecreasing sources → at < length sources
    → run ≤ length (take (length sources - at) (drop at sources))
    → ((k : ℕ) → k < run → get_or (take (length sources - at) (drop at sources)) k 0 ≡ get_or sources at 0)
    → (run < length (take (length sources - at) (drop at sources)) → get_or (take (length sources - at) (drop at sources)) run 0 ≢ get_or sources at 0)
    → pairs ≡ before ++ (get_or sources at 0, run) ∷ []
    → before ++ label_of_sources (drop at sources) ≡ all
    → (at < at + run) × (at + run ≤ length sources) × (pairs ++ label_of_sources (drop (at + run) sources) ≡ all)
next_run_left sources at run before pairs all ascending within =
    let Goal : List ℕ → Type 0 = λ rest. run ≤ length rest → ((k : ℕ) → k < run → get_or rest k 0 ≡ get_or sources at 0)
    → (run < length rest → get_or rest run 0 ≢ get_or sources at 0) → pairs ≡ before ++ (get_or sources at 0, run) ∷ []
    → before ++ label_of_sources (drop at sources) ≡ all
    → (at < at + run) × (at + run ≤ length sources) × (pairs ++ label_of_sources (drop (at + run) sources) ≡ all) in
    subst Goal (sym (take_rest sources at)) (next_run sources at run before pairs all ascending within)
