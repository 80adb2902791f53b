-- The chunks that an update concerns, and what is taken back of it.
use Rattle.std.proofs.Common.{◌≡◌, ℕ, ◌<◌, Bool, true, false, cond, ◌||◌, eqb, List, [], ◌∷◌, ◌++◌, ◌⊎◌, inl, inr, sym, ap, ◌∙◌, refl, arith, ◌+◌, length, drop, get_or}
use Rattle.std.specs.List.{list_any, fold}
use Rattle.std.proofs.lemmas.Bool.{cases_Bool, cases_eq, cond-true, cond-false, eq-eqb, ne_eqb, or_cases}
use Rattle.std.proofs.lemmas.List.Folds.{list_any-append}
use Rattle.gm_versions.specs.declared.histories.Histories.{Histories}
use Rattle.gm_versions.specs.Histories.{last_of, history_up_to, ChunkHistory, with_change}
use Rattle.gm_versions.specs.Kept.{history_in, IsLogged, IsLoggedAt, IsKeptBefore}
use Rattle.gm_versions.proofs.HistorySteps.{last-within, up_to-again}
use Rattle.std.proofs.lemmas.List.{at_drop_more}
use Rattle.gm_changes.specs.declared.change.Change.{Change}
use Rattle.gm_label.specs.Catalogues.{Catalogue}

abbrev is_in : List ℕ → ℕ → Bool
is_in touched q = list_any (λ c. eqb c q) touched

-- a chunk is noted that is logged
pub logged-noted : (version number chunk : ℕ) (mid new : Histories) → version < number → IsLogged version mid → IsLoggedAt number chunk mid
    → ((q : ℕ) → (q ≡ chunk → ⊥) → history_in new q ≡ history_in mid q) → new.undo_log.items ≡ mid.undo_log.items → IsLogged version new
logged-noted version number chunk mid new later logged here others touched q =
    let same : is_in new.undo_log.items q ≡ is_in mid.undo_log.items q = ap (λ (ts : List ℕ). is_in ts q) touched in
    let Goal : Type 0 = (is_in new.undo_log.items q ≡ true) ⊎ (history_up_to version (history_in new q) ≡ history_in new q) in
    elim (cases_eq q chunk) as (λ _. Goal) [
      | inl is ↦ elim here as (λ _. Goal) [
        | inl told ↦ inl (same ∙ ap (is_in mid.undo_log.items) is ∙ told)
        | inr last ↦ elim (logged q) as (λ _. Goal) [
          | inl told ↦ inl (same ∙ told)
          | inr whole ↦
              let reached : version < last_of (history_in mid q).updates = let at = ap (λ (k : ℕ). last_of (history_in mid k).updates) is in omega arith in
              let last = last-within version (history_in mid q) whole in
              absurd (omega arith)
        ]
      ]
      | inr apart ↦ elim (logged q) as (λ _. Goal) [
        | inl told ↦ inl (same ∙ told)
        | inr whole ↦ inr (ap (history_up_to version) (others q apart) ∙ whole ∙ sym (others q apart))
      ]
    ]

-- one chunk less is logged, whose later updates were taken back
pub logged-forgotten : (version chunk : ℕ) (touched : List ℕ) (old new : Histories) → old.undo_log.items ≡ touched ++ chunk ∷ [] → new.undo_log.items ≡ touched
    → ((q : ℕ) → history_in new q ≡ cond (eqb q chunk) (history_up_to version (history_in old q)) (history_in old q)) → IsLogged version old → IsLogged version new
logged-forgotten version chunk touched old new last rest at logged q =
    let Goal : Type 0 = (is_in new.undo_log.items q ≡ true) ⊎ (history_up_to version (history_in new q) ≡ history_in new q) in
    elim (cases_Bool (eqb q chunk)) as (λ _. Goal) [
      | inl here ↦
          let is = at q ∙ cond-true (eqb q chunk) (history_up_to version (history_in old q)) (history_in old q) here in
          inr (ap (history_up_to version) is ∙ up_to-again version (history_in old q) ∙ sym is)
      | inr other ↦
          let is = at q ∙ cond-false (eqb q chunk) (history_up_to version (history_in old q)) (history_in old q) other in
          elim (logged q) as (λ _. Goal) [
            | inl told ↦
                let split = list_any-append (λ (c : ℕ). eqb c q) touched (chunk ∷ []) in
                let parted = or_cases (is_in touched q) (eqb chunk q || false) (sym split ∙ sym (ap (λ (ts : List ℕ). is_in ts q) last) ∙ told) in
                elim parted as (λ _. Goal) [
                  | inl still ↦ inl (ap (λ (ts : List ℕ). is_in ts q) rest ∙ still)
                  | inr gone ↦
                      let apart : eqb chunk q ≡ false = ne_eqb chunk q (λ same. let back = eq-eqb q chunk (sym same) in let contrary : true ≡ false = sym back ∙ other in absurd (cc)) in
                      let contrary : true ≡ false = sym gone ∙ ap (λ (b : Bool). b || false) apart in absurd (cc)
                ]
            | inr whole ↦ inr (ap (history_up_to version) is ∙ whole ∙ sym is)
          ]
    ]

-- what a forgotten chunk was before
pub before-forgotten : (version chunk : ℕ) (old new : Histories)
    → ((q : ℕ) → history_in new q ≡ cond (eqb q chunk) (history_up_to version (history_in old q)) (history_in old q))
    → (q : ℕ) → history_up_to version (history_in new q) ≡ history_up_to version (history_in old q)
before-forgotten version chunk old new at q =
    let here : (b : Bool) → history_up_to version (cond b (history_up_to version (history_in old q)) (history_in old q)) ≡ history_up_to version (history_in old q) = elim [
      | true ↦ up_to-again version (history_in old q)
      | false ↦ refl
    ] in
    ap (history_up_to version) (at q) ∙ here (eqb q chunk)

-- ---- One change more, for a chunk and for all of them

pub kept-then : (number : ℕ) (first second third : Histories) → IsKeptBefore number first second → IsKeptBefore number second third → IsKeptBefore number first third
kept-then number first second third a b = record {
  before = λ q version later. b.before q version later ∙ a.before q version later;
  up_to = b.up_to;
  logged = λ version later logged. b.logged version later (a.logged version later logged);
}

-- one change more of a batch
pub batch_walked : (cat : Catalogue) (q number k : ℕ) (batch : List Change) (d : Change) (total old new : ChunkHistory) → k < length batch
    → new ≡ with_change cat q number old (get_or batch k d) → fold (with_change cat q number) old (drop k batch) ≡ total
    → fold (with_change cat q number) new (drop (k + 1) batch) ≡ total
batch_walked cat q number k batch d total old new within is rest =
    ap (λ (h : ChunkHistory). fold (with_change cat q number) h (drop (k + 1) batch)) is
    ∙ sym (at_drop_more (fold (with_change cat q number) old) batch k d within) ∙ rest
