use Rattle.std.proofs.Common.{◌≡◌, ℕ, Bool, true, false, not, IsTrue, List, length, sym, ap, subst, refl, ◌∙◌, inl, inr, arith}
use Rattle.std.proofs.lemmas.Bool.{cases_lt}
use Rattle.gm_active.specs.Bits.{is_in, any_between, NoneBetween}
use Rattle.gm_active.specs.BitsRules.{is_in_past, none_from_any}
use Rattle.gm_active.proofs.chunk_set.ChunkSet.is_empty.Goals as goal

not_any : (any : Bool) → IsTrue (not any) → any ≡ false
not_any true h = sym h
not_any false h = refl

none_at_all : (marks : List Bool) (result : Bool) → result ≡ not (any_between (is_in marks) 0 (length marks)) → IsTrue result → (k : ℕ) → is_in marks k ≡ false
none_at_all marks result value is_empty k =
    let none_below : NoneBetween (is_in marks) 0 (length marks) = none_from_any (is_in marks) 0 (length marks) (not_any (any_between (is_in marks) 0 (length marks)) (subst IsTrue value is_empty)) in
    elim (cases_lt k (length marks)) as (λ _. is_in marks k ≡ false) [
      | inl less ↦ none_below k (omega arith) less
      | inr past ↦ is_in_past marks k past
    ]

pub returns-clause-none : goal.returns-clause-none
returns-clause-none c =
    λ is_empty k.
    ap (λ (marks : List Bool). is_in marks k) (sym c.self.view_is) ∙ none_at_all c.self.inside.chunks c.is_empty.result c.is_empty.ensures is_empty k
