-- A set of names with one name more.
use Rattle.std.proofs.Common.{◌≡◌, ℕ, Bool, true, false, List, [], ◌∷◌, ◌++◌, refl, ◌∙◌}
use Rattle.std.specs.Prelude.{cond, ◌||◌}
use Rattle.std.specs.List.{list_any}
use Rattle.std.specs.Str.{bytes_eq}
use Rattle.std.specs.Ordering.{nat_cmp}
use Rattle.std.specs.Cmp.Lexicographic.{slice_cmp, nat_list_eq_equiv}
use Rattle.std.specs.BTreeSet.{Updates}
use Rattle.std.specs.Borrow.{Bor}
use Rattle.std.proofs.lemmas.List.Folds.{list_any-append}
use Rattle.std.proofs.lemmas.Map.Text.{is_eq-slice_cmp}
use Rattle.gm_jobs.specs.declared.name_set.NameSet.{NameSet}
use Rattle.gm_jobs.specs.NameSets.{HasNames}

same_either_way : (xs ys : List ℕ) → bytes_eq xs ys ≡ bytes_eq ys xs
same_either_way xs ys = nat_list_eq_equiv.symm xs ys

either_first : (a b : Bool) → cond a true b ≡ (b || (a || false))
either_first true true = refl
either_first true false = refl
either_first false true = refl
either_first false false = refl

pub one_name_more : (names : List (List ℕ)) (name : Bor (List ℕ)) (old new : NameSet) → HasNames names old
    → Updates (λ x y. slice_cmp nat_cmp x.now y.now) old.names new.names name true → HasNames (names ++ name.now ∷ []) new
one_name_more names name old new has updates text =
    let key : Bor (List ℕ) = record { ref_ptr = (0, 0); now = text } in
    updates.0 key
    ∙ rw (is_eq-slice_cmp name.now text, has text, same_either_way name.now text, list_any-append (bytes_eq text) names (name.now ∷ []))
    (either_first (bytes_eq text name.now) (list_any (bytes_eq text) names))
