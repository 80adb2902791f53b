-- Lists of keys in which none stands twice.
use Rattle.std.proofs.Common.{◌≡◌, suc, ◌≤◌, Bool, true, false, cond, ◌||◌, List, [], ◌∷◌, length, sym, ap, ◌∙◌, refl, ⊎_elim, true≢false, arith}
use Rattle.std.specs.List.{AllByRecursion}
use Rattle.std.proofs.lemmas.Bool.{or_cases, or_parts}
use Rattle.gm_base.specs.declared.copies.Key.{Key}
use Rattle.gm_buffer.specs.Keys.{is_same_key}
use Rattle.gm_machine.specs.Machine.{has_key}
use Rattle.gm_machine.specs.Promises.{Apart}
use Rattle.gm_machine.specs.Schedules.{distinct}
use Rattle.gm_machine.proofs.Lists.{by_test, same_key-true, same_key_sym}
use Rattle.gm_machine.proofs.InVisits.{or_more}

-- the keys without the first that is k
minus : Key → List Key → List Key
minus k [] = []
minus k (l ∷ ks) = cond (is_same_key l k) ks (l ∷ minus k ks)

minus_length : (k : Key) (ks : List Key) → has_key ks k ≡ true → length ks ≡ suc (length (minus k ks))
unfolding minus
minus_length k [] h = absurd (true≢false (sym h))
minus_length k (l ∷ ks) h =
    by_test (is_same_key l k) (λ t. (t || has_key ks k) ≡ true → suc (length ks) ≡ suc (length (cond t ks (l ∷ minus k ks))))
    (λ _ _. refl) (λ _ g. ap suc (minus_length k ks g)) h

minus_has : (k x : Key) (ks : List Key) → is_same_key k x ≡ false → has_key ks x ≡ true → has_key (minus k ks) x ≡ true
unfolding minus
minus_has k x [] other h = h
minus_has k x (l ∷ ks) other h =
    by_test (is_same_key l k) (λ t. is_same_key l k ≡ t → has_key (cond t ks (l ∷ minus k ks)) x ≡ true)
    (λ _ same.
    let here : l ≡ k = same_key-true l k same in
    ⊎_elim (λ first. absurd (true≢false (sym first ∙ ap (λ y. is_same_key y x) here ∙ other))) (λ later. later) (or_cases (is_same_key l x) (has_key ks x) h))
    (λ _ _. ⊎_elim (λ first. ap (λ (b : Bool). b || has_key (minus k ks) x) first) (λ later. or_more (is_same_key l x) (has_key (minus k ks) x) (minus_has k x ks other later)) (or_cases (is_same_key l x) (has_key ks x) h))
    refl

all_but : (k : Key) (xs ys : List Key) → has_key xs k ≡ false → AllByRecursion (λ x. has_key ys x ≡ true) xs → AllByRecursion (λ x. has_key (minus k ys) x ≡ true) xs
all_but k [] ys fresh h = tt
all_but k (x ∷ xs) ys fresh h =
    let parts = or_parts (is_same_key x k) (has_key xs k) fresh in
    (minus_has k x ys (same_key_sym x k parts.0) h.0, all_but k xs ys parts.1 h.1)

-- keys of which none stands twice are no more than those among which they are
pub apart_few : (xs ys : List Key) → Apart xs → AllByRecursion (λ x. has_key ys x ≡ true) xs → length xs ≤ length ys
apart_few [] ys apart h = omega arith
apart_few (x ∷ xs) ys apart h =
    let all = minus_length x ys h.0 in
    let rest = apart_few xs (minus x ys) apart.1 (all_but x xs ys apart.0 h.1) in
    omega (arith, all, rest)

pub distinct_has : (ks : List Key) (x : Key) → has_key ks x ≡ true → has_key (distinct ks) x ≡ true
distinct_has [] x h = h
distinct_has (k ∷ ks) x h =
    by_test (has_key ks k) (λ t. has_key ks k ≡ t → has_key (cond t (distinct ks) (k ∷ distinct ks)) x ≡ true)
    (λ _ again. ⊎_elim (λ here. distinct_has ks x (ap (has_key ks) (sym (same_key-true k x here)) ∙ again)) (λ there. distinct_has ks x there) (or_cases (is_same_key k x) (has_key ks x) h))
    (λ _ _. ⊎_elim (λ here. ap (λ (b : Bool). b || has_key (distinct ks) x) here) (λ there. or_more (is_same_key k x) (has_key (distinct ks) x) (distinct_has ks x there)) (or_cases (is_same_key k x) (has_key ks x) h))
    refl

distinct_lacks : (ks : List Key) (x : Key) → has_key ks x ≡ false → has_key (distinct ks) x ≡ false
distinct_lacks [] x h = h
distinct_lacks (k ∷ ks) x h =
    let parts = or_parts (is_same_key k x) (has_key ks x) h in
    by_test (has_key ks k) (λ t. has_key (cond t (distinct ks) (k ∷ distinct ks)) x ≡ false)
    (λ _. distinct_lacks ks x parts.1) (λ _. rw parts.0 (distinct_lacks ks x parts.1))

pub distinct_apart : (ks : List Key) → Apart (distinct ks)
distinct_apart [] = tt
distinct_apart (k ∷ ks) =
    by_test (has_key ks k) (λ t. has_key ks k ≡ t → Apart (cond t (distinct ks) (k ∷ distinct ks)))
    (λ _ _. distinct_apart ks) (λ _ fresh. (distinct_lacks ks k fresh, distinct_apart ks)) refl

pub all_distinct : (P : Key → Type 0) (ks : List Key) → AllByRecursion P ks → AllByRecursion P (distinct ks)
all_distinct P [] h = tt
all_distinct P (k ∷ ks) h =
    by_test (has_key ks k) (λ t. AllByRecursion P (cond t (distinct ks) (k ∷ distinct ks))) (λ _. all_distinct P ks h.1) (λ _. (h.0, all_distinct P ks h.1))

pub keys_weaker : (P Q : Key → Type 0) → ((k : Key) → P k → Q k) → (ks : List Key) → AllByRecursion P ks → AllByRecursion Q ks
keys_weaker P Q each [] h = tt
keys_weaker P Q each (k ∷ ks) h = (each k h.0, keys_weaker P Q each ks h.1)
