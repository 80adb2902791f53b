-- The copies by their keys, after one was changed or taken out.
use Rattle.std.proofs.Common.{◌≡◌, ℕ, zero, suc, ◌<◌, Bool, true, false, cond, eqb, List, [], ◌∷◌, length, get_or, set, remove, Option, Some, None, sym, ap, ap₂, subst, ◌∙◌, refl, arith}
use Rattle.std.specs.Prelude.{nat_lt, is_some, IfSome}
use Rattle.std.proofs.lemmas.List.{get_or-set_same, nil_from_length}
use Rattle.gm_base.specs.declared.copies.ChunkCopy.{ChunkCopy}
use Rattle.gm_base.specs.declared.edge.Edge.{Edge}
use Rattle.std.specs.List.{position, position_or_len}
use Rattle.std.proofs.lemmas.Bool.{eqb-true, eqb-false, eq-eqb, ltb-false, and_parts}
use Rattle.std.proofs.lemmas.Option.{slice_get_past}
use Rattle.std.proofs.lemmas.List.Folds.{find_at}
use Rattle.std.proofs.lemmas.List.Quantifiers.{position-Some}
use Rattle.gm_base.specs.declared.copies.Key.{Key}
use Rattle.gm_base.specs.declared.copies.Tag.{Tag}
use Rattle.gm_base.specs.declared.copies.Tag.TheVariants.{Update, Own}
use Rattle.gm_buffer.specs.Keys.{is_same_tag, is_same_key}
use Rattle.gm_buffer.specs.Holdings.{Held, is_under, held_under, riders_of, riders_under, copy_of, copy_under, IsKept, without, Passes}

by_test : (b : Bool) (P : Bool → Type 0) → (b ≡ true → P true) → (b ≡ false → P false) → P b
by_test true P t f = t refl
by_test false P t f = f refl

same_tag-true : (a b : Tag) → is_same_tag a b ≡ true → a ≡ b
same_tag-true (Update a) (Update b) h = ap Update (eqb-true a b h)
same_tag-true (Update a) (Own b) h = cc
same_tag-true (Own a) (Update b) h = cc
same_tag-true (Own a) (Own b) h = ap Own (eqb-true a b h)

same_key-true : (a b : Key) → is_same_key a b ≡ true → a ≡ b
same_key-true a b h =
    let parts = and_parts (eqb a.chunk b.chunk) (is_same_tag a.tag b.tag) h in
    ap₂ (λ (chunk : ℕ) (tag : Tag). record { chunk = chunk; tag = tag }) (eqb-true a.chunk b.chunk parts.0) (same_tag-true a.tag b.tag parts.1)

same_tag-refl : (a : Tag) → is_same_tag a a ≡ true
same_tag-refl (Update a) = eq-eqb a a refl
same_tag-refl (Own a) = eq-eqb a a refl

same_key-refl : (a : Key) → is_same_key a a ≡ true
same_key-refl a = rw (eq-eqb a.chunk a.chunk refl) (same_tag-refl a.tag)

-- a key that isnt the one isnt the same as another that is
not_both : (a b k : Key) → is_same_key a b ≡ false → is_same_key a k ≡ true → is_same_key b k ≡ false
not_both a b k apart same =
    by_test (is_same_key b k) (λ t. is_same_key b k ≡ t → t ≡ false)
    (λ on e. let one = same_key-true a k same in let two = same_key-true b k on in
    let joined : is_same_key a b ≡ true = ap (is_same_key a) (two ∙ sym one) ∙ same_key-refl a in cc)
    (λ off e. refl) refl

-- the first copy under a key stands here
abbrev pub IsFirst : Key → List Held → ℕ → Type 0
IsFirst key [] i = ⊥
IsFirst key (held ∷ rest) zero = is_under key held ≡ true
IsFirst key (held ∷ rest) (suc i) = (is_under key held ≡ false) × IsFirst key rest i

first_from : (key : Key) (d : Held) (all : List Held) (i : ℕ) → i < length all → is_under key (get_or all i d) ≡ true
    → ((j : ℕ) → j < i → is_under key (get_or all j d) ≡ false) → IsFirst key all i
first_from key d [] i within here before = absurd (omega arith)
first_from key d (held ∷ rest) zero within here before = here
first_from key d (held ∷ rest) (suc i) within here before = (before 0 (omega arith), first_from key d rest i (omega arith) here (λ j below. before (suc j) (omega arith)))

pub first_at : (key : Key) (all : List Held) (i : ℕ) → position (is_under key) all ≡ Some i → IsFirst key all i
first_at key [] i h = cc
first_at key (held ∷ rest) i h = let f = position-Some (is_under key) (held ∷ rest) i held h in first_from key held (held ∷ rest) i f.0 f.1 f.2

pub none_at : (key : Key) (all : List Held) → position (is_under key) all ≡ None → held_under key all ≡ None
none_at key all h =
    by_test (nat_lt (position_or_len (is_under key) all) (length all))
    (λ t. nat_lt (position_or_len (is_under key) all) (length all) ≡ t → cond t (Some (position_or_len (is_under key) all)) None ≡ None → held_under key all ≡ None)
    (λ on e found. cc)
    (λ off e found. find_at (is_under key) all ∙ slice_get_past all (position_or_len (is_under key) all) (ltb-false (position_or_len (is_under key) all) (length all) e)) refl h

pub held_at : (key : Key) (all : List Held) (i : ℕ) (d : Held) → IsFirst key all i → held_under key all ≡ Some (get_or all i d)
held_at key [] i d first = absurd first
held_at key (held ∷ rest) zero d first = rw first refl
held_at key (held ∷ rest) (suc i) d first = rw first.0 (held_at key rest i d first.1)

-- behind a copy of another key, nothing changes for that key
behind : (key k : Key) (held : Held) (left : Option Held) (old new : List Held) → is_under key held ≡ false
    → held_under k new ≡ cond (is_same_key key k) left (held_under k old) → held_under k (held ∷ new) ≡ cond (is_same_key key k) left (held_under k (held ∷ old))
behind key k held left old new other h =
    by_test (is_same_key held.copy.key k)
    (λ t. is_same_key held.copy.key k ≡ t → cond t (Some held) (held_under k new) ≡ cond (is_same_key key k) left (cond t (Some held) (held_under k old)))
    (λ on e. let apart = not_both held.copy.key key k other e in rw apart refl) (λ off e. h) refl

-- what is under each key, where the first copy under a key becomes another one of the same key
pub under-set : (key k : Key) (new : Held) (all : List Held) (i : ℕ) → IsFirst key all i → new.copy.key ≡ key
    → held_under k (set all i new) ≡ cond (is_same_key key k) (Some new) (held_under k all)
under-set key k new [] i first same = absurd first
under-set key k new (held ∷ rest) zero first same =
    let here = same_key-true held.copy.key key first in
    by_test (is_same_key key k)
    (λ t. is_same_key key k ≡ t → cond (is_same_key new.copy.key k) (Some new) (held_under k rest) ≡ cond t (Some new) (cond (is_same_key held.copy.key k) (Some held) (held_under k rest)))
    (λ on e. rw (same, e) refl) (λ off e. rw (same, here, e) refl) refl
under-set key k new (held ∷ rest) (suc i) first same = behind key k held (Some new) rest (set rest i new) first.0 (under-set key k new rest i first.1 same)

-- and where it is taken out
pub under-remove : (key k : Key) (all : List Held) (i : ℕ) → IsFirst key all i → IsKept all
    → held_under k (remove all i) ≡ cond (is_same_key key k) None (held_under k all)
under-remove key k [] i first kept = absurd first
under-remove key k (held ∷ rest) zero first kept =
    let here = same_key-true held.copy.key key first in
    by_test (is_same_key key k) (λ t. is_same_key key k ≡ t → held_under k rest ≡ cond t None (cond (is_same_key held.copy.key k) (Some held) (held_under k rest)))
    (λ on e. let one = here ∙ same_key-true key k e in subst (λ (x : Key). held_under x rest ≡ None) one kept.1) (λ off e. rw (here, e) refl) refl
under-remove key k (held ∷ rest) (suc i) first kept = behind key k held None rest (remove rest i) first.0 (under-remove key k rest i first.1 kept.2)

-- none of a key, and none of it behind the change
still_none : (key k : Key) (left : Option Held) (old new : List Held) → is_same_key k key ≡ false
    → held_under k new ≡ cond (is_same_key key k) left (held_under k old) → held_under k old ≡ None → held_under k new ≡ None
still_none key k left old new apart each none = let off : is_same_key key k ≡ false = not_both k key k apart (same_key-refl k) in each ∙ ap (λ (t : Bool). cond t left (held_under k old)) off ∙ none

pub kept-set : (key : Key) (new : Held) (all : List Held) (i : ℕ) → IsFirst key all i → new.copy.key ≡ key → 0 < length new.riders → IsKept all → IsKept (set all i new)
kept-set key new [] i first same some kept = absurd first
kept-set key new (held ∷ rest) zero first same some kept =
    let one = same_key-true held.copy.key key first ∙ sym same in (some, subst (λ (x : Key). held_under x rest ≡ None) one kept.1, kept.2)
kept-set key new (held ∷ rest) (suc i) first same some kept =
    (kept.0, still_none key held.copy.key (Some new) rest (set rest i new) first.0 (under-set key held.copy.key new rest i first.1 same) kept.1, kept-set key new rest i first.1 same some kept.2)

pub kept-remove : (key : Key) (all : List Held) (i : ℕ) → IsFirst key all i → IsKept all → IsKept (remove all i)
kept-remove key [] i first kept = absurd first
kept-remove key (held ∷ rest) zero first kept = kept.2
kept-remove key (held ∷ rest) (suc i) first kept =
    (kept.0, still_none key held.copy.key None rest (remove rest i) first.0 (under-remove key held.copy.key rest i first.1 kept.2) kept.1, kept-remove key rest i first.1 kept.2)

pub remove_set : (all : List Held) (i : ℕ) (x : Held) → remove (set all i x) i ≡ remove all i
remove_set [] i x = refl
remove_set (held ∷ rest) zero x = refl
remove_set (held ∷ rest) (suc i) x = ap (λ (more : List Held). held ∷ more) (remove_set rest i x)

-- a copy that is held has a rider
pub ridden : (key : Key) (all : List Held) → IsKept all → riders_under key all ≡ [] → held_under key all ≡ None
ridden key [] kept none = refl
ridden key (held ∷ rest) kept none =
    by_test (is_under key held) (λ t. riders_of (cond t (Some held) (held_under key rest)) ≡ [] → cond t (Some held) (held_under key rest) ≡ None)
    (λ on empty. let some : 0 < length held.riders = kept.0 in let zero : length held.riders ≡ 0 = ap length empty in absurd (omega arith))
    (λ off empty. ridden key rest kept.2 empty) none

-- what a call makes of the copies: another thing under one key, and every key else as before
pub passes_by : (key : Key) (job : ℕ) (old new : List Held) (left : Option Held) → IsKept new
    → ((k : Key) → held_under k new ≡ cond (is_same_key key k) left (held_under k old))
    → riders_of left ≡ without job (riders_under key old) → (0 < length (riders_of left) → copy_of left ≡ copy_under key old) → Passes key job old new
passes_by key job old new left kept each fewer same = record {
  riders = λ k. ap riders_of (each k)
      ∙ by_test (is_same_key key k) (λ t. is_same_key key k ≡ t → riders_of (cond t left (held_under k old)) ≡ cond t (without job (riders_under k old)) (riders_under k old))
      (λ on is. fewer ∙ ap (λ (x : Key). without job (riders_under x old)) (same_key-true key k is)) (λ off is. refl) refl;
  stays = λ k some. ap copy_of (each k)
      ∙ by_test (is_same_key key k)
      (λ t. is_same_key key k ≡ t → 0 < length (riders_of (cond t left (held_under k old))) → copy_of (cond t left (held_under k old)) ≡ copy_under k old)
      (λ on is more. same more ∙ ap (λ (x : Key). copy_under x old) (same_key-true key k is)) (λ off is more. refl)
      refl (subst (λ (o : Option Held). 0 < length (riders_of o)) (each k) some);
  leaves = λ k none. ap copy_of (ridden k new kept none);
}

-- the copy that was found
pub found : (key : Key) (all : List Held) (i : ℕ) (d : Held) → position (is_under key) all ≡ Some i → d ≡ get_or all i d → held_under key all ≡ Some d
found key all i d is here = held_at key all i d (first_at key all i is) ∙ ap Some (sym here)

found-key : (key : Key) (all : List Held) (i : ℕ) (d : Held) → position (is_under key) all ≡ Some i → d ≡ get_or all i d → d.copy.key ≡ key
found-key key all i d is here = same_key-true d.copy.key key (ap (is_under key) here ∙ (position-Some (is_under key) all i d is).1)

-- nothing is passed under a key whose copy isn't held
pub passes-none : (key : Key) (job : ℕ) (all now : List Held) → all ≡ now → IsKept all → held_under key all ≡ None → Passes key job now now
passes-none key job all now view kept none =
    subst (λ (xs : List Held). Passes key job xs xs) view (passes_by key job all all None kept
    (λ k. by_test (is_same_key key k) (λ t. is_same_key key k ≡ t → held_under k all ≡ cond t None (held_under k all))
    (λ on e. subst (λ (x : Key). held_under x all ≡ None) (same_key-true key k e) none) (λ off e. refl) refl)
    (sym (ap (λ (o : Option Held). without job (riders_of o)) none)) (λ more. absurd (omega arith)))

-- the copy that a job passes, and the same without it
pub record Rides (key : Key) (job : ℕ) (all now : List Held) (i : ℕ) (held new : Held) : Type 0 where
  pub place : position (is_under key) all ≡ Some i
  pub here : held ≡ get_or all i held
  pub kept : IsKept all
  pub left : new ≡ record { copy = held.copy; riders = without job held.riders }
  pub view : all ≡ now

-- what a pass leaves of a buffer
pub record Left (key : Key) (job : ℕ) (old new : List Held) : Type 0 where
  pub kept : IsKept new
  pub passes : Passes key job old new

pub fewer : (key : Key) (job : ℕ) (all now : List Held) (i : ℕ) (held new : Held) → Rides key job all now i held new → eqb (length new.riders) 0 ≡ false → Left key job now (set all i new)
fewer key job all now i held new is some =
    let first = first_at key all i is.place in
    let was = found key all i held is.place is.here in
    let same : new.copy.key ≡ key = ap (λ (x : Held). x.copy.key) is.left ∙ found-key key all i held is.place is.here in
    let stays = kept-set key new all i first same (let apart = eqb-false (length new.riders) 0 some in omega arith) is.kept in
    subst (λ (xs : List Held). Left key job xs (set all i new)) is.view (record {
      kept = stays;
      passes = passes_by key job all (set all i new) (Some new) stays (λ k. under-set key k new all i first same)
          (ap (λ (x : Held). x.riders) is.left ∙ sym (ap (λ (o : Option Held). without job (riders_of o)) was))
          (λ more. ap (λ (x : Held). Some x.copy) is.left ∙ sym (ap copy_of was));
    })

pub gone : (key : Key) (job : ℕ) (all now : List Held) (i : ℕ) (held new : Held) → Rides key job all now i held new → eqb (length new.riders) 0 ≡ true → Left key job now (remove (set all i new) i)
gone key job all now i held new is none =
    let first = first_at key all i is.place in
    let was = found key all i held is.place is.here in
    let stays = kept-remove key all i first is.kept in
    let left : Left key job all (remove all i) = record {
      kept = stays;
      passes = passes_by key job all (remove all i) None stays (λ k. under-remove key k all i first is.kept)
          (sym (ap (λ (o : Option Held). without job (riders_of o)) was ∙ ap (λ (x : Held). x.riders) (sym is.left) ∙ nil_from_length new.riders (eqb-true (length new.riders) 0 none)))
          (λ more. absurd (omega arith));
    } in
    subst (λ (xs : List Held). Left key job xs (remove (set all i new) i)) is.view (subst (λ (xs : List Held). Left key job all xs) (sym (remove_set all i new)) left)

-- the edges of the copy that is taken out
pub room : (key : Key) (job : ℕ) (all now : List Held) (i : ℕ) (held new taken : Held) (edges : Option (List Edge)) → Rides key job all now i held new
    → taken ≡ get_or (set all i new) i taken → IfSome edges (λ room. room ≡ taken.copy.edges)
    → IfSome edges (λ room. copy_under key now ≡ Some (record { key = key; edges = room }))
room key job all now i held new taken None is at h = tt
room key job all now i held new taken (Some edges) is at h =
    let was = found key all i held is.place is.here in
    let same : taken ≡ new = at ∙ get_or-set_same all i new taken (position-Some (is_under key) all i held is.place).0 in
    let copy : held.copy ≡ taken.copy = sym (ap (λ (x : Held). x.copy) (same ∙ is.left)) in
    let whole : held.copy ≡ record { key = key; edges = edges } =
    ap₂ (λ (k : Key) (es : List Edge). let c : ChunkCopy = record { key = k; edges = es } in c) (found-key key all i held is.place is.here) (ap (λ (x : ChunkCopy). x.edges) copy ∙ sym h) in
    subst (λ (xs : List Held). copy_under key xs ≡ Some (record { key = key; edges = edges })) is.view (ap copy_of was ∙ ap Some whole)

-- a copy with riders may be held beside the others where its key is free
pub kept-put : (slot : Held) (copy : ChunkCopy) (riders : List ℕ) (all now : List Held) → slot ≡ record { copy = copy; riders = riders } → all ≡ now
    → riders_under copy.key now ≡ [] → 0 < length riders → IsKept all → IsKept (slot ∷ all)
kept-put slot copy riders all now is view free some kept =
    let key : slot.copy.key ≡ copy.key = ap (λ (x : Held). x.copy.key) is in
    let none : riders_under slot.copy.key all ≡ [] = ap₂ (λ (k : Key) (xs : List Held). riders_under k xs) key view ∙ free in
    (subst (λ (xs : List ℕ). 0 < length xs) (sym (ap (λ (x : Held). x.riders) is)) some, ridden slot.copy.key all kept none, kept)

pub is_held : (key : Key) (all now : List Held) (o : Option ℕ) → o ≡ position (is_under key) all → all ≡ now → IsKept all → is_some o ≡ nat_lt 0 (length (riders_under key now))
is_held key all now None is view kept = let none = ap (held_under key) (sym view) ∙ none_at key all (sym is) in rw none refl
is_held key [] now (Some i) is view kept = cc
is_held key (held ∷ rest) now (Some i) is view kept =
    let all = held ∷ rest in
    subst (λ (xs : List Held). true ≡ nat_lt 0 (length (riders_under key xs))) view
    (by_test (nat_lt 0 (length (riders_under key all))) (λ t. nat_lt 0 (length (riders_under key all)) ≡ t → true ≡ t) (λ on e. refl)
    (λ off e.
    let least = ltb-false 0 (length (riders_under key all)) e in
    let none = ridden key all kept (nil_from_length (riders_under key all) (omega arith)) in
    let here = held_at key all i held (first_at key all i (sym is)) in cc) refl)

-- the copy that is taken out has no rider left
pub none_left : (key : Key) (all : List Held) (i : ℕ) (new : Held) (edges : Option (List Edge)) → position (is_under key) all ≡ Some i → IsKept all
    → IfSome edges (λ _. riders_under key (remove (set all i new) i) ≡ [])
none_left key all i new None place kept = tt
none_left key all i new (Some edges) place kept =
    let gone = under-remove key key all i (first_at key all i place) kept ∙ ap (λ (t : Bool). cond t None (held_under key all)) (same_key-refl key) in
    ap (riders_under key) (remove_set all i new) ∙ ap riders_of gone
