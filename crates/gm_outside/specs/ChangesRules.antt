-- What calls that write to files, one after the other, come to.
use Rattle.std.specs.Prelude.{◌≡◌, ℕ, Bool, true, false, cond, List, ◌++◌, [], Option, Some, None, is_some, refl}
use Rattle.std.specs.Option.{option_map_or}
use Rattle.std.specs.Ordering.{nat_cmp, eq_by_cmp}
use Rattle.std.specs.Cmp.Lexicographic.{slice_cmp, nat_list_cmp_total}
use Rattle.std.specs.FinMap.{get, insert, get-insert, same_map, slice_cmp-IsAntisymmetric, nat_cmp-IsAntisymmetric}
use Rattle.std.proofs.Common.{append_assoc, append-nil, sym, ap, ◌∙◌}
use Rattle.std.proofs.lemmas.Map.Text.{is_eq-slice_cmp}
use Rattle.std.proofs.lemmas.Slice.Eq.{bytes_eq-Decides}
use Rattle.gm_outside.specs.Files.{Files}
use Rattle.gm_outside.specs.Changes.{append_to, with_file, with_appended, AppendedPrefix, HoldsPrefix}

-- a name is found where it is asked for itself
same_name : (name : List ℕ) → eq_by_cmp (slice_cmp nat_cmp) name name ≡ true
same_name name = is_eq-slice_cmp name name ∙ (bytes_eq-Decides name name).1 refl

names_equal : (asked name : List ℕ) → eq_by_cmp (slice_cmp nat_cmp) asked name ≡ true → asked ≡ name
names_equal asked name e = (bytes_eq-Decides asked name).0 (sym (is_eq-slice_cmp asked name) ∙ e)

inserted : (files : Files) (name bytes asked : List ℕ)
    → get (insert files name bytes) asked ≡ cond (eq_by_cmp (slice_cmp nat_cmp) asked name) (Some bytes) (get files asked)
inserted files name bytes asked = get-insert nat_list_cmp_total files name bytes asked

same_files : (first second : Files) → ((asked : List ℕ) → get first asked ≡ get second asked) → first ≡ second
same_files = same_map nat_list_cmp_total (slice_cmp-IsAntisymmetric nat_cmp-IsAntisymmetric)

twice : {A : Type 0} (b : Bool) (x y z : A) → cond b x (cond b y z) ≡ cond b x z
twice true x y z = refl
twice false x y z = refl

-- the last bytes that a file was given are those that it holds
pub insert-again : (files : Files) (name first second : List ℕ) → insert (insert files name first) name second ≡ insert files name second
insert-again files name first second = same_files _ _ (λ asked.
    inserted (insert files name first) name second asked
    ∙ ap (cond (eq_by_cmp (slice_cmp nat_cmp) asked name) (Some second)) (inserted files name first asked)
    ∙ twice (eq_by_cmp (slice_cmp nat_cmp) asked name) (Some second) (Some first) (get files asked)
    ∙ sym (inserted files name second asked))

-- to give a file the bytes that it holds changes nothing
pub insert-held : (files : Files) (name held : List ℕ) → get files name ≡ Some held → insert files name held ≡ files
insert-held files name held is = same_files _ _ (λ asked.
    inserted files name held asked
    ∙ elim (eq_by_cmp (slice_cmp nat_cmp) asked name) as (λ b. eq_by_cmp (slice_cmp nat_cmp) asked name ≡ b
    → cond b (Some held) (get files asked) ≡ get files asked) [
      | true ↦ λ e. sym (ap (get files) (names_equal asked name e) ∙ is)
      | false ↦ λ e. refl
    ] refl)

pub get-insert_same : (files : Files) (name bytes : List ℕ) → get (insert files name bytes) name ≡ Some bytes
get-insert_same files name bytes = inserted files name bytes name ∙ ap (λ b. cond b (Some bytes) (get files name)) (same_name name)

pub append_to-there : (files : Files) (name held piece : List ℕ) → get files name ≡ Some held → append_to files name piece ≡ insert files name (held ++ piece)
unfolding append_to
append_to-there files name held piece is = ap (λ found. option_map_or (λ held. insert files name (held ++ piece)) found files) is

pub append_to-missing : (files : Files) (name piece : List ℕ) → get files name ≡ None → append_to files name piece ≡ files
unfolding append_to
append_to-missing files name piece is = ap (λ found. option_map_or (λ held. insert files name (held ++ piece)) found files) is

pub append_to-insert : (files : Files) (name first second : List ℕ) → append_to (insert files name first) name second ≡ insert files name (first ++ second)
append_to-insert files name first second =
    append_to-there (insert files name first) name first second (get-insert_same files name first)
    ∙ insert-again files name first (first ++ second)

pub append_to-nothing : (files : Files) (name : List ℕ) → append_to files name [] ≡ files
append_to-nothing files name =
    elim (get files name) as (λ found. get files name ≡ found → append_to files name [] ≡ files) [
      | None ↦ λ is. append_to-missing files name [] is
      | Some held ↦ λ is. append_to-there files name held [] is ∙ ap (insert files name) (append-nil held) ∙ insert-held files name held is
    ] refl

pub append_to-again : (files : Files) (name first second : List ℕ) → append_to (append_to files name first) name second ≡ append_to files name (first ++ second)
append_to-again files name first second =
    elim (get files name) as (λ found. get files name ≡ found
    → append_to (append_to files name first) name second ≡ append_to files name (first ++ second)) [
      | None ↦ λ is. ap (λ files. append_to files name second) (append_to-missing files name first is)
          ∙ append_to-missing files name second is ∙ sym (append_to-missing files name (first ++ second) is)
      | Some held ↦ λ is. ap (λ files. append_to files name second) (append_to-there files name held first is)
          ∙ append_to-insert files name (held ++ first) second ∙ ap (insert files name) (append_assoc held first second)
          ∙ sym (append_to-there files name held (first ++ second) is)
    ] refl

pub with_file-told : (files : Files) (name bytes : List ℕ) → with_file (Some files) name bytes ≡ Some (insert files name bytes)
unfolding with_file
with_file-told files name bytes = refl

pub with_appended-told : (files : Files) (name piece : List ℕ) → with_appended (Some files) name piece ≡ Some (append_to files name piece)
unfolding with_appended
with_appended-told files name piece = refl

pub with_file-untold : (name bytes : List ℕ) → with_file None name bytes ≡ None
unfolding with_file
with_file-untold name bytes = refl

pub with_appended-untold : (name piece : List ℕ) → with_appended None name piece ≡ None
unfolding with_appended
with_appended-untold name piece = refl

pub is_some-with_file : (told : Option Files) (name bytes : List ℕ) → is_some (with_file told name bytes) ≡ is_some told
unfolding with_file
is_some-with_file None name bytes = refl
is_some-with_file (Some files) name bytes = refl

pub is_some-with_appended : (told : Option Files) (name piece : List ℕ) → is_some (with_appended told name piece) ≡ is_some told
unfolding with_appended
is_some-with_appended None name piece = refl
is_some-with_appended (Some files) name piece = refl

pub with_file-again : (told : Option Files) (name first second : List ℕ) → with_file (with_file told name first) name second ≡ with_file told name second
unfolding with_file
with_file-again None name first second = refl
with_file-again (Some files) name first second = ap Some (insert-again files name first second)

pub with_appended-file : (told : Option Files) (name first second : List ℕ) → with_appended (with_file told name first) name second ≡ with_file told name (first ++ second)
unfolding with_file with_appended
with_appended-file None name first second = refl
with_appended-file (Some files) name first second = ap Some (append_to-insert files name first second)

pub with_appended-nothing : (told : Option Files) (name : List ℕ) → with_appended told name [] ≡ told
unfolding with_appended
with_appended-nothing None name = refl
with_appended-nothing (Some files) name = ap Some (append_to-nothing files name)

pub with_appended-again : (told : Option Files) (name first second : List ℕ) → with_appended (with_appended told name first) name second ≡ with_appended told name (first ++ second)
unfolding with_appended
with_appended-again None name first second = refl
with_appended-again (Some files) name first second = ap Some (append_to-again files name first second)

-- nothing was added
pub appended_prefix-nothing : (told : Option Files) (name piece : List ℕ) → AppendedPrefix told told name piece
appended_prefix-nothing told name piece =
    record { added = []; rest = piece; parts = refl; grown = sym (with_appended-nothing told name) }

-- an empty file holds a first part of any text
pub holds_prefix-empty : {old new : Option Files} (name text : List ℕ) → new ≡ with_file old name [] → HoldsPrefix old new name text
holds_prefix-empty name text is = record { added = []; rest = text; parts = refl; held = is }

-- a refusal after some of it was added
pub holds_prefix-appended : {old mid new : Option Files} {name second : List ℕ} (first : List ℕ)
    → mid ≡ with_file old name first → AppendedPrefix mid new name second → HoldsPrefix old new name (first ++ second)
holds_prefix-appended {old} {mid} {new} {name} {second} first before after = record {
  added = first ++ after.added;
  rest = after.rest;
  parts = append_assoc first after.added after.rest ∙ ap (λ text. first ++ text) after.parts;
  held = after.grown ∙ ap (λ told. with_appended told name after.added) before ∙ with_appended-file old name first after.added;
}

-- more text than was to be added
pub holds_prefix-first : {old new : Option Files} {name first : List ℕ} (second : List ℕ)
    → HoldsPrefix old new name first → HoldsPrefix old new name (first ++ second)
holds_prefix-first second before = record {
  added = before.added;
  rest = before.rest ++ second;
  parts = sym (append_assoc before.added before.rest second) ∙ ap (λ text. text ++ second) before.parts;
  held = before.held;
}

-- all of these
pub ruleset changes = (with_file-told, with_appended-told, with_file-untold, with_appended-untold, appended_prefix-nothing, is_some-with_file, is_some-with_appended, with_file-again, with_appended-file, with_appended-nothing, with_appended-again, holds_prefix-empty, holds_prefix-appended, holds_prefix-first)
