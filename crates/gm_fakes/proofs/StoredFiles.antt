-- Where the first file of a name stands, and what it does to the map of the files to replace it or to add one.
use Rattle.std.proofs.Common.{◌≡◌, ℕ, suc, ◌+◌, ◌<◌, true, false, cond, List, [], ◌∷◌, ◌++◌, map, length, get_or, set, Option, Some, None, string_bytes, refl, sym, ap, subst, ◌∙◌, arith}
use Rattle.std.proofs.lemmas.List.{map-append}
use Rattle.std.proofs.lemmas.Map.Text.{is_eq-slice_cmp}
use Rattle.std.proofs.lemmas.Slice.Eq.{bytes_eq-Decides}
use Rattle.std.proofs.lemmas.Iterator.Adapters.{position_from-zero}
use Rattle.std.specs.List.{position, position_from}
use Rattle.std.specs.Ordering.{nat_cmp, eq_by_cmp}
use Rattle.std.specs.Cmp.Lexicographic.{slice_cmp, nat_list_cmp_total}
use Rattle.std.specs.FinMap.{find, get, from_entries, insert, get-from_entries, get-insert, same_map, from_entries_push, slice_cmp-IsAntisymmetric, nat_cmp-IsAntisymmetric}
use Rattle.std.specs.Str.{bytes_eq}
use Rattle.gm_outside.specs.Files.{Files}
use Rattle.gm_fakes.specs.FileList.{entry_of, files_of, has_name}
use Rattle.gm_fakes.specs.declared.file_list.StoredFile.{StoredFile}

-- the bytes of the first file of a name
abbrev pub first_of : List ℕ → List StoredFile → Option (List ℕ)
first_of name [] = None
first_of name (file ∷ stored) = cond (has_name name file) (Some file.bytes.items) (first_of name stored)

find-files : (name : List ℕ) (stored : List StoredFile) → find (slice_cmp nat_cmp) name (map entry_of stored) ≡ first_of name stored
find-files name [] = refl
find-files name (file ∷ stored) =
    ap (λ b. cond b (Some file.bytes.items) (find (slice_cmp nat_cmp) name (map entry_of stored))) (is_eq-slice_cmp name (string_bytes file.name))
    ∙ ap (cond (has_name name file) (Some file.bytes.items)) (find-files name stored)

get-files : (name : List ℕ) (stored : List StoredFile) → get (files_of stored) name ≡ first_of name stored
get-files name stored = get-from_entries nat_list_cmp_total (map entry_of stored) name ∙ find-files name stored

-- no file has the name
first_of-none : (name : List ℕ) (n : ℕ) (stored : List StoredFile) → position_from (has_name name) n stored ≡ None → first_of name stored ≡ None
first_of-none name n [] e = refl
first_of-none name n (file ∷ stored) e =
    elim (has_name name file) as (λ b. cond b (Some n) (position_from (has_name name) (n + 1) stored) ≡ None
    → cond b (Some file.bytes.items) (first_of name stored) ≡ None) [
      | true ↦ λ e. cc
      | false ↦ λ e. first_of-none name (n + 1) stored e
    ] e

-- the first file of a name stands at `at`
pub record IsFirst (name : List ℕ) (stored : List StoredFile) (at : ℕ) : Type 0 where
  pub below : at < length stored
  pub value : (other : StoredFile) → first_of name stored ≡ Some (get_or stored at other).bytes.items
  pub named : (other : StoredFile) → name ≡ string_bytes (get_or stored at other).name
  pub replaced : (file : StoredFile) → name ≡ string_bytes file.name → (asked : List ℕ)
      → first_of asked (set stored at file) ≡ cond (bytes_eq asked name) (Some file.bytes.items) (first_of asked stored)

-- the first file of two is not both asked for and named
apart : (name asked : List ℕ) (file : StoredFile) → has_name name file ≡ false → {A : Type 0} (x y z : A)
    → cond (has_name asked file) x (cond (bytes_eq asked name) y z) ≡ cond (bytes_eq asked name) y (cond (has_name asked file) x z)
apart name asked file differ x y z =
    elim (bytes_eq asked name) as (λ b. bytes_eq asked name ≡ b
    → cond (has_name asked file) x (cond b y z) ≡ cond b y (cond (has_name asked file) x z)) [
      | true ↦ λ e. let same : asked ≡ name = (bytes_eq-Decides asked name).0 e in
          let no : has_name asked file ≡ false = rw same differ in rw no refl
      | false ↦ λ e. refl
    ] refl

first_here : (name : List ℕ) (file : StoredFile) (stored : List StoredFile) → has_name name file ≡ true → IsFirst name (file ∷ stored) 0
first_here name file stored e =
    let same : name ≡ string_bytes file.name = (bytes_eq-Decides name (string_bytes file.name)).0 e in record {
      below = omega arith;
      value = λ other. rw e refl;
      named = λ other. same;
      replaced = λ new is asked.
          let by_new : bytes_eq asked (string_bytes new.name) ≡ bytes_eq asked name = ap (bytes_eq asked) (sym is) in
          let by_old : bytes_eq asked (string_bytes file.name) ≡ bytes_eq asked name = ap (bytes_eq asked) (sym same) in
          rw (by_new, by_old) (elim (bytes_eq asked name) as (λ b. cond b (Some new.bytes.items) (first_of asked stored)
          ≡ cond b (Some new.bytes.items) (cond b (Some file.bytes.items) (first_of asked stored))) [ true ↦ refl | false ↦ refl ]);
    }

first_later : (name : List ℕ) (file : StoredFile) (stored : List StoredFile) (at : ℕ)
    → has_name name file ≡ false → IsFirst name stored at → IsFirst name (file ∷ stored) (suc at)
first_later name file stored at differ first = record {
  below = let below = first.below in omega arith;
  value = λ other. rw differ (first.value other);
  named = first.named;
  replaced = λ new is asked.
      ap (cond (has_name asked file) (Some file.bytes.items)) (first.replaced new is asked)
      ∙ apart name asked file differ (Some file.bytes.items) (Some new.bytes.items) (first_of asked stored);
}

first_from : (name : List ℕ) (n : ℕ) (stored : List StoredFile) (i : ℕ) → position_from (has_name name) n stored ≡ Some i
    → (at : ℕ) × (i ≡ n + at) × IsFirst name stored at
first_from name n [] i e = cc
first_from name n (file ∷ stored) i e =
    elim (has_name name file) as (λ b. has_name name file ≡ b → cond b (Some n) (position_from (has_name name) (n + 1) stored) ≡ Some i
    → (at : ℕ) × (i ≡ n + at) × IsFirst name (file ∷ stored) at) [
      | true ↦ λ is e. (0, grind (arith, e), first_here name file stored is)
      | false ↦ λ is e. let later = first_from name (n + 1) stored i e in
          (suc later.0, (let sum = later.1 in omega arith), first_later name file stored later.0 is later.2)
    ] refl e

first_at : (name : List ℕ) (stored : List StoredFile) (i : ℕ) → position (has_name name) stored ≡ Some i → IsFirst name stored i
first_at name stored i e = let found = first_from name 0 stored i (sym (position_from-zero (has_name name) stored) ∙ e) in
    let at : i ≡ found.0 = (let sum = found.1 in omega arith) in
    let P : ℕ → Type 0 = IsFirst name stored in subst P (sym at) found.2

none_named : (name : List ℕ) (stored : List StoredFile) → position (has_name name) stored ≡ None → first_of name stored ≡ None
none_named name stored e = first_of-none name 0 stored (sym (position_from-zero (has_name name) stored) ∙ e)

-- to replace the first file of a name is to insert it
pub files_of-set : (name : List ℕ) (stored : List StoredFile) (at : ℕ) (file : StoredFile)
    → IsFirst name stored at → name ≡ string_bytes file.name → files_of (set stored at file) ≡ insert (files_of stored) name file.bytes.items
files_of-set name stored at file first named =
    same_map nat_list_cmp_total (slice_cmp-IsAntisymmetric nat_cmp-IsAntisymmetric) _ _ (λ asked.
    get-files asked (set stored at file) ∙ first.replaced file named asked
    ∙ ap (λ b. cond b (Some file.bytes.items) (first_of asked stored)) (sym (is_eq-slice_cmp asked name))
    ∙ ap (cond (eq_by_cmp (slice_cmp nat_cmp) asked name) (Some file.bytes.items)) (sym (get-files asked stored))
    ∙ sym (get-insert nat_list_cmp_total (files_of stored) name file.bytes.items asked))

-- to add a file of a new name is to insert it
pub files_of-push : (name : List ℕ) {stored whole : List StoredFile} (file : StoredFile)
    → whole ≡ stored → None ≡ position (has_name name) whole → name ≡ string_bytes file.name
    → files_of (stored ++ file ∷ []) ≡ insert (files_of stored) name file.bytes.items
files_of-push name {stored} {whole} file same found named =
    ap from_entries (map-append entry_of stored (file ∷ []))
    ∙ ap (λ key. from_entries (map entry_of stored ++ (key, file.bytes.items) ∷ [])) (sym named)
    ∙ from_entries_push nat_list_cmp_total (slice_cmp-IsAntisymmetric nat_cmp-IsAntisymmetric) (map entry_of stored) name file.bytes.items
    (find-files name stored ∙ none_named name stored (ap (position (has_name name)) (sym same) ∙ sym found))

-- what is known where a look finds a file: its place, its name and its bytes
pub record IsThere (name : List ℕ) (stored : List StoredFile) (files : Files) (file : StoredFile) (place : ℕ) : Type 0 where
  pub first : IsFirst name stored place
  pub named : name ≡ string_bytes file.name
  pub held : get files name ≡ Some file.bytes.items

pub is_there : (name : List ℕ) {stored whole : List StoredFile} {files : Files} {file : StoredFile} (place : ℕ)
    → whole ≡ stored → files_of stored ≡ files → Some place ≡ position (has_name name) whole
    → file ≡ get_or stored place file → IsThere name stored files file place
is_there name {stored} {whole} {files} {file} place same view found is =
    let first = first_at name stored place (ap (position (has_name name)) (sym same) ∙ sym found) in record {
      first = first;
      named = first.named file ∙ ap (λ file. string_bytes file.name) (sym is);
      held = ap (λ files. get files name) (sym view) ∙ get-files name stored ∙ first.value file ∙ ap (λ file. Some file.bytes.items) (sym is);
    }

-- and where it finds none
pub is_missing : (name : List ℕ) {stored whole : List StoredFile} {files : Files}
    → whole ≡ stored → files_of stored ≡ files → None ≡ position (has_name name) whole → get files name ≡ None
is_missing name {stored} same view found =
    ap (λ files. get files name) (sym view) ∙ get-files name stored
    ∙ none_named name stored (ap (position (has_name name)) (sym same) ∙ sym found)
