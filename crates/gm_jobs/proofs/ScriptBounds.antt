-- The script of a text is within bounds.
use Rattle.std.proofs.Common.{◌≡◌, ℕ, ◌+◌, ◌<◌, ◌≤◌, Bool, true, false, List, [], ◌∷◌, ◌++◌, length, Option, Some, None, Result, Ok, Err, refl, ap, sym, subst, arith}
use Rattle.std.specs.Prelude.{nat_le, nat_lt, if◌then◌else◌, IfOk, All}
use Rattle.std.proofs.lemmas.Bool.Decides.{nat_tests}
use Rattle.std.proofs.lemmas.List.{length-append}
use Rattle.std.proofs.lemmas.List.Elements.{All-cons, All-head, All-nil, All-push, All-tail}
use Rattle.gm_base.specs.declared.limits.TheConstants.{MAX_CHANGES}
use Rattle.gm_text.specs.Texts.{lines_of, words_of, means_something}
use Rattle.gm_changes.specs.declared.change.Change.{Change}
use Rattle.gm_jobs.specs.declared.jobs_error.Why.{Why}
use Rattle.gm_jobs.specs.declared.keyword.Keyword.{Keyword}
use Rattle.gm_jobs.specs.declared.keyword.Keyword.TheVariants as Keywords
use Rattle.gm_jobs.specs.declared.limits.TheConstants.{MAX_TEXT_BYTES, MAX_JOBS, MAX_WAIT}
use Rattle.gm_jobs.specs.declared.script.Line.{Line}
use Rattle.gm_jobs.specs.declared.script.Line.TheVariants.{Job, Update, Wait}
use Rattle.gm_jobs.specs.JobBounds.{IsLineOver, IsScriptOver}
use Rattle.gm_changes.specs.Changes.{ChangesWithin}
use Rattle.gm_jobs.specs.LineWords.{end_of, last_number, addition_in, cut_in, change_in}
use Rattle.gm_jobs.specs.Readers.{takes_changes}
use Rattle.gm_jobs.specs.Scripts.{names_of, change_lines_in, change_lines_of, ends_with, changed_by, with_change, with_entry, keyword_of, is_in_place, has_room, job_in, entries_with, at_line, entries_after_keyword, entries_after, entries_after_lines, script_of}
use Rattle.gm_jobs.proofs.Bounds.{mapped, chained, a_job, an_addition, a_cut, a_change}
use Rattle.gm_jobs.proofs.Entries.{below_job, below_update, change_lines_with, names_with_job, names_with_update, names_with_wait, one_change_more, same_names}

-- an entry more is at most a name more
names_with : (entries : List Line) (entry : Line) → length (names_of (entries ++ entry ∷ [])) ≤ length (names_of entries) + 1
names_with entries (Job name spec own) = omega (arith, ap length (names_with_job entries name spec own), length-append (names_of entries) (name ∷ []))
names_with entries (Update batch) = omega (arith, ap length (names_with_update entries batch))
names_with entries (Wait visits) = omega (arith, ap length (names_with_wait entries visits))

with_job : (n : ℕ) (above : List Line) (entry : Line) → nat_lt (length (names_of above)) MAX_JOBS ≡ true → IsScriptOver n above
    → IsLineOver n entry × (change_lines_in entry ≡ 0) → IsScriptOver n (with_entry above entry)
with_job n above entry room below new =
    let some : length (names_of above) < MAX_JOBS = grind (arith, nat_tests) in
    record {
      lines = All-push (IsLineOver n) above entry below.lines new.0;
      jobs = omega (arith, names_with above entry);
      changes = omega (arith, change_lines_with above entry, new.1, below.changes);
    }

with_update : (n : ℕ) (above : List Line) → nat_lt (change_lines_of above) MAX_CHANGES ≡ true → IsScriptOver n above → IsScriptOver n (with_entry above (Update []))
with_update n above room below =
    let some : change_lines_of above < MAX_CHANGES = grind (arith, nat_tests) in
    record {
      lines = All-push (IsLineOver n) above (Update []) below.lines (All-nil (ChangesWithin n));
      jobs = omega (arith, ap length (names_with_update above []), below.jobs);
      changes = omega (arith, change_lines_with above (Update []));
    }

with_wait : (n : ℕ) (above : List Line) (visits : ℕ) → IsScriptOver n above → IsScriptOver n (with_entry above (Wait visits))
with_wait n above visits below = record {
  lines = All-push (IsLineOver n) above (Wait visits) below.lines tt;
  jobs = omega (arith, ap length (names_with_wait above visits), below.jobs);
  changes = omega (arith, change_lines_with above (Wait visits), below.changes);
}

changed_line : (n : ℕ) (change : Change) (entry : Line) → ChangesWithin n change → IsLineOver n entry → IsLineOver n (changed_by change entry)
changed_line n change (Job name spec own) is below = (below.0, below.1, All-push (ChangesWithin n) own change below.2 is)
changed_line n change (Update batch) is below = All-push (ChangesWithin n) batch change below is
changed_line n change (Wait visits) is below = tt

changed_lines : (n : ℕ) (change : Change) (entries : List Line) → ChangesWithin n change → All (IsLineOver n) entries → All (IsLineOver n) (with_change entries change)
changed_lines n change [] is below = below
changed_lines n change (entry ∷ []) is below =
    All-cons (IsLineOver n) (changed_by change entry) [] (changed_line n change entry is (All-head (IsLineOver n) entry [] below)) (All-nil (IsLineOver n))
changed_lines n change (first ∷ next ∷ more) is below =
    All-cons (IsLineOver n) first (with_change (next ∷ more) change) (All-head (IsLineOver n) first (next ∷ more) below)
    (changed_lines n change (next ∷ more) is (All-tail (IsLineOver n) first (next ∷ more) below))

with_changes : (n : ℕ) (above : List Line) → ends_with takes_changes above ≡ true → nat_lt (change_lines_of above) MAX_CHANGES ≡ true → IsScriptOver n above
    → (change : Change) → ChangesWithin n change → IsScriptOver n (with_change above change)
with_changes n above place room below change is =
    let some : change_lines_of above < MAX_CHANGES = grind (arith, nat_tests) in
    record {
      lines = changed_lines n change above is below.lines;
      jobs = subst (λ names. length names ≤ MAX_JOBS) (sym (same_names change above)) below.jobs;
      changes = omega (arith, one_change_more change above place);
    }

-- an answer without a condition
any_answer : {A E : Type 0} (x : Result A E) → IfOk x (λ _. Unit {0})
any_answer (Ok value) = tt
any_answer (Err error) = tt

after_words : (n : ℕ) (above : List Line) (keyword : Keyword) (words : List (List ℕ)) → is_in_place above keyword ≡ true → has_room above keyword ≡ true
    → IsScriptOver n above → IfOk (entries_with n above keyword words) (IsScriptOver n)
after_words n above Keywords.Job words place room below =
    mapped (λ entry. IsLineOver n entry × (change_lines_in entry ≡ 0)) (IsScriptOver n) (with_entry above) (job_in n (names_of above) words) (a_job n (names_of above) words)
    (λ entry new. with_job n above entry room below new)
after_words n above Keywords.Update words place room below =
    mapped (λ _. Unit {0}) (IsScriptOver n) (λ _. with_entry above (Update [])) (end_of words) (any_answer (end_of words)) (λ _ any. with_update n above room below)
after_words n above Keywords.Wait words place room below =
    mapped (λ _. Unit {0}) (IsScriptOver n) (λ visits. with_entry above (Wait visits)) (last_number 0 MAX_WAIT words) (any_answer (last_number 0 MAX_WAIT words))
    (λ visits any. with_wait n above visits below)
after_words n above Keywords.Mutate words place room below =
    mapped (ChangesWithin n) (IsScriptOver n) (with_change above) (change_in n words) (a_change n words) (with_changes n above (below_job above place) room below)
after_words n above Keywords.Add words place room below =
    mapped (ChangesWithin n) (IsScriptOver n) (with_change above) (addition_in n words) (an_addition n words) (with_changes n above (below_update above place) room below)
after_words n above Keywords.Del words place room below =
    mapped (ChangesWithin n) (IsScriptOver n) (with_change above) (cut_in n words) (a_cut n words) (with_changes n above (below_update above place) room below)

numbered : {A : Type 0} (P : A → Type 0) (number : ℕ) (x : Result A Why) → IfOk x P → IfOk (at_line number x) P
numbered P number (Ok value) holds = holds
numbered P number (Err why) holds = tt

after_statement : (n number : ℕ) (above : List Line) (words : List (List ℕ)) (keyword : Option Keyword) → IsScriptOver n above
    → IfOk (entries_after_keyword n number above words keyword) (IsScriptOver n)
after_statement n number above words None below = tt
after_statement n number above words (Some keyword) below = tested (is_in_place above keyword) (has_room above keyword) refl refl
  where
    tested : (place room : Bool) → is_in_place above keyword ≡ place → has_room above keyword ≡ room
        → IfOk (entries_after_keyword n number above words (Some keyword)) (IsScriptOver n)
    tested false room p r = rw p tt
    tested true false p r = rw (p, r) tt
    tested true true p r = rw (p, r) (numbered (IsScriptOver n) number (entries_with n above keyword words) (after_words n above keyword words p r below))

after_line : (n number : ℕ) (above : List Line) (words : List (List ℕ)) → IsScriptOver n above → IfOk (entries_after n number above words) (IsScriptOver n)
after_line n number above [] below = below
after_line n number above (word ∷ more) below = tested (means_something (word ∷ more))
  where
    tested : (b : Bool) → IfOk (if b then entries_after_keyword n number above more (keyword_of word) else Ok above) (IsScriptOver n)
    tested true = after_statement n number above more (keyword_of word) below
    tested false = below

after_lines : (n number : ℕ) (above : List Line) (lines : List (List ℕ)) → IsScriptOver n above → IfOk (entries_after_lines n number above lines) (IsScriptOver n)
after_lines n number above [] below = below
after_lines n number above (line ∷ more) below =
    chained (IsScriptOver n) (IsScriptOver n) (λ entries. entries_after_lines n (number + 1) entries more) (entries_after n number above (words_of line))
    (after_line n number above (words_of line) below) (λ entries is. after_lines n (number + 1) entries more is)

pub script_below : (n : ℕ) (text : List ℕ) (entries : List Line) → script_of n text ≡ Ok entries → IsScriptOver n entries
script_below n text entries is = tested (nat_le (length text) MAX_TEXT_BYTES) refl
  where
    below : IfOk (entries_after_lines n 1 [] (lines_of text)) (IsScriptOver n)
    below = after_lines n 1 [] (lines_of text) (record { lines = All-nil (IsLineOver n); jobs = omega arith; changes = omega arith })

    tested : (b : Bool) → nat_le (length text) MAX_TEXT_BYTES ≡ b → IsScriptOver n entries
    tested true short = let gives : entries_after_lines n 1 [] (lines_of text) ≡ Ok entries = rw short at is in rw gives at below
    tested false short = let refused = rw short at is in absurd cc
