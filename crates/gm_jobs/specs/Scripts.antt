-- The script of a job text: an entry for each `job`, `update` and `wait` line. The other lines belong to the entry above them.
use Rattle.std.specs.Prelude.{ℕ, ◌+◌, nat_lt, nat_le, Bool, true, false, if◌then◌else◌, List, [], ◌∷◌, ◌++◌, length, sum_by, Option, Some, None, Result, Ok, Err, codes}
use Rattle.std.specs.List.{filter_map}
use Rattle.std.specs.Str.{bytes_eq}
use Rattle.gm_base.specs.declared.limits.TheConstants.{MAX_CHANGES}
use Rattle.gm_text.specs.Texts.{lines_of, words_of, means_something}
use Rattle.gm_changes.specs.declared.change.Change.{Change}
use Rattle.gm_jobs.specs.declared.jobs_error.Why.{Why}
use Rattle.gm_jobs.specs.declared.jobs_error.Why.TheVariants.{UnknownWord, OutOfPlace}
use Rattle.gm_jobs.specs.declared.jobs_error.JobsRefusal.{JobsRefusal}
use Rattle.gm_jobs.specs.declared.jobs_error.JobsRefusal.TheVariants.{TooLong, BadLine, TooManyJobs, TooManyChanges}
use Rattle.gm_jobs.specs.declared.keyword.Keyword.{Keyword}
use Rattle.gm_jobs.specs.declared.keyword.Keyword.TheVariants as Keywords
use Rattle.gm_jobs.specs.declared.limits.TheConstants.{MAX_TEXT_BYTES, MAX_JOBS, MAX_WAIT}
use Rattle.gm_jobs.specs.declared.script.Line.{Line}
use Rattle.gm_jobs.specs.declared.script.Line.TheVariants.{Job, Update, Wait}
use Rattle.gm_jobs.specs.LineWords.{result_map, result_and_then, read_word, name_of, at_end, last_number, spec_in, addition_in, cut_in, change_in}

-- the name of an entry that is a job
abbrev pub name_in : Line → Option (List ℕ)
name_in (Job name spec own) = Some name
name_in (Update batch) = None
name_in (Wait visits) = None

-- the names of the jobs
abbrev pub names_of : List Line → List (List ℕ)
names_of entries = filter_map name_in entries

-- how many `update`, `add`, `del` and `mutate` lines an entry has
abbrev pub change_lines_in : Line → ℕ
change_lines_in (Job name spec own) = length own
change_lines_in (Update batch) = 1 + length batch
change_lines_in (Wait visits) = 0

-- the same of all entries
abbrev pub change_lines_of : List Line → ℕ
change_lines_of entries = sum_by change_lines_in entries

abbrev pub is_job : Line → Bool
is_job (Job name spec own) = true
is_job (Update batch) = false
is_job (Wait visits) = false

abbrev pub is_update : Line → Bool
is_update (Job name spec own) = false
is_update (Update batch) = true
is_update (Wait visits) = false

-- whether the last entry passes the test
abbrev pub ends_with : (Line → Bool) → List Line → Bool
ends_with test [] = false
ends_with test (entry ∷ []) = test entry
ends_with test (entry ∷ next ∷ more) = ends_with test (next ∷ more)

-- the entry with one change more
abbrev pub changed_by : Change → Line → Line
changed_by change (Job name spec own) = Job name spec (own ++ change ∷ [])
changed_by change (Update batch) = Update (batch ++ change ∷ [])
changed_by change (Wait visits) = Wait visits

-- the entries, of which the last has one change more
abbrev pub with_change : List Line → Change → List Line
with_change [] change = []
with_change (entry ∷ []) change = changed_by change entry ∷ []
with_change (entry ∷ next ∷ more) change = entry ∷ with_change (next ∷ more) change

abbrev pub with_entry : List Line → Line → List Line
with_entry entries entry = entries ++ entry ∷ []

-- the words that begin a line of an entry above it
abbrev pub inner_keyword_of : List ℕ → Option Keyword
inner_keyword_of word =
    if bytes_eq word (codes "mutate") then Some Keywords.Mutate
    else if bytes_eq word (codes "add") then Some Keywords.Add
    else if bytes_eq word (codes "del") then Some Keywords.Del
    else None

-- the words that begin a line
abbrev pub keyword_of : List ℕ → Option Keyword
keyword_of word =
    if bytes_eq word (codes "job") then Some Keywords.Job
    else if bytes_eq word (codes "update") then Some Keywords.Update
    else if bytes_eq word (codes "wait") then Some Keywords.Wait
    else inner_keyword_of word

-- whether a line that begins so may stand below these entries: `mutate` below a job, `add` and `del` below an update
abbrev pub is_in_place : List Line → Keyword → Bool
is_in_place above Keywords.Job = true
is_in_place above Keywords.Mutate = ends_with is_job above
is_in_place above Keywords.Update = true
is_in_place above Keywords.Add = ends_with is_update above
is_in_place above Keywords.Del = ends_with is_update above
is_in_place above Keywords.Wait = true

-- whether one line more that begins so is not one too many
abbrev pub has_room : List Line → Keyword → Bool
has_room above Keywords.Job = nat_lt (length (names_of above)) MAX_JOBS
has_room above Keywords.Update = nat_lt (change_lines_of above) MAX_CHANGES
has_room above Keywords.Wait = true
has_room above Keywords.Mutate = nat_lt (change_lines_of above) MAX_CHANGES
has_room above Keywords.Add = nat_lt (change_lines_of above) MAX_CHANGES
has_room above Keywords.Del = nat_lt (change_lines_of above) MAX_CHANGES

-- the refusal of a line that is one too many
abbrev pub one_too_many : ℕ → Keyword → JobsRefusal
one_too_many number Keywords.Job = TooManyJobs number
one_too_many number _ = TooManyChanges number

-- a job under a new name, so far with no changes of its own
abbrev pub job_in : ℕ → List (List ℕ) → List (List ℕ) → Result Line Why
job_in n taken = read_word (name_of taken) (λ name more. result_map (λ spec. Job name spec []) (spec_in n more))

-- the entries, with a line that begins so and whose further words are these
abbrev pub entries_with : ℕ → List Line → Keyword → List (List ℕ) → Result (List Line) Why
entries_with n above Keywords.Job words = result_map (with_entry above) (job_in n (names_of above) words)
entries_with n above Keywords.Mutate words = result_map (with_change above) (change_in n words)
entries_with n above Keywords.Update words = at_end (with_entry above (Update [])) words
entries_with n above Keywords.Add words = result_map (with_change above) (addition_in n words)
entries_with n above Keywords.Del words = result_map (with_change above) (cut_in n words)
entries_with n above Keywords.Wait words = result_map (λ visits. with_entry above (Wait visits)) (last_number 0 MAX_WAIT words)

-- the same, refused with the line's number
abbrev pub at_line : {A : Type 0} → ℕ → Result A Why → Result A JobsRefusal
at_line number (Ok value) = Ok value
at_line number (Err why) = Err (BadLine number why)

-- the entries after a line that begins so: its place, then the counts, then its further words
abbrev pub entries_after_keyword : (n number : ℕ) → List Line → List (List ℕ) → Option Keyword → Result (List Line) JobsRefusal
entries_after_keyword n number above words None = Err (BadLine number UnknownWord)
entries_after_keyword n number above words (Some keyword) =
    if is_in_place above keyword
    then (if has_room above keyword then at_line number (entries_with n above keyword words) else Err (one_too_many number keyword))
    else Err (BadLine number OutOfPlace)

-- the entries after a line of these words, or why it is refused
abbrev pub entries_after : (n number : ℕ) → List Line → List (List ℕ) → Result (List Line) JobsRefusal
entries_after n number above [] = Ok above
entries_after n number above (word ∷ more) =
    if means_something (word ∷ more) then entries_after_keyword n number above more (keyword_of word) else Ok above

-- the entries after these lines, of which the first has this number. The first refused line decides
abbrev pub entries_after_lines : (n number : ℕ) → List Line → List (List ℕ) → Result (List Line) JobsRefusal
entries_after_lines n number above [] = Ok above
entries_after_lines n number above (line ∷ more) =
    result_and_then (λ entries. entries_after_lines n (number + 1) entries more) (entries_after n number above (words_of line))

-- the script of a text over n vertices, or its first refusal. A text that is too long is refused whatever its lines are
abbrev pub script_of : ℕ → List ℕ → Result (List Line) JobsRefusal
script_of n text =
    if nat_le (length text) MAX_TEXT_BYTES then entries_after_lines n 1 [] (lines_of text) else Err (TooLong (length text))
