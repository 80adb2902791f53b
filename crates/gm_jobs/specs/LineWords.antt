-- What the words of a line say, from left to right. The first word that can't be read decides why the line is refused.
use Rattle.std.specs.Prelude.{ℕ, ◌+◌, nat_lt, nat_le, Bool, ◌&&◌, if◌then◌else◌, List, [], ◌∷◌, Option, Some, None, Result, Ok, Err, ok_or, codes}
use Rattle.std.specs.List.{list_any}
use Rattle.std.specs.Str.{bytes_eq}
use Rattle.gm_base.specs.declared.job.Spec.{Spec}
use Rattle.gm_base.specs.declared.job.Spec.TheVariants.{Bfs, Sssp, Wcc, Rank}
use Rattle.gm_base.specs.Graph.{edge}
use Rattle.gm_base.specs.Names.{is_name}
use Rattle.gm_text.specs.Texts.{number_in}
use Rattle.gm_changes.specs.declared.change.Change.{Change}
use Rattle.gm_changes.specs.declared.change.Change.TheVariants.{Add, Cut}
use Rattle.gm_jobs.specs.declared.jobs_error.Why.{Why}
use Rattle.gm_jobs.specs.declared.jobs_error.Why.TheVariants.{UnknownWord, Short, Extra, BadName, NameTwice, BadNumber, NoVertex}
use Rattle.gm_jobs.specs.declared.limits.TheConstants.{MAX_ROUNDS, MAX_WEIGHT}

-- another value in the place of the one that was read
abbrev pub result_map : {A B E : Type 0} → (A → B) → Result A E → Result B E
result_map f (Ok value) = Ok (f value)
result_map f (Err error) = Err error

-- what follows, where a value was read
abbrev pub result_and_then : {A B E : Type 0} → (A → Result B E) → Result A E → Result B E
result_and_then f (Ok value) = f value
result_and_then f (Err error) = Err error

-- a number, where it fits
abbrev pub where_fit : (ℕ → Bool) → Option ℕ → Option ℕ
where_fit fits None = None
where_fit fits (Some number) = if fits number then Some number else None

-- the number that a word writes, from the least to the most
abbrev pub number_between : (least most : ℕ) → List ℕ → Result ℕ Why
number_between least most word = ok_or (where_fit (λ number. nat_le least number && nat_le number most) (number_in word)) BadNumber

-- the vertex of a graph of n vertices that has this number
abbrev pub vertex_numbered : ℕ → ℕ → Result ℕ Why
vertex_numbered n number = if nat_lt number n then Ok number else Err NoVertex

-- the vertex that a word names by its number
abbrev pub vertex_of : ℕ → List ℕ → Result ℕ Why
vertex_of n word = result_and_then (vertex_numbered n) (ok_or (number_in word) BadNumber)

-- the name that a word is, beside those that are taken
abbrev pub name_of : List (List ℕ) → List ℕ → Result (List ℕ) Why
name_of taken word = if is_name word then (if list_any (bytes_eq word) taken then Err NameTwice else Ok word) else Err BadName

-- the first word, as it is read, and the words behind it
abbrev pub first_word : {A : Type 0} → (List ℕ → Result A Why) → List (List ℕ) → Result (A × List (List ℕ)) Why
first_word read [] = Err Short
first_word read (word ∷ more) = result_map (λ value. (value, more)) (read word)

-- a word is read, and then those behind it
abbrev pub read_word : {A B : Type 0} → (List ℕ → Result A Why) → (A → List (List ℕ) → Result B Why) → List (List ℕ) → Result B Why
read_word read next words = result_and_then (λ found. next found.0 found.1) (first_word read words)

-- the line ends
abbrev pub end_of : List (List ℕ) → Result (Unit {0}) Why
end_of [] = Ok tt
end_of (word ∷ more) = Err Extra

-- the value, where the line ends
abbrev pub at_end : {A : Type 0} → A → List (List ℕ) → Result A Why
at_end value words = result_map (λ _. value) (end_of words)

-- a number at the end of the line
abbrev pub last_number : (least most : ℕ) → List (List ℕ) → Result ℕ Why
last_number least most = read_word (number_between least most) at_end

-- the bound on rounds that the last words state by `rounds R`: n + 1 where there are none
abbrev pub bound_in : ℕ → List (List ℕ) → Result ℕ Why
bound_in n [] = Ok (n + 1)
bound_in n (word ∷ more) = if bytes_eq word (codes "rounds") then last_number 1 MAX_ROUNDS more else Err UnknownWord

-- a source vertex, and then maybe a bound
abbrev pub search_in : ℕ → (ℕ → ℕ → Spec) → List (List ℕ) → Result Spec Why
search_in n job = read_word (vertex_of n) (λ source more. result_map (job source) (bound_in n more))

-- what a job computes, by the words behind its name: `bfs S`, `sssp S` or `wcc`, each maybe with a bound, or `rank K`
abbrev pub spec_in : ℕ → List (List ℕ) → Result Spec Why
spec_in n [] = Err Short
spec_in n (kind ∷ more) =
    if bytes_eq kind (codes "bfs") then search_in n Bfs more
    else if bytes_eq kind (codes "sssp") then search_in n Sssp more
    else if bytes_eq kind (codes "wcc") then result_map Wcc (bound_in n more)
    else if bytes_eq kind (codes "rank") then result_map Rank (last_number 1 MAX_ROUNDS more)
    else Err UnknownWord

-- the edge that the words `U V W` add
abbrev pub addition_in : ℕ → List (List ℕ) → Result Change Why
addition_in n = read_word (vertex_of n) (λ from. read_word (vertex_of n) (λ to. read_word (number_between 0 MAX_WEIGHT) (λ weight. at_end (Add (edge from to weight)))))

-- the edges that the words `U V` cut
abbrev pub cut_in : ℕ → List (List ℕ) → Result Change Why
cut_in n = read_word (vertex_of n) (λ from. read_word (vertex_of n) (λ to. at_end (Cut from to)))

-- a change by the words behind `mutate`: `add U V W` or `del U V`
abbrev pub change_in : ℕ → List (List ℕ) → Result Change Why
change_in n [] = Err Short
change_in n (word ∷ more) =
    if bytes_eq word (codes "add") then addition_in n more
    else if bytes_eq word (codes "del") then cut_in n more
    else Err UnknownWord
