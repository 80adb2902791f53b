-- What the words of a line say is within bounds: jobs make some round, and sources and the ends of changes are vertices.
use Rattle.std.proofs.Common.{◌≡◌, ℕ, ◌<◌, ◌≤◌, Bool, true, false, List, [], ◌∷◌, length, Option, Some, None, Result, Ok, Err, refl, subst, arith}
use Rattle.std.specs.Prelude.{◌&&◌, nat_le, nat_lt, if◌then◌else◌, option_map, ok_or, codes, IfOk}
use Rattle.std.specs.Result.{result_ok}
use Rattle.std.specs.Str.{bytes_eq}
use Rattle.std.proofs.lemmas.Bool.{and_parts, leb-true}
use Rattle.std.proofs.lemmas.Bool.Decides.{nat_tests}
use Rattle.std.proofs.lemmas.List.Elements.{All-nil}
use Rattle.gm_base.specs.declared.job.Spec.{Spec}
use Rattle.gm_base.specs.declared.job.Spec.TheVariants.{Bfs, Sssp, Wcc, Rank}
use Rattle.gm_base.specs.Graph.{edge}
use Rattle.gm_base.specs.Names.{is_name}
use Rattle.gm_text.specs.Texts.{number_in, statements_of}
use Rattle.gm_changes.specs.declared.change.Change.TheVariants.{Add, Cut}
use Rattle.gm_jobs.specs.declared.jobs_error.Why.{Why}
use Rattle.gm_jobs.specs.declared.jobs_error.Why.TheVariants.{UnknownWord, BadNumber}
use Rattle.gm_jobs.specs.declared.limits.TheConstants.{MAX_TEXT_BYTES, MAX_ROUNDS, MAX_WEIGHT}
use Rattle.gm_jobs.specs.declared.script.Line.TheVariants as Lines
use Rattle.gm_jobs.specs.LineWords.{result_map, result_and_then, where_fit, number_between, vertex_numbered, vertex_of, name_of, first_word, read_word, at_end, last_number, bound_in, search_in, spec_in, addition_in, cut_in, change_in}
use Rattle.gm_jobs.specs.JobBounds.{MakesSomeRound, HasSourceBelow, IsLineOver}
use Rattle.gm_changes.specs.Changes.{ChangesWithin}
use Rattle.gm_jobs.specs.Scripts.{change_lines_in, job_in}

-- a choice of two answers
pub either : {A E : Type 0} (P : A → Type 0) (b : Bool) (x y : Result A E) → IfOk x P → IfOk y P → IfOk (if b then x else y) P
either P true x y first second = first
either P false x y first second = second

pub mapped : {A B E : Type 0} (P : A → Type 0) (Q : B → Type 0) (f : A → B) (x : Result A E) → IfOk x P → ((value : A) → P value → Q (f value)) → IfOk (result_map f x) Q
mapped P Q f (Ok value) holds follows = follows value holds
mapped P Q f (Err error) holds follows = tt

pub chained : {A B E : Type 0} (P : A → Type 0) (Q : B → Type 0) (f : A → Result B E) (x : Result A E) → IfOk x P → ((value : A) → P value → IfOk (f value) Q) → IfOk (result_and_then f x) Q
chained P Q f (Ok value) holds follows = follows value holds
chained P Q f (Err error) holds follows = tt

-- a word is read, and then the others
read_on : {A B : Type 0} (P : A → Type 0) (Q : B → Type 0) (read : List ℕ → Result A Why) (next : A → List (List ℕ) → Result B Why) (words : List (List ℕ))
    → ((word : List ℕ) → IfOk (read word) P) → ((value : A) (more : List (List ℕ)) → P value → IfOk (next value more) Q) → IfOk (read_word read next words) Q
read_on P Q read next [] holds follows = tt
read_on {A} P Q read next (word ∷ more) holds follows =
    let first : A × List (List ℕ) → Type 0 = λ both. P both.0 in
    chained first Q (λ (both : A × List (List ℕ)). next both.0 both.1) (first_word read (word ∷ more))
    (mapped P first (λ value. (value, more)) (read word) (holds word) (λ value is. is)) (λ both is. follows both.0 both.1 is)

ended : {A : Type 0} (P : A → Type 0) (value : A) (words : List (List ℕ)) → P value → IfOk (at_end value words) P
ended P value [] holds = holds
ended P value (word ∷ more) holds = tt

-- a vertex is below n
a_vertex : (n : ℕ) (word : List ℕ) → IfOk (vertex_of n word) (λ v. v < n)
a_vertex n word = found (number_in word)
  where
    below : (number : ℕ) (b : Bool) → nat_lt number n ≡ b → IfOk (vertex_numbered n number) (λ v. v < n)
    below number true is = let lower : number < n = grind (arith, nat_tests) in rw is lower
    below number false is = rw is tt

    found : (number : Option ℕ) → IfOk (result_and_then (vertex_numbered n) (ok_or number BadNumber)) (λ v. v < n)
    found None = tt
    found (Some number) = below number (nat_lt number n) refl

-- a number is not below the least one
a_number : (least most : ℕ) (word : List ℕ) → IfOk (number_between least most word) (λ number. least ≤ number)
a_number least most word = found (number_in word)
  where
    above : (number : ℕ) (b : Bool) → (nat_le least number && nat_le number most) ≡ b → IfOk (ok_or (if b then Some number else None) BadNumber) (λ number. least ≤ number)
    above number true is = leb-true least number (and_parts (nat_le least number) (nat_le number most) is).0
    above number false is = tt

    found : (number : Option ℕ) → IfOk (ok_or (where_fit (λ number. nat_le least number && nat_le number most) number) BadNumber) (λ number. least ≤ number)
    found None = tt
    found (Some number) = above number (nat_le least number && nat_le number most) refl

a_last_number : (least most : ℕ) (words : List (List ℕ)) → IfOk (last_number least most words) (λ number. least ≤ number)
a_last_number least most words =
    read_on (λ number. least ≤ number) (λ number. least ≤ number) (number_between least most) at_end words (a_number least most)
    (λ number more is. ended (λ it. least ≤ it) number more is)

a_bound : (n : ℕ) (words : List (List ℕ)) → IfOk (bound_in n words) (λ bound. 1 ≤ bound)
a_bound n [] = omega arith
a_bound n (word ∷ more) =
    either (λ bound. 1 ≤ bound) (bytes_eq word (codes "rounds")) (last_number 1 MAX_ROUNDS more) (Err UnknownWord) (a_last_number 1 MAX_ROUNDS more) tt

-- a job that makes some round and has its source below n
abbrev pub IsSpecOver : ℕ → Spec → Type 0
IsSpecOver n spec = MakesSomeRound spec × HasSourceBelow n spec

a_search : (n : ℕ) (job : ℕ → ℕ → Spec) → ((source bound : ℕ) → source < n → 1 ≤ bound → IsSpecOver n (job source bound))
    → (words : List (List ℕ)) → IfOk (search_in n job words) (IsSpecOver n)
a_search n job follows words =
    read_on (λ v. v < n) (IsSpecOver n) (vertex_of n) (λ source more. result_map (job source) (bound_in n more)) words (a_vertex n)
    (λ source more is. mapped (λ bound. 1 ≤ bound) (IsSpecOver n) (job source) (bound_in n more) (a_bound n more) (λ bound some. follows source bound is some))

pub a_spec : (n : ℕ) (words : List (List ℕ)) → IfOk (spec_in n words) (IsSpecOver n)
a_spec n [] = tt
a_spec n (kind ∷ more) =
    let holds = IsSpecOver n in
    let levels = a_search n Bfs (λ source bound is some. (some, is)) more in
    let distances = a_search n Sssp (λ source bound is some. (some, is)) more in
    let labels = mapped (λ bound. 1 ≤ bound) holds Wcc (bound_in n more) (a_bound n more) (λ bound some. (some, tt)) in
    let ranks = mapped (λ rounds. 1 ≤ rounds) holds Rank (last_number 1 MAX_ROUNDS more) (a_last_number 1 MAX_ROUNDS more) (λ rounds some. (some, tt)) in
    either holds (bytes_eq kind (codes "bfs")) _ _ levels
    (either holds (bytes_eq kind (codes "sssp")) _ _ distances
    (either holds (bytes_eq kind (codes "wcc")) _ _ labels
    (either holds (bytes_eq kind (codes "rank")) (result_map Rank (last_number 1 MAX_ROUNDS more)) (Err UnknownWord) ranks tt)))

pub an_addition : (n : ℕ) (words : List (List ℕ)) → IfOk (addition_in n words) (ChangesWithin n)
an_addition n words =
    read_on (λ v. v < n) (ChangesWithin n) (vertex_of n) _ words (a_vertex n)
    (λ from more is. read_on (λ v. v < n) (ChangesWithin n) (vertex_of n) _ more (a_vertex n)
    (λ to more is_to. read_on (λ weight. 0 ≤ weight) (ChangesWithin n) (number_between 0 MAX_WEIGHT) _ more (a_number 0 MAX_WEIGHT)
    (λ weight more any. ended (ChangesWithin n) (Add (edge from to weight)) more (is, is_to))))

pub a_cut : (n : ℕ) (words : List (List ℕ)) → IfOk (cut_in n words) (ChangesWithin n)
a_cut n words =
    read_on (λ v. v < n) (ChangesWithin n) (vertex_of n) _ words (a_vertex n)
    (λ from more is. read_on (λ v. v < n) (ChangesWithin n) (vertex_of n) _ more (a_vertex n)
    (λ to more is_to. ended (ChangesWithin n) (Cut from to) more (is, is_to)))

pub a_change : (n : ℕ) (words : List (List ℕ)) → IfOk (change_in n words) (ChangesWithin n)
a_change n [] = tt
a_change n (word ∷ more) =
    let holds = ChangesWithin n in
    either holds (bytes_eq word (codes "add")) _ _ (an_addition n more)
    (either holds (bytes_eq word (codes "del")) (cut_in n more) (Err UnknownWord) (a_cut n more) tt)

-- a new job has no changes yet
pub a_job : (n : ℕ) (taken words : List (List ℕ)) → IfOk (job_in n taken words) (λ entry. IsLineOver n entry × (change_lines_in entry ≡ 0))
a_job n taken words =
    read_on (λ _. Unit {0}) (λ entry. IsLineOver n entry × (change_lines_in entry ≡ 0)) (name_of taken) _ words (λ word. some_name (name_of taken word))
    (λ name more any. mapped (IsSpecOver n) (λ entry. IsLineOver n entry × (change_lines_in entry ≡ 0)) (λ spec. Lines.Job name spec []) (spec_in n more) (a_spec n more)
    (λ spec is. ((is.0, is.1, All-nil (ChangesWithin n)), refl)))
  where
    some_name : (found : Result (List ℕ) Why) → IfOk found (λ _. Unit {0})
    some_name (Ok name) = tt
    some_name (Err why) = tt
