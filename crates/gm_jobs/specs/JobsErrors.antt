-- What a reader answers in place of a script: the refusal of its text, or want of memory.
use Rattle.std.specs.Prelude.{◌≡◌, ℕ, List, Option, Some, None, Result, Ok, Err, IfSome, MatchResult, codes}
use Rattle.gm_jobs.specs.declared.jobs_error.Why.{Why}
use Rattle.gm_jobs.specs.declared.jobs_error.Why.TheVariants.{UnknownWord, OutOfPlace, Short, Extra, BadName, NameTwice, BadNumber, NoVertex}
use Rattle.gm_jobs.specs.declared.jobs_error.JobsError.{JobsError}
use Rattle.gm_jobs.specs.declared.jobs_error.JobsError.TheVariants as JobsErrors
use Rattle.gm_jobs.specs.declared.jobs_error.JobsRefusal.{JobsRefusal}
use Rattle.gm_jobs.specs.declared.jobs_error.JobsRefusal.TheVariants.{TooLong, BadLine, TooManyJobs, TooManyChanges}

-- the reason as people read it
abbrev pub text_of : Why → List ℕ
text_of UnknownWord = codes "unknown word"
text_of OutOfPlace = codes "out of place"
text_of Short = codes "line too short"
text_of Extra = codes "line too long"
text_of BadName = codes "bad name"
text_of NameTwice = codes "name used twice"
text_of BadNumber = codes "bad number"
text_of NoVertex = codes "no such vertex"

-- the text's refusal, where memory didn't run out
abbrev pub refusal_of : JobsError → Option JobsRefusal
refusal_of (JobsErrors.TooLong bytes) = Some (TooLong bytes)
refusal_of (JobsErrors.BadLine line why) = Some (BadLine line why)
refusal_of (JobsErrors.TooManyJobs line) = Some (TooManyJobs line)
refusal_of (JobsErrors.TooManyChanges line) = Some (TooManyChanges line)
refusal_of JobsErrors.Memory = None

-- the error is the expected refusal, where memory didn't run out
abbrev pub IsRefusalUnlessMemory : {A : Type 0} → JobsError → Result A JobsRefusal → Type 0
IsRefusalUnlessMemory error expected = IfSome (refusal_of error) (λ refusal. expected ≡ Err refusal)

-- an answer that leaves this value is the expected one, where memory didn't run out
abbrev pub LeavesUnlessMemory : {A B : Type 0} → Result B JobsError → A → Result A JobsRefusal → Type 0
LeavesUnlessMemory answer new expected = MatchResult answer (λ _. expected ≡ Ok new) (λ error. IsRefusalUnlessMemory error expected)
