-- What is answered in place of a line that isn't taken: why it's refused, or want of memory.
use Rattle.std.specs.Prelude.{◌≡◌, Option, Some, None, Result, Ok, Err, IfSome, MatchResult}
use Rattle.gm_jobs.specs.declared.jobs_error.Why.{Why}
use Rattle.gm_jobs.specs.declared.line_error.LineError.{LineError}
use Rattle.gm_jobs.specs.declared.line_error.LineError.TheVariants.{Bad, Memory}

-- why the line is refused, where memory didn't run out
abbrev pub reason_of : LineError → Option Why
reason_of (Bad why) = Some why
reason_of Memory = None

-- the answer is the expected one, where memory didn't run out
abbrev pub IsUnlessMemory : {A : Type 0} → Result A LineError → Result A Why → Type 0
IsUnlessMemory answer expected = MatchResult answer (λ value. expected ≡ Ok value) (λ error. IfSome (reason_of error) (λ why. expected ≡ Err why))

-- an answer that leaves this value is the expected one, where memory didn't run out
abbrev pub TakesUnlessMemory : {A B : Type 0} → Result B LineError → A → Result A Why → Type 0
TakesUnlessMemory answer new expected = MatchResult answer (λ _. expected ≡ Ok new) (λ error. IfSome (reason_of error) (λ why. expected ≡ Err why))
