-- Texts that are refused, as they were worked out by hand.
use Rattle.std.specs.Prelude.{◌≡◌, ℕ, List, map, Err}
use Rattle.gm_jobs.specs.declared.jobs_error.JobsRefusal.TheVariants.{BadLine, TooManyChanges}
use Rattle.gm_jobs.specs.declared.jobs_error.Why.{Why}
use Rattle.gm_jobs.specs.declared.script.Line.{Line}
use Rattle.gm_jobs.specs.Scripts.{script_of, entries_after}

-- each text is refused at its line for this reason, over four vertices
abbrev pub AreRefused : Why → List (ℕ × List ℕ) → Type 0
AreRefused why texts = map (λ text. script_of 4 text.1) texts ≡ map (λ text. Err (BadLine text.0 why)) texts

-- below each of these entries these words are a change too many, on line 7
abbrev pub AreTooMany : List (List Line × List (List ℕ)) → Type 0
AreTooMany cases = map (λ c. entries_after 4 7 c.0 c.1) cases ≡ map (λ c. Err (TooManyChanges 7)) cases
