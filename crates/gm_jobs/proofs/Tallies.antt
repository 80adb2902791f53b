-- The names and the counts of a reader stay those of its entries.
use Rattle.std.proofs.Common.{◌≡◌, ℕ, ◌+◌, List, [], ◌∷◌, ◌++◌, length, Option, Some, None, Err, IfSome, true, refl, ap, sym, ◌∙◌, subst, arith}
use Rattle.std.proofs.lemmas.List.{length-append}
use Rattle.gm_base.specs.declared.job.Spec.{Spec}
use Rattle.gm_changes.specs.declared.change.Change.{Change}
use Rattle.gm_jobs.specs.declared.jobs_error.Why.{Why}
use Rattle.gm_jobs.specs.declared.name_set.NameSet.{NameSet}
use Rattle.gm_jobs.specs.declared.script.Line.{Line}
use Rattle.gm_jobs.specs.declared.script.Line.TheVariants.{Job, Update, Wait}
use Rattle.gm_jobs.specs.declared.script_reader.ScriptReader.{ScriptReader}
use Rattle.gm_jobs.specs.LineWords.{result_map, name_of}
use Rattle.gm_jobs.specs.NameSets.{HasNames}
use Rattle.gm_jobs.specs.Readers.{IsTallied, takes_changes}
use Rattle.gm_jobs.specs.Scripts.{names_of, change_lines_of, ends_with, with_change, with_entry, job_in}
use Rattle.gm_jobs.proofs.Entries.{names_with_job, names_with_update, names_with_wait, change_lines_with, one_change_more, same_names}

named : (set : NameSet) (names others : List (List ℕ)) → others ≡ names → HasNames names set → HasNames others set
named set names others same has = subst (λ them. HasNames them set) (sym same) has

pub tallied_job : (old new : ScriptReader) (name : List ℕ) (spec : Spec) → new.lines.items ≡ old.lines.items ++ Job name spec [] ∷ []
    → HasNames (names_of old.lines.items ++ name ∷ []) new.names → new.jobs ≡ old.jobs + 1 → new.changes ≡ old.changes → IsTallied old → IsTallied new
tallied_job old new name spec lines has jobs changes tallied =
    let names : names_of new.lines.items ≡ names_of old.lines.items ++ name ∷ [] = ap names_of lines ∙ names_with_job old.lines.items name spec [] in
    let counts : change_lines_of new.lines.items ≡ change_lines_of old.lines.items + 0 = ap change_lines_of lines ∙ change_lines_with old.lines.items (Job name spec []) in
    let more : length (names_of new.lines.items) ≡ length (names_of old.lines.items) + 1 = ap length names ∙ length-append (names_of old.lines.items) (name ∷ []) in
    record {
      names = named new.names _ _ names has;
      jobs = omega (arith, jobs, more, tallied.jobs);
      changes = omega (arith, changes, counts, tallied.changes);
    }

-- so many lines of changes more, and no name
still_tallied : (old new : ScriptReader) (more : ℕ) → names_of new.lines.items ≡ names_of old.lines.items → change_lines_of new.lines.items ≡ change_lines_of old.lines.items + more
    → new.names ≡ old.names → new.jobs ≡ old.jobs → new.changes ≡ old.changes + more → IsTallied old → IsTallied new
still_tallied old new more names counts set jobs changes tallied = record {
  names = named new.names _ _ names (subst (HasNames (names_of old.lines.items)) (sym set) tallied.names);
  jobs = jobs ∙ tallied.jobs ∙ sym (ap length names);
  changes = omega (arith, changes, counts, tallied.changes);
}

pub tallied_update : (old new : ScriptReader) → new.lines.items ≡ old.lines.items ++ Update [] ∷ []
    → new.names ≡ old.names → new.jobs ≡ old.jobs → new.changes ≡ old.changes + 1 → IsTallied old → IsTallied new
tallied_update old new lines =
    still_tallied old new 1 (ap names_of lines ∙ names_with_update old.lines.items []) (ap change_lines_of lines ∙ change_lines_with old.lines.items (Update []))

pub tallied_wait : (old new : ScriptReader) (visits : ℕ) → new.lines.items ≡ old.lines.items ++ Wait visits ∷ []
    → new.names ≡ old.names → new.jobs ≡ old.jobs → new.changes ≡ old.changes → IsTallied old → IsTallied new
tallied_wait old new visits lines set jobs changes tallied =
    still_tallied old new 0 (ap names_of lines ∙ names_with_wait old.lines.items visits) (ap change_lines_of lines ∙ change_lines_with old.lines.items (Wait visits))
    set jobs (omega (arith, changes)) tallied

pub tallied_change : (old new : ScriptReader) (change : Change) → ends_with takes_changes old.lines.items ≡ true → new.lines.items ≡ with_change old.lines.items change
    → new.names ≡ old.names → new.jobs ≡ old.jobs → new.changes ≡ old.changes + 1 → IsTallied old → IsTallied new
tallied_change old new change takes lines =
    still_tallied old new 1 (ap names_of lines ∙ same_names change old.lines.items) (ap change_lines_of lines ∙ one_change_more change old.lines.items takes)

-- a name that is refused refuses the job
pub name_refused : (n : ℕ) (above : List Line) (words : List (List ℕ)) (word : List ℕ) (rest : List (List ℕ)) (reason : Option Why) → words ≡ word ∷ rest
    → IfSome reason (λ why. name_of (names_of above) word ≡ Err why)
    → IfSome reason (λ why. result_map (with_entry above) (job_in n (names_of above) words) ≡ Err why)
name_refused n above words word rest None are refused = tt
name_refused n above words word rest (Some why) are refused = rw (are, refused) refl
