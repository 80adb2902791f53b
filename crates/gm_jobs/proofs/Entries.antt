-- What is counted of entries, after one entry more or one change more of the last.
use Rattle.std.proofs.Common.{◌≡◌, ℕ, suc, ◌+◌, ◌-◌, Bool, true, List, [], ◌∷◌, ◌++◌, length, Some, refl, ap, sym, ◌∙◌, add_assoc, arith}
use Rattle.std.specs.Prelude.{slice_get, slice_set, slice_index_or}
use Rattle.std.proofs.lemmas.List.Elements.{filter_map-append}
use Rattle.std.proofs.lemmas.List.Sums.{sum_by-cons, sum_by_push}
use Rattle.std.proofs.lemmas.List.{append-nil, length-append}
use Rattle.gm_base.specs.declared.job.Spec.{Spec}
use Rattle.gm_changes.specs.declared.change.Change.{Change}
use Rattle.gm_jobs.specs.declared.script.Line.{Line}
use Rattle.gm_jobs.specs.declared.script.Line.TheVariants.{Job, Update, Wait}
use Rattle.gm_jobs.specs.Readers.{takes_changes}
use Rattle.gm_jobs.specs.Scripts.{name_in, names_of, change_lines_in, change_lines_of, is_job, is_update, ends_with, changed_by, with_change}

next_place : (count : ℕ) → suc (suc count) - 1 ≡ suc (suc count - 1)
next_place count = omega arith

-- the last entry decides
pub last_decides : (test : Line → Bool) (entries : List Line) (entry : Line) → Some entry ≡ slice_get entries (length entries - 1) → test entry ≡ ends_with test entries
last_decides test [] entry is = absurd cc
last_decides test (first ∷ []) entry is = let same : entry ≡ first = cc in ap test same
last_decides test (first ∷ next ∷ more) entry is = last_decides test (next ∷ more) entry (rw (next_place (length more)) at is)

-- the last entry is written
pub last_changed : (change : Change) (entries : List Line) (entry : Line) → entry ≡ slice_index_or entries (length entries - 1) entry
    → slice_set entries (length entries - 1) (changed_by change entry) ≡ with_change entries change
last_changed change [] entry is = refl
last_changed change (first ∷ []) entry is = ap (λ last. changed_by change last ∷ []) is
last_changed change (first ∷ next ∷ more) entry is =
    rw (next_place (length more)) (ap (λ rest. first ∷ rest) (last_changed change (next ∷ more) entry (rw (next_place (length more)) at is)))

-- a change is one line more
pub one_change_more : (change : Change) (entries : List Line) → ends_with takes_changes entries ≡ true
    → change_lines_of (with_change entries change) ≡ change_lines_of entries + 1
one_change_more change [] takes = absurd cc
one_change_more change (Job name spec own ∷ []) takes = omega (arith, length-append own (change ∷ []))
one_change_more change (Update batch ∷ []) takes = omega (arith, length-append batch (change ∷ []))
one_change_more change (Wait visits ∷ []) takes = absurd cc
one_change_more change (first ∷ next ∷ more) takes =
    sum_by-cons change_lines_in first (with_change (next ∷ more) change)
    ∙ ap (λ rest. change_lines_in first + rest) (one_change_more change (next ∷ more) takes)
    ∙ sym (add_assoc (change_lines_in first) (change_lines_of (next ∷ more)) 1)
    ∙ ap (λ before. before + 1) (sym (sum_by-cons change_lines_in first (next ∷ more)))

-- and no name
pub same_names : (change : Change) (entries : List Line) → names_of (with_change entries change) ≡ names_of entries
same_names change [] = refl
same_names change (Job name spec own ∷ []) = refl
same_names change (Update batch ∷ []) = refl
same_names change (Wait visits ∷ []) = refl
same_names change (Job name spec own ∷ next ∷ more) = ap (λ names. name ∷ names) (same_names change (next ∷ more))
same_names change (Update batch ∷ next ∷ more) = same_names change (next ∷ more)
same_names change (Wait visits ∷ next ∷ more) = same_names change (next ∷ more)

-- what holds of the last entry where another test does
ends_so : (p q : Line → Bool) → ((entry : Line) → p entry ≡ true → q entry ≡ true) → (entries : List Line) → ends_with p entries ≡ true → ends_with q entries ≡ true
ends_so p q follows [] passes = absurd cc
ends_so p q follows (entry ∷ []) passes = follows entry passes
ends_so p q follows (first ∷ next ∷ more) passes = ends_so p q follows (next ∷ more) passes

job_takes : (entry : Line) → is_job entry ≡ true → takes_changes entry ≡ true
job_takes (Job name spec own) is = refl
job_takes (Update batch) is = refl
job_takes (Wait visits) is = absurd cc

update_takes : (entry : Line) → is_update entry ≡ true → takes_changes entry ≡ true
update_takes (Job name spec own) is = refl
update_takes (Update batch) is = refl
update_takes (Wait visits) is = absurd cc

pub below_job : (entries : List Line) → ends_with is_job entries ≡ true → ends_with takes_changes entries ≡ true
below_job = ends_so is_job takes_changes job_takes

pub below_update : (entries : List Line) → ends_with is_update entries ≡ true → ends_with takes_changes entries ≡ true
below_update = ends_so is_update takes_changes update_takes

-- one entry more
pub names_with_job : (entries : List Line) (name : List ℕ) (spec : Spec) (own : List Change) → names_of (entries ++ Job name spec own ∷ []) ≡ names_of entries ++ name ∷ []
names_with_job entries name spec own = filter_map-append name_in entries (Job name spec own ∷ [])

pub names_with_update : (entries : List Line) (batch : List Change) → names_of (entries ++ Update batch ∷ []) ≡ names_of entries
names_with_update entries batch = filter_map-append name_in entries (Update batch ∷ []) ∙ append-nil (names_of entries)

pub names_with_wait : (entries : List Line) (visits : ℕ) → names_of (entries ++ Wait visits ∷ []) ≡ names_of entries
names_with_wait entries visits = filter_map-append name_in entries (Wait visits ∷ []) ∙ append-nil (names_of entries)

pub change_lines_with : (entries : List Line) (entry : Line) → change_lines_of (entries ++ entry ∷ []) ≡ change_lines_of entries + change_lines_in entry
change_lines_with entries entry = sum_by_push change_lines_in entries entry
