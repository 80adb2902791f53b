-- The names that are taken, as an ordered set.
use Rattle.std.specs.Prelude.{◌≡◌, ℕ, List}
use Rattle.std.specs.List.{list_any}
use Rattle.std.specs.Str.{bytes_eq}
use Rattle.std.specs.Ordering.{nat_cmp}
use Rattle.std.specs.Cmp.Lexicographic.{slice_cmp}
use Rattle.std.specs.BTreeSet.{contains_by}
use Rattle.gm_jobs.specs.declared.name_set.NameSet.{NameSet}

-- the set has these names and no others
abbrev pub HasNames : List (List ℕ) → NameSet → Type 0
HasNames names set = (text : List ℕ) → contains_by (λ name. slice_cmp nat_cmp text name.now) set.names ≡ list_any (bytes_eq text) names
