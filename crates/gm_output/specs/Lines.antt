-- Texts of which lines are made.
use Rattle.std.specs.Prelude.{ℕ, ◌==◌, if◌then◌else◌, List, [], ◌∷◌, codes, decimal}
use Rattle.gm_base.specs.declared.limits.TheConstants.{TOP}

-- the end of a line
abbrev pub end_of_line : List ℕ
end_of_line = 10 ∷ []

-- a value, and a dash for a vertex that isn't reached
abbrev pub value_text : ℕ → List ℕ
value_text value = if value == TOP then codes "-" else decimal value
