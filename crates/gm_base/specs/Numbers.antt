-- Numbers in decimal.
use Rattle.std.specs.Prelude.{ℕ, Bool, ◌&&◌, nat_le, if◌then◌else◌, List, length, Option, Some, None}
use Rattle.std.specs.List.{list_all}
use Rattle.std.specs.Char.{is_ascii_digit}
use Rattle.std.specs.Str.Parse.{digits_value}
use Rattle.gm_base.specs.declared.limits.TheConstants.{MAX_DIGITS}

-- 1 to 20 ASCII digits
abbrev pub is_numeral : List ℕ → Bool
is_numeral text = nat_le 1 (length text) && nat_le (length text) MAX_DIGITS && list_all is_ascii_digit text

-- the decimal value of a numeral, where it is at most this much
abbrev pub number_of : List ℕ → ℕ → Option ℕ
number_of text most =
    if is_numeral text && nat_le (digits_value 10 text) most then Some (digits_value 10 text) else None
