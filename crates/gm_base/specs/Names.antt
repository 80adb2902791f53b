-- Names of jobs.
use Rattle.std.specs.Prelude.{ℕ, Bool, ◌&&◌, ◌||◌, ◌==◌, nat_le, List, length}
use Rattle.std.specs.List.{list_all}
use Rattle.std.specs.Char.{is_ascii_alphanumeric}
use Rattle.gm_base.specs.declared.limits.TheConstants.{MAX_NAME_BYTES}

-- an ASCII letter or digit, `_`, `-` or `.`
abbrev pub is_name_byte : ℕ → Bool
is_name_byte byte = is_ascii_alphanumeric byte || (byte == 95) || (byte == 45) || (byte == 46)

-- some such bytes, and not too many
abbrev pub is_name : List ℕ → Bool
is_name text = nat_le 1 (length text) && nat_le (length text) MAX_NAME_BYTES && list_all is_name_byte text
