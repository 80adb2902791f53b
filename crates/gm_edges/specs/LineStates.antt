-- One line of an edge list, byte by byte: what a reader knows of it so far. That this gives what the line means is a law.
use Rattle.std.specs.Prelude.{ℕ, ◌+◌, ◌-◌, ◌*◌, ◌^◌, nat_lt, nat_le, ◌==◌, ◌&&◌, if◌then◌else◌}
use Rattle.std.specs.Char.{is_ascii_digit}
use Rattle.gm_base.specs.declared.limits.TheConstants.{MAX_DIGITS, TOP}
use Rattle.gm_text.specs.Texts.{is_blank}
use Rattle.gm_edges.specs.declared.line_state.LineState.{LineState}
use Rattle.gm_edges.specs.declared.line_state.WordPlace.{WordPlace}
use Rattle.gm_edges.specs.declared.line_state.WordPlace.TheVariants.{First, Second, Third, Full, Comment, Bad}
use Rattle.gm_edges.specs.declared.line_state.Meaning.{Meaning}
use Rattle.gm_edges.specs.declared.line_state.Meaning.TheVariants.{Nothing, Lists, Refused}

-- a line at this place, with no number so far
abbrev pub line_at : WordPlace → LineState
line_at place = record { place = place; digits = 0; value = 0; first = 0; second = 0; weight = 0 }

-- one more digit of the present word, while it writes a number
abbrev pub with_digit : LineState → ℕ → LineState
with_digit line digit =
    if nat_lt line.digits MAX_DIGITS && nat_le (line.value * 10 + digit) TOP
    then record line { digits = line.digits + 1; value = line.value * 10 + digit }
    else line_at Bad

abbrev pub after_digit : WordPlace → LineState → ℕ → LineState
after_digit First line digit = with_digit line digit
after_digit Second line digit = with_digit line digit
after_digit Third line digit = with_digit line digit
after_digit Full line digit = line_at Bad
after_digit Comment line digit = line
after_digit Bad line digit = line

-- the line after a blank that ends the word at this place
abbrev pub after_word : WordPlace → LineState → LineState
after_word First line = record line { place = Second; digits = 0; value = 0; first = line.value }
after_word Second line = record line { place = Third; digits = 0; value = 0; second = line.value }
after_word Third line =
    if nat_lt line.value (2 ^ 32)
    then record line { place = Full; digits = 0; value = 0; weight = line.value }
    else line_at Bad
after_word Full line = line
after_word Comment line = line
after_word Bad line = line

abbrev pub after_blank : LineState → LineState
after_blank line = if line.digits == 0 then line else after_word line.place line

abbrev pub after_other : WordPlace → LineState → ℕ → LineState
after_other First line byte = if (line.digits == 0) && (byte == 35) then line_at Comment else line_at Bad
after_other Comment line byte = line
after_other _ line byte = line_at Bad

-- the line after a byte that is no line end
abbrev pub line_after : LineState → ℕ → LineState
line_after line byte =
    if is_ascii_digit byte then after_digit line.place line (byte - 48)
    else (if is_blank byte then after_blank line else after_other line.place line byte)

abbrev pub meaning_at : WordPlace → LineState → Meaning
meaning_at First line = Nothing
meaning_at Second line = Refused
meaning_at Third line = Lists line.first line.second 1
meaning_at Full line = Lists line.first line.second line.weight
meaning_at Comment line = Nothing
meaning_at Bad line = Refused

-- what the line means if it ends here
abbrev pub meaning_at_end : LineState → Meaning
meaning_at_end line = meaning_at (after_blank line).place (after_blank line)
