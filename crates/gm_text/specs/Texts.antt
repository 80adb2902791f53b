-- Lines and words of the texts that people write: edge lists, job texts, traces and certificates.
use Rattle.std.specs.Prelude.{ℕ, Bool, true, false, not, ◌==◌, ◌||◌, if◌then◌else◌, List, [], ◌∷◌, map, Option, slice_index}
use Rattle.std.specs.List.{slice_split, filter}
use Rattle.gm_base.specs.declared.limits.TheConstants.{TOP}
use Rattle.gm_base.specs.Numbers.{number_of}

-- LF
abbrev pub is_line_end : ℕ → Bool
is_line_end byte = byte == 10

-- space, tab and CR
abbrev pub is_blank : ℕ → Bool
is_blank byte = (byte == 32) || (byte == 9) || (byte == 13)

abbrev pub is_nonempty : List ℕ → Bool
is_nonempty [] = false
is_nonempty (byte ∷ more) = true

-- the parts of a text between its line ends, without the last where that is empty
abbrev pub without_empty_rest : List (List ℕ) → List (List ℕ)
without_empty_rest [] = []
without_empty_rest (rest ∷ []) = if is_nonempty rest then rest ∷ [] else []
without_empty_rest (line ∷ next ∷ more) = line ∷ without_empty_rest (next ∷ more)

-- a line ends with LF or with the text's end; an empty rest after the last LF is no line
abbrev pub lines_of : List ℕ → List (List ℕ)
lines_of text = without_empty_rest (slice_split is_line_end text)

-- the parts of a text between its line ends, without the last
abbrev pub without_rest : List (List ℕ) → List (List ℕ)
without_rest [] = []
without_rest (rest ∷ []) = []
without_rest (line ∷ next ∷ more) = line ∷ without_rest (next ∷ more)

-- the lines that end with LF
abbrev pub ended_lines_of : List ℕ → List (List ℕ)
ended_lines_of text = without_rest (slice_split is_line_end text)

-- the longest runs of bytes that aren't blank
abbrev pub words_of : List ℕ → List (List ℕ)
words_of line = filter is_nonempty (slice_split is_blank line)

-- the number that a word writes in at most 20 digits, below 2^64
abbrev pub number_in : List ℕ → Option ℕ
number_in word = number_of word TOP

-- '#'
abbrev pub begins_comment : List ℕ → Bool
begins_comment word = slice_index word 0 == 35

-- a line without a word means nothing, and so does one whose first word begins with '#'
abbrev pub means_something : List (List ℕ) → Bool
means_something [] = false
means_something (word ∷ more) = not (begins_comment word)

-- the words of each line that means something
abbrev pub statements_of : List ℕ → List (List (List ℕ))
statements_of text = filter means_something (map words_of (lines_of text))
