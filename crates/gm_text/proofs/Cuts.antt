-- Where a text is cut at its first line end, and a line at its first blank, lines and words are those of the parts.
use Rattle.std.proofs.Common.{ℕ, suc, ◌+◌, ◌<◌, ◌≡◌, Bool, true, false, List, [], ◌∷◌, length, get_or, take, drop, Some, None, refl, ap, sym, ◌∙◌, arith}
use Rattle.std.specs.Prelude.{not, cond, nat_lt, unwrap_or}
use Rattle.std.specs.List.{slice_split, filter, onto_first, position, position_or_len}
use Rattle.std.proofs.lemmas.List.{drop_all, drop_more}
use Rattle.std.proofs.lemmas.List.Sums.{prefix_len-le-length, fails_before_first, passes_at_first}
use Rattle.std.proofs.lemmas.List.Splits.{slice_split_none, slice_split_first, slice_split-cons_yes, slice_split-cons_no, length-slice_split}
use Rattle.std.proofs.lemmas.Bool.Decides.{nat_tests}
use Rattle.gm_text.specs.Texts.{is_line_end, is_blank, is_nonempty, without_empty_rest, lines_of, words_of}

-- what `position` found
pub record IsFirstPlace (p : ℕ → Bool) (xs : List ℕ) (at : ℕ) : Type 0 where
  pub place : at ≡ position_or_len p xs
  pub within : at < length xs

pub found_first : (p : ℕ → Bool) (xs : List ℕ) (at : ℕ) → position p xs ≡ Some at → IsFirstPlace p xs at
found_first p xs at e = found (nat_lt (position_or_len p xs) (length xs)) refl e
  where
    found : (b : Bool) → nat_lt (position_or_len p xs) (length xs) ≡ b → cond b (Some (position_or_len p xs)) None ≡ Some at → IsFirstPlace p xs at
    found true t e = record { place = cc; within = let same : position_or_len p xs ≡ at = cc in grind (arith, nat_tests) }
    found false t e = absurd cc

pub found_none : (p : ℕ → Bool) (xs : List ℕ) → position p xs ≡ None → position_or_len p xs ≡ length xs
found_none p xs e = found (nat_lt (position_or_len p xs) (length xs)) refl e
  where
    found : (b : Bool) → nat_lt (position_or_len p xs) (length xs) ≡ b → cond b (Some (position_or_len p xs)) None ≡ None → position_or_len p xs ≡ length xs
    found true t e = absurd cc
    found false t e = let most = prefix_len-le-length (λ x. not (p x)) xs in grind (arith, nat_tests)

-- a list without such an element is one part
one_part : (p : ℕ → Bool) (xs : List ℕ) → position p xs ≡ None → slice_split p xs ≡ xs ∷ []
one_part p xs e =
    let len = found_none p xs e in slice_split_none p xs (λ k d lt. fails_before_first p xs k d (omega arith))

two_parts : (p : ℕ → Bool) (xs : List ℕ) (at : ℕ) → position p xs ≡ Some at → slice_split p xs ≡ take at xs ∷ slice_split p (drop (at + 1) xs)
two_parts p xs at e =
    let first = found_first p xs at e in rw first.place (slice_split_first p xs 0 (omega arith))

not_empty : (line : List ℕ) (parts : List (List ℕ)) → 0 < length parts → without_empty_rest (line ∷ parts) ≡ line ∷ without_empty_rest parts
not_empty line [] some = absurd (omega arith)
not_empty line (part ∷ parts) some = refl

-- a text whose first line ends with LF
pub ended_line : (text : List ℕ) (end : ℕ) → position is_line_end text ≡ Some end → lines_of text ≡ take end text ∷ lines_of (drop (end + 1) text)
ended_line text end e =
    let rest = drop (end + 1) text in
    ap without_empty_rest (two_parts is_line_end text end e)
    ∙ not_empty (take end text) (slice_split is_line_end rest) (omega (arith, length-slice_split is_line_end rest))

nonempty_rest : (text : List ℕ) → 0 < length text → without_empty_rest (text ∷ []) ≡ text ∷ []
nonempty_rest [] some = absurd (omega arith)
nonempty_rest (byte ∷ more) some = refl

-- a text of one line without LF
pub last_line : (text : List ℕ) → position is_line_end text ≡ None → 0 < length text → lines_of text ≡ text ∷ lines_of []
last_line text e some = ap without_empty_rest (one_part is_line_end text e) ∙ nonempty_rest text some

-- the first place or the length, as the code takes it
pub or_length : (p : ℕ → Bool) (xs : List ℕ) → unwrap_or (position p xs) (length xs) ≡ position_or_len p xs
or_length p xs = found (nat_lt (position_or_len p xs) (length xs)) refl
  where
    found : (b : Bool) → nat_lt (position_or_len p xs) (length xs) ≡ b
        → unwrap_or (cond (nat_lt (position_or_len p xs) (length xs)) (Some (position_or_len p xs)) None) (length xs) ≡ position_or_len p xs
    found true t = rw t refl
    found false t = rw t (let most = prefix_len-le-length (λ x. not (p x)) xs in grind (arith, nat_tests))

-- the first of a line's parts between blanks
abbrev first_part : List (List ℕ) → List ℕ
first_part [] = []
first_part (part ∷ parts) = part

-- the words among the others
abbrev later_words : List (List ℕ) → List (List ℕ)
later_words [] = []
later_words (part ∷ parts) = filter is_nonempty parts

onto_words : (byte : ℕ) (parts : List (List ℕ)) → filter is_nonempty (onto_first byte parts) ≡ (byte ∷ first_part parts) ∷ later_words parts
onto_words byte [] = refl
onto_words byte (part ∷ parts) = refl

first_onto : (byte : ℕ) (parts : List (List ℕ)) → first_part (onto_first byte parts) ≡ byte ∷ first_part parts
first_onto byte [] = refl
first_onto byte (part ∷ parts) = refl

later_onto : (byte : ℕ) (parts : List (List ℕ)) → later_words (onto_first byte parts) ≡ later_words parts
later_onto byte [] = refl
later_onto byte (part ∷ parts) = refl

-- a line's first part ends at its first blank, and the other words stand behind it
record Cut (line : List ℕ) : Type 0 where
  pub first : first_part (slice_split is_blank line) ≡ take (position_or_len is_blank line) line
  pub later : later_words (slice_split is_blank line) ≡ words_of (drop (position_or_len is_blank line) line)

words_blank : (byte : ℕ) (more : List ℕ) → is_blank byte ≡ true → words_of (byte ∷ more) ≡ words_of more
words_blank byte more e = ap (filter is_nonempty) (slice_split-cons_yes is_blank byte more e)

cut : (line : List ℕ) → Cut line
cut [] = record { first = refl; later = refl }
cut (byte ∷ more) = step (is_blank byte) refl (cut more)
  where
    step : (blank : Bool) → is_blank byte ≡ blank → Cut more → Cut (byte ∷ more)
    step true e before = record { first = rw e refl; later = rw e (sym (words_blank byte more e)) }
    step false e before =
        let on : 1 + position_or_len is_blank more ≡ suc (position_or_len is_blank more) = omega arith in
        record {
          first = rw (e, on) (first_onto byte (slice_split is_blank more) ∙ ap (λ word. byte ∷ word) before.first);
          later = rw (e, on) (later_onto byte (slice_split is_blank more) ∙ before.later);
        }

-- a line that begins with no blank begins with its first word
first_word : (byte : ℕ) (more : List ℕ) → is_blank byte ≡ false
    → words_of (byte ∷ more)
    ≡ take (position_or_len is_blank (byte ∷ more)) (byte ∷ more) ∷ words_of (drop (position_or_len is_blank (byte ∷ more)) (byte ∷ more))
first_word byte more e =
    let on : 1 + position_or_len is_blank more ≡ suc (position_or_len is_blank more) = omega arith in
    rw (e, on) (onto_words byte (slice_split is_blank more) ∙ rw ((cut more).first, (cut more).later) refl)

abbrev is_letter : ℕ → Bool
is_letter byte = not (is_blank byte)

-- blanks before the first word add nothing
without_blanks : (line : List ℕ) → words_of (drop (position_or_len is_letter line) line) ≡ words_of line
without_blanks [] = refl
without_blanks (byte ∷ more) = step (is_blank byte) refl (without_blanks more)
  where
    step : (blank : Bool) → is_blank byte ≡ blank → words_of (drop (position_or_len is_letter more) more) ≡ words_of more
        → words_of (drop (position_or_len is_letter (byte ∷ more)) (byte ∷ more)) ≡ words_of (byte ∷ more)
    step true e before =
        let on : 1 + position_or_len is_letter more ≡ suc (position_or_len is_letter more) = omega arith in rw (e, on) before
    step false e before = rw e (ap (filter is_nonempty) (slice_split-cons_no is_blank byte more e))

pub no_word : (line : List ℕ) → position is_letter line ≡ None → words_of line ≡ []
no_word line e =
    sym (without_blanks line) ∙ ap (λ at. words_of (drop at line)) (found_none is_letter line e) ∙ ap words_of (drop_all (length line) line (omega arith))

is_no_blank : (blank : Bool) → not blank ≡ true → blank ≡ false
is_no_blank true e = absurd cc
is_no_blank false e = refl

word_here : (word : List ℕ) (byte : ℕ) (more : List ℕ) → word ≡ byte ∷ more → is_blank byte ≡ false
    → words_of word ≡ take (position_or_len is_blank word) word ∷ words_of (drop (position_or_len is_blank word) word)
word_here word byte more e letter = rw e (first_word byte more letter)

pub some_word : (line : List ℕ) (start : ℕ) → position is_letter line ≡ Some start
    → (let word : List ℕ = drop start line in words_of line ≡ take (position_or_len is_blank word) word ∷ words_of (drop (position_or_len is_blank word) word))
some_word line start e =
    let first = found_first is_letter line start e in
    let letter : is_letter (get_or line start 0) ≡ true = rw first.place (passes_at_first is_letter line 0 (omega arith)) in
    let same : words_of (drop start line) ≡ words_of line = rw first.place (without_blanks line) in
    sym same ∙ word_here (drop start line) (get_or line start 0) (drop (start + 1) line) (drop_more line start 0 first.within) (is_no_blank _ letter)
