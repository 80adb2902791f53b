-- What a line means by its words is what the reader makes of it byte by byte.
use Rattle.std.proofs.Common.{ℕ, suc, ◌+◌, ◌-◌, ◌*◌, ◌^◌, ◌≤◌, ◌≡◌, Bool, true, false, ◌&&◌, List, [], ◌∷◌, length, Option, Some, None, refl, ap, sym, ◌∙◌, arith}
use Rattle.std.specs.Prelude.{◌==◌, nat_lt, nat_le, if◌then◌else◌}
use Rattle.std.specs.List.{slice_split, onto_first, filter, fold, list_all}
use Rattle.std.specs.Char.{is_ascii_digit, digit_value}
use Rattle.std.specs.Str.Parse.{digits_value, digits_value_after}
use Rattle.std.proofs.lemmas.Bool.Decides.{nat_tests}
use Rattle.gm_base.specs.declared.limits.TheConstants.{MAX_DIGITS, TOP}
use Rattle.gm_text.specs.Texts.{is_blank, is_nonempty, number_in}
use Rattle.gm_edges.specs.declared.line_state.LineState.{LineState}
use Rattle.gm_edges.specs.declared.line_state.WordPlace.{WordPlace}
use Rattle.gm_edges.specs.declared.line_state.WordPlace.TheVariants.{First, Second, Third, Full, Comment, Bad}
use Rattle.gm_edges.specs.declared.line_state.Meaning.{Meaning}
use Rattle.gm_edges.specs.declared.line_state.Meaning.TheVariants.{Nothing, Lists, Refused}
use Rattle.gm_edges.specs.LineStates.{after_word, line_at, line_after, after_blank, after_digit, after_other, meaning_at, meaning_at_end}
use Rattle.gm_edges.specs.EdgeText.{cons_number, numbers_in, meaning_of_numbers, meaning_of_words, meaning_of}

-- a digit that a word of so many digits and this value can take
abbrev takes_digit : ℕ → ℕ → ℕ → Bool
takes_digit digits value digit = nat_lt digits MAX_DIGITS && nat_le (value * 10 + digit) TOP

-- the number of a word that begins with so many digits of this value and goes on with these bytes
abbrev number_after : ℕ → ℕ → List ℕ → Option ℕ
number_after digits value [] = Some value
number_after digits value (byte ∷ more) =
    if is_ascii_digit byte
    then (if takes_digit digits value (byte - 48) then number_after (digits + 1) (value * 10 + (byte - 48)) more else None)
    else None

-- the same, with all digits looked at first
abbrev number_at_once : ℕ → ℕ → List ℕ → Option ℕ
number_at_once digits value word =
    if list_all is_ascii_digit word && (nat_le (digits + length word) MAX_DIGITS && nat_le (digits_value_after 10 value word) TOP)
    then Some (digits_value_after 10 value word) else None

digit_is : (byte : ℕ) → is_ascii_digit byte ≡ true → digit_value byte ≡ byte - 48
digit_is byte h = grind (arith, nat_tests)

grows : (value : ℕ) (word : List ℕ) → value ≤ digits_value_after 10 value word
grows value [] = omega arith
grows value (byte ∷ more) = omega (arith, grows (value * 10 + digit_value byte) more)

took_few : (digits value : ℕ) → (nat_lt digits MAX_DIGITS && nat_le value TOP) ≡ true → digits + 1 ≤ MAX_DIGITS
took_few digits value h = grind (arith, nat_tests)

took_small : (digits value : ℕ) → (nat_lt digits MAX_DIGITS && nat_le value TOP) ≡ true → value ≤ TOP
took_small digits value h = grind (arith, nat_tests)

-- a word that can't take the next digit is no number, however it goes on
took_none : (digits value count total : ℕ) (all : Bool) → (nat_lt digits MAX_DIGITS && nat_le value TOP) ≡ false → value ≤ total
    → None ≡ (if all && (nat_le (digits + suc count) MAX_DIGITS && nat_le total TOP) then Some total else None)
took_none digits value count total false h grown = refl
took_none digits value count total true h grown = grind (arith, nat_tests)

same_number : (digits value : ℕ) (word : List ℕ) → digits ≤ MAX_DIGITS → value ≤ TOP → number_after digits value word ≡ number_at_once digits value word
same_number digits value [] few small = grind (arith, nat_tests)
same_number digits value (byte ∷ more) few small =
    same_step (is_ascii_digit byte) (takes_digit digits value (byte - 48)) digits value byte more refl refl
    (same_number (digits + 1) (value * 10 + (byte - 48)) more)
  where
    same_step : (is_digit takes : Bool) (digits value byte : ℕ) (more : List ℕ) → is_ascii_digit byte ≡ is_digit → takes_digit digits value (byte - 48) ≡ takes
        → (digits + 1 ≤ MAX_DIGITS → value * 10 + (byte - 48) ≤ TOP → number_after (digits + 1) (value * 10 + (byte - 48)) more ≡ number_at_once (digits + 1) (value * 10 + (byte - 48)) more)
        → number_after digits value (byte ∷ more) ≡ number_at_once digits value (byte ∷ more)
    same_step false takes digits value byte more d t ih = rw d refl
    same_step true false digits value byte more d t ih =
        rw (d, t) (rw (digit_is byte d) (took_none digits (value * 10 + (byte - 48)) (length more) _ (list_all is_ascii_digit more) t (grows _ more)))
    same_step true true digits value byte more d t ih =
        let e : digits + suc (length more) ≡ digits + 1 + length more = omega arith in
        rw (d, t) (rw (digit_is byte d, e) (ih (took_few _ _ t) (took_small _ _ t)))

same_tests : (count total : ℕ) (all : Bool)
    → (if (nat_le 1 (suc count) && nat_le (suc count) MAX_DIGITS && all) && nat_le total TOP then Some total else None)
    ≡ (if all && (nat_le (0 + suc count) MAX_DIGITS && nat_le total TOP) then Some total else None)
same_tests count total false = grind (arith, nat_tests)
same_tests count total true = grind (arith, nat_tests)

-- a word of a first byte and more is a number as its bytes say one by one
same_number_in : (byte : ℕ) (more : List ℕ) → number_in (byte ∷ more) ≡ number_after 0 0 (byte ∷ more)
same_number_in byte more = same_tests (length more) (digits_value 10 (byte ∷ more)) (list_all is_ascii_digit (byte ∷ more)) ∙ sym (same_number 0 0 (byte ∷ more) (omega arith) (omega arith))

-- the numbers of the parts of a line, of which the first goes on in a word with so many digits and this value
abbrev word_then : ℕ → ℕ → List ℕ → Option (List ℕ) → Option (List ℕ)
word_then digits value [] numbers = if digits == 0 then numbers else cons_number (Some value) numbers
word_then digits value (byte ∷ more) numbers = cons_number (number_after digits value (byte ∷ more)) numbers

abbrev numbers_after : ℕ → ℕ → List (List ℕ) → Option (List ℕ)
numbers_after digits value [] = word_then digits value [] (Some [])
numbers_after digits value (part ∷ parts) = word_then digits value part (numbers_in (filter is_nonempty parts))

fresh_numbers : (parts : List (List ℕ)) → numbers_after 0 0 parts ≡ numbers_in (filter is_nonempty parts)
fresh_numbers [] = refl
fresh_numbers ([] ∷ parts) = refl
fresh_numbers ((byte ∷ more) ∷ parts) = ap (λ n. cons_number n (numbers_in (filter is_nonempty parts))) (sym (same_number_in byte more))

-- what a line means that is at this place, and goes on with these parts
abbrev full_meaning : LineState → List (List ℕ) → Meaning
full_meaning line [] = Lists line.first line.second line.weight
full_meaning line (word ∷ more) = Refused

abbrev meaning_after : WordPlace → LineState → List (List ℕ) → Meaning
meaning_after First line parts =
    if line.digits == 0 then meaning_of_words (filter is_nonempty parts) else meaning_of_numbers (numbers_after line.digits line.value parts)
meaning_after Second line parts = meaning_of_numbers (cons_number (Some line.first) (numbers_after line.digits line.value parts))
meaning_after Third line parts =
    meaning_of_numbers (cons_number (Some line.first) (cons_number (Some line.second) (numbers_after line.digits line.value parts)))
meaning_after Full line parts = full_meaning line (filter is_nonempty parts)
meaning_after Comment line parts = Nothing
meaning_after Bad line parts = Refused

abbrev meaning_with : LineState → List (List ℕ) → Meaning
meaning_with line parts = meaning_after line.place line parts

-- no digit, no value
abbrev IsClean : LineState → Type 0
IsClean line = line.digits ≡ 0 → line.value ≡ 0

abbrev line_by_parts : WordPlace → ℕ → ℕ → ℕ → ℕ → ℕ → LineState
line_by_parts place digits value first second weight =
    record { place = place; digits = digits; value = value; first = first; second = second; weight = weight }

-- two numbers and more: with a third that is a weight the line is full, and with another it is refused
third_number : (is_weight : Bool) (first second value : ℕ) (words : List (List ℕ)) → nat_lt value (2 ^ 32) ≡ is_weight
    → meaning_of_numbers (cons_number (Some first) (cons_number (Some second) (cons_number (Some value) (numbers_in words))))
    ≡ (if is_weight then full_meaning (line_by_parts Full 0 0 first second value) words else Refused)
third_number true first second value [] w = rw w refl
third_number false first second value [] w = rw w refl
third_number is_weight first second value (word ∷ words) w = longer (number_in word) (numbers_in words) is_weight
  where
    longer : (number : Option ℕ) (numbers : Option (List ℕ)) (is_weight : Bool)
        → meaning_of_numbers (cons_number (Some first) (cons_number (Some second) (cons_number (Some value) (cons_number number numbers))))
        ≡ (if is_weight then Refused else Refused)
    longer None numbers true = refl
    longer None numbers false = refl
    longer (Some number) None true = refl
    longer (Some number) None false = refl
    longer (Some number) (Some numbers) true = refl
    longer (Some number) (Some numbers) false = refl

third_step : (is_weight : Bool) (first second value weight : ℕ) (parts : List (List ℕ)) → nat_lt value (2 ^ 32) ≡ is_weight
    → meaning_of_numbers (cons_number (Some first) (cons_number (Some second) (cons_number (Some value) (numbers_in (filter is_nonempty parts)))))
    ≡ meaning_with (if nat_lt value (2 ^ 32) then line_by_parts Full 0 0 first second value else line_at Bad) parts
third_step true first second value weight parts w = third_number true first second value (filter is_nonempty parts) w ∙ rw w refl
third_step false first second value weight parts w = third_number false first second value (filter is_nonempty parts) w ∙ rw w refl

-- a blank ends the present word
blank_step : (line : LineState) (parts : List (List ℕ)) → IsClean line → meaning_with line ([] ∷ parts) ≡ meaning_with (after_blank line) parts
blank_step line parts clean = at (line.digits == 0) line.place line.digits line.value line.first line.second line.weight refl clean
  where
    at : (none : Bool) (place : WordPlace) (digits value first second weight : ℕ) → (digits == 0) ≡ none → (digits ≡ 0 → value ≡ 0)
        → meaning_with (line_by_parts place digits value first second weight) ([] ∷ parts) ≡ meaning_with (after_blank (line_by_parts place digits value first second weight)) parts
    at true First digits value first second weight e clean = rw (e, e) refl
    at true Second digits value first second weight e clean =
        let none : digits ≡ 0 = grind (arith, nat_tests) in
        rw (e, none, clean none) (ap (λ numbers. meaning_of_numbers (cons_number (Some first) numbers)) (sym (fresh_numbers parts)))
    at true Third digits value first second weight e clean =
        let none : digits ≡ 0 = grind (arith, nat_tests) in
        rw (e, none, clean none) (ap (λ numbers. meaning_of_numbers (cons_number (Some first) (cons_number (Some second) numbers))) (sym (fresh_numbers parts)))
    at false First digits value first second weight e clean =
        rw e (ap (λ numbers. meaning_of_numbers (cons_number (Some value) numbers)) (sym (fresh_numbers parts)))
    at false Second digits value first second weight e clean =
        rw e (ap (λ numbers. meaning_of_numbers (cons_number (Some first) (cons_number (Some value) numbers))) (sym (fresh_numbers parts)))
    at false Third digits value first second weight e clean =
        rw e (third_step (nat_lt value (2 ^ 32)) first second value weight parts refl)
    at true Full digits value first second weight e clean = rw e refl
    at true Comment digits value first second weight e clean = rw e refl
    at true Bad digits value first second weight e clean = rw e refl
    at false Full digits value first second weight e clean = rw e refl
    at false Comment digits value first second weight e clean = rw e refl
    at false Bad digits value first second weight e clean = rw e refl

third_end : (is_weight : Bool) (first second value weight : ℕ) → nat_lt value (2 ^ 32) ≡ is_weight
    → (let line : LineState = if nat_lt value (2 ^ 32) then line_by_parts Full 0 0 first second value else line_at Bad in meaning_at line.place line)
    ≡ (if nat_lt value (2 ^ 32) then Lists first second value else Refused)
third_end true first second value weight w = simp w
third_end false first second value weight w = simp w

-- the line ends
at_end : (line : LineState) → meaning_at_end line ≡ meaning_with line ([] ∷ [])
at_end line = at (line.digits == 0) line.place line.digits line.value line.first line.second line.weight refl
  where
    at : (none : Bool) (place : WordPlace) (digits value first second weight : ℕ) → (digits == 0) ≡ none
        → meaning_at_end (line_by_parts place digits value first second weight) ≡ meaning_with (line_by_parts place digits value first second weight) ([] ∷ [])
    at true First digits value first second weight e = simp e
    at true Second digits value first second weight e = simp e
    at true Third digits value first second weight e = simp e
    at false First digits value first second weight e = simp e
    at false Second digits value first second weight e = simp e
    at false Third digits value first second weight e = simp e (third_end (nat_lt value (2 ^ 32)) first second value weight refl)
    at true Full digits value first second weight e = simp e
    at true Comment digits value first second weight e = simp e
    at true Bad digits value first second weight e = simp e
    at false Full digits value first second weight e = simp e
    at false Comment digits value first second weight e = simp e
    at false Bad digits value first second weight e = simp e

some_digits : (digits : ℕ) → (digits + 1 == 0) ≡ false
some_digits digits = grind (arith, nat_tests)

-- a digit of the present word
digit_numbers : (takes : Bool) (digits value byte : ℕ) (parts : List (List ℕ)) → is_ascii_digit byte ≡ true → takes_digit digits value (byte - 48) ≡ takes
    → numbers_after digits value (onto_first byte parts)
    ≡ (if takes then numbers_after (digits + 1) (value * 10 + (byte - 48)) parts else None)
digit_numbers true digits value byte [] d t = rw (d, t, some_digits digits) refl
digit_numbers true digits value byte ([] ∷ parts) d t = rw (d, t, some_digits digits) refl
digit_numbers true digits value byte ((next ∷ more) ∷ parts) d t = rw (d, t) refl
digit_numbers false digits value byte [] d t = rw (d, t) refl
digit_numbers false digits value byte ([] ∷ parts) d t = rw (d, t) refl
digit_numbers false digits value byte ((next ∷ more) ∷ parts) d t = rw (d, t) refl

-- a first word that begins with a digit begins no comment
digit_words : (byte : ℕ) (parts : List (List ℕ)) → is_ascii_digit byte ≡ true
    → meaning_of_words (filter is_nonempty (onto_first byte parts)) ≡ meaning_of_numbers (numbers_after 0 0 (onto_first byte parts))
digit_words byte [] d =
    let letter : (byte == 35) ≡ false = grind (arith, nat_tests) in rw letter (ap (λ n. meaning_of_numbers (cons_number n (Some []))) (same_number_in byte []))
digit_words byte (part ∷ parts) d =
    let letter : (byte == 35) ≡ false = grind (arith, nat_tests) in
    rw letter (ap (λ n. meaning_of_numbers (cons_number n (numbers_in (filter is_nonempty parts)))) (same_number_in byte part))

digit_step : (line : LineState) (byte : ℕ) (parts : List (List ℕ)) → IsClean line → is_ascii_digit byte ≡ true
    → meaning_with line (onto_first byte parts) ≡ meaning_with (after_digit line.place line (byte - 48)) parts
digit_step line byte parts clean d =
    at (takes_digit line.digits line.value (byte - 48)) line.place line.digits line.value line.first line.second line.weight parts clean refl
  where
    full : (first second weight : ℕ) (parts : List (List ℕ)) → full_meaning (line_by_parts Full 0 0 first second weight) (filter is_nonempty (onto_first byte parts)) ≡ Refused
    full first second weight [] = refl
    full first second weight (part ∷ parts) = refl

    begun : (none : Bool) (digits value : ℕ) (parts : List (List ℕ)) → (digits ≡ 0 → value ≡ 0) → (digits == 0) ≡ none
        → (if digits == 0 then meaning_of_words (filter is_nonempty (onto_first byte parts)) else meaning_of_numbers (numbers_after digits value (onto_first byte parts)))
        ≡ meaning_of_numbers (numbers_after digits value (onto_first byte parts))
    begun true digits value parts clean e =
        let none : digits ≡ 0 = grind (arith, nat_tests) in rw (e, none, clean none) (digit_words byte parts d)
    begun false digits value parts clean e = rw e refl

    at : (takes : Bool) (place : WordPlace) (digits value first second weight : ℕ) (parts : List (List ℕ)) → (digits ≡ 0 → value ≡ 0)
        → takes_digit digits value (byte - 48) ≡ takes
        → meaning_with (line_by_parts place digits value first second weight) (onto_first byte parts)
        ≡ meaning_with (after_digit place (line_by_parts place digits value first second weight) (byte - 48)) parts
    at true First digits value first second weight parts clean t =
        begun (digits == 0) digits value parts clean refl ∙ rw (digit_numbers true digits value byte parts d t, t, some_digits digits) refl
    at false First digits value first second weight parts clean t =
        begun (digits == 0) digits value parts clean refl ∙ rw (digit_numbers false digits value byte parts d t, t) refl
    at true Second digits value first second weight parts clean t = rw (digit_numbers true digits value byte parts d t, t) refl
    at false Second digits value first second weight parts clean t = rw (digit_numbers false digits value byte parts d t, t) refl
    at true Third digits value first second weight parts clean t = rw (digit_numbers true digits value byte parts d t, t) refl
    at false Third digits value first second weight parts clean t = rw (digit_numbers false digits value byte parts d t, t) refl
    at takes Full digits value first second weight parts clean t = full first second weight parts
    at takes Comment digits value first second weight parts clean t = refl
    at takes Bad digits value first second weight parts clean t = refl

-- a byte of a word that is no digit
other_numbers : (digits value byte : ℕ) (parts : List (List ℕ)) → is_ascii_digit byte ≡ false → numbers_after digits value (onto_first byte parts) ≡ None
other_numbers digits value byte [] d = rw d refl
other_numbers digits value byte (part ∷ parts) d = rw d refl

other_words : (comment : Bool) (byte : ℕ) (parts : List (List ℕ)) → is_ascii_digit byte ≡ false → (byte == 35) ≡ comment
    → meaning_of_words (filter is_nonempty (onto_first byte parts)) ≡ (if comment then Nothing else Refused)
other_words true byte [] d e = rw e refl
other_words true byte (part ∷ parts) d e = rw e refl
other_words false byte [] d e = rw (e, same_number_in byte [], d) refl
other_words false byte (part ∷ parts) d e = rw (e, same_number_in byte part, d) refl

other_step : (line : LineState) (byte : ℕ) (parts : List (List ℕ)) → is_ascii_digit byte ≡ false
    → meaning_with line (onto_first byte parts) ≡ meaning_with (after_other line.place line byte) parts
other_step line byte parts d = at (line.digits == 0) (byte == 35) line.place line.digits line.value line.first line.second line.weight parts refl refl
  where
    full : (first second weight : ℕ) (parts : List (List ℕ)) → full_meaning (line_by_parts Full 0 0 first second weight) (filter is_nonempty (onto_first byte parts)) ≡ Refused
    full first second weight [] = refl
    full first second weight (part ∷ parts) = refl

    at : (none comment : Bool) (place : WordPlace) (digits value first second weight : ℕ) (parts : List (List ℕ)) → (digits == 0) ≡ none → (byte == 35) ≡ comment
        → meaning_with (line_by_parts place digits value first second weight) (onto_first byte parts)
        ≡ meaning_with (after_other place (line_by_parts place digits value first second weight) byte) parts
    at true true First digits value first second weight parts e h = simp (e, h, other_words true byte parts d h)
    at true false First digits value first second weight parts e h = simp (e, h, other_words false byte parts d h)
    at false comment First digits value first second weight parts e h = simp (e, other_numbers digits value byte parts d)
    at none comment Second digits value first second weight parts e h = simp (other_numbers digits value byte parts d)
    at none comment Third digits value first second weight parts e h = simp (other_numbers digits value byte parts d)
    at none comment Full digits value first second weight parts e h = full first second weight parts
    at none comment Comment digits value first second weight parts e h = refl
    at none comment Bad digits value first second weight parts e h = refl

-- a line keeps clean
clean_digit : (takes : Bool) (place : WordPlace) (digits value first second weight digit : ℕ) → (digits ≡ 0 → value ≡ 0) → takes_digit digits value digit ≡ takes
    → IsClean (after_digit place (line_by_parts place digits value first second weight) digit)
clean_digit true First digits value first second weight digit clean t = rw t (λ (e : digits + 1 ≡ 0). absurd (omega arith))
clean_digit true Second digits value first second weight digit clean t = rw t (λ (e : digits + 1 ≡ 0). absurd (omega arith))
clean_digit true Third digits value first second weight digit clean t = rw t (λ (e : digits + 1 ≡ 0). absurd (omega arith))
clean_digit false First digits value first second weight digit clean t = rw t (λ _. refl)
clean_digit false Second digits value first second weight digit clean t = rw t (λ _. refl)
clean_digit false Third digits value first second weight digit clean t = rw t (λ _. refl)
clean_digit takes Full digits value first second weight digit clean t = λ _. refl
clean_digit takes Comment digits value first second weight digit clean t = clean
clean_digit takes Bad digits value first second weight digit clean t = clean

clean_word : (is_weight : Bool) (place : WordPlace) (digits value first second weight : ℕ) → (digits ≡ 0 → value ≡ 0) → nat_lt value (2 ^ 32) ≡ is_weight
    → IsClean (after_word place (line_by_parts place digits value first second weight))
clean_word is_weight First digits value first second weight clean w = λ _. refl
clean_word is_weight Second digits value first second weight clean w = λ _. refl
clean_word true Third digits value first second weight clean w = rw w (λ _. refl)
clean_word false Third digits value first second weight clean w = rw w (λ _. refl)
clean_word is_weight Full digits value first second weight clean w = clean
clean_word is_weight Comment digits value first second weight clean w = clean
clean_word is_weight Bad digits value first second weight clean w = clean

clean_blank : (none : Bool) (line : LineState) → IsClean line → (line.digits == 0) ≡ none → IsClean (after_blank line)
clean_blank true line clean e = rw e clean
clean_blank false line clean e =
    rw e (clean_word (nat_lt line.value (2 ^ 32)) line.place line.digits line.value line.first line.second line.weight clean refl)

clean_other : (begins : Bool) (place : WordPlace) (line : LineState) (byte : ℕ) → IsClean line → ((line.digits == 0) && (byte == 35)) ≡ begins
    → IsClean (after_other place line byte)
clean_other true First line byte clean e = rw e (λ _. refl)
clean_other false First line byte clean e = rw e (λ _. refl)
clean_other begins Second line byte clean e = λ _. refl
clean_other begins Third line byte clean e = λ _. refl
clean_other begins Full line byte clean e = λ _. refl
clean_other begins Comment line byte clean e = clean
clean_other begins Bad line byte clean e = λ _. refl

stays_clean : (digit blank : Bool) (line : LineState) (byte : ℕ) → IsClean line → is_ascii_digit byte ≡ digit → is_blank byte ≡ blank → IsClean (line_after line byte)
stays_clean true blank line byte clean d b =
    rw d (clean_digit (takes_digit line.digits line.value (byte - 48)) line.place line.digits line.value line.first line.second line.weight (byte - 48) clean refl)
stays_clean false true line byte clean d b = rw (d, b) (clean_blank (line.digits == 0) line clean refl)
stays_clean false false line byte clean d b = rw (d, b) (clean_other ((line.digits == 0) && (byte == 35)) line.place line byte clean refl)

-- a byte that is no line end
byte_step : (digit blank : Bool) (line : LineState) (byte : ℕ) (parts : List (List ℕ)) → IsClean line → is_ascii_digit byte ≡ digit → is_blank byte ≡ blank
    → meaning_with (line_after line byte) parts ≡ meaning_with line (if is_blank byte then [] ∷ parts else onto_first byte parts)
byte_step true true line byte parts clean d b = absurd (grind (arith, nat_tests))
byte_step true false line byte parts clean d b = rw (d, b) (sym (digit_step line byte parts clean d))
byte_step false true line byte parts clean d b = rw (d, b) (sym (blank_step line parts clean))
byte_step false false line byte parts clean d b = rw (d, b) (sym (other_step line byte parts d))

-- what a line means that goes on with these bytes
line_law : (line : LineState) (bytes : List ℕ) → IsClean line → meaning_at_end (fold line_after line bytes) ≡ meaning_with line (slice_split is_blank bytes)
line_law line [] clean = at_end line
line_law line (byte ∷ bytes) clean =
    line_law (line_after line byte) bytes (stays_clean (is_ascii_digit byte) (is_blank byte) line byte clean refl refl)
    ∙ byte_step (is_ascii_digit byte) (is_blank byte) line byte (slice_split is_blank bytes) clean refl refl

-- what the reader makes of a line is what the line means
pub line_means : (line : List ℕ) → meaning_at_end (fold line_after (line_at First) line) ≡ meaning_of line
line_means line = line_law (line_at First) line (λ _. refl)
