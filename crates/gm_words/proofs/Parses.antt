-- What the program's parser makes of plain words.
use Rattle.std.proofs.Common.{◌≡◌, ◌∙◌, Bool, codes, true, false, refl, sym, ap, ap₂, List, [], ◌∷◌, Option, Some, None, is_some, option_and_then, true≢false, subst, inl, inr}
use Rattle.std.specs.List.{list_all}
use Rattle.clap.specs.Walk.{Row, Text, Walk, finished, nothing_held, settled, walk_from, walked, idle, subcommand_met}
use Rattle.clap.specs.Simple.{App, Shape, built, built_leaf, entered, inherited, is_simple, names_of, subcommand_of}
use Rattle.clap.specs.Kinds.{HasKind, Kinds, or_else}
use Rattle.clap.specs.Faults.{check_fault, defaults_fault, entered_fault, fault_of, is_simple_and_free, level_fault, settle_fault, step_fault, turn_fault, walk_fault}
use Rattle.std.specs.Box.{box_value}
use Rattle.std.specs.Prelude.{Box, fold, bytes_eq, if◌then◌else◌, option_map}
use Rattle.clap.specs.Words.{HasMatchesOf, found_of, has_subcommand, kind_of, rows_of, subcommand_name_of, subcommand_rows, subcommand_rows_of}
use Rattle.clap.specs.declared.parser.matches.ArgMatches.{ArgMatches}
use Rattle.clap.specs.declared.parser.matches.ArgMatches.TheViews.{out-ArgMatches, out-SubCommand}
use Rattle.clap.specs.declared.parser.matches.SubCommand.{SubCommand}
use Rattle.clap.specs.declared.error.Error.{Error}
use Rattle.clap.specs.declared.error.kind.ErrorKind.TheVariants.{OutOfMemory}
use Rattle.clap.proofs.WalkLemmas.{walk_stopped}
use Rattle.clap.proofs.FaultLemmas.{stopped_fault}
use Rattle.gm_words.specs.Commands.{Command, is_plain, command_of, command_from, run_from, build_from, info_from}
use Rattle.gm_words.specs.Usage.{build_app, command_in, info_app, no_commands, program, run_app}
use Rattle.gm_words.proofs.Walks.{both, level_plain, met_plain, passed_plain, plain_end, plain_fault, plain_level, rows_plain}
use Rattle.gm_words.proofs.Names as n

-- whether there is no kind of fault
abbrev is_nil : Kinds → Bool
is_nil [] = true
is_nil (k ∷ ks) = false

-- a command's own part of the parse
abbrev leaf_of : App → Shape
leaf_of a = built_leaf (inherited no_commands.top a.top)

abbrev four_words : List Text → Bool
four_words (a ∷ b ∷ c ∷ d ∷ []) = true
four_words words = false

abbrev two_words : List Text → Bool
two_words (a ∷ b ∷ []) = true
two_words words = false

-- as many words as the command of this name shows
abbrev counts_fit : Text → List Text → Bool
counts_fit name words =
    if bytes_eq name (codes "run") then four_words words
    else if bytes_eq name (codes "build") then four_words words
    else if bytes_eq name (codes "info") then two_words words
    else false

-- a command's name, and as many words as it shows
unfoldable fits : List Text → Bool
fits [] = false
fits (name ∷ words) = counts_fit name words

-- ---- from the program's words to a command's

-- the kinds of the walk over the program's own words, and what comes after it
abbrev after_walk : App → Kinds → Walk → Kinds
after_walk a kinds w = or_else kinds (or_else (entered_fault a w.stopped)
    (or_else (settle_fault a.top.rules a.top.args_override_self w.held)
    (or_else (defaults_fault (settled a.top.rules w.held).rows a.top.rules)
    (check_fault a.top (finished a.top.rules w.held) (is_some (entered a w.stopped))))))

-- the walk that stopped at a command's name, with the words behind it
abbrev stopped_at : Text → List Text → Walk
stopped_at name words = record (walk_from nothing_held) { stopped = Some (name, words) }

-- behind the name the words are gathered, each as it is ..
gathered : (name : Text) (words : List Text)
    → fold (walked (built program).top.rules (names_of (built program))) (stopped_at name []) words ≡ stopped_at name words
gathered name words = sym (walk_stopped (built program).top.rules (names_of (built program)) (walk_from nothing_held) name [] words)

-- .. and none of them is a fault of the program's own level
after_name : (name : Text) (words : List Text)
    → after_walk (built program) (walk_fault (built program).top (names_of (built program)) (stopped_at name []) words)
    (fold (walked (built program).top.rules (names_of (built program))) (stopped_at name []) words)
    ≡ after_walk (built program) [] (stopped_at name words)
after_name name words =
    ap₂ (after_walk (built program)) (stopped_fault (built program).top (names_of (built program)) (walk_from nothing_held) (name, []) words) (gathered name words)

nil_first : (kinds : Kinds) → is_nil (or_else kinds []) ≡ is_nil kinds
nil_first [] = refl
nil_first (k ∷ ks) = refl

own_level : (app : App) (words : List Text) → list_all is_plain words ≡ true
    → is_nil (or_else (level_fault (leaf_of app) [] nothing_held words false []) []) ≡ is_nil (plain_level (leaf_of app) words)
own_level app words plain = nil_first (level_fault (leaf_of app) [] nothing_held words false []) ∙ ap is_nil (level_plain (leaf_of app) words plain)

-- the command of the words that the parse placed
abbrev command_met : Option (Text × List Row) → Option Command
command_met stop = option_and_then (λ p. command_in p.0 p.1) stop

entered_at : (name : Text) (words : List Text)
    → entered (built program) (fold (walked (built program).top.rules (names_of (built program))) (stopped_at name []) words).stopped
    ≡ entered (built program) (Some (name, words))
entered_at name words = ap (λ (w : Walk). entered (built program) w.stopped) (gathered name words)

-- ---- lists of four words and of two

by_four : (P : List Text → Type 0) → P [] → ((a : Text) → P (a ∷ [])) → ((a b : Text) → P (a ∷ b ∷ [])) → ((a b c : Text) → P (a ∷ b ∷ c ∷ []))
    → ((a b c d : Text) → P (a ∷ b ∷ c ∷ d ∷ [])) → ((a b c d e : Text) (rest : List Text) → P (a ∷ b ∷ c ∷ d ∷ e ∷ rest)) → (words : List Text) → P words
by_four P none one two three four more [] = none
by_four P none one two three four more (a ∷ []) = one a
by_four P none one two three four more (a ∷ b ∷ []) = two a b
by_four P none one two three four more (a ∷ b ∷ c ∷ []) = three a b c
by_four P none one two three four more (a ∷ b ∷ c ∷ d ∷ []) = four a b c d
by_four P none one two three four more (a ∷ b ∷ c ∷ d ∷ e ∷ rest) = more a b c d e rest

where_four : (P : List Text → Type 0) → ((a b c d : Text) → P (a ∷ b ∷ c ∷ d ∷ [])) → (words : List Text) → four_words words ≡ true → P words
where_four P four =
    by_four (λ words. four_words words ≡ true → P words) (λ h. absurd (true≢false (sym h))) (λ a h. absurd (true≢false (sym h)))
    (λ a b h. absurd (true≢false (sym h))) (λ a b c h. absurd (true≢false (sym h))) (λ a b c d h. four a b c d)
    (λ a b c d e rest h. absurd (true≢false (sym h)))

by_two : (P : List Text → Type 0) → P [] → ((a : Text) → P (a ∷ [])) → ((a b : Text) → P (a ∷ b ∷ []))
    → ((a b c : Text) (rest : List Text) → P (a ∷ b ∷ c ∷ rest)) → (words : List Text) → P words
by_two P none one two more [] = none
by_two P none one two more (a ∷ []) = one a
by_two P none one two more (a ∷ b ∷ []) = two a b
by_two P none one two more (a ∷ b ∷ c ∷ rest) = more a b c rest

-- ---- `run` and `build`, which show four words each

abbrev CountsFour : App → List Text → Type 0
CountsFour app words = is_nil (plain_level (leaf_of app) words) ≡ four_words words

run_counts : (words : List Text) → CountsFour run_app words
unfolding plain_fault defaults_fault
run_counts = by_four (CountsFour run_app) refl (λ a. refl) (λ a b. refl) (λ a b c. refl) (λ a b c d. refl) (λ a b c d e rest. refl)

build_counts : (words : List Text) → CountsFour build_app words
unfolding plain_fault defaults_fault
build_counts = by_four (CountsFour build_app) refl (λ a. refl) (λ a b. refl) (λ a b c. refl) (λ a b c d. refl) (λ a b c d e rest. refl)

-- the command of this name that the placed words are
abbrev placed_in : Text → App → List Text → Option Command
placed_in name app words = command_in name (finished (leaf_of app).rules (plain_end (leaf_of app).rules words))

run_rows : (words : List Text) → four_words words ≡ true → placed_in (codes "run") run_app words ≡ run_from words
run_rows = where_four (λ words. placed_in (codes "run") run_app words ≡ run_from words) (λ a b c d. refl)

build_rows : (words : List Text) → four_words words ≡ true → placed_in (codes "build") build_app words ≡ build_from words
build_rows = where_four (λ words. placed_in (codes "build") build_app words ≡ build_from words) (λ a b c d. refl)

run_unfit : (words : List Text) → four_words words ≡ false → run_from words ≡ None
run_unfit =
    by_four (λ words. four_words words ≡ false → run_from words ≡ None) (λ h. refl) (λ a h. refl) (λ a b h. refl) (λ a b c h. refl)
    (λ a b c d h. absurd (true≢false h)) (λ a b c d e rest h. refl)

build_unfit : (words : List Text) → four_words words ≡ false → build_from words ≡ None
build_unfit =
    by_four (λ words. four_words words ≡ false → build_from words ≡ None) (λ h. refl) (λ a h. refl) (λ a b h. refl) (λ a b c h. refl)
    (λ a b c d h. absurd (true≢false h)) (λ a b c d e rest h. refl)

run_fault : (words : List Text) → list_all is_plain words ≡ true → is_nil (fault_of program (codes "run" ∷ words)) ≡ four_words words
unfolding program walked walk_fault defaults_fault
run_fault words plain = ap is_nil (after_name (codes "run") words) ∙ own_level run_app words plain ∙ run_counts words

build_fault : (words : List Text) → list_all is_plain words ≡ true → is_nil (fault_of program (codes "build" ∷ words)) ≡ four_words words
unfolding program walked walk_fault defaults_fault
build_fault words plain = ap is_nil (after_name (codes "build") words) ∙ own_level build_app words plain ∙ build_counts words

run_met : (words : List Text) → list_all is_plain words ≡ true → four_words words ≡ true
    → command_met (subcommand_of program (codes "run" ∷ words)) ≡ run_from words
unfolding program walked
run_met words plain fit =
    ap command_met (entered_at (codes "run") words) ∙ ap (command_in (codes "run")) (rows_plain (leaf_of run_app).rules words plain) ∙ run_rows words fit

build_met : (words : List Text) → list_all is_plain words ≡ true → four_words words ≡ true
    → command_met (subcommand_of program (codes "build" ∷ words)) ≡ build_from words
unfolding program walked
build_met words plain fit =
    ap command_met (entered_at (codes "build") words) ∙ ap (command_in (codes "build")) (rows_plain (leaf_of build_app).rules words plain) ∙ build_rows words fit

-- ---- `info`, which shows two

info_counts : (words : List Text) → is_nil (plain_level (leaf_of info_app) words) ≡ two_words words
unfolding plain_fault defaults_fault
info_counts = by_two (λ words. is_nil (plain_level (leaf_of info_app) words) ≡ two_words words) refl (λ a. refl) (λ a b. refl) (λ a b c rest. refl)

info_fault : (words : List Text) → list_all is_plain words ≡ true → is_nil (fault_of program (codes "info" ∷ words)) ≡ two_words words
unfolding program walked walk_fault defaults_fault
info_fault words plain = ap is_nil (after_name (codes "info") words) ∙ own_level info_app words plain ∙ info_counts words

info_rows : (words : List Text) → two_words words ≡ true → placed_in (codes "info") info_app words ≡ info_from words
info_rows =
    by_two (λ words. two_words words ≡ true → placed_in (codes "info") info_app words ≡ info_from words) (λ h. absurd (true≢false (sym h)))
    (λ a h. absurd (true≢false (sym h))) (λ a b h. refl) (λ a b c rest h. absurd (true≢false (sym h)))

info_met : (words : List Text) → list_all is_plain words ≡ true → two_words words ≡ true
    → command_met (subcommand_of program (codes "info" ∷ words)) ≡ info_from words
unfolding program walked
info_met words plain fit =
    ap command_met (entered_at (codes "info") words) ∙ ap (command_in (codes "info")) (rows_plain (leaf_of info_app).rules words plain) ∙ info_rows words fit

info_unfit : (words : List Text) → two_words words ≡ false → info_from words ≡ None
info_unfit = by_two (λ words. two_words words ≡ false → info_from words ≡ None) (λ h. refl) (λ a h. refl) (λ a b h. absurd (true≢false h)) (λ a b c rest h. refl)

-- ---- a word that names no command

no_command : (name : Text) → n.Differs name (codes "run") → n.Differs name (codes "build") → n.Differs name (codes "info")
    → subcommand_met (names_of (built program)) idle name ≡ None
unfolding program
no_command name r b i = rw (r.there, b.there, i.there) refl

stray : (name : Text) → is_plain name ≡ true → subcommand_met (names_of (built program)) idle name ≡ None
    → is_nil (turn_fault (built program).top (names_of (built program)) (walk_from nothing_held) name) ≡ false
unfolding program
stray name plain none =
    let top = (built program).top in
    let names = names_of (built program) in
    let m = met_plain top.rules names idle 1 name nothing_held refl plain none in
    let f = passed_plain top names idle name nothing_held plain none in
    λ i. is_nil (or_else (f i) (step_fault top 1 (m i).0 (m i).1))

nil_of_first : (a b : Kinds) → is_nil a ≡ false → is_nil (or_else a b) ≡ false
nil_of_first [] b h = absurd (true≢false h)
nil_of_first (k ∷ ks) b h = refl

other_fault : (name : Text) (words : List Text) → is_plain name ≡ true → subcommand_met (names_of (built program)) idle name ≡ None
    → is_nil (fault_of program (name ∷ words)) ≡ false
unfolding program walk_fault
other_fault name words plain none =
    let top = (built program).top in
    let names = names_of (built program) in
    let turn = turn_fault top names (walk_from nothing_held) name in
    let after = walk_fault top names (walked top.rules names (walk_from nothing_held) name) words in
    nil_of_first (or_else turn after) _ (nil_of_first turn after (stray name plain none))

other_unfit : (name : Text) (words : List Text) → n.Differs name (codes "run") → n.Differs name (codes "build") → n.Differs name (codes "info")
    → fits (name ∷ words) ≡ false
unfolding fits
other_unfit name words r b i = rw (r.here, b.here, i.here) refl

-- ---- all words

-- where a word is empty or an option there is no command
pub unplain : (words : List Text) → list_all is_plain words ≡ false → command_of words ≡ None
unfolding command_of
unplain [] h = refl
unplain (name ∷ words) h = rw h refl

plain_command : (name : Text) (words : List Text) → list_all is_plain (name ∷ words) ≡ true
    → command_of (name ∷ words) ≡ command_from name words
unfolding command_of
plain_command name words h = rw h refl

abbrev CountsAs : List Text → Type 0
CountsAs words = is_nil (fault_of program words) ≡ fits words

-- a parse fails, but for memory, exactly where the name or the number of words doesn't fit
fault_says : (words : List Text) → list_all is_plain words ≡ true → is_nil (fault_of program words) ≡ fits words
unfolding program fits walked walk_fault defaults_fault
fault_says [] plain = refl
fault_says (name ∷ words) plain = from (n.named name)
  where
    p : (is_plain name ≡ true) × (list_all is_plain words ≡ true)
    p = both (is_plain name) (list_all is_plain words) plain

    from : n.Named name → is_nil (fault_of program (name ∷ words)) ≡ fits (name ∷ words)
    from (n.run e) = subst (λ w. CountsAs (w ∷ words)) (sym e) (run_fault words p.1)
    from (n.build e) = subst (λ w. CountsAs (w ∷ words)) (sym e) (build_fault words p.1)
    from (n.info e) = subst (λ w. CountsAs (w ∷ words)) (sym e) (info_fault words p.1)
    from (n.other r b i) = other_fault name words p.0 (no_command name r b i) ∙ sym (other_unfit name words r b i)

abbrev GivesCommand : Text → List Text → Type 0
GivesCommand name words = fits (name ∷ words) ≡ true → command_met (subcommand_of program (name ∷ words)) ≡ command_from name words

-- where they fit, what the parse placed is the command
rows_say : (words : List Text) → list_all is_plain words ≡ true → fits words ≡ true
    → command_met (subcommand_of program words) ≡ command_of words
unfolding fits
rows_say [] plain fit = absurd (true≢false (sym fit))
rows_say (name ∷ words) plain fit = from (n.named name) fit ∙ sym (plain_command name words plain)
  where
    p : (is_plain name ≡ true) × (list_all is_plain words ≡ true)
    p = both (is_plain name) (list_all is_plain words) plain

    from : n.Named name → GivesCommand name words
    from (n.run e) = subst (λ w. GivesCommand w words) (sym e) (run_met words p.1)
    from (n.build e) = subst (λ w. GivesCommand w words) (sym e) (build_met words p.1)
    from (n.info e) = subst (λ w. GivesCommand w words) (sym e) (info_met words p.1)
    from (n.other r b i) = λ h. absurd (true≢false (sym h ∙ other_unfit name words r b i))

abbrev GivesNone : Text → List Text → Type 0
GivesNone name words = fits (name ∷ words) ≡ false → command_from name words ≡ None

-- where they don't, there is no command
unfit : (words : List Text) → list_all is_plain words ≡ true → fits words ≡ false → command_of words ≡ None
unfolding fits command_of
unfit [] plain other = refl
unfit (name ∷ words) plain other = plain_command name words plain ∙ from (n.named name) other
  where
    from : n.Named name → GivesNone name words
    from (n.run e) = subst (λ w. GivesNone w words) (sym e) (run_unfit words)
    from (n.build e) = subst (λ w. GivesNone w words) (sym e) (build_unfit words)
    from (n.info e) = subst (λ w. GivesNone w words) (sym e) (info_unfit words)
    from (n.other r b i) = λ _. rw (r.here, b.here, i.here) refl

-- the program is one whose faults are told
is_told : is_simple_and_free program ≡ true
unfolding program
is_told = refl

is_walked : is_simple program ≡ true
unfolding program
is_walked = refl

-- an error of another kind than memory has a kind that the words give
fails : (kinds : Kinds) (e : Error) → HasKind kinds e → (kind_of e ≡ OutOfMemory → ⊥) → is_nil kinds ≡ false
fails [] e (inl m) other = absurd (other m)
fails [] e (inr a) other = absurd a
fails (k ∷ ks) e h other = refl

-- ---- what the parse answers

pub ok_words : (a : App) (words : List Text) (m : ArgMatches) → a ≡ program → list_all is_plain words ≡ true
    → (is_simple_and_free a ≡ true → fault_of a words ≡ []) → HasMatchesOf a words m → command_met (subcommand_rows_of m) ≡ command_of words
ok_words a words m e plain kinds matches =
    let none = ap (λ b. fault_of b words) (sym e) ∙ kinds (ap is_simple_and_free e ∙ is_told) in
    let fit = sym (fault_says words plain) ∙ ap is_nil none in
    ap command_met ((matches (ap is_simple e ∙ is_walked)).1 ∙ ap (λ b. subcommand_of b words) e) ∙ rows_say words plain fit

pub err_words : (a : App) (words : List Text) (e : Error) → a ≡ program → list_all is_plain words ≡ true
    → (is_simple_and_free a ≡ true → HasKind (fault_of a words) e) → (kind_of e ≡ OutOfMemory → ⊥) → command_of words ≡ None
err_words a words e is plain kinds other =
    let has = subst (λ b. HasKind (fault_of b words) e) is (kinds (ap is_simple_and_free is ∙ is_told)) in
    unfit words plain (sym (fault_says words plain) ∙ fails (fault_of program words) e has other)

module _ {Z : Type 0} where
  met_in : (o : Option (Box SubCommand Z)) (name : Text) (rows : List Row) → Some name ≡ option_map (λ b. (out-SubCommand (box_value b)).name.now) o
      → Some rows ≡ option_map (λ p. p.1) (subcommand_rows o) → command_in name rows ≡ command_met (subcommand_rows o)
  met_in None name rows n r = cc
  met_in (Some b) name rows n r =
      let same_name : name ≡ (out-SubCommand (box_value b)).name.now = cc in
      let same_rows : rows ≡ rows_of (found_of (out-SubCommand (box_value b)).matches) = cc in
      ap₂ command_in same_name same_rows

  none_in : (o : Option (Box SubCommand Z)) → false ≡ is_some o → None ≡ command_met (subcommand_rows o)
  none_in None h = refl
  none_in (Some b) h = absurd (true≢false (sym h))

pub met_words : (m : ArgMatches) (name : Text) (rows : List Row) → Some name ≡ subcommand_name_of m
    → Some rows ≡ option_map (λ p. p.1) (subcommand_rows (out-ArgMatches m).subcommand) → command_in name rows ≡ command_met (subcommand_rows_of m)
met_words m name rows n r = met_in (out-ArgMatches m).subcommand name rows n r

pub none_met : (m : ArgMatches) → false ≡ has_subcommand m → None ≡ command_met (subcommand_rows_of m)
none_met m h = none_in (out-ArgMatches m).subcommand h
