-- What a parse by `clap` makes of words that are neither empty nor options.
use Rattle.std.specs.Prelude.{◌==◌}
use Rattle.std.proofs.Common.{◌≡◌, ◌∙◌, ◌&&◌, ℕ, Bool, cond, true, false, not, refl, sym, ap, ap₂, List, [], ◌∷◌, Option, Some, None, is_some, true≢false}
use Rattle.std.specs.Prelude.{fold}
use Rattle.std.specs.List.{list_all}
use Rattle.clap.specs.Walk.{Held, Names, Rule, Step, subcommand_met, subcommand_or_other, Text, Waiting, idle, option, positional, value, Walk, arg_by_index, is_multiple, nothing_held, to_positional, after_step, walk_from, walked, walked_from, word_met}
use Rattle.clap.specs.Walk.{finished, rows_after}
use Rattle.clap.specs.Simple.{Shape}
use Rattle.clap.specs.Kinds.{Kinds, or_else}
use Rattle.clap.specs.Faults.{check_fault, defaults_fault, level_fault, other_fault, settle_fault, step_fault, turn_fault, walk_fault, word_fault}
use Rattle.clap.specs.Walk.{settled}
use Rattle.gm_words.specs.Commands.{is_plain}

abbrev pub waits : Waiting → Bool
waits (option id) = true
waits _ = false

-- the walk goes on, and no option waits for a value
record IsCalm (w : Walk) : Type 0 where
  going : w.stopped ≡ None
  free : waits w.waiting ≡ false

pub is_false : (b : Bool) → not b ≡ true → b ≡ false
is_false true h = absurd (true≢false (sym h))
is_false false h = refl

pub both : (a b : Bool) → (a && b) ≡ true → (a ≡ true) × (b ≡ true)
both true b h = (refl, h)
both false b h = absurd (true≢false (sym h))

-- a plain word that names no command goes to a positional
pub met_plain : (c : List Rule) (names : Names) (waiting : Waiting) (position : ℕ) (word : Text) (h : Held)
    → waits waiting ≡ false → is_plain word ≡ true → subcommand_met names waiting word ≡ None → word_met c names false waiting position word h ≡ (h, value)
met_plain c names waiting position [] h free plain none = absurd (true≢false (sym plain))
met_plain c names (option id) position (b ∷ bs) h free plain none = absurd (true≢false free)
met_plain c names idle position (b ∷ bs) h free plain none =
    let e : (b == 45) ≡ false = is_false (b == 45) plain in
    ap (λ o. subcommand_or_other c o idle position (b ∷ bs) h) none ∙ rw (e, e) refl
met_plain c names positional position (b ∷ bs) h free plain none =
    let e : (b == 45) ≡ false = is_false (b == 45) plain in
    ap (λ o. subcommand_or_other c o positional position (b ∷ bs) h) none ∙ rw (e, e) refl

no_names : (waiting : Waiting) (word : Text) → subcommand_met [] waiting word ≡ None
no_names idle word = refl
no_names (option id) word = refl
no_names positional word = refl

met : (c : List Rule) (is_trailing : Bool) (waiting : Waiting) (position : ℕ) (word : Text) (h : Held)
    → waits waiting ≡ false → is_plain word ≡ true → word_met c [] is_trailing waiting position word h ≡ (h, value)
met c true waiting position word h free plain = refl
met c false waiting position word h free plain = met_plain c [] waiting position word h free plain (no_names waiting word)

pub passed_plain : (s : Shape) (names : Names) (waiting : Waiting) (word : Text) (h : Held)
    → is_plain word ≡ true → subcommand_met names waiting word ≡ None → word_fault s names false waiting word h ≡ []
passed_plain s names waiting [] h plain none = absurd (true≢false (sym plain))
passed_plain s names waiting (b ∷ bs) h plain none =
    let e : (b == 45) ≡ false = is_false (b == 45) plain in
    ap (λ o. other_fault s o (b ∷ bs) h) none ∙ rw (e, e) refl

passed : (s : Shape) (is_trailing : Bool) (waiting : Waiting) (word : Text) (h : Held)
    → is_plain word ≡ true → word_fault s [] is_trailing waiting word h ≡ []
passed s true waiting word h plain = refl
passed s false waiting word h plain = passed_plain s [] waiting word h plain (no_names waiting word)

-- the walk after a plain word
abbrev pub plain_walked : List Rule → Walk → Text → Walk
plain_walked c w word = to_positional c (arg_by_index c w.position) word w w.held

walked_plain : (c : List Rule) (w : Walk) (word : Text) → IsCalm w → is_plain word ≡ true → walked c [] w word ≡ plain_walked c w word
unfolding walked
walked_plain c w word calm plain =
    let e = met c w.is_trailing w.waiting w.position word w.held calm.free plain in
    ap (λ o. walked_from c [] o w word) calm.going ∙ ap (λ (p : Held × Step). after_step c word w p.0 p.1) e

waits_not : (b : Bool) → waits (cond b positional idle) ≡ false
waits_not true = refl
waits_not false = refl

stays_calm : (c : List Rule) (a : Option Rule) (w : Walk) (word : Text) → IsCalm w → IsCalm (to_positional c a word w w.held)
stays_calm c None w word calm = record { going = calm.going; free = calm.free }
stays_calm c (Some a) w word calm = record { going = refl; free = waits_not (is_multiple a) }

unfoldable pub plain_fault : Shape → Walk → List Text → Kinds
plain_fault s w [] = []
plain_fault s w (word ∷ rest) = or_else (step_fault s w.position w.held value) (plain_fault s (plain_walked s.rules w word) rest)

turn_plain : (s : Shape) (w : Walk) (word : Text) → IsCalm w → is_plain word ≡ true → turn_fault s [] w word ≡ step_fault s w.position w.held value
turn_plain s w word calm plain =
    let e = met s.rules w.is_trailing w.waiting w.position word w.held calm.free plain in
    let f = passed s w.is_trailing w.waiting word w.held plain in
    λ i. cond (is_some (calm.going i)) [] (or_else (f i) (step_fault s w.position (e i).0 (e i).1))

fault_plain : (s : Shape) (w : Walk) (words : List Text) → IsCalm w → list_all is_plain words ≡ true → walk_fault s [] w words ≡ plain_fault s w words
unfolding walk_fault plain_fault
fault_plain s w [] calm plain = refl
fault_plain s w (word ∷ rest) calm plain =
    let p = both (is_plain word) (list_all is_plain rest) plain in
    ap₂ or_else (turn_plain s w word calm p.0)
    (ap (λ v. walk_fault s [] v rest) (walked_plain s.rules w word calm p.0)
    ∙ fault_plain s (plain_walked s.rules w word) rest (stays_calm s.rules (arg_by_index s.rules w.position) w word calm) p.1)

walk_plain : (c : List Rule) (w : Walk) (words : List Text) → IsCalm w → list_all is_plain words ≡ true
    → fold (walked c []) w words ≡ fold (plain_walked c) w words
walk_plain c w [] calm plain = refl
walk_plain c w (word ∷ rest) calm plain =
    let p = both (is_plain word) (list_all is_plain rest) plain in
    ap (λ v. fold (walked c []) v rest) (walked_plain c w word calm p.0)
    ∙ walk_plain c (plain_walked c w word) rest (stays_calm c (arg_by_index c w.position) w word calm) p.1

begins_calm : IsCalm (walk_from nothing_held)
begins_calm = record { going = refl; free = refl }

-- one level with no subcommands, at plain words
abbrev pub plain_end : List Rule → List Text → Held
plain_end c words = (fold (plain_walked c) (walk_from nothing_held) words).held

abbrev pub level_from : Shape → Kinds → Held → Kinds
level_from s kinds end = or_else kinds (or_else [] (or_else (settle_fault s.rules s.args_override_self end)
    (or_else (defaults_fault (settled s.rules end).rows s.rules) (check_fault s (finished s.rules end) false))))

abbrev pub plain_level : Shape → List Text → Kinds
plain_level s words = level_from s (plain_fault s (walk_from nothing_held) words) (plain_end s.rules words)

pub level_plain : (s : Shape) (words : List Text) → list_all is_plain words ≡ true → level_fault s [] nothing_held words false [] ≡ plain_level s words
level_plain s words plain =
    ap₂ (level_from s) (fault_plain s (walk_from nothing_held) words begins_calm plain)
    (ap (λ (w : Walk). w.held) (walk_plain s.rules (walk_from nothing_held) words begins_calm plain))

pub rows_plain : (c : List Rule) (words : List Text) → list_all is_plain words ≡ true → rows_after c [] words ≡ finished c (plain_end c words)
rows_plain c words plain = ap (λ (w : Walk). finished c w.held) (walk_plain c (walk_from nothing_held) words begins_calm plain)
