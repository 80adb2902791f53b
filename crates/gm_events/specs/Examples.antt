-- Journals that were counted by hand.
use Rattle.std.specs.Prelude.{ℕ, List, [], ◌∷◌}
use Rattle.gm_base.specs.declared.copies.Key.{Key}
use Rattle.gm_base.specs.declared.copies.Tag.TheVariants.{Update, Own}
use Rattle.gm_events.specs.declared.event.Event.{Event}
use Rattle.gm_events.specs.declared.event.Event.TheVariants.{Submit, Visit, Loaded, NoCopy, LoadFailed, Given, Passed}
use Rattle.gm_events.specs.declared.event.LoadCause.TheVariants.{Read}
use Rattle.gm_events.specs.declared.tally.Tally.{Tally}

abbrev pub counts : ℕ → ℕ → ℕ → Tally
counts visits passes copies = record { visits = visits; passes = passes; copies = copies }

abbrev pub grid_key : ℕ → Key
grid_key chunk = record { chunk = chunk; tag = Update 0 }

abbrev pub own_key : ℕ → ℕ → Key
own_key chunk job = record { chunk = chunk; tag = Own job }

abbrev pub one_of_each_kind : List Event
one_of_each_kind = Submit 0 ∷ Visit 3 ∷ NoCopy (own_key 3 1) ∷ Loaded (grid_key 3) ∷ Given 0 3 ∷ Passed 0 3 ∷ LoadFailed 4 Read ∷ []

-- two jobs pass one copy of a chunk
abbrev pub shared_chunk : List Event
shared_chunk = Visit 3 ∷ Loaded (grid_key 3) ∷ Given 0 3 ∷ Given 1 3 ∷ Passed 1 3 ∷ Passed 0 3 ∷ []
