-- Journals and their tallies.
use Rattle.std.specs.Prelude.{ℕ, ◌+◌, Bool, true, false, if◌then◌else◌, List}
use Rattle.std.specs.List.{count_by}
use Rattle.gm_events.specs.declared.event.Event.{Event}
use Rattle.gm_events.specs.declared.tally.Tally.{Tally}
use Rattle.gm_events.specs.declared.event.Event.TheVariants.{Visit, Passed, Loaded}

-- the events so far, and for how many more there is room
pub record EventLog : Type 0 where
  pub events : List Event
  pub room : ℕ

abbrev pub is_visit : Event → Bool
is_visit (Visit chunk) = true
is_visit _ = false

abbrev pub is_pass : Event → Bool
is_pass (Passed job chunk) = true
is_pass _ = false

-- a key whose copy came into memory
abbrev pub is_copy : Event → Bool
is_copy (Loaded key) = true
is_copy _ = false

-- how many of the events are visits, passes, and copies that came into memory
abbrev pub tally_of : List Event → Tally
tally_of events = record { visits = count_by is_visit events; passes = count_by is_pass events; copies = count_by is_copy events }

-- the tally with one event more
abbrev pub with_event : Tally → Event → Tally
with_event tally event = record {
  visits = tally.visits + (if is_visit event then 1 else 0);
  passes = tally.passes + (if is_pass event then 1 else 0);
  copies = tally.copies + (if is_copy event then 1 else 0);
}
