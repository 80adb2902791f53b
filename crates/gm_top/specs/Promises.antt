-- What the program promises of each call, whatever its words and its files are.
use Rattle.std.specs.Prelude.{◌≡◌, ◌≤◌, ℕ, List, [], None, IfSome, Result, Ok, Err, map, drop, string_bytes}
use Rattle.std.specs.Vec.Iter.{into_iter_items}
use Rattle.std.specs.declared.vec.IntoIter.{IntoIter}
use Rattle.std.specs.declared.string.String.{String}
use Rattle.std.specs.Global.{Global}
use Rattle.gm_outside.specs.Causes.{Rose}
use Rattle.gm_words.specs.Commands.{command_of}
use Rattle.gm_commands.specs.Endings.{CommandCall, HasFailed, HasSucceeded, IsComplete, RefusesWords}
use Rattle.gm_top.specs.RunEndings.{contract_of}

-- The program's promises, by the status of the call and by the command that its words say.
pub record KeepsPromises (call : CommandCall) : Type 0 where
  -- 2 comes only where the words are no command
  pub usage : call.status ≡ 2 → command_of call.words ≡ None
  -- where they are none, it is 2, or 8 where there was no memory to read them: nothing is asked or written but the line that says which
  pub no_command : command_of call.words ≡ None → RefusesWords call
  -- on 0 and 1 the command did what it is for, with no fault and no word on standard error
  pub report : call.status ≤ 1 → IfSome (command_of call.words) (λ command. HasSucceeded (contract_of command) call)
  -- from 3 on a failure ended it that has its cause, and its line was said
  pub error_line : 3 ≤ call.status → IfSome (command_of call.words) (λ command. HasFailed command (contract_of command) call)
  -- an undisturbed call answers what the command and the files give
  pub completeness : IfSome (command_of call.words)
      (λ command. IsComplete (contract_of command) call.old call.new call.status)
  pub files : IfSome (command_of call.words)
      (λ command. (contract_of command).KeepsFiles call.old.depot call.new.depot)
  pub reads : IfSome (command_of call.words)
      (λ command. (contract_of command).Reads call.old.depot call.new.depot call.status)
  pub read_or_write_fault : call.status ≡ 6 → Rose call.old.depot.faults call.new.depot.faults
  pub output_fault : call.status ≡ 7 → Rose call.old.out.faults call.new.out.faults
  pub calm : call.new.depot.calm ≡ call.old.depot.calm
  pub faults : call.old.depot.faults ≤ call.new.depot.faults
  pub out_faults : call.old.out.faults ≤ call.new.out.faults

-- the words of a call: its arguments behind the first one, which is the program's name, and none where they can't be read as text
abbrev pub argument_words : {E : Type 0} → Result (IntoIter (String Global) Global) E → List (List ℕ)
argument_words (Ok arguments) = drop 1 (map string_bytes (into_iter_items arguments))
argument_words (Err error) = []

-- a call that keeps the promises ended with this status
pub record EndsSomeCall (status : ℕ) : Type 0 where
  pub call : CommandCall
  pub keeps : KeepsPromises call
  pub status_is : call.status ≡ status
