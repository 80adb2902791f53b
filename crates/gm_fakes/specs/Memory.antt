-- What the depot and the sink in memory hold and count.
use Rattle.std.specs.Prelude.{◌≡◌, ◌↔◌, ℕ, Bool, List, [], length, nat_eq, refl, find, Option, Some, IsNone, IsSome, Contains, if◌then◌else◌, Result, IsErrOf, OnOk}
use Rattle.std.specs.Option.{option_map}
use Rattle.std.specs.FinMap.{get, insert}
use Rattle.std.specs.Coded.{Coded, code_by, coded×, coded_ℕ, coded_list}
use Rattle.gm_outside.specs.Causes.{counted}
use Rattle.gm_outside.specs.Changes.{append_to}
use Rattle.gm_outside.specs.Files.{Files, files_code}
use Rattle.gm_outside.specs.States.{DepotState, SinkState}
use Rattle.gm_outside.specs.declared.traits.Trouble.{Trouble}
use Rattle.gm_outside.specs.declared.traits.Trouble.TheVariants.{Failed, Memory}
use Rattle.gm_fakes.specs.declared.mem_depot.Call.{Call}
use Rattle.gm_fakes.specs.declared.mem_depot.Call.TheVariants.{Size, Read, Create, Append}

-- a depot: its files, the calls that are made to fail, by their kind and their number from 1 on,
-- the calls of each kind so far, the calls that failed, and those of `create` and `append` among them
pub record HeldFiles : Type 0 where
  pub files : Files
  pub fails : List (Call × ℕ)
  pub sizes : ℕ
  pub reads : ℕ
  pub creates : ℕ
  pub appends : ℕ
  pub faults : ℕ
  pub write_faults : ℕ

-- no call is made to fail
abbrev pub is_calm : HeldFiles → Bool
is_calm state = nat_eq (length state.fails) 0

-- how many calls of this kind were made
abbrev pub calls_of : Call → HeldFiles → ℕ
calls_of Size state = state.sizes
calls_of Read state = state.reads
calls_of Create state = state.creates
calls_of Append state = state.appends

-- after one more call of this kind
abbrev pub with_call : Call → HeldFiles → HeldFiles
with_call Size state = record state { sizes = counted state.sizes }
with_call Read state = record state { reads = counted state.reads }
with_call Create state = record state { creates = counted state.creates }
with_call Append state = record state { appends = counted state.appends }

-- after one more call of this kind that changes no file, and that failed or not
abbrev pub with_answer : Call → Bool → HeldFiles → HeldFiles
with_answer call is_good state =
    record (with_call call state) { faults = if is_good then state.faults else counted state.faults }

-- after one more fault of a call that writes
abbrev pub with_write_fault : HeldFiles → HeldFiles
with_write_fault state =
    record state { faults = counted state.faults; write_faults = counted state.write_faults }

-- the next call of this kind is made to fail
abbrev pub IsNextToFail : Call → HeldFiles → Type 0
IsNextToFail call state = Contains state.fails (call, counted (calls_of call state))

-- after a call that made a file empty, or added these bytes to it
abbrev pub after_create : List ℕ → HeldFiles → HeldFiles
after_create name state = record (with_call Create state) { files = insert state.files name [] }

abbrev pub after_append : List ℕ → List ℕ → HeldFiles → HeldFiles
after_append name piece state = record (with_call Append state) { files = append_to state.files name piece }

-- a call that writes and gives up: one that failed counted its fault, one that found no memory did not
pub record GivesUpWriting {T : Type 0} (call : Call) (old new : HeldFiles) (result : Result T Trouble) : Type 0 where
  pub failed : IsErrOf result Failed → new ≡ with_write_fault (with_call call old)
  pub memory : IsErrOf result Memory → new ≡ with_call call old

-- a call of `create`, which fails exactly where it is made to
pub record Creates {T : Type 0} (name : List ℕ) (old new : HeldFiles) (result : Result T Trouble) : Type 0 where
  pub fails : IsErrOf result Failed ↔ IsNextToFail Create old
  pub ok : OnOk result (new ≡ after_create name old)
  pub gave_up : GivesUpWriting Create old new result

-- a call of `append`, which fails exactly where it is made to or finds no such file
pub record Appends {T : Type 0} (name piece : List ℕ) (old new : HeldFiles) (result : Result T Trouble) : Type 0 where
  pub listed : IsNextToFail Append old → IsErrOf result Failed
  pub missing : IsNone (get old.files name) → IsErrOf result Failed
  pub fails_only : IsErrOf result Failed → IsSome (get old.files name) → IsNextToFail Append old
  pub ok : OnOk result (new ≡ after_append name piece old)
  pub gave_up : GivesUpWriting Append old new result

-- what the depot tells of itself
abbrev pub told_of_files : HeldFiles → DepotState
told_of_files state = record {
  files = Some state.files;
  calm = is_calm state;
  faults = state.faults;
  write_faults = state.write_faults;
  reads = state.reads;
  sizes = state.sizes;
}

-- a state is stored as its fields, given how a call is
abbrev pub state_code : Coded Call → Coded HeldFiles
state_code call =
    code_by ((Files × List (Call × ℕ)) × (((ℕ × ℕ) × (ℕ × ℕ)) × (ℕ × ℕ)))
    (coded× (coded× files_code (coded_list (coded× call coded_ℕ)))
    (coded× (coded× (coded× coded_ℕ coded_ℕ) (coded× coded_ℕ coded_ℕ)) (coded× coded_ℕ coded_ℕ)))
    (λ s. ((s.files, s.fails), (((s.sizes, s.reads), (s.creates, s.appends)), (s.faults, s.write_faults))))
    (λ p. record {
      files = p.0.0;
      fails = p.0.1;
      sizes = p.1.0.0.0;
      reads = p.1.0.0.1;
      creates = p.1.0.1.0;
      appends = p.1.0.1.1;
      faults = p.1.1.0;
      write_faults = p.1.1.1;
    })
    (λ _. refl)

-- a sink: its bytes, the writes that are made to fail, by their number from 1 on, with how many bytes
-- they still add, the writes of pieces that aren't empty so far, the writes that failed, and those
-- that found no memory
pub record HeldBytes : Type 0 where
  pub written : List ℕ
  pub fails : List (ℕ × ℕ)
  pub writes : ℕ
  pub faults : ℕ
  pub lacks : ℕ

-- how many bytes the next write of a piece that isn't empty adds before it fails, if it is made to
abbrev pub next_limit : HeldBytes → Option ℕ
next_limit state =
    option_map (λ fail. fail.1) (find (λ fail. nat_eq fail.0 (counted state.writes)) state.fails)

-- what the sink tells of itself
abbrev pub told_of_bytes : HeldBytes → SinkState
told_of_bytes state = record { written = Some state.written; faults = state.faults; lacks = state.lacks }
