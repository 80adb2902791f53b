-- What calls that read the files of a command, one after the other, come to.
use Rattle.std.specs.Prelude.{◌≡◌, ℕ, ◌+◌, ◌≤◌, Bool, true, false, ◌||◌, IsTrue, Option, Some, None, IfSome, Result, Ok, Err, IsErr, refl}
use Rattle.std.specs.Result.{result_err}
use Rattle.std.specs.Option.{option_or}
use Rattle.std.proofs.Common.{◌∙◌, ap, sym, subst, rules, arith}
use Rattle.gm_outside.specs.Files.{Files}
use Rattle.gm_outside.specs.FramesRules.{only_reads-then, only_reads-more}
use Rattle.gm_outside.specs.Causes.{counted_times}
use Rattle.gm_outside.specs.CausesRules.{counted_times-add}
use Rattle.gm_outside.specs.States.{DepotState}
use Rattle.gm_commands.specs.declared.failure.Operand.{Operand}
use Rattle.gm_commands.specs.declared.failure.Refusal.{Refusal}
use Rattle.gm_commands.specs.declared.failure.Failure.{Failure}
use Rattle.gm_commands.specs.declared.failure.Failure.TheVariants.{Refused, ReadFailed, WriteFailed, OutputFailed, OutOfMemory}
use Rattle.gm_commands.specs.Failures.{refused_operand}
use Rattle.gm_commands.specs.Readings.{Reading, reading_then, rest_of_reading, AreTaken, AsksJust, IsReadingFailure, IsUnrefusedBefore, ReadsFiles, ReadsWithin}

or_left : (a b : Bool) → IsTrue a → IsTrue (a || b)
or_left true b is = is
or_left false b is = absurd (search rules)

or_right : (a b : Bool) → IsTrue b → IsTrue (a || b)
or_right true b is = refl
or_right false b is = is

-- a refusal of the first reading is one of both
first_refused : (told : Option Files) (first second : Reading) (refusal : Refusal)
    → IfSome told (λ held. first.refusal held ≡ Some refusal) → IfSome told (λ held. (reading_then first second).refusal held ≡ Some refusal)
first_refused None first second refusal is = is
first_refused (Some held) first second refusal is = ap (λ r. option_or r (second.refusal held)) is

-- where the first reading refuses nothing, a refusal of the second is one of both, and so is none
then_refused : (told : Option Files) (first second : Reading) (answer : Option Refusal)
    → AreTaken first told → IfSome told (λ held. second.refusal held ≡ answer) → IfSome told (λ held. (reading_then first second).refusal held ≡ answer)
then_refused None first second answer taken is = is
then_refused (Some held) first second answer taken is = ap (λ r. option_or r (second.refusal held)) taken ∙ is

-- no file is read by both
abbrev pub AreApart : Reading → Reading → Type 0
AreApart first second = (operand : Operand) → IsTrue (second.reads operand) → first.reads operand ≡ false

before_first : (told : Option Files) (first second : Reading) (operand : Operand) (number : ℕ) → first.reads operand ≡ true
    → IfSome told (λ held. first.refusal_before operand number held ≡ None)
    → IfSome told (λ held. (reading_then first second).refusal_before operand number held ≡ None)
before_first None first second operand number reads is = is
before_first (Some held) first second operand number reads is = rw reads is

asked_first : (first second : Reading) (operand : Operand) (old new : DepotState) → first.reads operand ≡ true
    → AsksJust (first.asked operand) old new → AsksJust ((reading_then first second).asked operand) old new
asked_first first second operand old new reads is = rw reads is

asked_second : (first second : Reading) (operand : Operand) (old mid new : DepotState) → first.reads operand ≡ false
    → AsksJust first.files old mid → AsksJust (second.asked operand) mid new → AsksJust ((reading_then first second).asked operand) old new
asked_second first second operand old mid new other before is =
    rw other (is ∙ ap (counted_times (second.asked operand)) before ∙ sym (counted_times-add first.files (second.asked operand) old.sizes))

before_second : (told : Option Files) (first second : Reading) (operand : Operand) (number : ℕ) → first.reads operand ≡ false
    → AreTaken first told → IfSome told (λ held. (reading_then first second).refusal_before operand number held ≡ None)
before_second None first second operand number other taken = taken
before_second (Some held) first second operand number other taken = rw other taken

-- a failure of the first reading is one of both
pub reading_failure-first : (old new : DepotState) (first second : Reading) (failure : Failure)
    → IsReadingFailure first old new failure → IsReadingFailure (reading_then first second) old new failure
reading_failure-first old new first second (Refused refusal) is = (
  or_left (first.reads (refused_operand refusal)) (second.reads (refused_operand refusal)) is.0,
  is.1,
  first_refused old.files first second refusal is.2,
  asked_first first second (refused_operand refusal) old new is.0 is.3,
)
reading_failure-first old new first second (ReadFailed operand) is = (
  or_left (first.reads operand) (second.reads operand) is.0,
  is.1,
  λ number made. before_first old.files first second operand number is.0 (is.2 number made),
  asked_first first second operand old new is.0 is.3,
)
reading_failure-first old new first second (WriteFailed operand) is = is
reading_failure-first old new first second OutputFailed is = is
reading_failure-first old new first second OutOfMemory is = is

-- a failure of the second reading is one of both, where the first refused nothing and no call failed
pub reading_failure-then : (old mid new : DepotState) (first second : Reading) (failure : Failure)
    → AreApart first second → mid.files ≡ old.files → mid.calm ≡ old.calm → AreTaken first old.files → mid.faults ≡ old.faults
    → AsksJust first.files old mid → IsReadingFailure second mid new failure → IsReadingFailure (reading_then first second) old new failure
reading_failure-then old mid new first second (Refused refusal) apart files calm taken served asked is = (
  or_right (first.reads (refused_operand refusal)) (second.reads (refused_operand refusal)) is.0,
  is.1 ∙ served,
  then_refused old.files first second (Some refusal) taken
      (subst (λ (told : Option Files). IfSome told (λ held. second.refusal held ≡ Some refusal)) files is.2),
  asked_second first second (refused_operand refusal) old mid new (apart (refused_operand refusal) is.0) asked is.3,
)
reading_failure-then old mid new first second (ReadFailed operand) apart files calm taken served asked is = (
  or_right (first.reads operand) (second.reads operand) is.0,
  (omega (arith, is.1.0, served), λ is_calm. is.1.1 (calm ∙ is_calm)),
  λ number made. before_second old.files first second operand number (apart operand is.0) taken,
  asked_second first second operand old mid new (apart operand is.0) asked is.3,
)
reading_failure-then old mid new first second (WriteFailed operand) apart files calm taken served asked is = is
reading_failure-then old mid new first second OutputFailed apart files calm taken served asked is = is
reading_failure-then old mid new first second OutOfMemory apart files calm taken served asked is = is ∙ served

-- one call and then another
reads_within-then : (asked few asked_then more : ℕ) (old mid new : DepotState)
    → ReadsWithin asked few old mid → ReadsWithin asked_then more mid new → ReadsWithin (asked + asked_then) (few + more) old new
reads_within-then asked few asked_then more old mid new a b = record {
  questions = a.questions + b.questions;
  few = omega (arith, a.few, b.few);
  frame = only_reads-then a.questions few b.questions more old mid new a.frame b.frame;
}

-- a looser bound
reads_within-more : (asked few asked_all most : ℕ) (old new : DepotState) → asked ≤ asked_all → few ≤ most
    → ReadsWithin asked few old new → ReadsWithin asked_all most old new
reads_within-more asked few asked_all most old new rarely le a = record {
  questions = a.questions;
  few = omega (arith, a.few);
  frame = only_reads-more a.questions few most old new le a.frame;
}

-- the first of two readings failed
pub reads_files-refused : {X Y : Type 0} (old new : DepotState) (one few files most : ℕ) (first second : Reading)
    (before : Result X Failure) (after : Result Y Failure)
    → one ≤ files → few ≤ most → IsErr before → result_err after ≡ result_err before
    → ReadsFiles one few first old new before → ReadsFiles files most (reading_then first second) old new after
reads_files-refused old new one few files most first second (Ok x) after fewer le is same a = absurd (search rules)
reads_files-refused old new one few files most first second (Err failure) (Ok y) fewer le is same a = absurd cc
reads_files-refused old new one few files most first second (Err failure) (Err other) fewer le is same a =
    let e : failure ≡ other = cc in
    record {
      frame = reads_within-more one few files most old new fewer le a.frame;
      ok = tt;
      asked = tt;
      err = subst (IsReadingFailure (reading_then first second) old new) e
          (reading_failure-first old new first second failure a.err);
    }

-- one reading, and then another
pub reads_files-then : {X T : Type 0} (old mid new : DepotState) (one few other more : ℕ) (first second : Reading) (x : X)
    (result : Result T Failure) → AreApart first second → one ≡ first.files
    → ReadsFiles one few first old mid (Ok x) → ReadsFiles other more second mid new result
    → ReadsFiles (one + other) (few + more) (reading_then first second) old new result
reads_files-then old mid new one few other more first second x (Ok y) apart all a b = record {
  frame = reads_within-then one few other more old mid new a.frame b.frame;
  ok = (
    then_refused old.files first second None a.ok.0
        (subst (λ (told : Option Files). IfSome told (λ held. second.refusal held ≡ None)) a.frame.frame.files b.ok.0),
    b.ok.1 ∙ a.ok.1,
  );
  asked = b.asked ∙ ap (counted_times other) a.asked ∙ sym (counted_times-add one other old.sizes);
  err = tt;
}
reads_files-then old mid new one few other more first second x (Err failure) apart all a b = record {
  frame = reads_within-then one few other more old mid new a.frame b.frame;
  ok = tt;
  asked = tt;
  err = reading_failure-then old mid new first second failure apart
      a.frame.frame.files a.frame.frame.calm a.ok.0 a.ok.1
      (subst (λ (files : ℕ). AsksJust files old mid) all a.asked) b.err;
}

-- a failure of a part of a reading, behind its sizes and parts in which no call failed, is one of the whole
pub reading_failure-later : (old mid new : DepotState) (reading : Reading) (failure : Failure)
    → mid.files ≡ old.files → mid.calm ≡ old.calm → mid.faults ≡ old.faults
    → ((operand : Operand) → IsTrue (reading.reads operand) → IsUnrefusedBefore reading old new operand)
    → ((operand : Operand) → AsksJust (reading.asked operand) old mid)
    → IsReadingFailure (rest_of_reading reading) mid new failure → IsReadingFailure reading old new failure
reading_failure-later old mid new reading (Refused refusal) files calm served unrefused asked is = (
  is.0,
  is.1 ∙ served,
  subst (λ (told : Option Files). IfSome told (λ held. reading.refusal held ≡ Some refusal)) files is.2,
  is.3 ∙ asked (refused_operand refusal),
)
reading_failure-later old mid new reading (ReadFailed operand) files calm served unrefused asked is =
    (is.0, (omega (arith, is.1.0, served), λ is_calm. is.1.1 (calm ∙ is_calm)), unrefused operand is.0, is.3 ∙ asked operand)
reading_failure-later old mid new reading (WriteFailed operand) files calm served unrefused asked is = is
reading_failure-later old mid new reading OutputFailed files calm served unrefused asked is = is
reading_failure-later old mid new reading OutOfMemory files calm served unrefused asked is = is ∙ served

answers_same : (told : Option Files) (reading : Reading) (refusal : Files → Option Refusal) (answer : Option Refusal)
    → IfSome told (λ held. refusal held ≡ reading.refusal held)
    → IfSome told (λ held. reading.refusal held ≡ answer) → IfSome told (λ held. refusal held ≡ answer)
answers_same None reading refusal answer equal is = is
answers_same (Some held) reading refusal answer equal is = equal ∙ is

-- the same reading by another refusal that is equal on these files
pub reads_files-same : {T : Type 0} (old new : DepotState) (files most : ℕ) (reading : Reading) (refusal : Files → Option Refusal)
    (result : Result T Failure) → IfSome old.files (λ held. refusal held ≡ reading.refusal held)
    → ReadsFiles files most reading old new result → ReadsFiles files most (record reading { refusal = refusal }) old new result
reads_files-same old new files most reading refusal (Ok x) equal a = record {
  frame = a.frame;
  ok = (answers_same old.files reading refusal None equal a.ok.0, a.ok.1);
  asked = a.asked;
  err = tt;
}
reads_files-same old new files most reading refusal (Err failure) equal a =
    record { frame = a.frame; ok = tt; asked = tt; err = same_failure failure a.err }
  where
    same_failure : (failure : Failure) → IsReadingFailure reading old new failure
        → IsReadingFailure (record reading { refusal = refusal }) old new failure
    same_failure (Refused reason) is = (is.0, is.1, answers_same old.files reading refusal (Some reason) equal is.2, is.3)
    same_failure (ReadFailed operand) is = is
    same_failure (WriteFailed operand) is = is
    same_failure OutputFailed is = is
    same_failure OutOfMemory is = is

-- after a reading that refused nothing memory was wanted
pub reads_files-want : {X T : Type 0} (old new : DepotState) (files most : ℕ) (reading : Reading) (x : X)
    → ReadsFiles files most reading old new (Ok x) → ReadsFiles {T = T} files most reading old new (Err OutOfMemory)
reads_files-want old new files most reading x a = record { frame = a.frame; ok = tt; asked = tt; err = a.ok.1 }

-- a call that reads nothing more, and takes what was read
pub ruleset readings = (reading_failure-first, reading_failure-then, reading_failure-later, reads_files-refused, reads_files-then, reads_files-same, reads_files-want)
