-- What calls on one depot or on one sink, one after the other, come to.
use Rattle.std.specs.Prelude.{◌≡◌, ℕ, ◌+◌, ◌≤◌, List, ◌++◌, Result, Ok, Err, IsErr, refl}
use Rattle.std.specs.Result.{result_err}
use Rattle.std.proofs.Common.{◌∙◌, ap, sym, rules, arith}
use Rattle.gm_outside.specs.declared.traits.Trouble.{Trouble}
use Rattle.gm_outside.specs.Causes.{counted_times}
use Rattle.gm_outside.specs.CausesRules.{counted_times-add}
use Rattle.gm_outside.specs.States.{DepotState, SinkState}
use Rattle.gm_outside.specs.Frames.{OnlyReads, GivesUpWith, Writes}
use Rattle.gm_outside.specs.GrowthRules.{grew_by-then, grew_by_prefix-first, grew_by_prefix-then}

-- no call
pub only_reads-none : (depot : DepotState) → OnlyReads 0 0 depot depot
only_reads-none depot =
    record { files = refl; calm = refl; write_faults = refl; sizes = refl; faults = omega arith; reads = omega arith }

-- a looser bound
pub only_reads-more : (asked few many : ℕ) (old new : DepotState) → few ≤ many → OnlyReads asked few old new → OnlyReads asked many old new
only_reads-more asked few many old new le a = record {
  files = a.files;
  calm = a.calm;
  write_faults = a.write_faults;
  sizes = a.sizes;
  faults = a.faults;
  reads = omega (arith, a.reads);
}

-- one call and then another
pub only_reads-then : (asked first asked_then second : ℕ) (old mid new : DepotState)
    → OnlyReads asked first old mid → OnlyReads asked_then second mid new → OnlyReads (asked + asked_then) (first + second) old new
only_reads-then asked first asked_then second old mid new a b = record {
  files = b.files ∙ a.files;
  calm = b.calm ∙ a.calm;
  write_faults = b.write_faults ∙ a.write_faults;
  sizes = b.sizes ∙ ap (counted_times asked_then) a.sizes ∙ sym (counted_times-add asked asked_then old.sizes);
  faults = omega (arith, a.faults, b.faults);
  reads = omega (arith, a.reads, b.reads);
}

-- one call was taken, and then another was taken or gave up
pub gives_up-then : {X T : Type 0} (old mid new : SinkState) (x : X) (result : Result T Trouble)
    → GivesUpWith {T = X} old mid (Ok x) → GivesUpWith mid new result → GivesUpWith old new result
gives_up-then old mid new x result a b = record {
  fault = record {
    later = omega (arith, a.fault.later, b.fault.later);
    failed = λ is. let rose = b.fault.failed is in omega (arith, a.fault.later);
    kept = λ other. b.fault.kept other ∙ a.fault.kept (λ is. cc);
  };
  lack = record {
    later = omega (arith, a.lack.later, b.lack.later);
    failed = λ is. let rose = b.lack.failed is in omega (arith, a.lack.later);
  };
}

-- a refusal was passed on
pub gives_up-passed_on : {X Y : Type 0} (old new : SinkState) (before : Result X Trouble) (after : Result Y Trouble)
    → result_err after ≡ result_err before → GivesUpWith old new before → GivesUpWith old new after
gives_up-passed_on old new (Ok x) (Ok y) same a = record {
  fault = record { later = a.fault.later; failed = λ is. absurd cc; kept = λ other. a.fault.kept (λ is. cc) };
  lack = record { later = a.lack.later; failed = λ is. absurd cc };
}
gives_up-passed_on old new (Ok x) (Err other) same a = absurd cc
gives_up-passed_on old new (Err trouble) (Ok y) same a = absurd cc
gives_up-passed_on old new (Err trouble) (Err other) same a = record {
  fault = record { later = a.fault.later; failed = λ is. a.fault.failed cc; kept = λ not_it. a.fault.kept (λ is. not_it cc) };
  lack = record { later = a.lack.later; failed = λ is. a.lack.failed cc };
}

-- one text was written, and then another was written or refused
pub writes-then : {X T : Type 0} (old mid new : SinkState) (first second : List ℕ) (x : X) (result : Result T Trouble)
    → Writes first old mid (Ok x) → Writes second mid new result → Writes (first ++ second) old new result
writes-then old mid new first second x (Ok y) a b =
    record { ok = grew_by-then a.ok b.ok; err = tt; causes = gives_up-then old mid new x (Ok y) a.causes b.causes }
writes-then old mid new first second x (Err trouble) a b =
    record { ok = tt; err = grew_by_prefix-then a.ok b.err; causes = gives_up-then old mid new x (Err trouble) a.causes b.causes }

-- the refusal came in the first of two texts
pub writes-refused : {X Y : Type 0} (old new : SinkState) (first second : List ℕ) (before : Result X Trouble) (after : Result Y Trouble)
    → IsErr before → result_err after ≡ result_err before → Writes first old new before → Writes (first ++ second) old new after
writes-refused old new first second (Ok x) after is same a = absurd (search rules)
writes-refused old new first second (Err trouble) (Ok y) is same a = absurd cc
writes-refused old new first second (Err trouble) (Err other) is same a = record {
  ok = tt;
  err = grew_by_prefix-first second a.err;
  causes = gives_up-passed_on old new (Err trouble) (Err other) same a.causes;
}

-- all of these
pub ruleset frames = (only_reads-none, only_reads-more, only_reads-then, writes-then, writes-refused)
