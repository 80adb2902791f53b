-- What calls that open a grid, one after the other, come to.
use Rattle.std.specs.Prelude.{◌≡◌, ℕ, ◌+◌, ◌≤◌, length, IsTrue, Option, Some, None, IsSome, IfSome, Result, Ok, Err, IsErr, IsErrOf, refl}
use Rattle.std.specs.Result.{result_err}
use Rattle.std.specs.FinMap.{get}
use Rattle.std.proofs.Common.{◌∙◌, subst, rules, arith}
use Rattle.gm_outside.specs.States.{DepotState}
use Rattle.gm_outside.specs.declared.traits.Trouble.{Trouble}
use Rattle.gm_outside.specs.declared.traits.Trouble.TheVariants as troubles
use Rattle.gm_outside.specs.Causes.{HasExactCause}
use Rattle.gm_outside.specs.Files.{Files, HasRange}
use Rattle.gm_outside.specs.Frames.{OnlyReads}
use Rattle.gm_outside.specs.FramesRules.{only_reads-then, only_reads-more}
use Rattle.gm_grid.specs.declared.grid_error.GridError.{GridError}
use Rattle.gm_grid.specs.declared.grid_error.GridError.TheVariants as grid_errors
use Rattle.gm_label.specs.declared.plan.PlanError.{PlanError}
use Rattle.gm_label.specs.declared.plan.PlanError.TheVariants as plan_errors
use Rattle.gm_grid.specs.declared.grid_error.IndexError.{IndexError}
use Rattle.gm_grid.specs.declared.grid_error.IndexError.TheVariants as index_errors
use Rattle.gm_grid.specs.GridRefusals.{grid_refusal, refusal_by_index, refusal_by_chunks}
use Rattle.gm_source.specs.declared.errors.OpenError.{OpenError}
use Rattle.gm_source.specs.declared.errors.OpenError.TheVariants.{Grid, Memory}
use Rattle.gm_source.specs.Openings.{OpensBy, IsTold, IsRefusedIn, IsRefusedByIndex, IsRefusedByChunks, error_of_index, error_of_plan, error_of_trouble}

none_refused : (told : Option Files) → IfSome told (λ held. Unit {0})
none_refused None = tt
none_refused (Some held) = tt

-- one call, and then another
pub opens_by-then : {X T : Type 0} {asks more : ℕ} (old mid new : DepotState) (first second size : ℕ) (name : _) (x : X)
    (result : Result T OpenError) → OpensBy asks first size name old mid (Ok x) → OpensBy more second size name mid new result
    → OpensBy (asks + more) (first + second) size name old new result
opens_by-then old mid new first second size name x result a b = record {
  frame = only_reads-then _ first _ second old mid new a.frame b.frame;
  fault = record {
    later = omega (arith, a.fault.later, b.fault.later);
    failed = λ is. let rose = b.fault.failed is in omega (arith, a.fault.later);
    kept = λ other. b.fault.kept other ∙ a.fault.kept (λ is. cc);
  };
  calm = λ calm. b.calm (a.frame.calm ∙ calm);
  refused = subst (λ (told : Option Files). IfSome told (λ held. IsRefusedIn size (get held name) result)) a.frame.files b.refused;
}

-- the first of two calls gave up
pub opens_by-refused : {X T : Type 0} {asked : ℕ} (old new : DepotState) (few most size : ℕ) (name : _) (before : Result X OpenError)
    (after : Result T OpenError) → few ≤ most → IsErr before → result_err after ≡ result_err before
    → OpensBy asked few size name old new before → OpensBy asked most size name old new after
opens_by-refused old new few most size name (Ok x) after le is same a = absurd (search rules)
opens_by-refused old new few most size name (Err error) (Ok y) le is same a = absurd cc
opens_by-refused {T = T} {asked = asked} old new few most size name (Err error) (Err other) le is same a =
    let e : error ≡ other = cc in
    subst (λ (found : OpenError). OpensBy {T = T} asked most size name old new (Err found)) e record {
      frame = only_reads-more _ few most old new le a.frame;
      fault = record { later = a.fault.later; failed = λ is. a.fault.failed cc; kept = λ not_it. a.fault.kept (λ is. not_it cc) };
      calm = λ calm is. a.calm calm cc;
      refused = a.refused;
    }

-- its refusal was passed on
pub opens_by-passed : {X T : Type 0} {asked : ℕ} (old new : DepotState) (few most size : ℕ) (name : _) (before : Result X OpenError) (error : OpenError)
    → few ≤ most → before ≡ Err error → OpensBy asked few size name old new before → OpensBy {T = T} asked most size name old new (Err error)
opens_by-passed {X = X} {asked = asked} old new few most size name before error le is a =
    opens_by-refused {X = X} old new few most size name (Err error) (Err error) le refl refl
    (subst (λ (r : Result X OpenError). OpensBy asked few size name old new r) is a)

-- a looser bound
pub opens_by-more : {T : Type 0} {asked : ℕ} (old new : DepotState) (few most size : ℕ) (name : _) (result : Result T OpenError) → few ≤ most
    → OpensBy asked few size name old new result → OpensBy asked most size name old new result
opens_by-more old new few most size name result le a =
    record { frame = only_reads-more _ few most old new le a.frame; fault = a.fault; calm = a.calm; refused = a.refused }

-- no call, or calls that were served
pub opens_by-served : {X : Type 0} {asked : ℕ} (old new : DepotState) (most size : ℕ) (name : _) (x : X) → OnlyReads asked most old new
    → new.faults ≡ old.faults → OpensBy asked most size name old new (Ok x)
opens_by-served old new most size name x frame served = record {
  frame = frame;
  fault = record { later = omega (arith, served); failed = λ is. cc; kept = λ other. served };
  calm = λ calm is. cc;
  refused = none_refused old.files;
}

-- after calls that were served the file is refused for what was read
pub opens_by-grid : {X : Type 0} {asked : ℕ} (old new : DepotState) (most size : ℕ) (name : _) (error : GridError) → OnlyReads asked most old new
    → new.faults ≡ old.faults → IsTold old.files name (λ bytes. grid_refusal size bytes ≡ Some error)
    → OpensBy {T = X} asked most size name old new (Err (Grid error))
opens_by-grid old new most size name error frame served told = record {
  frame = frame;
  fault = record { later = omega (arith, served); failed = λ is. absurd cc; kept = λ other. served };
  calm = λ calm is. absurd cc;
  refused = told;
}

-- after calls that were served there was no memory
pub opens_by-want : {X : Type 0} {asked : ℕ} (old new : DepotState) (most size : ℕ) (name : _) → OnlyReads asked most old new
    → new.faults ≡ old.faults → OpensBy {T = X} asked most size name old new (Err Memory)
opens_by-want old new most size name frame served = record {
  frame = frame;
  fault = record { later = omega (arith, served); failed = λ is. absurd cc; kept = λ other. served };
  calm = λ calm is. absurd cc;
  refused = none_refused old.files;
}

-- after calls that were served the index was refused, or found no memory
pub opens_by-index : {X : Type 0} {asked : ℕ} (old new : DepotState) (most size file_size : ℕ) (name counts : _) (error : IndexError)
    → OnlyReads asked most old new → new.faults ≡ old.faults → IsRefusedByIndex file_size counts error
    → ((e : GridError) → refusal_by_index file_size counts ≡ Some e → IsTold old.files name (λ bytes. grid_refusal size bytes ≡ Some e))
    → OpensBy {T = X} asked most size name old new (Err (error_of_index error))
opens_by-index old new most size file_size name counts (index_errors.Grid e) frame served refused told =
    opens_by-grid old new most size name e frame served (told e refused)
opens_by-index old new most size file_size name counts index_errors.Memory frame served refused told = opens_by-want old new most size name frame served

-- after calls that were served the chunks weren't planned
pub opens_by-chunks : {X : Type 0} {asked : ℕ} (old new : DepotState) (most size : ℕ) (name counts : _) (error : PlanError)
    → OnlyReads asked most old new → new.faults ≡ old.faults → IsRefusedByChunks size counts error
    → ((e : GridError) → refusal_by_chunks size counts ≡ Some e → IsTold old.files name (λ bytes. grid_refusal size bytes ≡ Some e))
    → OpensBy {T = X} asked most size name old new (Err (error_of_plan error))
opens_by-chunks old new most size name counts (plan_errors.TooManyChunks chunks) frame served refused told =
    opens_by-grid old new most size name (grid_errors.TooManyChunks chunks) frame served (told (grid_errors.TooManyChunks chunks) refused)
opens_by-chunks old new most size name counts plan_errors.Memory frame served refused told = opens_by-want old new most size name frame served

-- a read of a range gave up
pub opens_by-trouble : {X Y : Type 0} {asked : ℕ} (old new : DepotState) (most size : ℕ) (name : _) (trouble : Trouble) (pos count : ℕ)
    → OnlyReads asked most old new → HasExactCause {T = Y} troubles.Failed old.faults new.faults (Err trouble)
    → (IsTrue old.calm → IfSome old.files (λ held. HasRange held name pos count → IsErrOf {T = Y} (Err trouble) troubles.Failed → ⊥))
    → (IsTrue old.calm → IsSome old.files) → IsTold old.files name (λ bytes. pos + count ≤ length bytes)
    → OpensBy {T = X} asked most size name old new (Err (error_of_trouble trouble))
opens_by-trouble old new most size name troubles.Memory pos count frame cause calm tells told = opens_by-want old new most size name frame (cause.kept (λ is. absurd cc))
opens_by-trouble {Y = Y} old new most size name troubles.Failed pos count frame cause calm tells told = record {
  frame = frame;
  fault = record { later = cause.later; failed = λ is. cause.failed refl; kept = λ other. absurd (other refl) };
  calm = λ is_calm is. not_calm old.files (tells is_calm) (calm is_calm) told;
  refused = none_refused old.files;
}
  where
    not_calm : (files : Option Files) → IsSome files → IfSome files (λ held. HasRange held name pos count → IsErrOf {T = Y} (Err troubles.Failed) troubles.Failed → ⊥)
        → IsTold files name (λ bytes. pos + count ≤ length bytes) → ⊥
    not_calm None some never there = absurd (search rules)
    not_calm (Some held) some never there = never there refl

-- all of these
pub ruleset openings = (opens_by-then, opens_by-refused, opens_by-more, opens_by-served, opens_by-want)
