use Rattle.std.proofs.Common.{◌≡◌, ◌<◌, ◌^◌, ℕ, List, drop}
use Rattle.std.specs.Str.Parse.{digits_value, digits_value_after}
use Rattle.gm_base.proofs.numbers.digits_value.Given as goal

pub record Reads (value index : ℕ) (text : List ℕ) : Type 0 where
  pub rest : digits_value_after 10 value (drop index text) ≡ digits_value 10 text
  pub small : value < 10 ^ index

-- the digits that are left, after the value so far, give the value of all
abbrev pub invariant-loop-byte : goal.invariant-loop-byte
invariant-loop-byte l = Reads l.value l.byte-index l.text
