use Rattle.std.proofs.Common.{◌≡◌, ℕ, Bool, Option, Some, None, sym, ◌∙◌}
use Rattle.std.specs.Option.{is_some, IfSome, IfNone}
use Rattle.gm_active.specs.Bits.{is_in, any_between, NoneBetween, IsLeastBetween}
use Rattle.gm_active.specs.BitsRules.{any_from_none, any_from_least}
use Rattle.gm_active.proofs.bit_set.BitSet.any.Goals as goal

found : (has : ℕ → Bool) (from end : ℕ) (least : Option ℕ) → IfSome least (IsLeastBetween has from end) → IfNone least (NoneBetween has from end) → is_some least ≡ any_between has from end
found has from end None some none = sym (any_from_none has from end none)
found has from end (Some k) some none = sym (any_from_least has from end k some)

pub returns : goal.returns
returns c = c.is_some.ensures ∙ found (is_in c.args.self.now) c.args.from c.args.end c.least.result c.least.ensures.some c.least.ensures.none
