use Rattle.std.proofs.Common.{◌≡◌, ℕ, Bool, List, not, length, sym, ap, ◌∙◌, arith}
use Rattle.gm_active.specs.Bits.{is_in, any_between}
use Rattle.gm_active.specs.Words.{marks_of}
use Rattle.gm_active.proofs.Marks.{length-marks_of}
use Rattle.gm_active.proofs.bit_set.BitSet.is_empty.Goals as goal

limit_is : (n : ℕ) (words : List ℕ) (marks : List Bool) → marks_of n words ≡ marks → length marks ≡ n
limit_is n words marks view = ap (λ (ms : List Bool). length ms) (sym view) ∙ length-marks_of n words

pub any-requires : goal.any-requires
any-requires c = let same = limit_is c.self.inside.limit c.self.inside.words.items c.args.self.now c.self.view_is in omega arith

pub returns : goal.returns
returns c = ap not (c.any.ensures ∙ ap (any_between (is_in c.args.self.now) 0) (sym (limit_is c.self.inside.limit c.self.inside.words.items c.args.self.now c.self.view_is)))
