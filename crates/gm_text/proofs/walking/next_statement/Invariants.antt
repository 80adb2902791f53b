use Rattle.std.proofs.Common.{◌≡◌, length}
use Rattle.gm_text.specs.Texts.{statements_of}
use Rattle.gm_text.proofs.walking.next_statement.Given as goal

-- the lines that were passed mean nothing
abbrev pub invariant-loop-rest : goal.invariant-loop-rest
invariant-loop-rest l = statements_of l.rest ≡ statements_of l.fn.text

abbrev pub decreases-loop-rest : goal.decreases-loop-rest
decreases-loop-rest l = length l.rest
