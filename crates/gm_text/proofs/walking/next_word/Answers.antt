use Rattle.std.proofs.Common.{sym, ◌∙◌}
use Rattle.gm_text.proofs.Cuts.{no_word, some_word}
use Rattle.gm_text.proofs.walking.next_word.Goals as goal

pub returns-in_err-word_start : goal.returns-in_err-word_start
returns-in_err-word_start c = rw c.from_residual.ensures (no_word c.args.line.now (sym c.word_start.ensures ∙ c.in_err-word_start.was))

pub returns : goal.returns
returns c = let law = some_word c.args.line.now c.in_ok-word_start.field-0 (sym c.word_start.ensures ∙ c.in_ok-word_start.was) in cc
