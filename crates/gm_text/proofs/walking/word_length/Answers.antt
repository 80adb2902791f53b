use Rattle.gm_text.specs.Texts.{is_blank}
use Rattle.gm_text.proofs.Cuts.{or_length}
use Rattle.gm_text.proofs.walking.word_length.Goals as goal

pub returns-clause-length : goal.returns-clause-length
returns-clause-length c = let law = or_length is_blank c.args.line.now in cc
