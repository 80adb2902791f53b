use Rattle.std.proofs.Common.{◌∙◌, ap, sym, map, string_bytes}
use Rattle.gm_words.specs.Commands.{command_of}
use Rattle.gm_words.proofs.Parses.{unplain}
use Rattle.gm_words.proofs.words.read_words.Goals as goal

pub returns-then-not-are_plain-clause-value : goal.returns-then-not-are_plain-clause-value
returns-then-not-are_plain-clause-value c =
    let words = map string_bytes c.as_slice-words.result.now in
    sym (unplain words (sym c.are_plain.ensures ∙ c.if-not-are_plain.true)) ∙ ap command_of c.as_slice-words.ensures
