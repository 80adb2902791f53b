use Rattle.std.proofs.Common.{◌≡◌, map, string_bytes, drop}
use Rattle.std.specs.List.{list_all}
use Rattle.gm_words.specs.Commands.{is_plain}
use Rattle.gm_words.proofs.words.are_plain.Given as goal

abbrev pub invariant-loop-word : goal.invariant-loop-word
invariant-loop-word l = list_all is_plain (map string_bytes (drop l.word-index l.words)) ≡ list_all is_plain (map string_bytes l.words)
