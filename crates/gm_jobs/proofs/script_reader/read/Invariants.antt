use Rattle.std.proofs.Common.{◌≡◌, ◌+◌, ◌≤◌, [], length}
use Rattle.gm_text.specs.Texts.{lines_of}
use Rattle.gm_jobs.specs.Readers.{IsTallied}
use Rattle.gm_jobs.specs.Scripts.{entries_after_lines}
use Rattle.gm_jobs.proofs.script_reader.read.Given as goal

-- what the lines so far and the rest give is what the whole text gives
abbrev pub invariant-loop-rest : goal.invariant-loop-rest
invariant-loop-rest l = IsTallied l.reader
    × (entries_after_lines l.fn.n l.line l.reader.lines.items (lines_of l.rest) ≡ entries_after_lines l.fn.n 1 [] (lines_of l.fn.text))
    × (l.line + length l.rest ≤ 1 + length l.fn.text)

abbrev pub decreases-loop-rest : goal.decreases-loop-rest
decreases-loop-rest l = length l.rest
