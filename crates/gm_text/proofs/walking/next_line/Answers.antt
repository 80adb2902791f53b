use Rattle.std.proofs.Common.{◌≡◌, [], length, drop, sym, arith}
use Rattle.std.proofs.lemmas.List.{take_rest, drop_all}
use Rattle.gm_text.proofs.Cuts.{ended_line, last_line}
use Rattle.gm_text.proofs.walking.next_line.Goals as goal

pub returns-in-Some-clause-lines : goal.returns-in-Some-clause-lines
returns-in-Some-clause-lines c = rw take_rest (ended_line c.args.text.now c.in-Some.end (sym c.in-Some.ensures))

pub returns-in-None-clause-lines : goal.returns-in-None-clause-lines
returns-in-None-clause-lines c =
    let text = c.args.text.now in
    let rest : drop (length text) text ≡ [] = drop_all (length text) text (omega arith) in
    rw (take_rest, rest) (last_line text (sym c.in-None.ensures) c.requires)
