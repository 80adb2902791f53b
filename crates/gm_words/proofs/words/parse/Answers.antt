use Rattle.std.proofs.Common.{◌∙◌, sym, map, string_bytes}
use Rattle.clap.specs.Words.{app_of, found_of, rows_of}
use Rattle.gm_words.proofs.Parses.{err_words, met_words, none_met, ok_words}
use Rattle.gm_words.proofs.words.parse.Goals as goal

pub returns-in-Some-clause-value : goal.returns-in-Some-clause-value
returns-in-Some-clause-value c =
    let words = map string_bytes c.args.words.now in
    let m = c.in-Ok.matches in
    c.read_command.ensures.value ∙ met_words m c.in-Some.name.now (rows_of (found_of c.in-Some.operands.now)) c.in-Some.ensures.name c.in-Some.ensures.rows
    ∙ ok_words (app_of c.in_ok-program.field-0) words m c.in_ok-program.ensures c.requires c.in-Ok.ensures.kinds c.in-Ok.ensures.matches

pub returns-in-Ok-clause-value : goal.returns-in-Ok-clause-value
returns-in-Ok-clause-value c =
    let words = map string_bytes c.args.words.now in
    let m = c.in-Ok.matches in
    none_met m c.in-None.ensures.variant
    ∙ ok_words (app_of c.in_ok-program.field-0) words m c.in_ok-program.ensures c.requires c.in-Ok.ensures.kinds c.in-Ok.ensures.matches

pub returns-clause-value : goal.returns-clause-value
returns-clause-value c =
    let words = map string_bytes c.args.words.now in
    let e = c.in-Err.error in
    sym (err_words (app_of c.in_ok-program.field-0) words e c.in_ok-program.ensures c.requires c.in-Err.ensures.kinds
    (λ m. c.in_default.not-OutOfMemory (c.kind.ensures ∙ m)))
