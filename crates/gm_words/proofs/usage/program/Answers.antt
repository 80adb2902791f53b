use Rattle.std.proofs.Common.{◌≡◌, ◌∙◌, ap, ap₂}
use Rattle.std.proofs.lemmas.Result.{IfOk-weaker}
use Rattle.clap.specs.Words.{App, app_of, with_subcommand}
use Rattle.gm_words.specs.Usage.{program}
use Rattle.gm_words.proofs.usage.program.Goals as goal

pub returns : goal.returns
unfolding program
returns c =
    let top = λ (a : App). a.top in
    let one = c.in_ok-with_run.ensures.shape c.in_ok-run.ensures.1 ∙ ap₂ with_subcommand c.no_commands.ensures (ap top c.in_ok-run.ensures.0) in
    let two = c.in_ok-with_build.ensures.shape c.in_ok-build.ensures.1 ∙ ap₂ with_subcommand one (ap top c.in_ok-build.ensures.0) in
    IfOk-weaker c.subcommand-3.result _ (λ it. app_of it ≡ program)
    (λ it h. h.shape c.in_ok-info.ensures.1 ∙ ap₂ with_subcommand two (ap top c.in_ok-info.ensures.0)) c.subcommand-3.ensures
