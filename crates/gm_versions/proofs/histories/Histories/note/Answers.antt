use Rattle.std.proofs.Common.{◌∙◌, ap}
use Rattle.gm_versions.specs.Histories.{history_up_to}
use Rattle.gm_versions.proofs.Noting.{logged-noted}
use Rattle.gm_versions.proofs.histories.Histories.note.Goals as goal

pub returns-clause-kept : goal.returns-clause-kept
returns-clause-kept c = record {
  before = λ q version later. c.put.ensures.before q version later ∙ ap (history_up_to version) (c.in_ok-log.ensures.at q);
  up_to = c.put.ensures.up_to;
  logged = λ version later logged.
      logged-noted version c.args.number c.args.chunk c.log.new.self c.put.new.self later (c.in_ok-log.ensures.logged version logged) c.in_ok-log.ensures.here
      c.put.ensures.others c.put.ensures.undo_log;
}
