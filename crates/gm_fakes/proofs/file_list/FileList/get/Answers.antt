use Rattle.std.proofs.Common.{ap, sym, ◌∙◌, Some, option_copied}
use Rattle.gm_fakes.proofs.StoredFiles.{is_there, is_missing}
use Rattle.gm_fakes.proofs.file_list.FileList.get.Goals as goal

pub returns-in_err-place : goal.returns-in_err-place
returns-in_err-place c =
    ap option_copied c.from_residual.ensures
    ∙ sym (is_missing c.args.name.now c.deref.ensures.value c.self.view_is c.in_err-place.ensures)

pub returns : goal.returns
returns c =
    let there = is_there c.args.name.now c.in_ok-place.place c.deref.ensures.value c.self.view_is c.in_ok-place.ensures c.index.ensures in
    ap Some c.deref-2.ensures.value ∙ sym there.held
