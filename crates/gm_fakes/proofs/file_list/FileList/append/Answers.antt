use Rattle.std.proofs.Common.{◌≡◌, ap, sym, ◌∙◌, set, arith, rules}
use Rattle.std.proofs.lemmas.Result.{err_from_is_err_and}
use Rattle.std.specs.FinMap.{insert}
use Rattle.gm_outside.specs.ChangesRules.{append_to-there, insert-held}
use Rattle.gm_fakes.specs.FileList.{files_of}
use Rattle.gm_fakes.proofs.StoredFiles.{files_of-set, is_there, is_missing}
use Rattle.gm_fakes.proofs.file_list.FileList.append.Goals as goal

pub returns-in-None-clause-missing : goal.returns-in-None-clause-missing
returns-in-None-clause-missing c =
    let missing = is_missing c.args.name.now c.deref.ensures.value c.self.view_is c.in-None.ensures in
    search (rules, missing)

pub returns-in_err-extend_from_slice-in-Some-clause-err : goal.returns-in_err-extend_from_slice-in-Some-clause-err
returns-in_err-extend_from_slice-in-Some-clause-err c =
    let name = c.args.name.now in
    let there = is_there c.args.name.now c.in-Some.place c.deref.ensures.value c.self.view_is c.in-Some.ensures c.index_mut.ensures.value in
    let kept : files_of (set c.self.inside.stored.items c.in-Some.place (record { name = c.index_mut.result.now.name; bytes = c.extend_from_slice.new.self })) ≡ c.args.self.now =
    files_of-set name _ c.in-Some.place _ there.first there.named
    ∙ ap (λ files. insert files name c.extend_from_slice.new.self.items) c.self.view_is
    ∙ ap (insert c.args.self.now name) c.in_err-extend_from_slice-in-Some.ensures.items
    ∙ insert-held c.args.self.now name _ there.held in
    search (rules, kept)

pub returns-in_err-extend_from_slice-in-Some-clause-missing : goal.returns-in_err-extend_from_slice-in-Some-clause-missing
returns-in_err-extend_from_slice-in-Some-clause-missing c =
    let there = is_there c.args.name.now c.in-Some.place c.deref.ensures.value c.self.view_is c.in-Some.ensures c.index_mut.ensures.value in
    let held = there.held in
    let p = err_from_is_err_and c.from_residual.result c.from_residual.ensures.1 in
    let trouble = p.1 in
    let memory = p.2 in
    grind (arith, held, trouble, memory)

pub returns-in_ok-extend_from_slice-in-Some-clause-ok : goal.returns-in_ok-extend_from_slice-in-Some-clause-ok
returns-in_ok-extend_from_slice-in-Some-clause-ok c =
    let name = c.args.name.now in
    let there = is_there c.args.name.now c.in-Some.place c.deref.ensures.value c.self.view_is c.in-Some.ensures c.index_mut.ensures.value in
    files_of-set name _ c.in-Some.place _ there.first there.named
    ∙ ap (λ files. insert files name c.extend_from_slice.new.self.items) c.self.view_is
    ∙ ap (insert c.args.self.now name) c.in_ok-extend_from_slice-in-Some.ensures.items
    ∙ sym (append_to-there c.args.self.now name _ c.args.bytes.now there.held)

pub returns-in_ok-extend_from_slice-in-Some-clause-missing : goal.returns-in_ok-extend_from_slice-in-Some-clause-missing
returns-in_ok-extend_from_slice-in-Some-clause-missing c =
    let there = is_there c.args.name.now c.in-Some.place c.deref.ensures.value c.self.view_is c.in-Some.ensures c.index_mut.ensures.value in
    let held = there.held in
    grind (arith, held)
