use Rattle.std.proofs.Common.{ap, sym, ◌∙◌}
use Rattle.std.specs.FinMap.{insert}
use Rattle.gm_fakes.specs.FileList.{files_of}
use Rattle.gm_fakes.proofs.StoredFiles.{files_of-set, files_of-push, is_there}
use Rattle.gm_fakes.proofs.file_list.FileList.put.Goals as goal

pub returns-in-Some-clause-ok : goal.returns-in-Some-clause-ok
returns-in-Some-clause-ok c =
    let name = c.args.name.now in
    let there = is_there name c.in-Some.place c.deref.ensures.value c.self.view_is c.in-Some.ensures c.index_mut.ensures.value in
    files_of-set name _ c.in-Some.place _ there.first there.named
    ∙ ap (λ files. insert files name c.in_ok-bytes.bytes.items) c.self.view_is
    ∙ ap (insert c.args.self.now name) c.in_ok-bytes.ensures.items

pub returns-in_ok-push-in-None-clause-ok : goal.returns-in_ok-push-in-None-clause-ok
returns-in_ok-push-in-None-clause-ok c =
    let name = c.args.name.now in
    ap files_of c.in_ok-push-in-None.ensures.items
    ∙ files_of-push name _ c.deref.ensures.value c.in-None.ensures (sym c.in_ok-name-in-None.ensures.ok)
    ∙ ap (λ files. insert files name c.in_ok-bytes.bytes.items) c.self.view_is
    ∙ ap (insert c.args.self.now name) c.in_ok-bytes.ensures.items
