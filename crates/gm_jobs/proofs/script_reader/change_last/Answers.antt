use Rattle.std.proofs.Common.{rules, ◌≡◌, ◌-◌, length, vec_len, ap, ◌∙◌}
use Rattle.std.specs.Prelude.{slice_set}
use Rattle.std.proofs.lemmas.Result.{on_ok_weaker}
use Rattle.gm_jobs.proofs.Entries.{last_changed}
use Rattle.gm_jobs.proofs.script_reader.change_last.Goals as goal

pub returns-in-Some : goal.returns-in-Some
returns-in-Some c =
    let count : vec_len c.args.lines.now ≡ length c.args.lines.now.items = search rules in
    on_ok_weaker c.add.result
    (λ changed. rw count (ap (λ it. slice_set c.args.lines.now.items (length c.args.lines.now.items - 1) it) changed ∙ last_changed c.args.change c.args.lines.now.items c.in-Some.entry.now (rw count at c.in-Some.ensures.value)))
    c.add.ensures
