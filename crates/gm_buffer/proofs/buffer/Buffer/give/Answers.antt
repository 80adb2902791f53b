use Rattle.std.proofs.Common.{◌≡◌, ◌∙◌, ap, sym, Some, rules, arith}
use Rattle.std.proofs.lemmas.Grind.{common_steps}
use Rattle.gm_buffer.specs.Holdings.{copy_of, copy_under}
use Rattle.gm_buffer.proofs.Keeping.{found, is_held}
use Rattle.gm_buffer.proofs.buffer.Buffer.give.Goals as goal

pub unwrap-place-requires : goal.unwrap-place-requires
unwrap-place-requires c =
    let some = c.requires in
    let held = is_held c.args.key c.self.inside.slots.items c.args.self.now c.place_of.result (cc) c.self.view_is c.self.invariant in
    grind (arith, common_steps)

pub returns : goal.returns
returns c =
    let held = found c.args.key c.self.inside.slots.items c.unwrap-place.result c.index.result.now (cc) c.index.ensures in
    let here : copy_under c.args.key c.args.self.now ≡ Some c.index.result.now.copy = sym (ap (copy_under c.args.key) c.self.view_is) ∙ ap copy_of held in
    search (rules, here)
