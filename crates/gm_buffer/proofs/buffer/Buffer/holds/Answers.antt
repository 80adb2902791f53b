use Rattle.std.proofs.Common.{arith, ◌∙◌}
use Rattle.std.proofs.lemmas.Grind.{common_steps}
use Rattle.gm_buffer.proofs.Keeping.{is_held}
use Rattle.gm_buffer.proofs.buffer.Buffer.holds.Goals as goal

pub returns : goal.returns
returns c =
    let held = c.is_some.ensures ∙ is_held c.args.key c.self.inside.slots.items c.args.self.now c.place_of.result (cc) c.self.view_is c.self.invariant in
    grind (arith, common_steps)
