use Rattle.gm_buffer.proofs.Keeping.{kept-put}
use Rattle.gm_buffer.proofs.buffer.Buffer.put.Goals as goal

pub invariant_of-self-2 : goal.invariant_of-self-2
invariant_of-self-2 c =
    rw c.in_ok-insert.ensures.items (kept-put c.in_ok-slot.slot c.args.copy c.args.riders.items c.self.inside.slots.items c.args.self.now c.in_ok-slot.ensures c.self.view_is c.requires.fresh c.requires.ridden c.self.invariant)
