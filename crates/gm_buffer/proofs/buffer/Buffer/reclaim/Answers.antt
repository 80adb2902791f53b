use Rattle.std.proofs.Common.{◌∙◌, sym}
use Rattle.gm_buffer.proofs.Keeping.{none_at, fewer, gone, room, none_left, passes-none}
use Rattle.gm_buffer.proofs.buffer.Buffer.reclaim.Goals as goal

pub returns-in_err-place-clause-passes : goal.returns-in_err-place-clause-passes
returns-in_err-place-clause-passes c =
    passes-none c.args.key c.args.job c.self.inside.slots.items c.args.self.now c.self.view_is c.self.invariant (none_at c.args.key c.self.inside.slots.items (cc c.in_err-place.was))

pub invariant_of-self : goal.invariant_of-self
invariant_of-self c =
    rw c.remove.ensures.items (gone c.args.key c.args.job c.self.inside.slots.items c.args.self.now c.in_ok-place.place c.index_mut.result.now c.leave.new.self
    (record { place = cc c.in_ok-place.was; here = c.index_mut.ensures.value; kept = c.self.invariant; left = c.leave.ensures.left; view = c.self.view_is }) (sym c.leave.ensures.last ∙ c.if-leave.true)).kept

pub invariant_of-self-else-leave : goal.invariant_of-self-else-leave
invariant_of-self-else-leave c =
    (fewer c.args.key c.args.job c.self.inside.slots.items c.args.self.now c.in_ok-place.place c.index_mut.result.now c.leave.new.self
    (record { place = cc c.in_ok-place.was; here = c.index_mut.ensures.value; kept = c.self.invariant; left = c.leave.ensures.left; view = c.self.view_is }) (sym c.leave.ensures.last ∙ c.if-leave.false)).kept

pub returns-then-leave-clause-passes : goal.returns-then-leave-clause-passes
returns-then-leave-clause-passes c =
    rw c.remove.ensures.items (gone c.args.key c.args.job c.self.inside.slots.items c.args.self.now c.in_ok-place.place c.index_mut.result.now c.leave.new.self
    (record { place = cc c.in_ok-place.was; here = c.index_mut.ensures.value; kept = c.self.invariant; left = c.leave.ensures.left; view = c.self.view_is }) (sym c.leave.ensures.last ∙ c.if-leave.true)).passes

pub returns-then-leave-clause-room : goal.returns-then-leave-clause-room
returns-then-leave-clause-room c =
    room c.args.key c.args.job c.self.inside.slots.items c.args.self.now c.in_ok-place.place c.index_mut.result.now c.leave.new.self c.remove.result c.into_edges.result
    (record { place = cc c.in_ok-place.was; here = c.index_mut.ensures.value; kept = c.self.invariant; left = c.leave.ensures.left; view = c.self.view_is }) c.remove.ensures.value c.into_edges.ensures

pub returns-else-leave-clause-passes : goal.returns-else-leave-clause-passes
returns-else-leave-clause-passes c =
    (fewer c.args.key c.args.job c.self.inside.slots.items c.args.self.now c.in_ok-place.place c.index_mut.result.now c.leave.new.self
    (record { place = cc c.in_ok-place.was; here = c.index_mut.ensures.value; kept = c.self.invariant; left = c.leave.ensures.left; view = c.self.view_is }) (sym c.leave.ensures.last ∙ c.if-leave.false)).passes

pub returns-then-leave-clause-last : goal.returns-then-leave-clause-last
returns-then-leave-clause-last c =
    rw c.remove.ensures.items (none_left c.args.key c.self.inside.slots.items c.in_ok-place.place c.leave.new.self c.into_edges.result (cc c.in_ok-place.was) c.self.invariant)
