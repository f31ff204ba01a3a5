-- `settling::settle` meets its contract, by recursion on the number of those waiting. Assumes nothing.
use Rattle.std.proofs.Common.{refl, sym, ap, ◌∙◌, arith}
use Rattle.frame.specs.Reading.{message_in}
use Rattle.rules.specs.Sizes.{width}
use Rattle.slots.specs.Slots.{frame_at}
use Rattle.lent.specs.Record.{known}
use Rattle.settling.specs.Record.{stage_of}
use Rattle.settling.proofs.Stages.{handed_at, settles_none, found_below, settles_some}
use Rattle.settling.proofs.+settle.Goals as goal

pub returns-in_default : goal.returns-in_default
returns-in_default t c =
    let a = c.args in
    let from = stage_of a.state.now a.list.now a.log.now in
    record {
      same = ((refl, refl, (refl, refl, refl, refl)), refl);
      settled = settles_none a.slots.now from c.requires.slots.1 c.requires.slots.2 c.in_default.ensures;
    }

pub leave-slot-requires : goal.leave-slot-requires
leave-slot-requires t c =
    let a = c.args in
    let from = stage_of a.state.now a.list.now a.log.now in (
      c.requires.slots.2,
      c.requires.slots.1.few,
      found_below a.slots.now from c.requires.slots.1 c.requires.slots.2 c.in-Some.next c.in-Some.ensures,
    )

pub in_slot-requires : goal.in_slot-requires
in_slot-requires t c =
    let a = c.args in
    let from = stage_of a.state.now a.list.now a.log.now in
    let below = found_below a.slots.now from c.requires.slots.1 c.requires.slots.2 c.in-Some.next c.in-Some.ensures in
    let listed = c.requires.slots.1 in
    rw c.leave-slot.ensures.0 (c.requires.slots.0, listed.below _ below, listed.reads _ below)

pub hand-requires : goal.hand-requires
hand-requires t c =
    let a = c.args in
    let from = stage_of a.state.now a.list.now a.log.now in
    let below = found_below a.slots.now from c.requires.slots.1 c.requires.slots.2 c.in-Some.next c.in-Some.ensures in
    omega (arith, below, c.requires.room)

pub settle-requires : goal.settle-requires
settle-requires t c =
    let a = c.args in
    let from = stage_of a.state.now a.list.now a.log.now in
    let below = found_below a.slots.now from c.requires.slots.1 c.requires.slots.2 c.in-Some.next c.in-Some.ensures in
    let is = ap (message_in width) (sym (c.in_slot.ensures ∙ ap (frame_at a.slots.now) c.leave-slot.ensures.0)) in
    -- the message in the slot that has left the list was handed
    let one = c.hand.ensures.handed in
    let handed = handed_at a.slots.now c.in-Some.next.place from.left from.places from.marks from.barrier from.output c.leave-slot.new.list
    (message_in width c.in_slot.result.frame.now) c.requires.slots.1 c.requires.slots.2 below is c.leave-slot.ensures.1
    (known c.hand.new.state) c.hand.new.log.count c.hand.new.log.output.now one.known one.log.count one.log.output in (
      omega (arith, c.decreases, below, c.leave-slot.ensures.1.one),
      (
        (c.requires.slots.0, handed.listed, c.leave-slot.ensures.1.long ∙ c.requires.slots.2),
        omega (arith, c.requires.room, below, c.leave-slot.ensures.1.one, one.log.count, one.log.long),
      ),
    )

pub returns-clause-settled : goal.returns-clause-settled
returns-clause-settled t c =
    let a = c.args in
    let from = stage_of a.state.now a.list.now a.log.now in
    let below = found_below a.slots.now from c.requires.slots.1 c.requires.slots.2 c.in-Some.next c.in-Some.ensures in
    let is = ap (message_in width) (sym (c.in_slot.ensures ∙ ap (frame_at a.slots.now) c.leave-slot.ensures.0)) in
    let one = c.hand.ensures.handed in
    let handed = handed_at a.slots.now c.in-Some.next.place from.left from.places from.marks from.barrier from.output c.leave-slot.new.list
    (message_in width c.in_slot.result.frame.now) c.requires.slots.1 c.requires.slots.2 below is c.leave-slot.ensures.1
    (known c.hand.new.state) c.hand.new.log.count c.hand.new.log.output.now one.known one.log.count one.log.output in
    settles_some a.slots.now from c.requires.slots.1 c.requires.slots.2 c.in-Some.next c.in-Some.ensures
    (omega (arith, c.requires.room)) _
    (stage_of c.settle.new.state c.settle.new.list c.settle.new.log)
    handed
    c.settle.ensures.settled
