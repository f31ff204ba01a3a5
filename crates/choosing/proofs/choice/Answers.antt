-- `choosing::choice` meets its contract: what is found so far is the choice among the messages before the place. Assumes nothing.
use mathlib.Core.Path.{sym, ◌∙◌}
use Prim.Native.Nat.{◌<◌}
use native.Mathlib.Numerals.{add-one}
use native.Mathlib.Omega.{arith}
use lib.ListN.{take}
use lib.Seq.{get_or-take, length-take-le}
use Rattle.slots.specs.Slots.{held}
use Rattle.choosing.specs.Choice.{asking}
use Rattle.choosing.proofs.Choosing.{first_below-none, first_below_all}
use Rattle.choosing.proofs.Holding.{length_listed, first_below_listed}
use Rattle.choosing.proofs.choice.Goals as goal

pub loop-place-init : goal.loop-place-init
loop-place-init c =
    let a = c.args in
    sym (first_below-none (asking a.marks.now a.time a.floor) (held a.slots.now (take a.list.now.count a.list.now.slots)))

pub in_slot-message-requires : goal.in_slot-message-requires
in_slot-message-requires c =
    let k = c.loop-place.place in
    let lt : k < c.args.list.now.count = omega (arith, length-take-le c.args.list.now.count c.args.list.now.slots) in
    let listed = c.requires.1 in
    rw (get_or-take c.args.list.now.count c.args.list.now.slots k 0 lt) (c.requires.0, listed.below k lt, listed.reads k lt)

pub loop-place-preserved : goal.loop-place-preserved
loop-place-preserved c =
    let a = c.args in
    let k = c.loop-place.place in
    let lt : k < a.list.now.count = omega (arith, length-take-le a.list.now.count a.list.now.slots) in
    let at = rw (c.in_slot-message.ensures, get_or-take a.list.now.count a.list.now.slots k 0 lt) at c.consider-first.ensures in
    rw add-one (first_below_listed (asking a.marks.now a.time a.floor) a.slots.now a.list.now.count a.list.now.slots k c.requires.1 (omega (arith, c.requires.1.few)) lt _ _ c.loop-place.invariant at)

pub returns : goal.returns
returns c =
    let a = c.args in
    c.loop-place.invariant ∙ first_below_all _ _ c.loop-place.place (omega (arith, length-take-le a.list.now.count a.list.now.slots, length_listed a.slots.now a.list.now.count a.list.now.slots, c.requires.1.few))
