-- `slot_check::all_read` meets its contract: at slot i the answer is that of the slots from i on. Assumes nothing.
use mathlib.Core.Path.{sym, ap, ◌∙◌}
use mathlib.Core.List.{List}
use Prim.Native.Nat.{ℕ}
use native.Mathlib.Omega.{arith}
use Rattle.rules.specs.Refusals.{each_readable}
use Rattle.slots.specs.Slots.{held}
use Rattle.slots.proofs.Held.{between_all}
use Rattle.slot_check.proofs.Tests.{each_readable-next, each_readable_stop, each_readable_end}
use Rattle.slot_check.proofs.all_read.Goals as goal

pub loop-slot-init : goal.loop-slot-init
loop-slot-init c = ap (λ (places : List ℕ). each_readable (held c.args.slots.now places)) (between_all c.args.count)

pub returns-then-not-holds_frame : goal.returns-then-not-holds_frame
returns-then-not-holds_frame c =
    let l = c.loop-slot in
    sym (each_readable_stop c.args.slots.now l.slot c.args.count _ c.loop-slot-test.true c.holds_frame.ensures c.if-not-holds_frame.true) ∙ l.invariant

pub loop-slot-preserved : goal.loop-slot-preserved
loop-slot-preserved c =
    let l = c.loop-slot in
    let slots = c.args.slots.now in
    sym (each_readable-next slots l.slot c.args.count _ c.loop-slot-test.true c.holds_frame.ensures (λ i. omega (arith, c.type_inv.slots i)) c.if-not-holds_frame.false)
    ∙ l.invariant

pub returns : goal.returns
returns c = let l = c.loop-slot in sym (each_readable_end c.args.slots.now l.slot c.args.count (omega arith)) ∙ l.invariant
