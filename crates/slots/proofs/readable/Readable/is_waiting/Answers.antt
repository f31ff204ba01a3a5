-- `slots::Readable::is_waiting` meets its contract: at slot i the answer is that of the slots from i on. Assumes nothing.
use mathlib.Core.Path.{sym, ◌∙◌}
use native.Mathlib.Omega.{arith}
use Rattle.frame.specs.Reading.{message_in}
use Rattle.rules.specs.Sizes.{width}
use Rattle.slots.proofs.Tests.{is_waiting_at, is_waiting_end}
use Rattle.slots.proofs.readable.Readable.is_waiting.Goals as goal

pub returns-then-is_named : goal.returns-then-is_named
returns-then-is_named c =
    let asked = is_waiting_at _ c.loop-slot.slot c.args.count (message_in width c.args.self.frame.now) (omega arith) (c.requires.1.reads _ (omega arith)) c.source-panel.ensures c.deadline-due.ensures c.in_slot.ensures c.is_named.ensures in
    sym (rw c.if-is_named.true at (sym c.loop-slot.invariant ∙ asked))

pub loop-slot-preserved : goal.loop-slot-preserved
loop-slot-preserved c =
    let asked = is_waiting_at _ c.loop-slot.slot c.args.count (message_in width c.args.self.frame.now) (omega arith) (c.requires.1.reads _ (omega arith)) c.source-panel.ensures c.deadline-due.ensures c.in_slot.ensures c.is_named.ensures in
    sym (rw c.if-is_named.false at asked) ∙ c.loop-slot.invariant

pub returns : goal.returns
returns c = sym (sym c.loop-slot.invariant ∙ is_waiting_end _ _ _ _ (omega arith))
