-- `parts::broken` meets its contract: its tests are those of 26, in their order. Assumes nothing.
use Rattle.std.proofs.Common.{not, ap, sym, ◌∙◌, arith}
use Rattle.slots.proofs.Held.{length-first_slots}
use Rattle.lent.specs.Record.{parts_in, record_of}
use Rattle.parts.proofs.Refusing.{broken_own, broken_above, broken_count, waiting_decides}
use Rattle.parts.proofs.broken.Goals as goal

pub returns-then-view-gt63 : goal.returns-then-view-gt63
returns-then-view-gt63 c = sym (broken_own (record_of (parts_in c.args.view)) c.if-view-gt63.true)

pub returns-then-not-none_above : goal.returns-then-not-none_above
returns-then-not-none_above c =
    sym (broken_above (record_of (parts_in c.args.view)) (sym c.none_above.ensures ∙ c.if-not-none_above.true))

pub returns-then-view-gt32 : goal.returns-then-view-gt32
returns-then-view-gt32 c =
    let view = c.args.view in
    sym (broken_count (record_of (parts_in view)) (omega (arith, length-first_slots view.slots.now view.count, c.if-view-gt32.true)))

pub returns : goal.returns
returns c =
    ap not c.all_read.ensures
    ∙ waiting_decides (parts_in c.args.view) _ c.if-view-gt63.false c.none_above.ensures c.if-not-none_above.false c.if-view-gt32.false
