-- `writing::put_entries` meets its contract. Its loop's invariant is `Put`: the entries of the panels so far are in the buffer.
-- Assumes nothing.
use Rattle.std.proofs.Common.{◌+◌, ◌*◌, ◌≤◌, length, arith}
use Rattle.frame.specs.Message.{present}
use Rattle.frame.specs.Frame.{wide}
use Rattle.writing.proofs.Putting.{put_none, put_all, put_many, put_without, put_entry, put_room}
use Rattle.writing.proofs.put_entries.Goals as goal
use Rattle.writing.proofs.put_entries.Goals.{then-entry-ne0, else-entry-ne0}

pub loop-entry-init : goal.loop-entry-init
loop-entry-init c = put_none wide c.args.buffer.now (14 + wide) c.args.entries.now

pub put_number-requires : goal.put_number-requires
put_number-requires c =
    let l = c.loop-entry in
    let room : 14 + wide + wide * length (present c.args.entries.now) ≤ length c.args.buffer.now = omega (arith, c.requires) in
    let enough = put_room wide c.args.buffer.now (14 + wide) c.args.entries.now l.buffer l.at l.entry-index l.invariant room c.loop-entry-test.true c.if-entry-ne0.true in
    (omega arith, omega arith, omega (arith, c.type_inv.entries l.entry-index))

pub overflow_add-at : goal.overflow_add-at
overflow_add-at c =
    let l = c.loop-entry in
    let room : 14 + wide + wide * length (present c.args.entries.now) ≤ length c.args.buffer.now = omega (arith, c.requires) in
    omega (arith, put_room wide c.args.buffer.now (14 + wide) c.args.entries.now l.buffer l.at l.entry-index l.invariant room c.loop-entry-test.true c.if-entry-ne0.true)

pub loop-entry-preserved : goal.loop-entry-preserved
loop-entry-preserved c =
    let l = c.loop-entry in
    let room : 14 + wide + wide * length (present c.args.entries.now) ≤ length c.args.buffer.now = omega (arith, c.requires) in
    let a = c.args in
    elim c.if-entry-ne0.branch [
      | then-entry-ne0 w ↦
          rw (w.buffer-is, w.put_number.ensures, w.at-is)
          (put_entry wide a.buffer.now (14 + wide) a.entries.now l.buffer l.at l.entry-index l.invariant room c.loop-entry-test.true w.if-entry-ne0.true)
      | else-entry-ne0 w ↦
          rw (w.buffer-is, w.at-is)
          (put_without wide a.buffer.now (14 + wide) a.entries.now l.buffer l.at l.entry-index l.invariant room c.loop-entry-test.true w.if-entry-ne0.false)
    ]

pub returns-then-at-end : goal.returns-then-at-end
returns-then-at-end c = put_many _ (14 + wide) _ _ _ _ c.loop-entry.invariant (omega (arith, c.requires.0, c.if-at-end.true))

pub returns : goal.returns
returns c = put_all _ (14 + wide) _ _ _ _ c.loop-entry.invariant (omega arith)
