-- `lines::put_hand_lines_lent` meets its contract: after i turns the lines of the first i log records are put. Assumes nothing.
use Rattle.std.proofs.Common.{arith}
use Rattle.lines.proofs.LinesLent.{no_lines_lent, next_line_lent}
use Rattle.lines.proofs.put_hand_lines_lent.Goals as goal

pub loop-index-init : goal.loop-index-init
loop-index-init c = (no_lines_lent _ _, omega arith)

pub loop-index-preserved : goal.loop-index-preserved
loop-index-preserved c =
    let l = c.loop-index in
    let line = c.put_hand_line.ensures in
    (next_line_lent _ _ (omega (arith, c.requires)) l.invariant.0 line.bytes, omega (arith, l.invariant.1, line.short))
