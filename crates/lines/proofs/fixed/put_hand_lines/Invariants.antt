use Rattle.std.proofs.Common.{◌≡◌, ◌≤◌, ◌+◌, ◌*◌, ◌++◌, length}
use Rattle.lines.specs.Lines.{hand_lines}
use Rattle.lines.proofs.fixed.put_hand_lines.Given as goal

abbrev pub invariant-loop-index : goal.invariant-loop-index
invariant-loop-index g l =
    (l.text.bytes ≡ l.initial.text.bytes ++ hand_lines l.index l.output) × (length l.text.bytes ≤ length l.initial.text.bytes + l.index * 112)
