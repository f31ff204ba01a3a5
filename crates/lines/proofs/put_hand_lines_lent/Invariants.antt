use Rattle.std.proofs.Common.{◌≤◌, ◌+◌, ◌*◌}
use Rattle.text.specs.Put.{PutBehind}
use Rattle.lines.specs.Lines.{hand_lines}
use Rattle.lines.proofs.put_hand_lines_lent.Given as goal

abbrev pub invariant-loop-index : goal.invariant-loop-index
invariant-loop-index l = PutBehind l.initial.text (hand_lines l.index l.output) l.text × (l.text.at ≤ l.initial.text.at + l.index * 112)
