use Rattle.std.proofs.Common.{◌≡◌, ◌+◌, ◌*◌, ◌≤◌, length, take}
use Rattle.text.specs.Text.{hexadecimal}
use Rattle.text.specs.Put.{PutBehind}
use Rattle.text.proofs.put_hexadecimal_lent.Given as goal

abbrev pub invariant-loop-byte : goal.invariant-loop-byte
invariant-loop-byte l =
    (l.byte-index ≤ length l.bytes)
    × PutBehind l.initial.text (hexadecimal (take l.byte-index l.bytes)) l.text
    × (l.text.at ≡ l.initial.text.at + 2 * l.byte-index)
