use Rattle.std.proofs.Common.{◌≡◌, ◌≤◌, ◌++◌, length, take}
use Rattle.text.specs.Text.{hexadecimal}
use Rattle.text.proofs.fixed.put_hexadecimal.Given as goal

abbrev pub invariant-loop-byte : goal.invariant-loop-byte
invariant-loop-byte g l =
    (l.byte-index ≤ length l.bytes) × (l.text.bytes ≡ l.initial.text.bytes ++ hexadecimal (take l.byte-index l.bytes))
