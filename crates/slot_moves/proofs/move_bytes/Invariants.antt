use mathlib.Core.Path.{◌≡◌}
use lib.ListN.{length, drop}
use lib.Seq.{paste}
use Rattle.slot_moves.proofs.move_bytes.Given as goal

abbrev pub invariant-loop-i : goal.invariant-loop-i
invariant-loop-i l = (l.slots ≡ paste l.initial.slots l.to (drop l.from l.initial.slots) l.i) × (length l.slots ≡ length l.initial.slots)
