use Rattle.slot_check.proofs.Entries.{Left}
use Rattle.slot_check.proofs.holds_frame.Given as goal

abbrev pub invariant-loop-bits : goal.invariant-loop-bits
invariant-loop-bits l = Left l.slot l.deadline l.bits l.at

abbrev pub decreases-loop-bits : goal.decreases-loop-bits
decreases-loop-bits l = l.bits
