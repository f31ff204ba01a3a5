use Rattle.slot_moves.proofs.Gathering.{Moving}
use Rattle.slot_moves.proofs.gather.Given as goal

abbrev pub invariant-loop-slot : goal.invariant-loop-slot
invariant-loop-slot l = Moving l.fn.slots l.fn.places l.slot l.slots
