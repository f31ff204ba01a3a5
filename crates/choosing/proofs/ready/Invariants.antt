use Rattle.choosing.proofs.Turns.{MetBelow}
use Rattle.choosing.proofs.ready.Given as goal

abbrev pub invariant-loop-bits : goal.invariant-loop-bits
invariant-loop-bits l = MetBelow l.message.frame.now l.marks l.time l.floor l.bits l.visited

abbrev pub decreases-loop-bits : goal.decreases-loop-bits
decreases-loop-bits l = l.bits
