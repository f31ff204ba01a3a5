use Rattle.passing.proofs.Passing.{PassedBelow}
use Rattle.passing.proofs.pass_entries.Given as goal

abbrev pub invariant-loop-bits : goal.invariant-loop-bits
invariant-loop-bits l = PassedBelow l.message.frame.now l.initial.barrier l.marks l.time l.initial.floor l.barrier l.bits l.passed l.floor

abbrev pub decreases-loop-bits : goal.decreases-loop-bits
decreases-loop-bits l = l.bits
