use Rattle.parts.specs.Joined.{Joined}
use Rattle.parts.proofs.joined.Given as goal

abbrev pub invariant-loop-i : goal.invariant-loop-i
invariant-loop-i l = Joined l.limit l.marks l.barrier l.i l.all
