use Rattle.std.proofs.Common.{◌≡◌}
use Rattle.settling.proofs.Leaving.{Moved}
use Rattle.settling.proofs.leave.Given as goal

abbrev pub invariant-loop-i : goal.invariant-loop-i
invariant-loop-i l = (l.list.count ≡ l.initial.list.count) × Moved l.initial.list.slots l.place l.i l.list.slots
