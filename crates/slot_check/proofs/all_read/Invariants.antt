use mathlib.Core.Path.{◌≡◌}
use Rattle.rules.specs.Refusals.{each_readable}
use Rattle.slots.specs.Slots.{held, first_slots}
use Rattle.slots.proofs.Held.{between}
use Rattle.slot_check.proofs.all_read.Given as goal

abbrev pub invariant-loop-slot : goal.invariant-loop-slot
invariant-loop-slot l = each_readable (held l.slots (between l.slot l.count)) ≡ each_readable (held l.slots (first_slots l.count))
