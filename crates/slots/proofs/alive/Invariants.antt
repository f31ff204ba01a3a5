use mathlib.Core.Path.{◌≡◌}
use lib.ListN.{length}
use Rattle.slots.proofs.Collecting.{Chosen}
use Rattle.slots.proofs.alive.Given as goal

abbrev pub invariant-loop-slot : goal.invariant-loop-slot
invariant-loop-slot l = Chosen l.slots l.time l.floor l.slot l.places l.kept × (length l.places ≡ 32)
