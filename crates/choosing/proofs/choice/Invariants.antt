use mathlib.Core.Path.{◌≡◌}
use lib.ListN.{take}
use Rattle.slots.specs.Slots.{held}
use Rattle.choosing.specs.Choice.{asking}
use Rattle.choosing.proofs.Choosing.{first_below}
use Rattle.choosing.proofs.choice.Given as goal

abbrev pub invariant-loop-place : goal.invariant-loop-place
invariant-loop-place l = l.first ≡ first_below (asking l.marks l.time l.floor) (held l.slots (take l.list.count l.list.slots)) l.place
