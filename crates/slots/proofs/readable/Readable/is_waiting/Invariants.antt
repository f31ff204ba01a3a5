use mathlib.Core.Path.{◌≡◌}
use Rattle.frame.specs.Reading.{message_in}
use Rattle.rules.specs.Sizes.{width}
use Rattle.rules.specs.Refusals.{is_waiting}
use Rattle.slots.specs.Slots.{held, first_slots}
use Rattle.slots.proofs.Held.{between}
use Rattle.slots.proofs.readable.Readable.is_waiting.Given as goal

abbrev pub invariant-loop-slot : goal.invariant-loop-slot
invariant-loop-slot l =
    is_waiting (message_in width l.self.frame.now) (held l.slots (between l.slot l.count)) ≡ is_waiting (message_in width l.self.frame.now) (held l.slots (first_slots l.count))
