-- What the function that lists the slots of messages alive ensures.
use Rattle.std.specs.Prelude.{ℕ, ◌≡◌, List, take}
use Rattle.rules.specs.Panel.{Panel}
use Rattle.rules.specs.Calls.{alive}
use Rattle.slots.specs.Slots.{Listed, held, first_slots}
use Rattle.slots.specs.declared.Places.{Places}

-- the slots of the messages that have not lapsed, among the first
pub record Alive (slots : List ℕ) (count time floor : ℕ) (places : Places) : Type 0 where
  pub listed : Listed slots places.count places.slots
  pub messages : (p : Panel) → p.time ≡ time → p.floor ≡ floor → held slots (take places.count places.slots) ≡ alive p (held slots (first_slots count))
