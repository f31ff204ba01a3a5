-- Laws of the test whether a message is waiting, as a loop over the slots makes it. Assumes nothing.
use mathlib.Core.Path.{◌≡◌}
use mathlib.Core.Bool.{Bool, false, ◌&&◌, ◌||◌}
use mathlib.Core.List.{List}
use Prim.Native.Nat.{ℕ, ◌+◌, ◌≤◌, ◌<◌}
use native.Mathlib.Numerals.{add-one}
use lib.Dec.{eqb}
use Rattle.frame.specs.Message.{Message}
use Rattle.frame.specs.Reading.{message_in}
use Rattle.rules.specs.Sizes.{width}
use Rattle.rules.specs.Refusals.{is_waiting}
use Rattle.slots.specs.Slots.{Reads, frame_at, held}
use Rattle.slots.proofs.Held.{between, carried_reads, held-step, held_none}

module _ (slots : List ℕ) (slot count : ℕ) (m : Message) where
  -- whether a message waits in the slots from one on: it has the name of that slot's, or waits in the next ones
  pub is_waiting_at : {panel due : ℕ} {bs : List ℕ} {named : Bool} → slot < count → Reads (frame_at slots slot)
      → panel ≡ m.source → due ≡ m.deadline → bs ≡ frame_at slots slot
      → named ≡ (eqb panel (message_in width bs).source && eqb due (message_in width bs).deadline)
      → is_waiting m (held slots (between slot count)) ≡ (named || is_waiting m (held slots (between (slot + 1) count)))
  unfolding is_waiting
  is_waiting_at lt reads from until is named =
      rw (named, from, until, is, add-one, held-step slots slot count lt, carried_reads (frame_at slots slot) reads)

  pub is_waiting_end : count ≤ slot → is_waiting m (held slots (between slot count)) ≡ false
  unfolding is_waiting
  is_waiting_end le = rw (held_none slots slot count le)
