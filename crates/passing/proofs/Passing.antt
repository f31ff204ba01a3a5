-- A walk over the entries of a frame that removes barrier entries and raises the floor. Assumes nothing.
use mathlib.Core.Path.{◌≡◌}
use mathlib.Core.List.{List}
use Prim.Native.Nat.{ℕ, ◌+◌, ◌-◌, ◌*◌, ◌^◌, ◌≤◌, ◌<◌, max}
use lib.ListN.{length, get_or, set}
use lib.Bits.{bit_and}
use Rattle.numbers.specs.Numbers.{number_at}
use Rattle.frame.specs.Reading.{mask_in, message_in}
use Rattle.rules.specs.Sizes.{width}
use Rattle.rules.specs.Handing.{remains, shortened, missed_entry, missed}
use Rattle.slots.specs.Slots.{Reads}
use Rattle.slots.proofs.SetBits.{next}
use Rattle.slots.proofs.Walk.{Walk, walk_start, turn_room, walk_on}
use Rattle.passing.proofs.Shortening.{ShortBelow, short_start, short_end, short_on}
use Rattle.passing.proofs.Rising.{risen_below, risen_start, risen_end, risen_on}

module _ (bs before marks : List ℕ) (time floor : ℕ) where
  -- below the panel that the walk has come to, the barrier is as it is to be, and the floor has risen by the entries of those panels
  pub record PassedBelow (barrier : List ℕ) (bits passed risen : ℕ) : Type 0 where
    pub walk : Walk bs bits passed
    pub short : ShortBelow bs before barrier walk.panel
    pub risen_below_lem : risen ≡ risen_below bs marks time floor walk.panel

  pub passed_start : mask_in width bs < 2 ^ 64 → PassedBelow before (mask_in width bs) 0 floor
  passed_start fits = record { walk = walk_start bs fits; short = short_start bs before; risen_below_lem = risen_start bs marks time floor }

  -- in a turn the entry stands in the frame
  pub passed_room : {barrier : List ℕ} {bits passed risen : ℕ} → PassedBelow barrier bits passed risen → (bits ≡ 0 → ⊥) → Reads bs
      → 14 + width + width * passed + width ≤ length bs
  passed_room p some reads = turn_room p.walk some reads

  -- no bit is left
  pub passed_end : {barrier : List ℕ} {bits passed risen : ℕ} → PassedBelow barrier bits passed risen → bits ≡ 0
      → (barrier ≡ shortened before (message_in width bs).entries)
      × (risen ≡ max floor (missed time floor (λ panel. get_or marks panel 0) (message_in width bs).entries))
  passed_end p none = (short_end p.walk p.short none, risen_end bs marks time floor p.walk none p.risen_below_lem)

  -- a turn, to the next panel whose bit is set
  pub passed_on : {barrier : List ℕ} {bits passed risen : ℕ} → PassedBelow barrier bits passed risen → (bits ≡ 0 → ⊥) → (value next-risen : ℕ)
      → value ≡ remains (get_or barrier (next bits) 0) (number_at bs (14 + width + width * passed) width)
      → next-risen ≡ max risen (missed_entry time 0 (get_or marks (next bits) 0) (number_at bs (14 + width + width * passed) width))
      → PassedBelow (set barrier (next bits) value) (bit_and bits (bits - 1)) (passed + 1) next-risen
  passed_on p some value next-risen left rises =
      record {
        walk = walk_on p.walk some;
        short = short_on p.walk p.short some value left;
        risen_below_lem = risen_on bs marks time floor p.walk some next-risen p.risen_below_lem rises;
      }
