-- `slots::Places::first` meets its contract. Assumes nothing.
use mathlib.Core.Path.{refl, sym, ◌∙◌}
use native.Mathlib.Omega.{arith}
use lib.Seq.{ext_get_or}
use Rattle.slots.specs.Slots.{first_slots}
use Rattle.slots.proofs.Held.{length_up_from, get_or_up_from}
use Rattle.slots.proofs.Places.first.Goals as goal

pub returns : goal.returns
returns c =
    let items = c.from_fn.ensures.items in (
      refl,
      ext_get_or 0 c.from_fn.result (first_slots 32) (items.long ∙ sym (length_up_from 0 32))
          (λ k lt. omega (arith, (items.at k 0 (omega arith)).2, get_or_up_from 0 32 k (omega (arith, items.long)))),
    )
