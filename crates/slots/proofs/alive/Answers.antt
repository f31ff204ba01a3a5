-- `slots::alive` meets its contract: after so many slots those that are alive are listed. Assumes nothing.
use mathlib.Core.Path.{◌≡◌, refl, sym, ◌∙◌}
use native.Mathlib.Numerals.{add-one}
use native.Mathlib.Omega.{arith}
use lib.ListN.{length-set}
use Rattle.slots.proofs.Collecting.{chosen_none, chosen-lapsed, chosen-alive, chosen_all}
use Rattle.slots.proofs.alive.Goals as goal
use Rattle.slots.proofs.alive.Goals.{then-not-has_lapsed, else-not-has_lapsed}

pub loop-slot-init : goal.loop-slot-init
loop-slot-init c = (chosen_none _ _ _ _, refl)

pub loop-slot-preserved : goal.loop-slot-preserved
loop-slot-preserved c =
    let l = c.loop-slot in
    let late = rw (c.deadline.ensures, c.in_slot.ensures) at c.has_lapsed.ensures in
    let reads = c.requires.1.reads l.slot (omega arith) in
    elim c.if-not-has_lapsed.branch [
      | then-not-has_lapsed w ↦ (
        rw (w.places-is, w.kept-is, add-one l.slot, add-one l.kept)
            (chosen-alive _ _ _ _ _ _ l.invariant.0 reads (omega (arith, l.invariant.0.few, c.requires.1.few, l.invariant.1)) (sym late ∙ w.if-not-has_lapsed.true)),
        rw (w.places-is, length-set) l.invariant.1,
      )
      | else-not-has_lapsed w ↦ (
        rw (w.places-is, w.kept-is, add-one) (chosen-lapsed _ _ _ _ _ _ l.invariant.0 reads (sym late ∙ w.if-not-has_lapsed.false)),
        rw w.places-is l.invariant.1,
      )
    ]

pub returns : goal.returns
returns c =
    let l = c.loop-slot in
    let e : l.slot ≡ c.args.count = omega arith in
    chosen_all c.args.slots.now c.args.count c.args.time c.args.floor (record { count = l.kept; slots = l.places }) c.requires.1.few (rw e at l.invariant.0)
