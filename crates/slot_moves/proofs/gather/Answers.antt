-- `slot_moves::gather` meets its contract: after so many turns the first slots hold the frames of the places, and the others their own. Assumes nothing.
use native.Mathlib.Omega.{arith}
use Rattle.slot_moves.proofs.Gathering.{place_within, moving_stays, moving_moves}
use Rattle.slot_moves.proofs.gather.Goals as goal
use Rattle.slot_moves.proofs.gather.Goals.{then-slot-place, else-slot-place}

pub move_bytes-requires : goal.move_bytes-requires
move_bytes-requires c =
    let a = c.args in
    let l = c.loop-slot in
    let within = place_within a.slots.now a.places.now l.slot a.count l.slots c.from-place.result l.invariant c.requires.1 c.loop-slot-test.true c.from-place.ensures in
    (l.invariant.size, omega (arith, c.if-slot-place.true), omega (arith, within, c.number_at-length.ensures.0))

pub loop-slot-preserved : goal.loop-slot-preserved
loop-slot-preserved c =
    let a = c.args in
    let l = c.loop-slot in
    elim c.if-slot-place.branch [
      | then-slot-place w ↦
          rw (w.slots-is, w.move_bytes.ensures)
          (moving_moves a.slots.now a.places.now l.slot a.count l.slots c.from-place.result l.invariant c.requires.1 c.loop-slot-test.true c.from-place.ensures
          w.number_at-length.result w.number_at-length.ensures.0 w.if-slot-place.true)
      | else-slot-place w ↦
          rw w.slots-is
          (moving_stays a.slots.now a.places.now l.slot a.count l.slots c.from-place.result l.invariant c.requires.1 c.loop-slot-test.true c.from-place.ensures
          w.if-slot-place.false)
    ]
