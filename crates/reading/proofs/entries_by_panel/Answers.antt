-- `reading::entries_by_panel` meets its contract: the entries of the panels so far are laid. Assumes nothing.
use Prim.Native.Nat.{◌<◌}
use native.Mathlib.Omega.{arith}
use Rattle.std.proofs.lemmas.List.{set-get_or}
use Rattle.reading.proofs.Filling.{filled_even, filled_odd, filled_all, room_odd}
use Rattle.reading.proofs.entries_by_panel.Goals as goal
use Rattle.reading.proofs.entries_by_panel.Goals.{then-bits-eq1, else-bits-eq1}

pub entry_at-requires : goal.entry_at-requires
entry_at-requires c =
    let l = c.loop-entry in
    let r = room_odd _ _ _ _ _ l.bits l.at l.entry-index l.invariant (omega (arith, l.invariant.full)) c.if-bits-eq1.true in
    omega arith

pub loop-entry-preserved : goal.loop-entry-preserved
loop-entry-preserved c =
    let l = c.loop-entry in
    let more : l.entry-index < 64 = omega (arith, l.invariant.full) in
    elim c.if-bits-eq1.branch [
      | then-bits-eq1 w ↦ rw (w.entry-items-is, w.at-is, w.entry_at.ensures, c.width-width.ensures) (filled_odd _ _ _ _ _ l.bits l.at l.entry-index l.invariant more w.if-bits-eq1.true)
      | else-bits-eq1 w ↦ rw (w.entry-items-is, w.at-is, set-get_or l.entry-items l.entry-index 0) (filled_even _ _ _ _ _ l.bits l.at l.entry-index l.invariant more (omega (arith, w.if-bits-eq1.false)))
    ]

pub returns : goal.returns
returns c = let l = c.loop-entry in filled_all _ _ _ _ _ l.bits l.at l.entry-index l.invariant (omega (arith, l.invariant.full))
