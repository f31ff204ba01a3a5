-- `slot_moves::move_bytes` meets its contract: after i turns the first i bytes have been copied. Assumes nothing.
use mathlib.Core.Path.{◌≡◌, refl, ap, ◌∙◌}
use Prim.Native.Nat.{◌+◌, ◌≤◌, ◌<◌}
use native.Mathlib.Numerals.{add-one}
use native.Mathlib.Omega.{arith}
use lib.ListN.{length, drop, length-set, length-drop}
use lib.Seq.{paste, paste-zero, paste-suc}
use Rattle.slot_moves.proofs.Writing.{get_or_paste, paste_over}
use Rattle.slot_moves.proofs.move_bytes.Goals as goal

pub loop-i-init : goal.loop-i-init
loop-i-init c = (paste-zero c.args.slots.now c.args.to (drop c.args.from c.args.slots.now), refl)

pub loop-i-preserved : goal.loop-i-preserved
loop-i-preserved c =
    let s = c in
    let a = s.args in
    let l = c.loop-i in
    let behind : a.from + l.i < length a.slots.now = omega (arith, s.requires) in
    let size : l.i < length (drop a.from a.slots.now) = rw length-drop (omega arith) in (
      rw (l.invariant.0, get_or_paste a.slots.now a.to a.from l.i s.requires.1 behind, add-one)
          (paste-suc a.slots.now a.to (drop a.from a.slots.now) l.i 0 (omega arith) size),
      rw length-set l.invariant.1,
    )

pub returns : goal.returns
returns c =
    let s = c in
    let a = s.args in
    let l = c.loop-i in
    let e : l.i ≡ a.count = omega arith in
    let size : a.count ≤ length (drop a.from a.slots.now) = rw length-drop (omega (arith, s.requires)) in
    l.invariant.0 ∙ ap (paste a.slots.now a.to (drop a.from a.slots.now)) e
    ∙ paste_over a.slots.now a.to (drop a.from a.slots.now) a.count size
