-- `slot_moves::put_frame` meets its contract. Assumes nothing.
use mathlib.Core.Path.{ap, ◌∙◌}
use mathlib.Core.List.{List}
use Prim.Native.Nat.{ℕ, ◌+◌, ◌*◌}
use native.Mathlib.Omega.{arith}
use lib.ListN.{length}
use Rattle.numbers.specs.Numbers.{big_endian}
use Rattle.numbers.specs.Buffer.{over}
use Rattle.numbers.proofs.BigEndian.{length-big_endian}
use Rattle.numbers.proofs.Over.{over-over}
use Rattle.slots.specs.Slots.{slot_length}
use Rattle.slot_moves.proofs.put_frame.Goals as goal

pub returns : goal.returns
returns c =
    let s = c in
    let a = s.args in
    let number = c.put_number.ensures in
    let size = length-big_endian 2 (length a.frame.now) in
    c.put_bytes.ensures
    ∙ ap (λ (bs : List ℕ). over bs (a.slot * slot_length + 2) a.frame.now) number
    ∙ over-over a.slots.now (a.slot * slot_length) (big_endian 2 (length a.frame.now)) (a.slot * slot_length + 2) a.frame.now (omega (arith, size)) (omega (arith, s.requires))
