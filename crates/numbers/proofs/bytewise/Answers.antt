-- `numbers::bytewise` meets its contract: after i turns the number is that of the first i bytes, and below 256 ^ i. Assumes nothing.
use mathlib.Core.Path.{sym}
use Prim.Native.Nat.{◌+◌}
use native.Mathlib.Omega.{arith}
use Rattle.numbers.proofs.BigEndian.{pow-le, pow-lt-add}
use Rattle.numbers.proofs.NumberAt.{number_at_zero, number_at_suc}
use Rattle.numbers.proofs.bytewise.Goals as goal

pub loop-i-init : goal.loop-i-init
loop-i-init c = (sym (number_at_zero _ _), omega arith)

pub overflow_mul-number : goal.overflow_mul-number
overflow_mul-number c =
    let l = c.loop-i in
    omega (arith, pow-lt-add l.i 1 l.number 0 l.invariant.1 (omega arith), pow-le (l.i + 1) (omega arith))

pub overflow_add-number : goal.overflow_add-number
overflow_add-number c =
    let l = c.loop-i in
    omega (arith, pow-lt-add l.i 1 l.number c.from.result l.invariant.1 (omega (arith, c.from.ensures, c.type_inv.bytes (c.args.at + l.i))), pow-le (l.i + 1) (omega arith))

pub loop-i-preserved : goal.loop-i-preserved
loop-i-preserved c =
    let l = c.loop-i in
    let a = c.args in (
      cc (number_at_suc a.bytes.now a.at l.i (omega arith), c.from.ensures, l.invariant.0),
      pow-lt-add l.i 1 l.number c.from.result l.invariant.1 (omega (arith, c.from.ensures, c.type_inv.bytes (a.at + l.i))),
    )
