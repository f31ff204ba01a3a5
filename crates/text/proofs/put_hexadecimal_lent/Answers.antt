-- `text::put_hexadecimal_lent` meets its contract: after i turns the digits of the first i bytes are put. Assumes nothing.
use Rattle.std.proofs.Common.{arith, rules}
use Rattle.text.proofs.Hexadecimal.{hexadecimal_none_lent, hexadecimal_more_lent}
use Rattle.text.proofs.put_hexadecimal_lent.Goals as goal

pub loop-byte-init : goal.loop-byte-init
loop-byte-init c = (omega arith, hexadecimal_none_lent _, omega arith)

pub put_byte-requires : goal.put_byte-requires
put_byte-requires c = let l = c.loop-byte in omega (arith, c.requires, l.invariant.1.put.kept, l.invariant.2, c.loop-byte-test.true)

pub put_byte-requires-in-loop-byte : goal.put_byte-requires-in-loop-byte
put_byte-requires-in-loop-byte c =
    let l = c.loop-byte in
    let first = c.put_byte.ensures.put in
    omega (arith, c.requires, l.invariant.1.put.kept, l.invariant.2, c.loop-byte-test.true, first.kept, first.place)

pub loop-byte-preserved : goal.loop-byte-preserved
loop-byte-preserved c =
    let l = c.loop-byte in
    let first = c.put_byte.ensures in
    let last = c.put_byte-in-loop-byte.ensures in (
      search rules,
      hexadecimal_more_lent _ _ _ _ (omega (arith, c.loop-byte-test.true)) (omega (arith, c.requires)) c.digit.ensures c.digit-in-loop-byte.ensures
          l.invariant.1 first last,
      omega (arith, l.invariant.2, first.put.place, last.put.place),
    )
