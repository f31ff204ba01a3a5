-- `text::fixed::put_hexadecimal` meets its contract: after i turns the digits of the first i bytes are put. Assumes nothing.
use Rattle.std.proofs.Common.{arith, rules}
use Rattle.std.proofs.lemmas.Str.{encode_ascii}
use Rattle.text.proofs.Hexadecimal.{hexadecimal_size, one_more}
use Rattle.text.proofs.fixed.put_hexadecimal.Goals as goal

pub push-requires-in-loop-byte : goal.push-requires-in-loop-byte
push-requires-in-loop-byte g c =
    let l = c.loop-byte in
    let size = hexadecimal_size _ c.args.bytes.now _ l.byte-index l.invariant.0 l.invariant.1 in
    let more = one_more _ _ _ (c.push.ensures.ascii c.digit.ensures.ascii) in (
      search rules,
      rw (encode_ascii c.digit-in-loop-byte.result c.digit-in-loop-byte.ensures.ascii) (omega (arith, size, more, c.loop-byte-test.true, c.requires)),
    )
