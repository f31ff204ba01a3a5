-- `numbers::put_part` meets its contract. Assumes nothing.
use native.Mathlib.Omega.{arith}
use Rattle.numbers.proofs.Over.{over_put}
use Rattle.numbers.proofs.put_part.Goals as goal

pub returns : goal.returns
returns c =
    rw c.copy_from_slice.ensures.after (over_put c.args.buffer.now c.args.at c.args.bytes.now _ (omega arith))
