-- `slots::Readable::mask` meets its contract. Assumes nothing.
use native.Mathlib.Omega.{arith}
use Rattle.frame.proofs.Passed.{zero_passed}
use Rattle.slots.proofs.readable.Readable.mask.Goals as goal

pub number_at-requires : goal.number_at-requires
number_at-requires c = (omega arith, omega (arith, (zero_passed _ _ c.args.self.reads).room))

pub returns : goal.returns
returns c = c.number_at.ensures.0
