-- `slots::Readable::deadline` meets its contract. Assumes nothing.
use native.Mathlib.Omega.{arith}
use Rattle.frame.specs.Reading.{message_in}
use Rattle.frame.proofs.Passed.{zero_passed}
use Rattle.slots.proofs.readable.Readable.deadline.Goals as goal

pub number_at-requires : goal.number_at-requires
number_at-requires c = (omega arith, omega (arith, (zero_passed _ _ c.args.self.reads).room))

pub returns : goal.returns
unfolding message_in
returns c = c.number_at.ensures.0
