-- `slots::Readable::source` meets its contract. Assumes nothing.
use mathlib.Core.Path.{sym}
use native.Mathlib.Omega.{arith}
use Rattle.numbers.proofs.NumberAt.{number_at_one}
use Rattle.frame.specs.Reading.{message_in}
use Rattle.frame.proofs.Passed.{zero_passed}
use Rattle.slots.proofs.readable.Readable.source.Goals as goal

pub bounds-self-5 : goal.bounds-self-5
bounds-self-5 c = omega (arith, (zero_passed _ _ c.args.self.reads).long)

pub returns : goal.returns
unfolding message_in
returns c = sym (number_at_one _ 5 (omega (arith, (zero_passed _ _ c.args.self.reads).long)))
