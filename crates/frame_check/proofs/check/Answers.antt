-- `frame_check::check` meets its contract: at each `return` the checks before it passed, and its own applies. Assumes nothing.
use Rattle.std.proofs.Common.{arith}
use Rattle.numbers.proofs.NumberAt.{number_at_one}
use Rattle.frame.specs.Refusal.{first_of}
use Rattle.frame.specs.Reading.{checks}
use Rattle.frame_check.proofs.check.Goals as goal

pub returns-then-start-length : goal.returns-then-start-length
unfolding checks first_of
returns-then-start-length c = grind (arith, number_at_one)
