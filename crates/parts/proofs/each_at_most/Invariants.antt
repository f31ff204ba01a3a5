use Rattle.std.proofs.Common.{◌≡◌, ◌+◌, true, take}
use Rattle.frame.specs.Readable.{each_below}
use Rattle.parts.proofs.each_at_most.Given as goal

abbrev pub invariant-loop-number : goal.invariant-loop-number
invariant-loop-number l = each_below (l.limit + 1) (take l.number-index l.numbers) ≡ true
