use mathlib.Core.Path.{◌≡◌}
use Prim.Native.Nat.{◌^◌, ◌<◌}
use Rattle.numbers.specs.Numbers.{number_at}
use Rattle.numbers.proofs.bytewise.Given as goal

abbrev pub invariant-loop-i : goal.invariant-loop-i
invariant-loop-i l = (l.number ≡ number_at l.bytes l.at l.i) × (l.number < 256 ^ l.i)
