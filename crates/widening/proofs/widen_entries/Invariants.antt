-- The first i entries are in place, and the buffer is as long as before.
use mathlib.Core.Path.{◌≡◌}
use Prim.Native.Nat.{◌+◌}
use lib.ListN.{length}
use Rattle.numbers.specs.Numbers.{big_endians, numbers_at}
use Rattle.numbers.specs.Buffer.{over}
use Rattle.frame.specs.Frame.{narrow, wide}
use Rattle.widening.proofs.widen_entries.Given as goal

abbrev pub invariant-loop-i : goal.invariant-loop-i
invariant-loop-i l =
    record {
      put : l.buffer ≡ over l.initial.buffer (14 + wide) (big_endians wide (numbers_at l.frame (14 + narrow) narrow l.i));
      same : length l.buffer ≡ length l.initial.buffer;
    }
