-- `frame::entry_count` meets its contract: the count of ones of the 64 bits that were read is that of the definition. Assumes nothing.
use mathlib.Core.Path.{sym, ◌∙◌}
use Prim.Native.Nat.{◌≤◌}
use native.Mathlib.Omega.{arith}
use lib.Count.{ones, ones-le}
use Rattle.frame.proofs.Entries.{ones_in_ones}
use Rattle.frame.proofs.entry_count.Goals as goal

few : (c : goal.After-number_at) → ones c.number_at.result ≤ 64
few c = ones-le 64 c.number_at.result c.number_at.ensures.1

pub overflow_cast-result : goal.overflow_cast-result
overflow_cast-result c = omega (arith, few c)

pub returns : goal.returns
returns c = (sym (ones_in_ones 64 c.number_at.result c.number_at.ensures.1) ∙ rw (c.number_at.ensures.0, c.width.ensures), few c)
