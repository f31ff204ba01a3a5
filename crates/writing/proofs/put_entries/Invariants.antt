-- The entries of the panels so far are in the buffer.
use Rattle.std.proofs.Common.{◌+◌}
use Rattle.frame.specs.Frame.{wide}
use Rattle.writing.proofs.Putting.{Put}
use Rattle.writing.proofs.put_entries.Given as goal

abbrev pub invariant-loop-entry : goal.invariant-loop-entry
invariant-loop-entry l = Put wide l.initial.buffer (14 + wide) l.entries l.buffer l.at l.entry-index
