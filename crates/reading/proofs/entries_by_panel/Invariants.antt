-- The loop: the entries of the panels so far are laid, at their panels.
use Rattle.std.proofs.Common.{◌+◌}
use Rattle.frame.specs.Frame.{width_of}
use Rattle.reading.proofs.Filling.{Filled}
use Rattle.reading.proofs.entries_by_panel.Given as goal

abbrev pub invariant-loop-entry : goal.invariant-loop-entry
invariant-loop-entry l = let width = width_of l.version in Filled l.frame width (14 + width) l.mask l.entry-items l.bits l.at l.entry-index
