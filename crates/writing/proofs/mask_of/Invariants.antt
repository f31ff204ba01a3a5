use mathlib.Core.Path.{◌≡◌}
use lib.ListN.{drop}
use Rattle.frame.specs.Message.{mask_of}
use Rattle.writing.proofs.mask_of.Given as goal

abbrev pub invariant-loop-panel : goal.invariant-loop-panel
invariant-loop-panel l = l.mask ≡ mask_of (drop l.panel l.entries)
