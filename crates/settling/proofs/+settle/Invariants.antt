-- The recursion of `settling::settle`: the number of those waiting falls.
use Rattle.settling.proofs.+settle.Given as goal

abbrev pub decreases-settle : goal.decreases-settle
decreases-settle l = l.list.now.count
