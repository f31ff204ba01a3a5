-- `listing_parts::fixed::list_part` meets its contract: after each step the lines so far are put. Assumes nothing.
use Rattle.std.proofs.Common.{rules}
use Rattle.listing_parts.proofs.Filling.{filling_step, filled_last}
use Rattle.listing_parts.proofs.fixed.list_part.Goals as goal

pub returns-in_err-listing-clause-put : goal.returns-in_err-listing-clause-put
returns-in_err-listing-clause-put g c = rw c.from_residual.ensures (filled_last c.steps.invariant.0 c.in_err-listing.ensures.stepped)

pub steps-preserved : goal.steps-preserved
steps-preserved g c = (filling_step c.steps.invariant.0 c.in_ok-listing.ensures.stepped, search rules)
