-- `listing_parts::list_part_lent` meets its contract: after each step the lines so far are put. Assumes nothing.
use Rattle.std.proofs.Common.{rules, arith}
use Rattle.listing_parts.proofs.FillingLent.{filling_none_lent, filling_step_lent, filled_last_lent, filled_lent}
use Rattle.listing_parts.proofs.list_part_lent.Goals as goal

pub steps-init : goal.steps-init
steps-init c = (filling_none_lent {l = c.args.listing} c.args.text.now c.requires, search rules)

pub returns-in_err-listing-clause-put : goal.returns-in_err-listing-clause-put
returns-in_err-listing-clause-put c = rw c.from_residual.ensures (filled_last_lent c.steps.invariant.0 c.in_err-listing.ensures.stepped)

pub steps-preserved : goal.steps-preserved
steps-preserved c = (filling_step_lent c.steps.invariant.0 (omega arith) c.in_ok-listing.ensures.stepped, search rules)

pub returns-clause-put : goal.returns-clause-put
returns-clause-put c =
    let filling = c.steps.invariant.0 in
    filled_lent filling (omega (arith, c.steps-test.false, filling.put.put.kept))
