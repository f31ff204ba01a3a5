-- `exports::panel_clock_parts` meets its contract: the call in place on the parts promises it. Assumes nothing.
use Rattle.std.proofs.Common.{rules}
use Rattle.exports.proofs.panel_clock_parts.Goals as goal

pub returns : goal.returns
returns c = search (rules, c.clock_in_place-answer.ensures.promised)
